-- The laws of the pictures of logs.
use Rattle.std.proofs.Common.{◌≡◌, ℕ, ◌<◌, inl, inr, List, length, Option, Some, None, arith, refl, subst, sym, ap, ◌∙◌}
use Rattle.std.specs.Prelude.{codes, option_and_then, true, false}
use Rattle.std.proofs.lemmas.List.{get_or-map, length-map}
use Rattle.hlc_stamp.specs.Order.{Pair}
use Rattle.hlc_causality.specs.Assignment.{IsLeast}
use Rattle.hlc_causality.specs.Causality.{Skeleton, SkeletonEvent}
use Rattle.hlc_causality.specs.ClockEvents.{ClockEvents, ticking}
use Rattle.hlc_causality.specs.Places.{places_below}
use Rattle.hlc_causality.specs.Feasible.{IsLeastFeasible}
use Rattle.hlc_causality.proofs.Ticking.{ticking_least_is_least}
use Rattle.hlc_causality.proofs.LeastList.{least_list_is_unique}
use Rattle.hlc_causality.proofs.PlacesBelow.{length-places_below, place_at as place_at_below}
use Rattle.hlc_causes.specs.Causes.{NamesFinding}
use Rattle.hlc_causes.specs.Verdicts.{verdict_on}
use Rattle.hlc_causes.specs.declared.answers.Finding.{Finding}
use Rattle.hlc_causes.specs.declared.answers.Finding.TheVariants.{Judged, RolledOver}
use Rattle.hlc_causes.proofs.OnTraces.{verdicts_are_those_of_traces}
use Rattle.hlc_svg.specs.declared.look.Form.{Form}
use Rattle.hlc_svg.specs.declared.look.Form.TheVariants as form
use Rattle.hlc_log.specs.CausalOrder.{place_at}
use Rattle.hlc_log.specs.Events.{event_at, no_event}
use Rattle.hlc_log.specs.Messages.{Sends, SendsTo}
use Rattle.hlc_log.specs.OrderSkeleton.{position_of, send_place}
use Rattle.hlc_log.specs.Unsent.{is_send}
use Rattle.hlc_log.specs.declared.log_event.LogEvent.{LogEvent}
use Rattle.hlc_log.specs.declared.log_event.LogKind.{LogKind}
use Rattle.hlc_log.specs.declared.log_event.LogKind.TheVariants as kind
use Rattle.std.proofs.lemmas.List.Quantifiers.{position-Some}
use Rattle.hlc_log.proofs.OrderSkeletons.{length-skeleton_in, needed_before, place_exists, place_of_position, sends_if, skeleton_in_at}
use Rattle.hlc_causes.specs.Words.{finding_word}
use Rattle.hlc_ordered_log.proofs.EventsInOrder.{length-skeleton_of}
use Rattle.hlc_ordered_log.specs.Found.{FindsAt}
use Rattle.hlc_ordered_log.specs.InOrder.{IsInOrder, LogInOrder, clocks_of, seen_of, skeleton_of, stamp_told}
use Rattle.hlc_verdict.specs.declared.claim.Claim.{Claim}
use Rattle.hlc_verdict.specs.declared.verdict.Verdict.{Verdict}
use Rattle.hlc_verdict.specs.declared.verdict.Verdict.TheVariants as verdict
use Rattle.hlc_verdict.specs.Trace.{claimed_stamps}
use Rattle.hlc_verdict.specs.Verdict.{AreVerdicts, verdict_of}
use Rattle.hlc_verdict.specs.VerdictLaws.{verdict_at}
use Rattle.hlc_log_picture.specs.Judged.{event_finding_at}
use Rattle.hlc_log_picture.specs.Laws.{AreClaimsSeen, FormsAreVerdicts, FormsTellWords, LegendTellsForms, LogsHaveTheirNodes, LogsSendFirst, RingsAreCauses, TellsVerdict, VerdictsFit}
use Rattle.hlc_log_picture.specs.Looks.{form_of, form_of_found}

-- the word that a form stands for
abbrev word_of : Form → List ℕ
word_of form.Pill = codes "least"
word_of form.Dip = codes "behind"
word_of form.Box = codes "not-above"
word_of form.Slant = codes "low"
word_of form.Peak = codes "ahead"
word_of form.Hexagon = codes "carried"

word_is : (f : Finding) → finding_word f ≡ word_of (form_of f)
word_is (Judged verdict.Behind) = refl
word_is (Judged (verdict.NotAbove d)) = refl
word_is (Judged (verdict.Low least)) = refl
word_is (Judged verdict.Least) = refl
word_is (Judged (verdict.Ahead least)) = refl
word_is RolledOver = refl

pub forms_tell_words : FormsTellWords
forms_tell_words f g same = word_is f ∙ ap word_of same ∙ sym (word_is g)

pub verdicts_fit : VerdictsFit
verdicts_fit (Some (Judged verdict.Least)) = omega arith
verdicts_fit (Some (Judged verdict.Behind)) = omega arith
verdicts_fit (Some (Judged (verdict.NotAbove d))) = omega arith
verdicts_fit (Some (Judged (verdict.Low least))) = omega arith
verdicts_fit (Some (Judged (verdict.Ahead least))) = omega arith
verdicts_fit (Some RolledOver) = omega arith
verdicts_fit None = omega arith

pub legend_tells_forms : LegendTellsForms
legend_tells_forms (Judged verdict.Least) = (0, omega arith, refl)
legend_tells_forms (Judged verdict.Behind) = (1, omega arith, refl)
legend_tells_forms (Judged (verdict.NotAbove d)) = (2, omega arith, refl)
legend_tells_forms (Judged (verdict.Low least)) = (3, omega arith, refl)
legend_tells_forms (Judged (verdict.Ahead least)) = (4, omega arith, refl)
legend_tells_forms RolledOver = (5, omega arith, refl)

pub rings_are_causes : RingsAreCauses
rings_are_causes log full findings are k lt = (are.each k lt).cause

-- the verdict at a place of a trace of the claims that its event saw
module _ (log : LogInOrder) (ticks : clocks_of log ≡ ticking (skeleton_of log)) (k : ℕ) (claims : List Claim) (verdicts : List Verdict)
    (ordered : IsInOrder log) (are : AreClaimsSeen log k claims) (judged : AreVerdicts claims verdicts) where
  abbrev least : List Pair
  least = judged.0

  same_least : least ≡ log.least
  same_least =
      least_list_is_unique (skeleton_of log) least log.least (subst (λ (s : Skeleton). IsLeast s least) are.events judged.1)
      ((ticking_least_is_least (skeleton_of log) log.least).1 (subst (λ (t : ClockEvents). IsLeastFeasible t log.least) ticks ordered.least))

  claim_count : length claims ≡ length log.events
  claim_count =
      sym (length-map claims _) ∙ ap (λ (s : Skeleton). length s) are.events ∙ length-skeleton_of log ordered

  verdict_here : k < length log.events → verdict_at verdicts k ≡ verdict_on (clocks_of log) (seen_of log k) log.least k
  verdict_here lt =
      let count = claim_count in
      let size = length-places_below (length claims) in
      let within : k < length (places_below (length claims)) = omega arith in
      ap (λ (vs : List Verdict). verdict_at vs k) judged.2
      ∙ get_or-map (verdict_of claims least) (places_below (length claims)) k 0 verdict.Least within
      ∙ ap (verdict_of claims least) (place_at_below (length claims) k (omega arith))
      ∙ sym (verdicts_are_those_of_traces claims least k)
      ∙ ap (λ (s : Skeleton). verdict_on (ticking s) (claimed_stamps claims) least k) are.events
      ∙ ap (λ (t : ClockEvents). verdict_on t (claimed_stamps claims) least k) (sym ticks)
      ∙ ap (λ (stamps : List Pair). verdict_on (clocks_of log) stamps least k) are.stamps
      ∙ ap (λ (pairs : List Pair). verdict_on (clocks_of log) (seen_of log k) pairs k) same_least

tells : (log : LogInOrder) (full k : ℕ) (v : Verdict) (f : Finding) → v ≡ verdict_on (clocks_of log) (seen_of log k) log.least k
    → NamesFinding (clocks_of log) (seen_of log k) log.least full k f → TellsVerdict log full k v (form_of f)
tells log full k v (Judged w) is named = inl (ap (λ (x : Verdict). form_of (Judged x)) (named.0 ∙ sym is))
tells log full k v RolledOver is named = inr (refl, named)

tells_found : (log : LogInOrder) (full k : ℕ) (v : Verdict) (f : Option Finding) → v ≡ verdict_on (clocks_of log) (seen_of log k) log.least k
    → stamp_told log k ≡ true → FindsAt log full k f → TellsVerdict log full k v (form_of_found f)
tells_found log full k v None is told untold = let bad : true ≡ false = sym told ∙ untold in absurd cc
tells_found log full k v (Some f) is told named = tells log full k v f is named.1

pub forms_are_verdicts : FormsAreVerdicts
forms_are_verdicts log full findings k claims verdicts ticks ordered judged are verdicts_are lt told =
    tells_found log full k (verdict_at verdicts k) (event_finding_at findings k).finding
    (verdict_here log ticks k claims verdicts ordered are verdicts_are lt) told (judged.each k lt).finding

-- each receive is of an earlier event
and_then_found : (f : ℕ → Option ℕ) (o : Option ℕ) (i : ℕ) → option_and_then f o ≡ Some i → (x : ℕ) × (o ≡ Some x) × (f x ≡ Some i)
and_then_found f None i is = absurd (cc)
and_then_found f (Some x) i is = (x, refl, is)

received : (events : List LogEvent) (k : LogKind) (x : ℕ) → send_place events k ≡ Some x
    → (m : ℕ) × (k ≡ kind.Receive (record { 0 = m })) × Sends events x m
received events kind.Local x is = absurd (cc)
received events (kind.Send m) x is = absurd (cc)
received events kind.Restart x is = absurd (cc)
received events kind.Outside x is = absurd (cc)
received events (kind.Receive m) x is =
    let found = position-Some (λ (event : LogEvent). is_send m.0 event.kind) events x no_event is in
    (m.0, refl, sends_if events x m.0 found.0 found.1)

pub logs_send_first : LogsSendFirst
logs_send_first drawn ordered f s exists send =
    let log = drawn.log in
    let causal = ordered.causal in
    let size = length-skeleton_in log.events log.order causal in
    let f_lt : f < length log.order = omega arith in
    let sent = sym (ap (λ (e : SkeletonEvent). e.send) (skeleton_in_at log.events log.order causal f f_lt)) ∙ send in
    let found = and_then_found (position_of log.order) (send_place log.events (event_at log.events (place_at log.order f)).kind) s sent in
    let from = received log.events (event_at log.events (place_at log.order f)).kind found.0 found.1 in
    let place = place_of_position log.events log.order causal found.0 s found.2 in
    let sends : SendsTo log.events (place_at log.order s) (place_at log.order f) = (
      from.0,
      subst (λ (e : ℕ). Sends log.events e from.0) (sym place.1) from.2,
      record { exists = place_exists log.events log.order causal f f_lt; kind = from.1 },
    ) in
    needed_before log.events log.order causal s f place.0 f_lt (inr sends)

pub logs_have_their_nodes : LogsHaveTheirNodes
logs_have_their_nodes drawn ordered named f exists =
    let log = drawn.log in
    let causal = ordered.causal in
    let size = length-skeleton_in log.events log.order causal in
    let f_lt : f < length log.order = omega arith in
    let of_node = ordered.of_nodes (place_at log.order f) no_event (place_exists log.events log.order causal f f_lt) in
    subst (λ (e : SkeletonEvent). e.node < length drawn.nodes) (sym (skeleton_in_at log.events log.order causal f f_lt))
    (subst (λ (n : ℕ). (event_at log.events (place_at log.order f)).node.0 < n) named of_node)
