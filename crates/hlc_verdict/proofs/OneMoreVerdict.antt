-- One more verdict of a trace is made.
use Rattle.std.proofs.Common.{◌≡◌, ◌≢◌, ◌∙◌, ℕ, suc, ◌+◌, ◌<◌, ◌≤◌, List, [], ◌∷◌, ◌++◌, Option, Some, None, add-one, ap, ap₂, append_assoc}
use Rattle.std.proofs.Common.{arith, length, map, refl, set, slice_index_or, subst, sym, take}
use Rattle.std.proofs.Math.Seq.{drop-cons}
use Rattle.std.proofs.lemmas.List.{append-nil, drop_all, get_or_push, length-map, length-set, length-take, length_push, take_all, take_more_set}
use Rattle.hlc_stamp.specs.Order.{Pair, zero_pair}
use Rattle.hlc_stamp.specs.declared.id.EventId.{EventId}
use Rattle.hlc_stamp.specs.declared.limits.TheConstants.{MAX_NODES}
use Rattle.hlc_causality.specs.Assignment.{IsLeast, pair_at}
use Rattle.hlc_causality.specs.Causality.{SkeletonEvent, skeleton_at}
use Rattle.hlc_causality.specs.Neighbours.{place_of}
use Rattle.hlc_causality.specs.Places.{places_below}
use Rattle.hlc_causality.proofs.Allowed.{least_from_each}
use Rattle.hlc_causality.proofs.LeastList.{least_list_is_unique, least_pairs_are_least, prefixes_are_least}
use Rattle.hlc_causality.proofs.PlacesBelow.{length-places_below, place_at}
use Rattle.hlc_causality.proofs.SamePrefix.{pairs_at_take}
use Rattle.hlc_verdict.specs.declared.claim.Claim.{Claim}
use Rattle.hlc_verdict.specs.declared.verdict.Verdict.{Verdict}
use Rattle.hlc_causality.specs.Predecessors.{latest_before, previous_of}
use Rattle.hlc_verdict.specs.Trace.{IsSoundAt, IsSoundTrace, claim_at, trace_skeleton}
use Rattle.hlc_verdict.specs.Verdict.{AreVerdicts, verdict_of}
use Rattle.hlc_verdict.specs.Verdicts.{IsUnderWay, NamesLatest, least_stamps, verdicts_from}
use Rattle.hlc_verdict.proofs.Traces.{event_at_place, latest_with_next, length_trace, within_told}

module _ (claims : List Claim) where
  are_least : IsLeast (trace_skeleton claims) (least_stamps claims)
  are_least = least_pairs_are_least (trace_skeleton claims)

  -- before the first verdict all are left
  pub all_left : (least : List Pair) → least ≡ [] → AreVerdicts claims (verdicts_from claims (length least))
  all_left least none =
      subst (λ (pairs : List Pair). AreVerdicts claims (verdicts_from claims (length pairs))) (sym none)
      (least_stamps claims, are_least, refl)

  -- and behind the last none
  pub none_left : (n : ℕ) → n ≡ length claims → verdicts_from claims n ≡ []
  none_left n all =
      let size = length-places_below (length claims) in
      ap (map (verdict_of claims (least_stamps claims))) (drop_all n (places_below (length claims)) (omega arith))

  -- the first of those that are left is the verdict at the place
  verdicts_from-next : (n : ℕ) → n < length claims →
      verdicts_from claims n ≡ verdict_of claims (least_stamps claims) n ∷ verdicts_from claims (n + 1)
  verdicts_from-next n exists =
      let verdict = verdict_of claims (least_stamps claims) in
      let places = places_below (length claims) in
      let size = length-places_below (length claims) in
      ap (map verdict) (drop-cons places n 0 (omega arith))
      ∙ ap (λ (place : ℕ). verdict place ∷ verdicts_from claims (suc n)) (place_at (length claims) n exists)
      ∙ ap (λ (k : ℕ). verdict n ∷ verdicts_from claims k) (sym (add-one n))

  -- the judging of a trace begins
  pub under_way-start : (last : List (Option EventId)) (least : List Pair) (room : ℕ) → IsSoundTrace claims → length last ≡ MAX_NODES →
      ((node : ℕ) → node < length last → place_of (slice_index_or last node None) ≡ None) → least ≡ [] → length claims ≤ room →
      IsUnderWay claims last least room
  under_way-start last least room sound nodes no_last none within = record {
    sound = sound;
    nodes = nodes;
    latest = subst (λ (pairs : List Pair). NamesLatest (trace_skeleton claims) (length pairs) last) (sym none) no_last;
    so_far = subst (λ (pairs : List Pair). IsLeast (take (length pairs) (trace_skeleton claims)) pairs) (sym none)
        (least_from_each [] [] refl (λ f lt. absurd (omega (arith, lt))));
    room_for_all = within;
  }

  pub judged_are_claims : (last : List (Option EventId)) (least : List Pair) (room : ℕ) → IsUnderWay claims last least room →
      length least ≤ length claims
  judged_are_claims last least room h =
      let size = length_trace claims in
      let first = length-take (length least) (trace_skeleton claims) in
      let one_each = h.so_far.allowed.one_each in
      omega arith

  -- a least stamp is pushed to those of the first claims
  module _ (least pushed : List Pair) (stamp : Pair) (place : ℕ) (is_place : place ≡ length least)
      (is_pushed : pushed ≡ least ++ stamp ∷ []) (is_least : IsLeast (take (place + 1) (trace_skeleton claims)) pushed) where
    length_pushed : place + 1 ≡ length pushed
    length_pushed = let size = ap length is_pushed ∙ length_push least stamp in omega arith

    least_stamp_is : pair_at (least_stamps claims) place ≡ stamp
    least_stamp_is =
        let s = trace_skeleton claims in
        let prefix = prefixes_are_least s (least_stamps claims) (place + 1) are_least in
        let same : pushed ≡ take (place + 1) (least_stamps claims) = least_list_is_unique (take (place + 1) s) _ _ is_least prefix in
        pairs_at_take (least_stamps claims) (place + 1) place (omega arith)
        ∙ ap (λ (pairs : List Pair). pair_at pairs place) (sym same ∙ is_pushed)
        ∙ get_or_push least stamp zero_pair place (sym is_place)

    -- then the first verdict that is left is that on the next claim
    pub verdict_is_next : (verdict : Verdict) → place < length claims →
        ((pairs : List Pair) → pair_at pairs place ≡ stamp → verdict ≡ verdict_of claims pairs place) →
        verdicts_from claims (length least) ≡ verdict ∷ verdicts_from claims (length pushed)
    verdict_is_next verdict exists is =
        ap (verdicts_from claims) (sym is_place) ∙ verdicts_from-next place exists
        ∙ ap (λ v. v ∷ verdicts_from claims (place + 1)) (sym (is (least_stamps claims) least_stamp_is))
        ∙ ap (λ (n : ℕ). verdict ∷ verdicts_from claims n) length_pushed

    -- and the judging has gone on
    pub under_way-next : (last : List (Option EventId)) (room more node : ℕ) → IsUnderWay claims last least room →
        node ≡ (claim_at claims place).node.0 → room ≤ more → IsUnderWay claims (set last node (Some (record { 0 = place }))) pushed more
    under_way-next last room more node h is_node within =
        let s = trace_skeleton claims in
        let noted = set last node (Some (record { 0 = place })) in
        let at_node : (skeleton_at s place).node ≡ node = ap (λ (e : SkeletonEvent). e.node) (event_at_place claims place) ∙ sym is_node in
        let before : NamesLatest s place last = subst (λ (n : ℕ). NamesLatest s n last) (sym is_place) h.latest in
        record {
          sound = h.sound;
          nodes = length-set last node (Some (record { 0 = place })) ∙ h.nodes;
          latest = subst (λ (n : ℕ). NamesLatest s n noted) length_pushed (latest_with_next s place node last at_node before);
          so_far = subst (λ (n : ℕ). IsLeast (take n s) pushed) length_pushed is_least;
          room_for_all = let enough = h.room_for_all in omega arith;
        }

-- the claim that is judged next, in a log that tells of claims
module _ {A : Type 0} (claim_of : A → Claim) (log : List A) (last : List (Option EventId)) (least : List Pair) (room place : ℕ)
    (is_place : place ≡ length least) (h : IsUnderWay (map claim_of log) last least room) (not_all : place ≢ length log) where
  pub next_exists : place < length log
  next_exists =
      let size = length-map log claim_of in
      let few = judged_are_claims (map claim_of log) last least room h in
      omega (arith, not_all)

  pub next_is_sound : IsSoundAt (map claim_of log) place
  next_is_sound = h.sound place (within_told claim_of log place next_exists)

  pub next_has_room : length least < room
  next_has_room =
      let exists = within_told claim_of log place next_exists in
      let enough = h.room_for_all in
      omega arith

  pub next_before : IsLeast (take place (trace_skeleton (map claim_of log))) least
  next_before = subst (λ (n : ℕ). IsLeast (take n (trace_skeleton (map claim_of log))) least) (sym is_place) h.so_far

  -- what was read of it
  module _ (claim : Claim) (is : claim ≡ claim_at (map claim_of log) place) where
    pub next_node : claim.node.0 < MAX_NODES
    next_node = subst (λ (x : Claim). x.node.0 < MAX_NODES) (sym is) next_is_sound.node

    -- its previous event is named
    pub next_previous : place_of (slice_index_or last claim.node.0 None) ≡ previous_of (trace_skeleton (map claim_of log)) place
    next_previous =
        let s = trace_skeleton (map claim_of log) in
        let nodes = h.nodes in
        let at_node : (skeleton_at s place).node ≡ claim.node.0 =
        ap (λ (e : SkeletonEvent). e.node) (event_at_place (map claim_of log) place) ∙ ap (λ (x : Claim). x.node.0) (sym is) in
        h.latest claim.node.0 (omega (arith, next_node)) ∙ ap₂ (latest_before s) (sym at_node) (sym is_place)

-- some verdicts of a whole were told and written, and the others are left
pub record IsWritten {V : Type 0} (told : Verdict → V) (whole left : List Verdict) (n : ℕ) (written : List V) : Type 0 where
  pub all : take n written ++ map told left ≡ map told whole
  pub counted : n + length left ≡ length whole
  pub one_each : length written ≡ length whole

pub written-start : {V : Type 0} (told : Verdict → V) (whole : List Verdict) (written : List V) → length written ≡ length whole →
    IsWritten told whole whole 0 written
written-start told whole written size = record { all = refl; counted = omega arith; one_each = size }

pub written-next :
    {V : Type 0} (told : Verdict → V) (whole left rest : List Verdict) (n : ℕ) (written : List V) (verdict : Verdict) (answer : V) →
    IsWritten told whole left n written → left ≡ verdict ∷ rest → answer ≡ told verdict
    → IsWritten told whole rest (n + 1) (set written n answer)
written-next told whole left rest n written verdict answer h first is =
    let one_less : length left ≡ length rest + 1 = ap length first ∙ sym (add-one (length rest)) in
    let counted = h.counted in
    let size = h.one_each in
    record {
      all = ap (λ xs. xs ++ map told rest) (take_more_set written n answer (omega arith))
          ∙ append_assoc (take n written) (answer ∷ []) (map told rest)
          ∙ ap (λ x. take n written ++ (x ∷ map told rest)) is
          ∙ ap (λ xs. take n written ++ map told xs) (sym first) ∙ h.all;
      counted = omega arith;
      one_each = length-set written n answer ∙ h.one_each;
    }

pub written-whole :
    {V : Type 0} (told : Verdict → V) (whole left : List Verdict) (n : ℕ) (written : List V) → IsWritten told whole left n written →
    left ≡ [] → written ≡ map told whole
written-whole told whole left n written h none =
    let counted = h.counted in
    let size = h.one_each in
    let no_more : length left ≡ 0 = ap length none in
    let none_told : map told left ≡ [] = ap (map told) none in
    sym (take_all n written (omega arith)) ∙ sym (append-nil (take n written)) ∙ ap (λ xs. take n written ++ xs) (sym none_told) ∙ h.all
