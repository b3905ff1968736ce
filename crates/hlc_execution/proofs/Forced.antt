-- What is kept of an event says which direct predecessor is its forcing event.
use Rattle.std.proofs.Common.{◌≡◌, ◌∙◌, ℕ, ◌<◌, inl, inr, if◌then◌else◌, List, [], ◌∷◌, ◌++◌, length, Option, Some, None, arith, refl, subst, sym, ap}
use Rattle.std.specs.Prelude.{IfSome}
use Rattle.std.proofs.lemmas.Bool.{cases_Bool, cases_eq}
use Rattle.std.proofs.lemmas.List.{get_or_append_left, get_or_push, length_push}
use Rattle.hlc_stamp.specs.declared.id.EventId.{EventId}
use Rattle.hlc_stamp.specs.Order.{Pair, zero_pair}
use Rattle.hlc_causality.specs.declared.event_rule.EventRule.{EventRule}
use Rattle.hlc_causality.specs.Assignment.{pair_at}
use Rattle.hlc_causality.specs.Causality.{IsPrevious, IsSendOf, Skeleton, SkeletonEvent, skeleton_at}
use Rattle.hlc_causality.specs.ClockChain.{IsClockForcing}
use Rattle.hlc_causality.specs.ClockEvents.{ClockEvent, ClockEvents, clock_event_at, clock_skeleton}
use Rattle.hlc_causality.specs.FollowedClockChains.{clock_forcing_among, is_by_itself, is_same_pair, next_or_send}
use Rattle.hlc_causality.specs.Forcing.{NamesClockForcing}
use Rattle.hlc_causality.specs.LeastFeasible.{next_pair}
use Rattle.hlc_causality.specs.Neighbours.{NamesPrevious, NamesSend, place_of}
use Rattle.hlc_causality.specs.ReceiveEvents.{ClockRules, clock_events, event_by, own_at}
use Rattle.hlc_execution.specs.declared.slot.Forced.{Forced}
use Rattle.hlc_execution.specs.declared.slot.Forced.TheVariants.{ByPrevious, BySend, Not}
use Rattle.hlc_execution.specs.Links.{link_at}
use Rattle.hlc_execution.specs.Forcing.{AreForced, forced_by, forcing_by, is_after, pair_of, rule_event}
use Rattle.hlc_causality.proofs.FollowedClockChains.{clock_forcing_found_among}
use Rattle.hlc_causality.proofs.PredecessorsFound.{Finds}
use Rattle.hlc_causality.proofs.ReceiveEvents.{clock_events_at, rules_keep_previous, rules_keep_sends}
use Rattle.hlc_execution.proofs.Executions.{no_event}

-- what is found names the forcing event
module _ (rules : ClockRules) (s : Skeleton) (pairs : List Pair) (f : ℕ) where
  abbrev t : ClockEvents
  t = clock_events rules s

  abbrev here : ClockEvent
  here = clock_event_at t f

  abbrev pair : Pair
  pair = pair_at pairs f

  previous_found : (previous : Option EventId) → NamesPrevious s f previous
      → Finds (λ d. IsPrevious (clock_skeleton t) d f) (place_of previous)
  previous_found None first = λ d h. first d ((rules_keep_previous rules s d f).1 h).at_node
  previous_found (Some d) previous = (rules_keep_previous rules s d.0 f).0 previous

  send_found : (send : Option EventId) → NamesSend s f send → Finds (λ d. IsSendOf (clock_skeleton t) d f) (place_of send)
  send_found None unsent = λ d h. unsent d ((rules_keep_sends rules s d f).1 h)
  send_found (Some d) send = (rules_keep_sends rules s d.0 f).0 send

  -- what is kept chooses as the functions of chains do
  after_chosen : (previous send : Option EventId)
      → next_or_send t pairs f (place_of previous) (place_of send)
      ≡ place_of (forcing_by (if is_after here.ticks (pair_of pairs previous) pair then ByPrevious else BySend) previous send)
  after_chosen None send = refl
  after_chosen (Some d) send = elim (cases_Bool (is_same_pair (next_pair here.ticks (pair_at pairs d.0)) pair)) [
    | inl test ↦ rw test refl
    | inr test ↦ rw test refl
  ]

  chosen : (previous send : Option EventId)
      → clock_forcing_among t pairs f (place_of previous) (place_of send)
      ≡ place_of (forcing_by (forced_by here pair (pair_of pairs previous)) previous send)
  chosen previous send = elim (cases_Bool (is_by_itself here pair)) [ inl test ↦ rw test refl | inr test ↦ rw test (after_chosen previous send) ]

  names : (answer : Option EventId) → Finds (λ d. IsClockForcing t pairs d f) (place_of answer) → NamesClockForcing t pairs f answer
  names None found = found
  names (Some d) found = found

  named : (previous send : Option EventId) → NamesPrevious s f previous → NamesSend s f send
      → NamesClockForcing t pairs f (forcing_by (forced_by here pair (pair_of pairs previous)) previous send)
  named previous send names_previous names_send =
      names (forcing_by (forced_by here pair (pair_of pairs previous)) previous send)
      (subst (Finds (λ d. IsClockForcing t pairs d f)) (chosen previous send)
      (clock_forcing_found_among t pairs f (place_of previous) (place_of send) (previous_found previous names_previous) (send_found send names_send)))

  pub names_forcing : f < length s → (previous send : Option EventId) → NamesPrevious s f previous → NamesSend s f send
      → NamesClockForcing t pairs f (forcing_by (forced_by (rule_event rules s f) pair (pair_of pairs previous)) previous send)
  names_forcing exists previous send names_previous names_send =
      subst (λ x. NamesClockForcing t pairs f (forcing_by (forced_by x pair (pair_of pairs previous)) previous send))
      (clock_events_at rules s f exists) (named previous send names_previous names_send)

-- a later pair changes the pair of no event
pair_of-more : (pairs : List Pair) (q : Pair) (o : Option EventId) → IfSome o (λ d. d.0 < length pairs)
    → pair_of pairs o ≡ pair_of (pairs ++ q ∷ []) o
pair_of-more pairs q None lt = refl
pair_of-more pairs q (Some d) lt = ap (λ (p : Pair). Some p) (sym (get_or_append_left pairs (q ∷ []) zero_pair d.0 lt))

forced_by-same : (read : SkeletonEvent → ClockEvent) (pairs : List Pair) {x x' : SkeletonEvent} {p p' : Pair} {o o' : Option EventId}
    → x ≡ x' → p ≡ p' → o ≡ o' → forced_by (read x) p (pair_of pairs o) ≡ forced_by (read x') p' (pair_of pairs o')
forced_by-same read pairs {x} {x'} {p} {p'} {o} {o'} is a b =
    ap (λ (y : SkeletonEvent). forced_by (read y) p (pair_of pairs o)) is
    ∙ ap (λ (y : Pair). forced_by (read x') y (pair_of pairs o)) a
    ∙ ap (λ (y : Option EventId). forced_by (read x') p' (pair_of pairs y)) b

pub forced-push :
    (rules : ClockRules) (events : Skeleton) (pairs : List Pair) (previous : List (Option EventId)) (kept : List Forced)
    (x : SkeletonEvent) (p : Pair) (o : Option EventId)
    → length events ≡ length pairs → length previous ≡ length pairs → length kept ≡ length pairs
    → ((k : ℕ) → k < length pairs → IfSome (link_at previous k) (λ d. d.0 < length pairs)) → IfSome o (λ d. d.0 < length pairs)
    → AreForced rules events pairs previous kept
    → AreForced rules (events ++ x ∷ []) (pairs ++ p ∷ []) (previous ++ o ∷ [])
    (kept ++ forced_by (event_by rules.receives (own_at rules (length pairs)) x) p (pair_of pairs o) ∷ [])
forced-push rules events pairs previous kept x p o size_e size_p size_k earlier lt h k within =
    let read = λ (n : ℕ). event_by rules.receives (own_at rules n) in
    let y = read (length pairs) x in
    let grown = length_push pairs p in
    elim (cases_eq k (length pairs)) [
      | inl new ↦
          let event = get_or_push events x no_event k (size_e ∙ sym new) in
          let pair = get_or_push pairs p zero_pair k (sym new) in
          let before = get_or_push previous o None k (size_p ∙ sym new) in
          get_or_push kept (forced_by y p (pair_of pairs o)) Not k (size_k ∙ sym new)
          ∙ ap (forced_by y p) (pair_of-more pairs p o lt)
          ∙ ap (λ (n : ℕ). forced_by (read n x) p (pair_of (pairs ++ p ∷ []) o)) (sym new)
          ∙ sym (forced_by-same (read k) (pairs ++ p ∷ []) event pair before)
      | inr ne ↦
          let old : k < length pairs = omega arith in
          let event = get_or_append_left events (x ∷ []) no_event k (omega arith) in
          let pair = get_or_append_left pairs (p ∷ []) zero_pair k old in
          let before = get_or_append_left previous (o ∷ []) None k (omega arith) in
          get_or_append_left kept (forced_by y p (pair_of pairs o) ∷ []) Not k (omega arith)
          ∙ h k old
          ∙ ap (forced_by (rule_event rules events k) (pair_at pairs k)) (pair_of-more pairs p (link_at previous k) (earlier k old))
          ∙ sym (forced_by-same (read k) (pairs ++ p ∷ []) event pair before)
    ]

-- and one more rule changes it at no event that is there
pub forced-ruled : (rules others : ClockRules) (events : Skeleton) (pairs : List Pair) (previous : List (Option EventId)) (kept : List Forced)
    → rules.receives ≡ others.receives → ((k : ℕ) → k < length pairs → own_at rules k ≡ own_at others k)
    → AreForced rules events pairs previous kept → AreForced others events pairs previous kept
forced-ruled rules others events pairs previous kept receives same h k within =
    let read = λ (x : ClockEvent). forced_by x (pair_at pairs k) (pair_of pairs (link_at previous k)) in
    h k within
    ∙ ap (λ (o : Option EventRule). read (event_by rules.receives o (skeleton_at events k))) (same k within)
    ∙ ap (λ r. read (event_by r (own_at others k) (skeleton_at events k))) receives
