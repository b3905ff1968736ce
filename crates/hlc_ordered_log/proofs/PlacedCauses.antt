-- What is found of events by their places in the log.
use Rattle.std.proofs.Common.{◌≡◌, ◌∙◌, true, false, Bool, cond, ℕ, ◌+◌, ◌<◌, inl, inr, List, [], ◌∷◌, ◌++◌, length, Option, Some, None, arith, refl, replicate, subst, sym, ap}
use Rattle.std.specs.Prelude.{IfSome, slice_index_or}
use Rattle.std.proofs.lemmas.Bool.{cases_eq}
use Rattle.std.proofs.lemmas.List.{get_or-replicate, get_or_append_left, get_or_push, length-replicate, length_push}
use Rattle.hlc_stamp.specs.declared.id.EventId.{EventId}
use Rattle.hlc_stamp.specs.Order.{Pair}
use Rattle.hlc_causality.specs.Assignment.{pair_at}
use Rattle.hlc_causality.specs.Causality.{IsPrevious, IsSendOf, Skeleton}
use Rattle.hlc_causality.specs.ClockEvents.{ClockEvents, clock_event_at, clock_skeleton}
use Rattle.hlc_causality.specs.FollowedClockChains.{is_same_pair}
use Rattle.hlc_causality.specs.Predecessors.{previous_of, send_of}
use Rattle.hlc_causality.proofs.ClockEvents.{skeleton_size}
use Rattle.hlc_causality.proofs.PredecessorsFound.{previous_found, send_found}
use Rattle.hlc_causes.specs.Causes.{IsNotAbovePrevious, IsNotAboveSend, no_causes}
use Rattle.hlc_causes.specs.Seen.{wrong_among}
use Rattle.hlc_causes.specs.Verdicts.{follows, if_not_above}
use Rattle.hlc_causes.specs.declared.answers.Cause.TheVariants as cause
use Rattle.hlc_causes.specs.declared.answers.Causes.{Causes}
use Rattle.hlc_causes.proofs.Disorder.{some_is_so}
use Rattle.hlc_log.specs.CausalOrder.{place_at}
use Rattle.hlc_log.proofs.OrderSkeletons.{same_position}
use Rattle.hlc_ordered_log.specs.Found.{AreCausesBefore, NameEvents, NamesCausesAt, NamesCausesIn}
use Rattle.hlc_ordered_log.specs.InOrder.{IsInOrder, LogInOrder, carried_of, claimed_of, clocks_of, seen_of, wrong_of}
use Rattle.hlc_ordered_log.proofs.EventsInOrder.{length-clocks_of, length-skeleton_of}
use Rattle.hlc_ordered_log.proofs.Ordering.{order_len}

-- a direct predecessor that is found is earlier
found_if : (b : Bool) (x d : ℕ) → cond b None (Some x) ≡ Some d → x ≡ d
found_if true x d is = absurd cc
found_if false x d is = cc

module _ (t : ClockEvents) (claimed : List Pair) (f : ℕ) (exists : f < length t) where
  abbrev s : Skeleton
  s = clock_skeleton t

  shown : f < length s
  shown = omega (arith, exists, skeleton_size t)

  not_above_found : (o : Option ℕ) (d : ℕ) → if_not_above t claimed f o ≡ Some d → o ≡ Some d
  not_above_found None d is = absurd cc
  not_above_found (Some x) d is =
      ap (λ (e : ℕ). Some e) (found_if (follows (clock_event_at t f).ticks (pair_at claimed x) (pair_at claimed f)) x d is)

  previous_is_earlier : (d : ℕ) → IsNotAbovePrevious t claimed f d → d < f
  previous_is_earlier d broken =
      let h = some_is_so (λ x. IsPrevious s x f) (previous_of s f) (previous_found s f shown) d (not_above_found (previous_of s f) d broken) in
      h.at_node.earlier

  send_is_earlier : (d : ℕ) → IsNotAboveSend t claimed f d → d < f
  send_is_earlier d broken =
      let h = some_is_so (λ x. IsSendOf s x f) (send_of s f) (send_found s f shown) d (not_above_found (send_of s f) d broken) in
      h.earlier

if_found : {P : EventId → Type 0} (o : Option EventId) → ((d : EventId) → o ≡ Some d → P d) → IfSome o P
if_found None each = tt
if_found (Some d) each = each d refl

module _ (log : LogInOrder) where
  pub no_answers : (full : ℕ) → AreCausesBefore log full 0 []
  no_answers full = record { one_each = refl; each = λ e lt. absurd (omega arith) }

  -- one answer more
  pub causes_push : (full n : ℕ) (causes : List Causes) (found : Causes) → AreCausesBefore log full n causes
      → NamesCausesAt log full n found → AreCausesBefore log full (n + 1) (causes ++ found ∷ [])
  causes_push full n causes found are names = record {
    one_each = length_push causes found ∙ ap (λ (k : ℕ). k + 1) are.one_each;
    each = λ e lt. elim (cases_eq e n) [
      | inl same ↦
          subst (NamesCausesAt log full e) (sym (get_or_push causes found no_causes e (are.one_each ∙ sym same)))
          (subst (λ (k : ℕ). NamesCausesAt log full k found) (sym same) names)
      | inr ne ↦
          let size = are.one_each in
          subst (NamesCausesAt log full e) (sym (get_or_append_left causes (found ∷ []) no_causes e (omega arith)))
          (are.each e (omega arith))
    ];
  }

  -- the answers if there is no cause
  pub none_named : (full n : ℕ) → ((e : ℕ) → e < n → NamesCausesAt log full e no_causes) → AreCausesBefore log full n (replicate n no_causes)
  none_named full n none = record {
    one_each = length-replicate n no_causes;
    each = λ e lt. subst (NamesCausesAt log full e) (sym (get_or-replicate n e no_causes no_causes lt)) (none e lt);
  }

module _ (log : LogInOrder) (ordered : IsInOrder log) where
  -- the answer for a position is that for its place
  pub names_causes_at : (full e p : ℕ) (found : Causes) → p < length log.events → place_at log.order p ≡ e
      → NamesCausesIn log full p found → NamesCausesAt log full e found
  names_causes_at full e p found exists at names k within here =
      let size = order_len log.events log.order ordered.causal in
      let same : p ≡ k = same_position log.events log.order ordered.causal p k (omega arith) within (at ∙ sym here) in
      subst (λ (j : ℕ). NamesCausesIn log full j found) same names

  -- and names events
  pub names_events : (full p : ℕ) (found : Causes) → p < length log.events → NamesCausesIn log full p found → NameEvents log found
  names_events full p found exists names =
      let size = length-skeleton_of log ordered in
      let there : p < length (clocks_of log) = omega (arith, exists, size, length-clocks_of log) in
      record {
        previous = if_found found.not_above_previous (λ d is.
            let earlier = previous_is_earlier (clocks_of log) (seen_of log p) p there d.0 ((names (cause.NotAbovePrevious d)).0 is).1 in
            omega arith);
        send = if_found found.not_above_send (λ d is.
            let earlier = send_is_earlier (clocks_of log) (seen_of log p) p there d.0 ((names (cause.NotAboveSend d)).0 is).1 in
            omega arith);
      }

  -- the send of a message that carried another stamp is an event
  wrong_send : (claimed : List Pair) (send : Option ℕ) (carried : Option Pair) (d : ℕ) → wrong_among claimed send carried ≡ Some d → send ≡ Some d
  wrong_send claimed None None d is = absurd cc
  wrong_send claimed None (Some p) d is = absurd cc
  wrong_send claimed (Some x) None d is = absurd cc
  wrong_send claimed (Some x) (Some p) d is = ap (λ (e : ℕ). Some e) (found_if (is_same_pair p (pair_at claimed x)) x d is)

  pub wrong_exists : (p : ℕ) → p < length log.events → (d : ℕ) → wrong_of log p ≡ Some d → d < length log.events
  wrong_exists p exists d is =
      let t = clocks_of log in
      let size = length-skeleton_of log ordered in
      let there : p < length (clock_skeleton t) = omega (arith, exists, size, length-clocks_of log, skeleton_size t) in
      let sent = some_is_so (λ x. IsSendOf (clock_skeleton t) x p) (send_of (clock_skeleton t) p) (send_found (clock_skeleton t) p there) d
      (wrong_send (claimed_of log) (send_of (clock_skeleton t) p) (carried_of log p) d is) in
      omega (arith, sent.earlier, exists)
