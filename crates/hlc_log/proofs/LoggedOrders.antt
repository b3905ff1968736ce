-- The order in which a log tells of its events, if each send comes before what receives it.
use Rattle.std.proofs.Common.{◌≡◌, ℕ, ◌+◌, ◌<◌, ◌≤◌, inl, inr, List, length, take, arith, subst, sym, ap, ◌∙◌}
use Rattle.std.specs.Prelude.{Contains}
use Rattle.std.proofs.Math.Seq.{take-length}
use Rattle.std.proofs.lemmas.Bool.{cases_eq}
use Rattle.hlc_causality.specs.Places.{places_below}
use Rattle.hlc_causality.proofs.PlacesBelow.{length-places_below, place_at as place_below}
use Rattle.hlc_log.specs.declared.log_event.LogEvent.{LogEvent}
use Rattle.hlc_log.specs.CausalOrder.{ComesAfterSend, IsCausalOrder, MayComeNext, Needs, SendsComeFirst, place_at}
use Rattle.hlc_log.specs.Standing.{SeqsRise}
use Rattle.hlc_log.proofs.StandingEvents.{stands_by_place}
use Rattle.hlc_log.proofs.CausalOrders.{contained_before, place_of_contained}

module _ (events : List LogEvent) where
  -- one event more comes after the send of what it receives
  pub one_more_comes_after : (n : ℕ) → ((f : ℕ) → f < n → ComesAfterSend events f) → ComesAfterSend events n
      → (f : ℕ) → f < n + 1 → ComesAfterSend events f
  one_more_comes_after n before here f lt = elim (cases_eq f n) [
    | inl last ↦ subst (ComesAfterSend events) (sym last) here
    | inr ne ↦ before f (omega arith)
  ]

  pub all_come_after_sends : (n : ℕ) → n ≡ length events → ((f : ℕ) → f < n → ComesAfterSend events f) → SendsComeFirst events
  all_come_after_sends n all each f e (m, sends, receives) =
      let exists = receives.exists in
      each f (omega arith) e (m, sends, receives)

  abbrev logged : List ℕ
  logged = places_below (length events)

  logged_at : (k : ℕ) → k < length events → place_at logged k ≡ k
  logged_at k lt = place_below (length events) k lt

  -- the events before a place are all those with lower places
  earlier_logged : (e k : ℕ) → e < k → k ≤ length events → Contains (take k logged) e
  earlier_logged e k lt le =
      let size = length-places_below (length events) in
      subst (Contains (take k logged)) (logged_at e (omega arith)) (contained_before events logged e k lt (omega arith))

  not_yet_logged : (k : ℕ) → k < length events → ¬ Contains (take k logged) k
  not_yet_logged k lt inside =
      let size = length-places_below (length events) in
      let at = place_of_contained events logged k k (omega arith) inside in
      let before : at.0 < k = at.1 in
      let same : at.0 ≡ k = sym (logged_at at.0 (omega arith)) ∙ at.2 in
      omega arith

  module _ (rise : SeqsRise events) (first : SendsComeFirst events) where
    needed_before : (e f : ℕ) → Needs events f e → e < f
    needed_before e f (inl at_node) = stands_by_place events rise e f at_node.first_exists at_node.before
    needed_before e f (inr sends) = first f e sends

    next_logged : (k : ℕ) → k < length events → MayComeNext events (take k logged) k
    next_logged k lt = record {
      exists = lt;
      new = not_yet_logged k lt;
      needed = λ e needs. earlier_logged e k (needed_before e k needs) (omega arith);
    }

    pub logged_is_causal : IsCausalOrder events (places_below (length events))
    logged_is_causal =
        let size = length-places_below (length events) in
        record {
          causal = λ k lt. (let exists : k < length events = omega arith in
              subst (MayComeNext events (take k logged)) (sym (logged_at k exists)) (next_logged k exists));
          all = λ e lt. (let whole : take (length events) logged ≡ logged = ap (λ n. take n logged) (sym size) ∙ take-length logged in
              subst (λ (xs : List ℕ). Contains xs e) whole (earlier_logged e (length events) lt (omega arith)));
        }
