-- Stamps that are given to the events of a log, one after another.
use Rattle.std.proofs.Common.{◌≡◌, ◌≢◌, ◌∙◌, Bool, true, false, ℕ, ◌+◌, ◌<◌, ◌≤◌, inl, inr, List, length, Option, Some, None, arith, refl, sym, ap}
use Rattle.std.specs.Prelude.{All, if◌then◌else◌, slice_set}
use Rattle.std.proofs.lemmas.Bool.{cases_eq}
use Rattle.std.proofs.lemmas.List.{get_or-set_other, get_or-set_same, length-map, length-set}
use Rattle.hlc_stamp.specs.Order.{Pair, zero_pair}
use Rattle.hlc_causality.specs.declared.receives.Receives.{Receives}
use Rattle.hlc_causality.specs.Assignment.{pair_at}
use Rattle.hlc_causality.specs.ClockEvents.{ClockEvents, clock_skeleton}
use Rattle.hlc_causality.specs.Predecessors.{send_of}
use Rattle.hlc_causes.specs.Given.{given_at}
use Rattle.hlc_causes.specs.Seen.{seen}
use Rattle.hlc_causes.proofs.Given.{given_like}
use Rattle.hlc_log.specs.CausalOrder.{IsCausalOrder, place_at}
use Rattle.hlc_log.specs.Events.{IsInRange, event_at, no_event, with_stamp}
use Rattle.hlc_log.specs.declared.log_event.LogEvent.{LogEvent}
use Rattle.hlc_log.proofs.OrderSkeletons.{length-skeleton_in, place_exists, same_position}
use Rattle.hlc_ordered_log.specs.InOrder.{AreFilled, AreGivenBefore, LogInOrder, carried_of, claimed_of, clocks_of, filled_event, seen_of, stamp_told}
use Rattle.hlc_ordered_log.proofs.EventsInOrder.{length-clocks_of}
use Rattle.hlc_ordered_log.proofs.Filled.{filled_carried, filled_clocks, filled_has_stamp, filled_if_untold, filled_itself}
use Rattle.hlc_ordered_log.proofs.Ordering.{claimed_at}

-- events are filled by themselves
pub filled_refl : (events : List LogEvent) → AreFilled events events
filled_refl events = record { one_each = refl; each = λ e lt. sym (filled_itself (event_at events e)) }

pub filled_twice : (event : LogEvent) (first second : Pair) → filled_event (filled_event event first) second ≡ filled_event event second
filled_twice event first second = by_test event.has_stamp refl
  where
    by_test : (test : Bool) → event.has_stamp ≡ test
        → filled_event (if test then event else with_stamp first event) second ≡ (if test then event else with_stamp second event)
    by_test true is = ap (λ (b : Bool). if b then event else with_stamp second event) is
    by_test false is = ap (λ (b : Bool). if b then with_stamp first event else with_stamp second event) is

pub filled_trans : (events filled more : List LogEvent) → AreFilled events filled → AreFilled filled more → AreFilled events more
filled_trans events filled more first second = record {
  one_each = second.one_each ∙ first.one_each;
  each = λ e lt.
      let size = first.one_each in
      let stamp = (event_at more e).stamp in
      second.each e (omega arith) ∙ ap (λ (x : LogEvent). filled_event x stamp) (first.each e lt)
      ∙ filled_twice (event_at events e) (event_at filled e).stamp stamp;
}

-- what an event sees of earlier ones depends on what these claim
pub seen_like : (claimed others : List Pair) (n : ℕ) → n ≤ length claimed → length others ≡ length claimed
    → ((d : ℕ) → d < n → pair_at claimed d ≡ pair_at others d) → (send : Option ℕ) (carried : Option Pair)
    → (d : ℕ) → d < n → pair_at (seen claimed send carried) d ≡ pair_at (seen others send carried) d
seen_like claimed others n within size same None None d lt = same d lt
seen_like claimed others n within size same None (Some p) d lt = same d lt
seen_like claimed others n within size same (Some e) None d lt = same d lt
seen_like claimed others n within size same (Some e) (Some p) d lt = elim (cases_eq d e) [
  | inl here ↦
      ap (pair_at (slice_set claimed e p)) here ∙ get_or-set_same claimed e p zero_pair (omega arith)
      ∙ sym (ap (pair_at (slice_set others e p)) here ∙ get_or-set_same others e p zero_pair (omega arith))
  | inr differ ↦ get_or-set_other claimed e d p zero_pair differ ∙ same d lt ∙ sym (get_or-set_other others e d p zero_pair differ)
]

module _ (nodes : ℕ) (receives : Receives) (order : List ℕ) (least : List Pair) where
  -- events in the order
  abbrev pub in_order : List LogEvent → LogInOrder
  in_order events = record { nodes = nodes; receives = receives; events = events; order = order; least = least }

  length-clocks : (events : List LogEvent) → IsCausalOrder events order → length (clocks_of (in_order events)) ≡ length order
  length-clocks events whole = length-clocks_of (in_order events) ∙ length-skeleton_in events order whole

  length-claimed : (events : List LogEvent) → length (claimed_of (in_order events)) ≡ length order
  length-claimed events = length-map order (λ (e : ℕ). (event_at events e).stamp)

  -- what is given at a position depends on what is claimed before it
  module _ (events filled : List LogEvent) (whole : IsCausalOrder events order) (ranges : All IsInRange events) (are : AreFilled events filled) where
    abbrev log : LogInOrder
    log = in_order events

    abbrev other : LogInOrder
    other = in_order filled

    pub given_kept : (k : ℕ) → k < length order → ((d : ℕ) → d < k → pair_at (claimed_of log) d ≡ pair_at (claimed_of other) d)
        → given_at (clocks_of other) (seen_of other k) k ≡ given_at (clocks_of log) (seen_of log k) k
    given_kept k lt same =
        let t = clocks_of log in
        let send = send_of (clock_skeleton t) k in
        let size = length-claimed events in
        let sizes = length-clocks events whole in
        let given : ClockEvents → Option Pair → Pair = λ x carried. given_at x (seen (claimed_of other) (send_of (clock_skeleton x) k) carried) k in
        ap (λ (x : ClockEvents). given x (carried_of other k)) (filled_clocks events filled are ranges receives order)
        ∙ ap (given t) (filled_carried events filled are (place_at order k))
        ∙ given_like t (seen (claimed_of log) send (carried_of log k)) (seen (claimed_of other) send (carried_of log k)) k (omega arith)
        (seen_like (claimed_of log) (claimed_of other) k (omega arith) (length-claimed filled ∙ sym size) same send (carried_of log k))

  -- one stamp more
  module _ (events : List LogEvent) (whole : IsCausalOrder events order) (ranges : All IsInRange events) (n : ℕ) (within : n < length order) (stamp : Pair)
      (untold : (event_at events (place_at order n)).has_stamp ≡ false) where
    abbrev place : ℕ
    place = place_at order n

    abbrev pub more : List LogEvent
    more = slice_set events place (with_stamp stamp (event_at events place))

    exists : place < length events
    exists = place_exists events order whole n within

    event_here : (e : ℕ) → e ≡ place → event_at more e ≡ with_stamp stamp (event_at events e)
    event_here e here =
        ap (event_at more) here ∙ get_or-set_same events place (with_stamp stamp (event_at events place)) no_event exists
        ∙ ap (λ (x : ℕ). with_stamp stamp (event_at events x)) (sym here)

    event_there : (e : ℕ) → e ≢ place → event_at more e ≡ event_at events e
    event_there e differ = get_or-set_other events place e (with_stamp stamp (event_at events place)) no_event differ

    pub one_filled : AreFilled events more
    one_filled = record {
      one_each = length-set events place (with_stamp stamp (event_at events place));
      each = λ e lt. elim (cases_eq e place) [
        | inl here ↦
            let at = event_here e here in
            let event = event_at events e in
            at
            ∙ sym (ap (λ (x : LogEvent). filled_event event x.stamp) at
            ∙ filled_if_untold event stamp (ap (λ (x : ℕ). (event_at events x).has_stamp) here ∙ untold))
        | inr differ ↦
            let at = event_there e differ in
            let event = event_at events e in
            at ∙ sym (ap (λ (x : LogEvent). filled_event event x.stamp) at ∙ filled_itself event)
      ];
    }

    abbrev before : LogInOrder
    before = in_order events

    abbrev after : LogInOrder
    after = in_order more

    claimed_there : (k : ℕ) → k < n → pair_at (claimed_of before) k ≡ pair_at (claimed_of after) k
    claimed_there k lt =
        let differ : place_at order k ≢ place =
        λ same. (let both = same_position events order whole k n (omega arith) within same in omega arith) in
        claimed_at events order k (omega arith) ∙ ap (λ (x : LogEvent). x.stamp) (sym (event_there (place_at order k) differ))
        ∙ sym (claimed_at more order k (omega arith))

    claimed_here : pair_at (claimed_of after) n ≡ stamp
    claimed_here = claimed_at more order n within ∙ ap (λ (x : LogEvent). x.stamp) (event_here place refl)

    one_given : (k : ℕ) → k < n + 1 → given_at (clocks_of after) (seen_of after k) k ≡ given_at (clocks_of before) (seen_of before k) k
    one_given k lt = given_kept events more whole ranges one_filled k (omega arith) (λ d less. claimed_there d (omega arith))

    pub given_more : stamp ≡ given_at (clocks_of before) (seen_of before n) n → AreGivenBefore before n → AreGivenBefore after (n + 1)
    given_more is given k lt none = elim (cases_eq k n) [
      | inl here ↦
          ap (pair_at (claimed_of after)) here ∙ claimed_here ∙ is ∙ ap (λ (x : ℕ). given_at (clocks_of before) (seen_of before x) x) (sym here)
          ∙ sym (one_given k lt)
      | inr differ ↦
          let told : stamp_told before k ≡ false = sym (filled_has_stamp events more one_filled (place_at order k)) ∙ none in
          sym (claimed_there k (omega arith)) ∙ given k (omega arith) told ∙ sym (one_given k lt)
    ]

  -- a told stamp is no stamp more
  pub told_more : (events : List LogEvent) (n : ℕ) → stamp_told (in_order events) n ≡ true → AreGivenBefore (in_order events) n
      → AreGivenBefore (in_order events) (n + 1)
  told_more events n told given k lt none = elim (cases_eq k n) [
    | inl here ↦
        let both : true ≡ false = sym told ∙ ap (stamp_told (in_order events)) (sym here) ∙ none in
        absurd cc
    | inr differ ↦ given k (omega arith) none
  ]
