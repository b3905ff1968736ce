-- Events whose stamps are filled in, where the log tells none.
use Rattle.std.proofs.Common.{◌≡◌, ◌∙◌, Bool, true, false, cond, ℕ, ◌<◌, ◌≤◌, inl, inr, List, length, get_or, map, Some, None, arith, refl, subst, sym, ap}
use Rattle.std.specs.Prelude.{All, if◌then◌else◌, nat_lt, not, option_and_then, position}
use Rattle.std.specs.List.{position_or_len}
use Rattle.std.proofs.lemmas.Bool.{cases_lt}
use Rattle.std.proofs.lemmas.List.{get_or_past}
use Rattle.std.proofs.lemmas.List.Elements.{All-from_get_or, All-get_or}
use Rattle.std.proofs.lemmas.List.Sums.{fails_before_first, prefix_len-le-length, passes_at_first, position_or_len_is}
use Rattle.hlc_stamp.specs.Order.{Pair}
use Rattle.hlc_causality.specs.declared.receives.Receives.{Receives}
use Rattle.hlc_causality.specs.Causality.{Skeleton}
use Rattle.hlc_causality.specs.ReceiveEvents.{ClockRules, clock_events}
use Rattle.hlc_execution.specs.Execution.{StoredExecution}
use Rattle.hlc_log.specs.CausalOrder.{IsCausalOrder, Needs, place_at}
use Rattle.hlc_log.specs.Events.{IsInRange, event_at, no_event, own_rule, rule_by, with_stamp}
use Rattle.hlc_log.specs.Messages.{AreMessagesSound, Receives as ReceivesMessage, Sends}
use Rattle.hlc_log.specs.OrderSkeleton.{position_of, rules_in, send_place, skeleton_in}
use Rattle.hlc_log.specs.Standing.{StandsBefore, seq_at}
use Rattle.hlc_log.specs.Unsent.{is_send}
use Rattle.hlc_log.specs.declared.log_event.LogEvent.{LogEvent}
use Rattle.hlc_log.specs.declared.log_event.LogKind.{LogKind}
use Rattle.hlc_log.specs.declared.log_event.LogKind.TheVariants as kind
use Rattle.hlc_ordered_log.specs.InOrder.{AreFilled, AreOfNodes, IsExecutionOf, filled_event}

-- a test finds the same place in lists that it can't tell apart
module _ {X : Type 0} (p : X → Bool) (xs ys : List X) (d : X) (size : length ys ≡ length xs) (same : (k : ℕ) → p (get_or ys k d) ≡ p (get_or xs k d)) where
  first_like : position_or_len p ys ≡ position_or_len p xs
  first_like =
      let within : position_or_len p xs ≤ length xs = prefix_len-le-length (λ (x : X). not (p x)) xs in
      position_or_len_is p ys (position_or_len p xs) d (omega arith)
      (λ k lt. same k ∙ fails_before_first p xs k d lt)
      (λ lt. same (position_or_len p xs) ∙ passes_at_first p xs d (omega arith))

  position_like : position p ys ≡ position p xs
  position_like =
      ap (λ (n : ℕ). cond (nat_lt n (length ys)) (Some n) None) first_like
      ∙ ap (λ (n : ℕ). cond (nat_lt (position_or_len p xs) n) (Some (position_or_len p xs)) None) size

-- what doesn't look at the stamp is the same of an event whose stamp is filled in
pub filled_by : {X : Type 0} (f : LogEvent → X) (event : LogEvent) (stamp : Pair) (test : Bool) → f (with_stamp stamp event) ≡ f event
    → f (if test then event else with_stamp stamp event) ≡ f event
filled_by f event stamp true same = refl
filled_by f event stamp false same = same

-- so is all of a told one
pub filled_if_told : (event : LogEvent) (stamp : Pair) → event.has_stamp ≡ true → filled_event event stamp ≡ event
filled_if_told event stamp told = ap (λ (test : Bool). if test then event else with_stamp stamp event) told

pub filled_if_untold : (event : LogEvent) (stamp : Pair) → event.has_stamp ≡ false → filled_event event stamp ≡ with_stamp stamp event
filled_if_untold event stamp untold = ap (λ (test : Bool). if test then event else with_stamp stamp event) untold

-- an event is filled with its own stamp
pub filled_itself : (event : LogEvent) → filled_event event event.stamp ≡ event
filled_itself event = by_test event.has_stamp
  where
    by_test : (test : Bool) → (if test then event else with_stamp event.stamp event) ≡ event
    by_test true = refl
    by_test false = refl

-- an event with another stamp has the rule of its own that it has, unless it is a restart
rule_like : (receives : Receives) (event : LogEvent) (stamp : Pair) (what : LogKind) → (what ≡ kind.Restart → ⊥)
    → rule_by receives (with_stamp stamp event) what ≡ rule_by receives event what
rule_like receives event stamp kind.Local no_restart = refl
rule_like receives event stamp (kind.Send m) no_restart = refl
rule_like receives event stamp (kind.Receive m) no_restart = refl
rule_like receives event stamp kind.Outside no_restart = refl
rule_like receives event stamp kind.Restart no_restart = absurd (no_restart refl)

pub rule_filled : (receives : Receives) (event : LogEvent) (stamp : Pair) → (event.kind ≡ kind.Restart → event.has_stamp ≡ true)
    → own_rule receives (filled_event event stamp) ≡ own_rule receives event
rule_filled receives event stamp told = by_test event.has_stamp refl
  where
    by_test : (test : Bool) → event.has_stamp ≡ test → own_rule receives (if test then event else with_stamp stamp event) ≡ own_rule receives event
    by_test true is = refl
    by_test false is = rule_like receives event stamp event.kind (λ restart. let both : true ≡ false = sym (told restart) ∙ is in cc)

in_range_filled : (event : LogEvent) (stamp : Pair) → IsInRange event → IsInRange (filled_event event stamp)
in_range_filled event stamp h = by_test event.has_stamp refl
  where
    by_test : (test : Bool) → event.has_stamp ≡ test → IsInRange (if test then event else with_stamp stamp event)
    by_test true is = h
    by_test false is = record {
      positive = h.positive;
      in_range = h.in_range;
      floor = λ restart. let both : true ≡ false = sym (h.told restart) ∙ is in absurd cc;
      carried = h.carried;
      told = h.told;
    }

-- where each event has the same seq, events stand as they do
pub same_stands : (events others : List LogEvent) (d e : ℕ) → ((k : ℕ) → seq_at events k ≡ seq_at others k) → StandsBefore events d e → StandsBefore others d e
same_stands events others d e same (inl below) = let first = same d in let second = same e in inl (omega arith)
same_stands events others d e same (inr level) = inr (sym (same d) ∙ level.0 ∙ same e, level.1)

module _ (events filled : List LogEvent) (are : AreFilled events filled) where
  -- what doesn't look at stamps is the same at each place
  pub filled_keeps : {X : Type 0} (f : LogEvent → X) → ((event : LogEvent) (stamp : Pair) → f (with_stamp stamp event) ≡ f event)
      → (e : ℕ) → f (event_at filled e) ≡ f (event_at events e)
  filled_keeps f blind e = elim (cases_lt e (length events)) [
    | inl lt ↦
        let event = event_at events e in
        let stamp = (event_at filled e).stamp in
        ap f (are.each e lt) ∙ filled_by f event stamp event.has_stamp (blind event stamp)
    | inr past ↦
        let size = are.one_each in
        ap f (get_or_past filled e no_event (omega arith)) ∙ sym (ap f (get_or_past events e no_event past))
  ]

  pub filled_kind : (e : ℕ) → (event_at filled e).kind ≡ (event_at events e).kind
  filled_kind = filled_keeps (λ event. event.kind) (λ event stamp. refl)

  pub filled_node : (e : ℕ) → (event_at filled e).node.0 ≡ (event_at events e).node.0
  filled_node = filled_keeps (λ event. event.node.0) (λ event stamp. refl)

  pub filled_seq : (e : ℕ) → seq_at filled e ≡ seq_at events e
  filled_seq = filled_keeps (λ event. event.seq) (λ event stamp. refl)

  pub filled_reading : (e : ℕ) → (event_at filled e).reading ≡ (event_at events e).reading
  filled_reading = filled_keeps (λ event. event.reading) (λ event stamp. refl)

  pub filled_has_stamp : (e : ℕ) → (event_at filled e).has_stamp ≡ (event_at events e).has_stamp
  filled_has_stamp = filled_keeps (λ event. event.has_stamp) (λ event stamp. refl)

  pub filled_carried : (e : ℕ) → (event_at filled e).carried ≡ (event_at events e).carried
  filled_carried = filled_keeps (λ event. event.carried) (λ event stamp. refl)

  -- a told event is as it was
  pub filled_told : (e : ℕ) → e < length events → (event_at events e).has_stamp ≡ true → event_at filled e ≡ event_at events e
  filled_told e lt told = are.each e lt ∙ filled_if_told (event_at events e) (event_at filled e).stamp told

  send_place_filled : (what : LogKind) → send_place filled what ≡ send_place events what
  send_place_filled kind.Local = refl
  send_place_filled (kind.Send m) = refl
  send_place_filled (kind.Receive m) =
      position_like (λ (event : LogEvent). is_send m.0 event.kind) events filled no_event are.one_each
      (filled_keeps (λ event. is_send m.0 event.kind) (λ event stamp. refl))
  send_place_filled kind.Restart = refl
  send_place_filled kind.Outside = refl

  -- causality sees the same
  pub filled_skeleton : (order : List ℕ) → skeleton_in filled order ≡ skeleton_in events order
  filled_skeleton order =
      let sends : (e : ℕ) → send_place filled (event_at filled e).kind ≡ send_place events (event_at events e).kind =
      λ e. ap (send_place filled) (filled_kind e) ∙ send_place_filled (event_at events e).kind in
      λ i. map (λ e. record {
        node = filled_node e i;
        reading = filled_reading e i;
        send = option_and_then (position_of order) (sends e i);
      }) order

  -- who sends what is received
  filled_sends : (e m : ℕ) → Sends filled e m → Sends events e m
  filled_sends e m h = let size = are.one_each in let exists = h.exists in record { exists = omega arith; kind = sym (filled_kind e) ∙ h.kind }

  filled_sends_back : (e m : ℕ) → Sends events e m → Sends filled e m
  filled_sends_back e m h = let size = are.one_each in let exists = h.exists in record { exists = omega arith; kind = filled_kind e ∙ h.kind }

  filled_receives : (e m : ℕ) → ReceivesMessage filled e m → ReceivesMessage events e m
  filled_receives e m h = let size = are.one_each in let exists = h.exists in record { exists = omega arith; kind = sym (filled_kind e) ∙ h.kind }

  pub filled_sound : AreMessagesSound events → AreMessagesSound filled
  filled_sound sound = record {
    once = λ e again.
        sound.once e (
          again.0,
          again.1,
          record { earlier = again.2.earlier; first = filled_sends again.0 again.1 again.2.first; second = filled_sends e again.1 again.2.second },
        );
    sent = λ f unsent. sound.sent f (unsent.0, filled_receives f unsent.0 unsent.1, λ e sends. unsent.2 e (filled_sends_back e unsent.0 sends));
  }

  filled_needs : (f e : ℕ) → Needs filled f e → Needs events f e
  filled_needs f e (inl earlier) =
      let size = are.one_each in
      let first = earlier.first_exists in
      let exists = earlier.exists in
      inl (record {
        before = same_stands filled events e f filled_seq earlier.before;
        first_exists = omega arith;
        exists = omega arith;
        same_node = sym (filled_node e) ∙ earlier.same_node ∙ filled_node f;
      })
  filled_needs f e (inr (m, sends, receives)) = inr (m, filled_sends e m sends, filled_receives f m receives)

  pub filled_causal : (order : List ℕ) → IsCausalOrder events order → IsCausalOrder filled order
  filled_causal order whole = record {
    causal = λ k lt.
        let next = whole.causal k lt in
        let size = are.one_each in
        let exists = next.exists in
        record { exists = omega arith; new = next.new; needed = λ e needs. next.needed e (filled_needs (place_at order k) e needs) };
    all = λ e lt. let size = are.one_each in whole.all e (omega arith);
  }

  pub filled_of_nodes : (nodes : ℕ) → AreOfNodes nodes events → AreOfNodes nodes filled
  filled_of_nodes nodes of_nodes = All-from_get_or (λ (event : LogEvent). event.node.0 < nodes) filled no_event (λ e lt.
      let size = are.one_each in
      subst (λ (n : ℕ). n < nodes) (sym (filled_node e))
      (All-get_or (λ (event : LogEvent). event.node.0 < nodes) events e no_event (omega arith) of_nodes))

  module _ (ranges : All IsInRange events) where
    pub filled_in_range : All IsInRange filled
    filled_in_range = All-from_get_or IsInRange filled no_event (λ e lt.
        let size = are.one_each in
        let within : e < length events = omega arith in
        subst IsInRange (sym (are.each e within))
        (in_range_filled (event_at events e) (event_at filled e).stamp (All-get_or IsInRange events e no_event within ranges)))

    -- it has the rules of its own that it has
    pub filled_rule : (receives : Receives) (e : ℕ) → own_rule receives (event_at filled e) ≡ own_rule receives (event_at events e)
    filled_rule receives e = elim (cases_lt e (length events)) [
      | inl lt ↦
          ap (own_rule receives) (are.each e lt)
          ∙ rule_filled receives (event_at events e) (event_at filled e).stamp (All-get_or IsInRange events e no_event lt ranges).told
      | inr past ↦
          let size = are.one_each in
          ap (own_rule receives) (get_or_past filled e no_event (omega arith)) ∙ sym (ap (own_rule receives) (get_or_past events e no_event past))
    ]

    pub filled_rules : (receives : Receives) (order : List ℕ) → rules_in receives filled order ≡ rules_in receives events order
    filled_rules receives order = λ i. record { receives = receives; own = map (λ e. filled_rule receives e i) order }

    -- so clocks read the same
    pub filled_clocks : (receives : Receives) (order : List ℕ)
        → clock_events (rules_in receives filled order) (skeleton_in filled order) ≡ clock_events (rules_in receives events order) (skeleton_in events order)
    filled_clocks receives order =
        ap (λ (rules : ClockRules). clock_events rules (skeleton_in filled order)) (filled_rules receives order)
        ∙ ap (λ (s : Skeleton). clock_events (rules_in receives events order) s) (filled_skeleton order)

    -- an execution of the events is one of the filled ones
    pub filled_execution : (order : List ℕ) (execution : StoredExecution) → IsExecutionOf events order execution → IsExecutionOf filled order execution
    filled_execution order execution is = record {
      events_are = is.events_are ∙ sym (filled_skeleton order);
      clocks_are = is.clocks_are ∙ sym (filled_clocks execution.rules.receives order);
      least = is.least;
    }
