use Rattle.std.proofs.Common.{◌≡◌, ◌≤◌, length, arith, refl, sym, subst, Ok, Err}
use Rattle.std.specs.Prelude.{OnErr, OnOk, Result}
use Rattle.hlc_causality.specs.ReceiveEvents.{ClockRules}
use Rattle.hlc_execution.specs.Execution.{StoredExecution}
use Rattle.hlc_execution.specs.Rules.{with_rule}
use Rattle.hlc_execution.specs.Slots.{AreSlots, events_of_slots, forced_of, previous_of_slots, stamps_of_slots}
use Rattle.hlc_execution.proofs.Forced.{forced-ruled}
use Rattle.hlc_execution.proofs.OwnRules.{own_before, small_floors_with}
use Rattle.hlc_execution.proofs.SlotEvents.{length-events_of_slots, length-stamps_of_slots}
use Rattle.hlc_execution.proofs.execution.Execution.give_rule.Goals as goal

module _ (c : goal.After-give) where
  abbrev rules : ClockRules
  rules = c.self.inside.rules

  abbrev Holds : ClockRules → Type 0
  Holds others = AreSlots others c.self.inside.slots c.self.inside.ends

  -- they stay right with the rule
  with_it : Holds (with_rule rules c.len.result c.args.rule)
  with_it =
      let slots = c.self.inside.slots.items in
      let kept = c.self.invariant in
      let all = subst (λ (x : StoredExecution). length x.rules.own ≤ length x.events) (sym c.self.view_is) c.requires.none in
      let none : length rules.own ≤ c.len.result = omega (arith, all, c.len.ensures, length-events_of_slots slots) in
      let size = length-stamps_of_slots slots in
      record {
        execution = record {
          few_nodes = kept.execution.few_nodes;
          small_floors = small_floors_with rules c.len.result c.args.rule none c.requires.small kept.execution.small_floors;
          few = kept.execution.few;
          stamped = kept.execution.stamped;
          each = kept.execution.each;
        };
        linked = kept.linked;
        forced =
            forced-ruled rules (with_rule rules c.len.result c.args.rule) (events_of_slots slots) (stamps_of_slots slots) (previous_of_slots slots)
            (forced_of slots) refl (λ k lt. sym (own_before rules c.len.result c.args.rule none k (omega (arith, lt, size, c.len.ensures)))) kept.forced;
        each_node = kept.each_node;
      }

  by_result : {E : Type 0} (result : Result (Unit {0}) E) → OnOk result (c.give.new.self ≡ with_rule rules c.len.result c.args.rule)
      → OnErr result (c.give.new.self ≡ rules) → Holds c.give.new.self
  by_result (Ok done) given unchanged = subst Holds (sym given) with_it
  by_result (Err fault) given unchanged = subst Holds (sym unchanged) c.self.invariant

pub invariant_of-self : goal.invariant_of-self
invariant_of-self c = by_result c c.give.result c.give.ensures.given c.give.ensures.unchanged
