-- The rules that events have of their own have small floors.
use Rattle.std.proofs.Common.{◌≡◌, ℕ, ◌<◌, ◌≤◌, Bool, true, false, Option, Some, None, arith, refl}
use Rattle.std.specs.Prelude.{IfSome, if◌then◌else◌, unwrap_or}
use Rattle.std.specs.Ordering.{is_le}
use Rattle.hlc_stamp.specs.Order.{Pair, stamp_cmp, zero_pair}
use Rattle.hlc_causality.specs.declared.event_rule.TheConstants.{MAX_FLOOR_C}
use Rattle.hlc_causality.specs.declared.receives.Receives.{Receives}
use Rattle.hlc_causality.specs.declared.receives.Receives.TheVariants.{Merge, MergeClock, Tick}
use Rattle.hlc_causality.specs.LeastFeasible.{greater, next_pair}
use Rattle.hlc_log.specs.declared.log_event.LogEvent.{LogEvent}
use Rattle.hlc_log.specs.declared.log_event.LogKind.{LogKind}
use Rattle.hlc_log.specs.declared.log_event.LogKind.TheVariants.{Local, Outside, Receive, Restart, Send}
use Rattle.hlc_log.specs.Events.{IsInRange, IsSmallCarried, outside_rule, own_rule, receive_at, rule_by}

-- a c that at most is so much, or less
greater_is_small : (n : ℕ) (p q : Pair) → p.c ≤ n → q.c ≤ n → (greater p q).c ≤ n
greater_is_small n p q p_small q_small = by_test (is_le (stamp_cmp p q))
  where
    by_test : (test : Bool) → (if test then q else p).c ≤ n
    by_test true = q_small
    by_test false = p_small

next_is_small : (ticks : Bool) (p : Pair) → p.c < MAX_FLOOR_C → (next_pair ticks p).c ≤ MAX_FLOOR_C
next_is_small true p small = omega (arith, small)
next_is_small false p small = omega (arith, small)

-- a receive's floor is a reading
receive_floor : (receives : Receives) (reading : ℕ) → (receive_at receives reading).floor.c ≤ MAX_FLOOR_C
receive_floor Tick reading = omega arith
receive_floor Merge reading = omega arith
receive_floor MergeClock reading = omega arith

carried_is_small : (carried : Option Pair) → IsSmallCarried carried → (unwrap_or carried zero_pair).c < MAX_FLOOR_C
carried_is_small None small = omega arith
carried_is_small (Some p) small = small

pub outside_floor_is_small : (receives : Receives) (reading : ℕ) (carried : Pair) → carried.c < MAX_FLOOR_C
    → (outside_rule receives reading carried).floor.c ≤ MAX_FLOOR_C
outside_floor_is_small receives reading carried small =
    let asked = receive_at receives reading in
    greater_is_small MAX_FLOOR_C asked.floor (next_pair asked.ticks carried) (receive_floor receives reading) (next_is_small asked.ticks carried small)

-- so each rule that an event in range has of its own leaves room for each c above its floor
pub own_floor_is_small : (receives : Receives) (event : LogEvent) → IsInRange event → IfSome (own_rule receives event) (λ rule. rule.floor.c ≤ MAX_FLOOR_C)
own_floor_is_small receives event h = by_kind event.kind h.floor
  where
    by_kind : (kind : LogKind) → (kind ≡ Restart → event.stamp.c ≤ MAX_FLOOR_C) → IfSome (rule_by receives event kind) (λ rule. rule.floor.c ≤ MAX_FLOOR_C)
    by_kind Local floor = tt
    by_kind (Send m) floor = tt
    by_kind (Receive m) floor = tt
    by_kind Restart floor = floor refl
    by_kind Outside floor = outside_floor_is_small receives event.reading (unwrap_or event.carried zero_pair) (carried_is_small event.carried h.carried)
