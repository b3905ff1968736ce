-- Executions as they are kept, and what is always true of them.
use Rattle.std.specs.Prelude.{◌≡◌, ◌↔◌, ℕ, ◌<◌, ◌≤◌, ◌^◌, None, List, length, take, IfSome}
use Rattle.hlc_stamp.specs.declared.limits.TheConstants.{MAX_CAPACITY}
use Rattle.hlc_stamp.specs.Order.{Pair}
use Rattle.hlc_causality.specs.declared.receives.Receives.TheVariants.{Tick}
use Rattle.hlc_causality.specs.Assignment.{IsLeast}
use Rattle.hlc_causality.specs.Causality.{Skeleton, SkeletonEvent, skeleton_at}
use Rattle.hlc_causality.specs.ClockEvents.{ClockEvents}
use Rattle.hlc_causality.specs.Feasible.{IsLeastFeasible}
use Rattle.hlc_causality.specs.ReceiveEvents.{ClockRules, clock_events, plain_rules}
use Rattle.hlc_execution.specs.Rules.{HaveSmallFloors}

-- an execution as it is kept: the rules of its clocks, how many nodes there are, its events as causality sees them, the stamp of
-- each, and how many more events find room without memory
pub record StoredExecution : Type 0 where
  pub rules : ClockRules
  pub nodes : ℕ
  pub events : Skeleton
  pub stamps : List Pair
  pub room : ℕ

-- the events as the rule of its clocks reads them
abbrev pub clock_of : StoredExecution → ClockEvents
clock_of x = clock_events x.rules x.events

-- its stamps are the least that its clocks can give
abbrev pub HasLeastClockStamps : StoredExecution → Type 0
HasLeastClockStamps x = IsLeastFeasible (clock_of x) x.stamps

-- where each event ticks from its reading on, these are the least by readings alone
abbrev pub TickingLeastIsLeast : Type 0
TickingLeastIsLeast = (x : StoredExecution) → x.rules ≡ plain_rules Tick → IsLeast x.events x.stamps ↔ HasLeastClockStamps x

-- d is an event, and no delivery
abbrev pub IsSource : Skeleton → ℕ → Type 0
IsSource s d = (d < length s) × ((skeleton_at s d).send ≡ None)

-- an event that may come next, after others: a delivery is of an earlier event that is no delivery itself
pub record MayFollow (nodes : ℕ) (others : Skeleton) (e : SkeletonEvent) : Type 0 where
  pub node : e.node < nodes
  pub send : IfSome e.send (IsSource others)

-- what is always true of an execution: its nodes have numbers of 16 bits, its events are within the capacity, each has a stamp, and each
-- may follow those before it
pub record IsExecution (x : StoredExecution) : Type 0 where
  pub few_nodes : x.nodes < 2 ^ 16
  pub small_floors : HaveSmallFloors x.rules
  pub few : length x.events ≤ MAX_CAPACITY
  pub stamped : length x.stamps ≡ length x.events
  pub each : (f : ℕ) → f < length x.events → MayFollow x.nodes (take f x.events) (skeleton_at x.events f)
