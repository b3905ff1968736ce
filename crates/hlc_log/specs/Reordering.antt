-- Skeletons and logs that have the same events in different orders.
use Rattle.std.specs.Prelude.{◌≡◌, ◌↔◌, ℕ, ◌<◌, Some, List, length}
use Rattle.hlc_stamp.specs.Order.{Pair}
use Rattle.hlc_causality.specs.declared.receives.Receives.{Receives}
use Rattle.hlc_causality.specs.Assignment.{pair_at}
use Rattle.hlc_causality.specs.Causality.{IsEarlierAtNode, IsSendOf, Skeleton, skeleton_at}
use Rattle.hlc_causality.specs.ClockEvents.{ClockEvents, clock_event_at, clock_skeleton}
use Rattle.hlc_log.specs.declared.log_event.LogEvent.{LogEvent}
use Rattle.hlc_log.specs.CausalOrder.{IsEarlierOf}
use Rattle.hlc_log.specs.Events.{event_at, own_rule}
use Rattle.hlc_log.specs.Messages.{SendsTo}

-- a map takes the events of s to events of t: it keeps readings, what is earlier at each node, and what each delivery delivers
pub record KeepsEvents (s t : Skeleton) (to : ℕ → ℕ) : Type 0 where
  pub exists : (e : ℕ) → e < length s → to e < length t
  pub reading : (e : ℕ) → e < length s → (skeleton_at t (to e)).reading ≡ (skeleton_at s e).reading
  pub at_node : (d e : ℕ) → IsEarlierAtNode s d e → IsEarlierAtNode t (to d) (to e)
  pub send : (d e : ℕ) → IsSendOf s d e → IsSendOf t (to d) (to e)

-- t is a reordering of s: a map takes the events of s to those of t, and another takes them back; nodes may have other numbers
pub record IsReordering (s t : Skeleton) (to back : ℕ → ℕ) : Type 0 where
  pub there : KeepsEvents s t to
  pub here : KeepsEvents t s back
  pub back_here : (e : ℕ) → e < length s → back (to e) ≡ e
  pub back_there : (f : ℕ) → f < length t → to (back f) ≡ f

-- t and u have the same events as clock rules read them: their links are reordered, floors stay, and so does what ticks
pub record IsClockReordering (t u : ClockEvents) (to back : ℕ → ℕ) : Type 0 where
  pub links : IsReordering (clock_skeleton t) (clock_skeleton u) to back
  pub floor : (e : ℕ) → e < length t → (clock_event_at u (to e)).floor ≡ (clock_event_at t e).floor
  pub ticks : (e : ℕ) → e < length t → (clock_event_at u (to e)).ticks ≡ (clock_event_at t e).ticks

-- what an event names as its send is its send
abbrev pub SendsAreNamed : Skeleton → Type 0
SendsAreNamed s = (d f : ℕ) → (skeleton_at s f).send ≡ Some d → IsSendOf s d f

-- the events that correspond have equal pairs
abbrev pub HaveEqualPairs : Skeleton → (to : ℕ → ℕ) → (pairs others : List Pair) → Type 0
HaveEqualPairs s to pairs others = (e : ℕ) → e < length s → pair_at pairs e ≡ pair_at others (to e)

-- the events of node a in s are those of node b in t
abbrev pub IsSameNode : Skeleton → Skeleton → (to : ℕ → ℕ) → (a b : ℕ) → Type 0
IsSameNode s t to a b = (e : ℕ) → e < length s → ((skeleton_at s e).node ≡ a) ↔ ((skeleton_at t (to e)).node ≡ b)

-- a map takes the events of a log to those of another: it keeps readings, which of them and of stamps are told, what messages carried, rules of their own
-- whatever clocks do at receives, what is earlier at each node, and who sends what is received
pub record KeepsLog (events others : List LogEvent) (to : ℕ → ℕ) : Type 0 where
  pub exists : (e : ℕ) → e < length events → to e < length others
  pub reading : (e : ℕ) → e < length events → (event_at others (to e)).reading ≡ (event_at events e).reading
  pub has_reading : (e : ℕ) → e < length events → (event_at others (to e)).has_reading ≡ (event_at events e).has_reading
  pub has_stamp : (e : ℕ) → e < length events → (event_at others (to e)).has_stamp ≡ (event_at events e).has_stamp
  pub carried : (e : ℕ) → e < length events → (event_at others (to e)).carried ≡ (event_at events e).carried
  pub rule : (receives : Receives) (e : ℕ) → e < length events → own_rule receives (event_at others (to e)) ≡ own_rule receives (event_at events e)
  pub at_node : (d e : ℕ) → IsEarlierOf events d e → IsEarlierOf others (to d) (to e)
  pub sends : (d e : ℕ) → SendsTo events d e → SendsTo others (to d) (to e)

-- a log is a reordering of another, for instance of the logs of several nodes, put one after another: a map takes the events of one to
-- those of the other, and another takes them back; nodes and messages may have other numbers
pub record IsReorderedLog (events others : List LogEvent) (to back : ℕ → ℕ) : Type 0 where
  pub there : KeepsLog events others to
  pub here : KeepsLog others events back
  pub back_here : (e : ℕ) → e < length events → back (to e) ≡ e
  pub back_there : (f : ℕ) → f < length others → to (back f) ≡ f

-- the events that correspond claim equal stamps
abbrev pub KeepsClaims : (events others : List LogEvent) → (to : ℕ → ℕ) → Type 0
KeepsClaims events others to = (e : ℕ) → e < length events → (event_at others (to e)).stamp ≡ (event_at events e).stamp
