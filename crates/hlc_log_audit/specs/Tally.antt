-- What is counted of the events of each node, one after another.
use Rattle.std.specs.Prelude.{◌≡◌, ◌==◌, Bool, ℕ, ◌+◌, ◌<◌, List, Option, Some, None, count_by, if◌then◌else◌, length, nat_le, option_map, slice_index_or, take}
use Rattle.hlc_causality.specs.NodeEvents.{drift_at}
use Rattle.hlc_ordered_log.specs.InOrder.{LogInOrder, reading_told, skeleton_of}
use Rattle.hlc_log_audit.specs.ToldDrift.{furthest_told}
use Rattle.hlc_log_audit.specs.declared.tally.Furthest.{Furthest}
use Rattle.hlc_log_audit.specs.declared.tally.NodeTally.{NodeTally}

-- a node without events
abbrev pub no_tally : NodeTally
no_tally = record { events = 0; furthest = None }

-- of the furthest event so far, if there is one, and a later one, the one that is further ahead, and the first if they tie
abbrev pub further : Option Furthest → Furthest → Furthest
further None later = later
further (Some furthest) later = if nat_le later.ahead furthest.ahead then furthest else later

-- one event more, whose reading may be told
abbrev pub with_event : NodeTally → Furthest → (is_told : Bool) → NodeTally
with_event tally later is_told =
    record { events = tally.events + 1; furthest = if is_told then Some (further tally.furthest later) else tally.furthest }

-- how far the event at e is ahead, by its least stamp
abbrev pub furthest_at : LogInOrder → ℕ → Furthest
furthest_at log e = record { event = record { 0 = e }; ahead = drift_at (skeleton_of log) log.least e }

-- the first event that is furthest ahead among those of a node's first n events whose reading is told
abbrev pub furthest_in : LogInOrder → (n node : ℕ) → Option Furthest
furthest_in log n node = option_map (furthest_at log) (furthest_told (skeleton_of log) (reading_told log) log.least node n)

-- what of a node's events is among the first n of the order
abbrev pub tally_before : LogInOrder → (n node : ℕ) → NodeTally
tally_before log n node =
    record { events = count_by (λ event. event.node == node) (take n (skeleton_of log)); furthest = furthest_in log n node }

-- a tally for each node
pub record AreTalliesBefore (log : LogInOrder) (n : ℕ) (tallies : List NodeTally) : Type 0 where
  pub nodes : length tallies ≡ log.nodes
  pub each : (node : ℕ) → node < log.nodes → slice_index_or tallies node no_tally ≡ tally_before log n node

-- the same of all events
abbrev pub AreTallies : LogInOrder → List NodeTally → Type 0
AreTallies log tallies = AreTalliesBefore log (length log.events) tallies
