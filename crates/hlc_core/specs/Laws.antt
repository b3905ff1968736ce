-- The laws of clusters: what is true after any requests.
use Rattle.std.specs.Prelude.{◌≡◌, ◌⊎◌, ◌↔◌, ℕ, ◌<◌, ◌≤◌, List, Option, Some, None, Result, Err, length}
use Rattle.hlc_causality.specs.Explanation.{IsExplained, IsExplainedBy}
use Rattle.hlc_arena.specs.ClockRule.{HasLeastStamps, drift_of}
use Rattle.hlc_arena.specs.EntryLaws.{IsGreatestKnown, KnowTheSame}
use Rattle.hlc_arena.specs.History.{causality_of, stamps_of}
use Rattle.hlc_arena.specs.Known.{everywhere}
use Rattle.hlc_table.specs.Rows.{Row, entry_at}
use Rattle.hlc_core.specs.declared.accepted.Accepted.{Accepted}
use Rattle.hlc_core.specs.declared.refusal.Refusal.{Refusal}
use Rattle.hlc_core.specs.declared.refusal.Refusal.TheVariants.{Memory}
use Rattle.hlc_core.specs.Asked.{Asked, StepsAlong, StepsTo, ToAct}
use Rattle.hlc_core.specs.Request.{Request}
use Rattle.hlc_core.specs.Sound.{IsSound}
use Rattle.hlc_core.specs.State.{State, new_refusal, new_state}
use Rattle.hlc_core.specs.Step.{IsAnswered}
use Rattle.hlc_table.specs.Tables.{IsTableOf, entry_for, table_rows}

-- what comes of a request is its step, unless memory is refused and nothing changes
abbrev pub AnswersStep : Type 0
AnswersStep = (old new : State) (node reading : ℕ) (request : Request) (result : Result Accepted Refusal) → IsAnswered old node reading request result new →
    StepsTo old (ToAct node reading request) new ⊎ ((result ≡ Err Memory) × (new ≡ old))

-- a new cluster is sound
abbrev pub NewIsSound : Type 0
NewIsSound = (nodes capacity : ℕ) (limit : Option ℕ) → new_refusal nodes capacity ≡ None → IsSound (new_state nodes capacity limit)

-- so is what any requests make of it
abbrev pub StaysSound : Type 0
StaysSound = (old new : State) (asked : List Asked) → IsSound old → StepsAlong old asked new → IsSound new

-- there is a state after any requests
abbrev pub SomeStateFollows : Type 0
SomeStateFollows = (old : State) (asked : List Asked) → (new : State) × StepsAlong old asked new

-- and only one
abbrev pub OneStateFollows : Type 0
OneStateFollows = (old new other : State) (asked : List Asked) → StepsAlong old asked new → StepsAlong old asked other → new ≡ other

-- the tables of nodes that know the same writes have the same entry of every key
abbrev pub TablesConverge : Type 0
TablesConverge = (s : State) (node other : ℕ) → IsSound s → KnowTheSame s.history.events everywhere node everywhere other →
    (key : List ℕ) → entry_at (table_rows s.history.events node) key ≡ entry_at (table_rows s.history.events other) key

-- a node has only one table, the rows that are kept for it: rows of which one is missing, foreign, doubled or elsewhere are none
abbrev pub TablesAreUnique : Type 0
TablesAreUnique = (s : State) (node : ℕ) (rows : List Row) → IsSound s → IsTableOf s.history.events node rows → rows ≡ table_rows s.history.events node

-- what is promised of a state: its stamps are least, there is a chain for each of them, and the rows of each node are its table and nothing
-- else
pub record KeepsThePromise (s : State) : Type 0 where
  pub least : HasLeastStamps s.history.events
  pub explained : (e : ℕ) → e < length s.history.events →
      (chain : List ℕ) × IsExplainedBy (causality_of s.history.events) (stamps_of s.history.events) e chain
  pub tables : (node : ℕ) → IsTableOf s.history.events node (table_rows s.history.events node)

-- every state that follows any requests to a new cluster keeps the promise
abbrev pub EveryScheduleKeepsThePromise : Type 0
EveryScheduleKeepsThePromise = (nodes capacity : ℕ) (limit : Option ℕ) (asked : List Asked) (s : State) → new_refusal nodes capacity ≡ None →
    StepsAlong (new_state nodes capacity limit) asked s → KeepsThePromise s

-- in a state that keeps the promise each stamp is explained by a chain
abbrev pub StampsAreExplained : Type 0
StampsAreExplained = (s : State) (e : ℕ) → KeepsThePromise s → e < length s.history.events →
    (chain : List ℕ) × IsExplained (causality_of s.history.events) (stamps_of s.history.events) e chain

-- the entry that a node's rows have for a key is exactly the known write of that key that none exceeds in rank
abbrev pub TablesShowGreatest : Type 0
TablesShowGreatest = (s : State) (node : ℕ) (key : List ℕ) (w : ℕ) → IsSound s →
    (entry_at (table_rows s.history.events node) key ≡ Some (entry_for s.history.events w)) ↔ IsGreatestKnown s.history.events everywhere node key w

-- with a limit, no drift exceeds it after any requests to a new cluster
abbrev pub DriftsStayWithin : Type 0
DriftsStayWithin = (nodes capacity limit : ℕ) (asked : List Asked) (s : State) → new_refusal nodes capacity ≡ None →
    StepsAlong (new_state nodes capacity (Some limit)) asked s → (e : ℕ) → e < length s.history.events → drift_of s.history.events e ≤ limit
