-- Turns of nodes, while events get their places.
use Rattle.std.specs.Prelude.{ℕ, ◌+◌, ◌⊎◌, Contains}
use Rattle.std.specs.BinaryHeap.{heap_items, heap_len}
use Rattle.hlc_stamp.specs.declared.id.NodeId.{NodeId}
use Rattle.hlc_log.specs.declared.turns.Turns.{Turns}

-- a node has a turn in this round or in the next
abbrev pub HasTurn : Turns → NodeId → Type 0
HasTurn turns node = Contains (heap_items turns.round) (record { 0 = node }) ⊎ Contains (heap_items turns.next_round) (record { 0 = node })

-- how many turns are left in both
abbrev pub turns_left : Turns → ℕ
turns_left turns = heap_len turns.round + heap_len turns.next_round
