-- Of one rank there is one write, and what an event makes known is writes.
use Rattle.std.proofs.Common.{◌≡◌, ℕ, ◌<◌, ◌≤◌, Bool, true, false, cond, List, [], ◌∷◌, get_or, length, map, arith, refl, subst, ap, Option, Some, None}
use Rattle.std.specs.Prelude.{All, IfSome, filter, option_map}
use Rattle.std.specs.List.{AllByRecursion, Contains, cons_option, flat_map}
use Rattle.std.specs.Str.{bytes_eq}
use Rattle.std.proofs.lemmas.List.{get_or-map, length-map}
use Rattle.std.proofs.lemmas.List.Elements.{All-contains_itself, All-filter, All-weaker}
use Rattle.hlc_stamp.specs.declared.id.EventId.{EventId}
use Rattle.hlc_arena.specs.EntryLaws.{AllNamesFit, Knows, StampsRise}
use Rattle.hlc_arena.specs.History.{AreWrites, Delivered, Erased, EventKind, IsWrite, Sent, StampedEvent, Synced, Written, event_at}
use Rattle.hlc_arena.specs.Known.{Rows, everywhere, first_keys, greatest_of_key, key_at, learnt_at, rank_at, writes_learnt}
use Rattle.hlc_causality.specs.Places.{places_below}
use Rattle.hlc_arena.specs.KnownSteps.{rows_from}
use Rattle.hlc_arena.proofs.Entries.{ranks_differ}
use Rattle.hlc_arena.proofs.KnownMore.{all_from_places, learnt_are_events}
use Rattle.hlc_arena.proofs.KnownWrites.{events_make_known_lem, fit_names_are_earlier, known_exists, known_is_write}
use Rattle.hlc_arena.proofs.Ranks.{greatest_has}
use Rattle.hlc_arena.proofs.RowSteps.{Key, rows_by}
use Rattle.hlc_arena.proofs.StampsRise.{allowed_stamps_rise}
use Rattle.hlc_arena.specs.ClockRule.{HasLeastStamps}
use Rattle.hlc_table.specs.declared.entry.Entry.{Entry}
use Rattle.hlc_table.specs.Rows.{entry_at}
use Rattle.hlc_table.specs.Tables.{OneWriteARank, entry_for, rows_before, table_row}

-- what an event makes known is known at its node, and a write
known_at_its_node : (events : List StampedEvent) (e w : ℕ) → e < length events
    → Contains (writes_learnt events e (event_at events e).kind) w → Knows events everywhere (event_at events e).node w
known_at_its_node events e w exists is =
    let makes_known = events_make_known_lem events everywhere (event_at events e).node w in
    makes_known.1 (e, refl, record { exists = exists; at_node = refl; learnt = is })

pub made_known_exists : (events : List StampedEvent) → AllNamesFit events → (e w : ℕ) → e < length events
    → Contains (writes_learnt events e (event_at events e).kind) w → w < length events
made_known_exists events fit e w exists is =
    known_exists events fit everywhere (event_at events e).node w (known_at_its_node events e w exists is)

pub made_known_is_write : (events : List StampedEvent) → AllNamesFit events → (e w : ℕ) → e < length events
    → Contains (writes_learnt events e (event_at events e).kind) w → IsWrite (event_at events w).kind
made_known_is_write events fit e w exists is =
    known_is_write events fit everywhere (event_at events e).node w (known_at_its_node events e w exists is)

row_below : (n : ℕ) (key : Key) (o : Option ℕ) (rows : List (Key × ℕ)) → ((w : ℕ) → o ≡ Some w → w < n)
    → AllByRecursion (λ row. row.1 < n) rows → AllByRecursion (λ row. row.1 < n) (cons_option (option_map (λ w. (key, w)) o) rows)
row_below n key None rows h all = all
row_below n key (Some w) rows h all = (h w refl, all)

writes_below : (n : ℕ) (g : Key → Option ℕ) (keys : List Key) → ((key : Key) (w : ℕ) → g key ≡ Some w → w < n)
    → AllByRecursion (λ row. row.1 < n) (rows_by g keys)
writes_below n g [] h = tt
writes_below n g (k ∷ keys) h = row_below n k (g k) (rows_by g keys) (h k) (writes_below n g keys h)

from_are_events : (events : List StampedEvent) (node n : ℕ) → AllNamesFit events → n ≤ length events
    → AllByRecursion (λ row. row.1 < length events) (rows_from events everywhere node n)
from_are_events events node n fit le =
    let ws = flat_map (learnt_at events everywhere node) (places_below n) in
    let earlier = fit_names_are_earlier events fit in
    let below = all_from_places (λ w. w < length events) (learnt_at events everywhere node) n
    (λ e lt. learnt_are_events events earlier everywhere node e (omega arith)) in
    writes_below (length events) (greatest_of_key events ws) (first_keys (map (key_at events) ws))
    (λ key w is. greatest_has (rank_at events) (λ v. v < length events) (filter (λ v. bytes_eq key (key_at events v)) ws) w
    (All-filter (λ v. bytes_eq key (key_at events v)) (λ v. v < length events) ws below) is)

module _ (events : List StampedEvent) (rise : StampsRise events) where
  one_of_rank : (w v : ℕ) → w < length events → v < length events → rank_at events v ≡ rank_at events w
      → (entry_for events v).write ≡ (entry_for events w).write
  one_of_rank w v w_lt v_lt same = ap (λ n. (entry_for events n).write) (ranks_differ events rise v w v_lt w_lt same)

  -- an entry that is held is a write, if it has the rank of that write
  abbrev IsOneOfRank : ℕ → Option Entry → Type 0
  IsOneOfRank w o = IfSome o (λ held. held.rank ≡ rank_at events w → held.write ≡ (entry_for events w).write)

  held_one : (w : ℕ) (key : Key) (row : Key × ℕ) (rows : Rows) (t : Bool) → w < length events → row.1 < length events
      → IsOneOfRank w (entry_at (map (table_row events) rows) key)
      → IsOneOfRank w (cond t (Some (entry_for events row.1)) (entry_at (map (table_row events) rows) key))
  held_one w key row rows true w_lt lt more = λ same. one_of_rank w row.1 w_lt lt same
  held_one w key row rows false w_lt lt more = more

  one_write : (w : ℕ) (key : Key) (rows : Rows) → w < length events → AllByRecursion (λ row. row.1 < length events) rows
      → IsOneOfRank w (entry_at (map (table_row events) rows) key)
  one_write w key [] w_lt all = tt
  one_write w key (row ∷ rows) w_lt all = held_one w key row rows (bytes_eq key row.0) w_lt all.0 (one_write w key rows w_lt all.1)

pub one_write_a_rank : (events : List StampedEvent) (node n : ℕ) → AllNamesFit events → HasLeastStamps events → n ≤ length events
    → OneWriteARank events (rows_before events node n)
one_write_a_rank events node n fit least le key w lt =
    let rows = rows_from events everywhere node n in
    one_write events (allowed_stamps_rise events least.allowed) w key rows lt (from_are_events events node n fit le)

-- of a write it is the write itself
pub own_write : (events : List StampedEvent) (e : ℕ) (k : EventKind) → IsWrite k → writes_learnt events e k ≡ e ∷ []
own_write events e (Written key value) is = refl
own_write events e (Erased key) is = refl
own_write events e (Sent to write) is = absurd is
own_write events e (Synced to writes) is = absurd is
own_write events e (Delivered sent) is = absurd is

-- what an event makes known is writes
pub learnt_at_event : (events : List StampedEvent) → AllNamesFit events → (e : ℕ) → e < length events
    → AreWrites events (writes_learnt events e (event_at events e).kind)
learnt_at_event events fit e exists =
    let ws = writes_learnt events e (event_at events e).kind in
    All-weaker (Contains ws) (λ w. (w < length events) × IsWrite (event_at events w).kind)
    (λ w is. (made_known_exists events fit e w exists is, made_known_is_write events fit e w exists is)) ws (All-contains_itself ws)

-- what all of some writes have, the one at a place has
pub holds_there : (P : ℕ → Type 0) (writes : List EventId) (k : ℕ) (d : EventId) → All P (map (λ w. w.0) writes) → k < length writes
    → P (get_or writes k d).0
holds_there P writes k d all lt =
    let size = length-map writes (λ (w : EventId). w.0) in
    subst P (get_or-map (λ (w : EventId). w.0) writes k d 0 lt) (all k 0 (omega arith))

-- the write at a place of some
pub write_there : (events : List StampedEvent) (writes : List EventId) (k : ℕ) (d : EventId)
    → AreWrites events (map (λ w. w.0) writes) → k < length writes
    → ((get_or writes k d).0 < length events) × IsWrite (event_at events (get_or writes k d).0).kind
write_there events writes k d all lt = holds_there (λ w. (w < length events) × IsWrite (event_at events w).kind) writes k d all lt
