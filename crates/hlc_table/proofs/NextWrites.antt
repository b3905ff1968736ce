-- Of one rank there is one write, in a history with least stamps.
use Rattle.std.proofs.Common.{◌≡◌, ◌∙◌, ℕ, ◌<◌, List, [], ◌∷◌, ◌++◌, length, arith, refl, subst, sym, ap, Option, Some, None}
use Rattle.std.specs.Prelude.{All, IfSome, filter, option_map}
use Rattle.std.specs.Str.{bytes_eq}
use Rattle.std.proofs.lemmas.List.{length_push}
use Rattle.std.proofs.lemmas.List.Elements.{All-filter, All-head, All-tail}
use Rattle.hlc_stamp.specs.declared.rank.Rank.{Rank}
use Rattle.hlc_arena.specs.History.{StampedEvent}
use Rattle.hlc_arena.specs.Known.{entry_of, everywhere, key_at, key_of, known_writes, rank_at}
use Rattle.hlc_arena.specs.KnownSteps.{AllNameEarlier}
use Rattle.hlc_arena.specs.ClockRule.{HasLeastStamps}
use Rattle.hlc_arena.proofs.Entries.{ranks_differ}
use Rattle.hlc_arena.proofs.KnownMore.{known_are_events}
use Rattle.hlc_arena.proofs.Places.{stamped_at-before}
use Rattle.hlc_arena.proofs.Ranks.{greatest_has}
use Rattle.hlc_arena.proofs.StampsRise.{allowed_stamps_rise}
use Rattle.hlc_table.specs.declared.entry.Entry.{Entry}
use Rattle.hlc_table.specs.Rows.{Row, entry_at, learn_entry}
use Rattle.hlc_table.specs.Tables.{OneWriteARank, entry_for, rows_with, table_rows}
use Rattle.hlc_table.proofs.Ranks.{entry_of_event, rank_of}
use Rattle.hlc_table.proofs.TableRows.{entry_at-table_rows}

-- an entry is an event
pub entry_below : (events : List StampedEvent) (node : ℕ) (key : List ℕ) (w : ℕ) → AllNameEarlier events
    → entry_of events everywhere node key ≡ Some w → w < length events
entry_below events node key w earlier is =
    let ws = known_writes events everywhere node in
    greatest_has (rank_at events) (λ v. v < length events) (filter (λ v. bytes_eq key (key_at events v)) ws) w
    (All-filter (λ v. bytes_eq key (key_at events v)) (λ v. v < length events) ws (known_are_events events earlier everywhere node)) is

-- the entry of a rank is the write of that rank
held_is : (others : List StampedEvent) (x : StampedEvent) (w : ℕ) (o : Option ℕ) → HasLeastStamps (others ++ x ∷ [])
    → w < length (others ++ x ∷ []) → ((v : ℕ) → o ≡ Some v → v < length others)
    → IfSome (option_map (entry_for others) o) (λ held. held.rank ≡ rank_at (others ++ x ∷ []) w → held.write ≡ record { 0 = w })
held_is others x w None least exists below = tt
held_is others x w (Some v) least exists below = λ same.
    let more = others ++ x ∷ [] in
    let lt = below v refl in
    let size = length_push others x in
    let within : v < length more = omega arith in
    let stays : rank_at more v ≡ rank_at others v = ap rank_of (stamped_at-before others x v lt) in
    let one : v ≡ w = ranks_differ more (allowed_stamps_rise more least.allowed) v w within exists (stays ∙ same) in
    ap (λ (n : ℕ). (entry_for others n).write) one

-- so the table of before can learn what the next event makes known
pub one_write_a_rank-next : (others : List StampedEvent) (x : StampedEvent) (node : ℕ) → AllNameEarlier others
    → HasLeastStamps (others ++ x ∷ []) → OneWriteARank (others ++ x ∷ []) (table_rows others node)
one_write_a_rank-next others x node earlier least key w exists =
    let of_write : Entry → Type 0 = λ held. held.rank ≡ rank_at (others ++ x ∷ []) w → held.write ≡ record { 0 = w } in
    subst (λ (o : Option Entry). IfSome o of_write) (sym (entry_at-table_rows others node key))
    (held_is others x w (entry_of others everywhere node key) least exists (λ v is. entry_below others node key v earlier is))

-- with an event less it is so as well
pub one_write_a_rank-before : (others : List StampedEvent) (x : StampedEvent) (rows : List Row) → OneWriteARank (others ++ x ∷ []) rows
    → OneWriteARank others rows
one_write_a_rank-before others x rows one key w exists =
    let size = length_push others x in
    let stays : rank_at (others ++ x ∷ []) w ≡ rank_at others w = ap rank_of (stamped_at-before others x w exists) in
    subst (λ (r : Rank). IfSome (entry_at rows key) (λ held. held.rank ≡ r → held.write ≡ record { 0 = w })) stays (one key w (omega arith))

-- the key and the entry of a write that was there stay
learnt_before : (others : List StampedEvent) (x : StampedEvent) (rows : List Row) (w : ℕ) → w < length others
    → learn_entry rows (key_at (others ++ x ∷ []) w) (entry_for (others ++ x ∷ []) w)
    ≡ learn_entry rows (key_at others w) (entry_for others w)
learnt_before others x rows w exists =
    ap (λ (y : StampedEvent). learn_entry rows (key_of y.event.kind) (entry_of_event w y)) (stamped_at-before others x w exists)

-- so writes that were there are learnt as before
pub rows_with-before : (others : List StampedEvent) (x : StampedEvent) (rows : List Row) (writes : List ℕ)
    → All (λ w. w < length others) writes → rows_with others rows writes ≡ rows_with (others ++ x ∷ []) rows writes
rows_with-before others x rows [] all = refl
rows_with-before others x rows (w ∷ writes) all =
    let more = others ++ x ∷ [] in
    ap (λ (rs : List Row). rows_with others rs writes) (sym (learnt_before others x rows w (All-head (λ v. v < length others) w writes all)))
    ∙ rows_with-before others x (learn_entry rows (key_at more w) (entry_for more w)) writes (All-tail (λ v. v < length others) w writes all)
