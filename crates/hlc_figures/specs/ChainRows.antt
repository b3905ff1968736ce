-- The rows of the picture of a chain.
use Rattle.std.specs.Prelude.{ℕ, ◌+◌, ◌-◌, ◌++◌, ◌<◌, ◌≤◌, List, [], ◌∷◌, Option, Some, None, if◌then◌else◌, nat_lt}
use Rattle.hlc_figures.specs.declared.rows.Row.{Row}
use Rattle.hlc_figures.specs.declared.rows.Row.TheVariants.{Between, Chained}
use Rattle.hlc_figures.specs.declared.standing.Standing.{Standing}

-- how many events lie between two
abbrev pub between : (d e : ℕ) → ℕ
between d e = e - d - 1

-- the row of the next event of a chain: the next one, or that after the row that counts what lies between, if anything does
abbrev pub next_row : (before : Option Standing) → ℕ → ℕ
next_row None e = 0
next_row (Some d) e = if nat_lt 0 (between d.event.0 e) then d.row + 2 else d.row + 1

-- where an event of a chain stands after another
abbrev pub standing : (before : Option Standing) → ℕ → Standing
standing before e = record { event = record { 0 = e }; row = next_row before e }

-- the row that counts what lies between, if anything does
abbrev pub gap_rows : (before : Option Standing) → ℕ → List Row
gap_rows None e = []
gap_rows (Some d) e =
    if nat_lt 0 (between d.event.0 e) then Between (record { count = between d.event.0 e; row = d.row + 1 }) ∷ [] else []

-- the rows of a chain: its events in order, and between two that aren't next to one another one that counts what lies there
abbrev pub rows_from : (before : Option Standing) → List ℕ → List Row
rows_from before [] = []
rows_from before (e ∷ chain) =
    gap_rows before e ++ Chained (record { at = standing before e; before = before }) ∷ rows_from (Some (standing before e)) chain

abbrev pub rows_of : List ℕ → List Row
rows_of chain = rows_from None chain

-- the event before, if there is one, is earlier, and stands in no later row than there were events
abbrev pub StandsBefore : Option Standing → ℕ → Type 0
StandsBefore None e = Unit {0}
StandsBefore (Some d) e = (d.event.0 < e) × (d.row ≤ d.event.0)

-- each event of a list is later than the one before it
abbrev pub RisesAfter : ℕ → List ℕ → Type 0
RisesAfter d [] = Unit {0}
RisesAfter d (e ∷ list) = (d < e) × RisesAfter e list

abbrev pub IsRising : List ℕ → Type 0
IsRising [] = Unit {0}
IsRising (e ∷ list) = RisesAfter e list
