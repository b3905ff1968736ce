-- What the title of a dot tells.
use Rattle.std.specs.Prelude.{ℕ, ◌-◌, ◌++◌, List, Option, Some, None, codes, decimal, if◌then◌else◌, nat_lt}
use Rattle.std.specs.List.{flat_map}
use Rattle.hlc_stamp.specs.Order.{Pair}
use Rattle.hlc_causality.specs.Assignment.{pair_at}
use Rattle.hlc_causality.specs.Causality.{skeleton_at}
use Rattle.hlc_causality.specs.Places.{places_below}
use Rattle.hlc_figures.specs.Content.{Content, node_at}
use Rattle.hlc_figures.specs.Figure.{forcing_at}

-- the event and its node
abbrev pub place_begins : Content → ℕ → List ℕ
place_begins c e = codes "<title>event " ++ (c.event e ++ codes " at ")

unfoldable pub place_text : Content → ℕ → List ℕ
place_text c e = place_begins c e ++ (c.name (node_at c e) ++ codes "\n")

-- what is told of each column
unfoldable pub fact_text : Content → (e column : ℕ) → List ℕ
fact_text c e column = c.fact e column ++ codes "\n"

-- why a least stamp is no lower that no event forces: by the clock or, if that was ahead of it, as it is (0, 0)
abbrev pub own_reason : (l reading : ℕ) → List ℕ
own_reason l reading = if nat_lt l reading then codes "as no stamp is lower" else codes "by its own clock"

-- why the least stamp of an event is no lower
abbrev pub reason_text : Content → ℕ → Option ℕ → List ℕ
reason_text c e None = own_reason (pair_at c.stamps e).l (skeleton_at c.events e).reading
reason_text c e (Some d) = codes "forced by event " ++ c.event d

-- how far l of a stamp is ahead of what the clock read, or behind that
unfoldable pub drift_text : (l reading : ℕ) → List ℕ
drift_text l reading =
    if nat_lt l reading then decimal (reading - l) ++ codes " behind the clock, " else decimal (l - reading) ++ codes " ahead of the clock, "

-- its least stamp
abbrev pub stamp_begins : Pair → List ℕ
stamp_begins p = codes "least stamp: (" ++ (decimal p.l ++ (codes ", " ++ (decimal p.c ++ codes "), ")))

unfoldable pub least_text : Content → ℕ → List ℕ
least_text c e = stamp_begins (pair_at c.stamps e) ++ drift_text (pair_at c.stamps e).l (skeleton_at c.events e).reading

unfoldable pub title_text : Content → ℕ → List ℕ
title_text c e =
    place_text c e ++ (flat_map (fact_text c e) (places_below c.columns) ++ (least_text c e ++ (reason_text c e (forcing_at c e) ++ codes "</title>")))
