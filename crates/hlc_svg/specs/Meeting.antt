-- Lines that don't lie on one another.
use Rattle.std.specs.Prelude.{◌≡◌, ◌≢◌, ◌⊎◌, List, [], ◌∷◌}
use Rattle.hlc_svg.specs.declared.shapes.Point.{Point}

-- a straight line between two points is slanted, upright or level
abbrev pub IsSlanted : (p q : Point) → Type 0
IsSlanted p q = (p.x ≢ q.x) × (p.y ≢ q.y)

abbrev pub IsUpright : (p q : Point) → Type 0
IsUpright p q = p.x ≡ q.x

abbrev pub IsLevel : (p q : Point) → Type 0
IsLevel p q = p.y ≡ q.y

-- two lines have no more than a point in common: one is slanted and the other isn't, or one is upright and the other level, or both are upright, at
-- different places
abbrev pub LinesMeet : (p q r s : Point) → Type 0
LinesMeet p q r s =
    (IsSlanted p q × (IsUpright r s ⊎ IsLevel r s)) ⊎ ((IsUpright p q × IsLevel r s) ⊎ (IsUpright p q × IsUpright r s × (p.x ≢ r.x)))

-- nor has a line with any line of a path, nor any line of a path with any of another
abbrev pub LineMeets : (p q : Point) → List Point → Type 0
LineMeets p q [] = Unit {0}
LineMeets p q (r ∷ []) = Unit {0}
LineMeets p q (r ∷ s ∷ rest) = LinesMeet p q r s × LineMeets p q (s ∷ rest)

abbrev pub LieApart : List Point → List Point → Type 0
LieApart [] path = Unit {0}
LieApart (p ∷ []) path = Unit {0}
LieApart (p ∷ q ∷ rest) path = LineMeets p q path × LieApart (q ∷ rest) path
