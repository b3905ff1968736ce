-- Lines that keep clear of dots.
use Rattle.std.specs.Prelude.{◌⊎◌, ◌+◌, ◌≤◌, List, [], ◌∷◌}
use Rattle.hlc_svg.specs.declared.frame.TheConstants.{HALF_HEIGHT}
use Rattle.hlc_svg.specs.declared.dot.Dot.{Dot}
use Rattle.hlc_svg.specs.declared.shapes.Point.{Point}

-- a line never rises: each of its points is as low as the one before, or lower
abbrev pub NeverRises : List Point → Type 0
NeverRises [] = Unit {0}
NeverRises (p ∷ []) = Unit {0}
NeverRises (p ∷ q ∷ rest) = (p.y ≤ q.y) × NeverRises (q ∷ rest)

-- a point lies so far to the left of a dot, to the right, above or below, that it comes no nearer than half the dot's width, or height
abbrev pub IsLeftOf : Dot → Point → Type 0
IsLeftOf dot p = p.x + dot.half ≤ dot.at.x

abbrev pub IsRightOf : Dot → Point → Type 0
IsRightOf dot p = dot.at.x + dot.half ≤ p.x

abbrev pub IsAbove : Dot → Point → Type 0
IsAbove dot p = p.y + HALF_HEIGHT ≤ dot.at.y

abbrev pub IsBelow : Dot → Point → Type 0
IsBelow dot p = dot.at.y + HALF_HEIGHT ≤ p.y

-- a straight line keeps clear of a dot if both its ends lie on one side of the dot
abbrev pub LineKeepsClear : Dot → (p q : Point) → Type 0
LineKeepsClear dot p q =
    (IsLeftOf dot p × IsLeftOf dot q) ⊎ ((IsRightOf dot p × IsRightOf dot q) ⊎ ((IsAbove dot p × IsAbove dot q) ⊎ (IsBelow dot p × IsBelow dot q)))

-- and a path if each of the lines between its points does
abbrev pub KeepsClear : Dot → List Point → Type 0
KeepsClear dot [] = Unit {0}
KeepsClear dot (p ∷ []) = Unit {0}
KeepsClear dot (p ∷ q ∷ rest) = LineKeepsClear dot p q × KeepsClear dot (q ∷ rest)
