-- Names as text of a picture, cut in the middle where there is no room for all of one.
use Rattle.std.specs.Prelude.{◌≡◌, ℕ, ◌+◌, ◌-◌, ◌/◌, ◌++◌, ◌<◌, ◌≤◌, All, Bool, IsTrue, List, [], ◌∷◌, if◌then◌else◌, nat_le}
use Rattle.hlc_svg.specs.Label.{label_text, label_width}
use Rattle.hlc_svg.specs.LabelLaws.{IsHarmless}

-- whether there is room for all of some bytes: with room for two characters more, a label that is cut would be wider than that
unfoldable pub fits : (room : ℕ) → List ℕ → Bool
fits room bytes = nat_le (label_width (room + 2) bytes) room

-- the longest end of bytes that there is room for
abbrev pub end_within : (room : ℕ) → List ℕ → List ℕ
end_within room [] = []
end_within room (b ∷ bytes) = if fits room (b ∷ bytes) then b ∷ bytes else end_within room bytes

-- how many characters stand on either side of two dots
abbrev pub side_room : ℕ → ℕ
side_room room = (room - 2) / 2

-- bytes as they are shown, or if there is no room for all of them, their beginning, which ends in two dots, and their end
abbrev pub cut_text : (room : ℕ) → List ℕ → List ℕ
cut_text room bytes =
    if fits room bytes then label_text room bytes else
    label_text (side_room room) bytes ++ label_text (side_room room) (end_within (side_room room) bytes)

-- how many characters are seen of that
abbrev pub cut_width : (room : ℕ) → List ℕ → ℕ
cut_width room bytes =
    if fits room bytes then label_width room bytes else
    label_width (side_room room) bytes + label_width (side_room room) (end_within (side_room room) bytes)

-- as many as there is room for, if there is room for the dots
abbrev pub CutLabelsFit : Type 0
CutLabelsFit = (room : ℕ) (bytes : List ℕ) → 2 ≤ room → cut_width room bytes ≤ room

-- what there is room for is shown as if there were more room
abbrev pub FittingLabelsAreWhole : Type 0
FittingLabelsAreWhole = (room more : ℕ) (bytes : List ℕ) → IsTrue (fits room bytes) → cut_text room bytes ≡ label_text (room + more) bytes

-- what stands after the dots is an end of the bytes, and all of it is shown
abbrev pub EndsAreEnds : Type 0
EndsAreEnds = (room : ℕ) (bytes : List ℕ) →
    IsTrue (fits room (end_within room bytes)) × ((front : List ℕ) × (front ++ end_within room bytes ≡ bytes))

-- and all of it is text and nothing else, whatever bytes it is of
abbrev pub CutLabelsAreHarmless : Type 0
CutLabelsAreHarmless = (room : ℕ) (bytes : List ℕ) → All (λ b. b < 256) bytes → IsHarmless (cut_text room bytes)
