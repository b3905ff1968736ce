-- What the legend says of the dots of a log.
use Rattle.std.specs.Prelude.{ℕ, ◌++◌, List, [], ◌∷◌, codes}
use Rattle.std.specs.List.{join_by}
use Rattle.hlc_causes.specs.declared.answers.Finding.{Finding}
use Rattle.hlc_causes.specs.declared.answers.Finding.TheVariants.{Judged, RolledOver}
use Rattle.hlc_svg.specs.declared.look.Form.{Form}
use Rattle.hlc_svg.specs.declared.look.Form.TheVariants as form
use Rattle.hlc_verdict.specs.declared.verdict.Verdict.TheVariants as verdict
use Rattle.hlc_log_picture.specs.Looks.{form_of}

-- how it names a form
abbrev pub form_words : Form → List ℕ
form_words form.Pill = codes "A pill is "
form_words form.Dip = codes "pointed below: "
form_words form.Box = codes "a box: "
form_words form.Slant = codes "leaning: "
form_words form.Peak = codes "pointed above: "
form_words form.Hexagon = codes "a hexagon: "

-- what it calls what is found of a stamp
abbrev pub finding_words : Finding → List ℕ
finding_words (Judged verdict.Least) = codes "a least stamp"
finding_words (Judged verdict.Behind) = codes "behind its clock"
finding_words (Judged (verdict.NotAbove d)) = codes "not above an event before it"
finding_words (Judged (verdict.Low least)) = codes "low"
finding_words (Judged (verdict.Ahead least)) = codes "ahead"
finding_words RolledOver = codes "carried"

-- and what it says of that: the form of the dot, and what is found
abbrev pub told_of : Finding → List ℕ
told_of found = form_words (form_of found) ++ finding_words found

-- one finding of each kind
abbrev pub kinds : List Finding
kinds =
    Judged verdict.Least ∷ Judged verdict.Behind ∷ Judged (verdict.NotAbove (record { 0 = 0 })) ∷ Judged (verdict.Low (record { l = 0; c = 0 }))
    ∷ Judged (verdict.Ahead (record { l = 0; c = 0 })) ∷ RolledOver ∷ []

-- the legend, which says that of each kind
unfoldable pub legend_text : List ℕ
legend_text =
    codes "A row has the claimed stamp of its event, what the clock read, how far l is ahead of that, the verdict where it isn't least, and the label. "
    ++ (codes "An unstamped event has the stamp that the rule gives. The first digits that all stamps and readings share stand in the headings. "
    ++ (join_by told_of (codes "; ") kinds ++ codes ". A ring: the clock rule was broken there, or the message carried another stamp than its send claims."))
