-- The words that tell what is found.
use Rattle.std.specs.Prelude.{List, ℕ, codes}
use Rattle.hlc_causes.specs.declared.answers.Finding.{Finding}
use Rattle.hlc_causes.specs.declared.answers.Finding.TheVariants.{Judged, RolledOver}
use Rattle.hlc_verdict.specs.declared.verdict.Verdict.TheVariants as verdict

-- what is found of a claimed stamp
abbrev pub finding_word : Finding → List ℕ
finding_word (Judged verdict.Behind) = codes "behind"
finding_word (Judged (verdict.NotAbove d)) = codes "not-above"
finding_word (Judged (verdict.Low least)) = codes "low"
finding_word (Judged verdict.Least) = codes "least"
finding_word (Judged (verdict.Ahead least)) = codes "ahead"
finding_word RolledOver = codes "carried"
