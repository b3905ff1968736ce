-- The words of answers.
use Rattle.std.specs.Prelude.{ℕ, List, Option, Some, None, codes}
use Rattle.hlc_causes.specs.Words.{finding_word}
use Rattle.hlc_causes.specs.declared.answers.Finding.{Finding}
use Rattle.hlc_explain.specs.Words.{missing_word}
use Rattle.hlc_explain.specs.declared.answers.Missing.{Missing}
use Rattle.hlc_csv.specs.Rows.{Fields, refusal_row}

-- the row that is the answer if the log has no such node or event
abbrev pub missing_row : Missing → Fields
missing_row missing = refusal_row (missing_word missing)

-- what is found of a claimed stamp, or that none is claimed
abbrev pub found_word : Option Finding → List ℕ
found_word None = codes "unstamped"
found_word (Some found) = finding_word found
