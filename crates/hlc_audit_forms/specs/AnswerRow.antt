-- The rows that answer questions, by their words.
use Rattle.std.specs.Prelude.{ℕ, Bool, true, false, List, [], ◌∷◌, Option, None, Some, bytes_eq, codes, find, is_some}
use Rattle.hlc_audit_forms.specs.declared.answer_row.AnswerRow.{AnswerRow}
use Rattle.hlc_audit_forms.specs.declared.answer_row.AnswerRow.TheVariants as row
use Rattle.hlc_audit_forms.specs.declared.json_column.JsonColumn.{JsonColumn}
use Rattle.hlc_audit_forms.specs.declared.json_column.JsonColumn.TheVariants as column

-- all of them
abbrev pub answer_rows : List AnswerRow
answer_rows =
    row.Chain ∷ row.Check ∷ row.Relation ∷ row.Influenced ∷ row.Drift ∷ row.Claimed ∷ row.Event ∷ row.Path ∷ row.Tainted ∷ row.First ∷ row.Refused ∷ []

-- the word of one
abbrev pub answer_word : AnswerRow → List ℕ
answer_word row.Chain = codes "chain"
answer_word row.Check = codes "check"
answer_word row.Relation = codes "relation"
answer_word row.Influenced = codes "influenced"
answer_word row.Drift = codes "drift"
answer_word row.Claimed = codes "claimed"
answer_word row.Event = codes "event"
answer_word row.Path = codes "path"
answer_word row.Tainted = codes "tainted"
answer_word row.First = codes "first"
answer_word row.Refused = codes "refused"

-- the one with a word, if there is one
abbrev pub answer_of_word : List ℕ → Option AnswerRow
answer_of_word word = find (λ r. bytes_eq (answer_word r) word) answer_rows

-- whether a word is one of a row that answers a question
abbrev pub is_answer : List ℕ → Bool
is_answer word = is_some (answer_of_word word)

-- the columns of one
abbrev pub row_columns : AnswerRow → List JsonColumn
row_columns row.Chain = column.Row ∷ column.Line ∷ column.L ∷ column.C ∷ []
row_columns row.Check = column.Row ∷ column.Line ∷ column.IsChain ∷ []
row_columns row.Relation = column.Row ∷ column.Line ∷ column.Other ∷ column.How ∷ []
row_columns row.Influenced = column.Row ∷ column.Line ∷ []
row_columns row.Drift = column.Row ∷ column.Node ∷ column.Ahead ∷ column.Line ∷ column.Origin ∷ []
row_columns row.Claimed = column.Row ∷ column.Line ∷ column.L ∷ column.C ∷ []
row_columns row.Event =
    column.Row ∷ column.Line ∷ column.Node ∷ column.Reading ∷ column.L ∷ column.C ∷ column.LeastL ∷ column.LeastC ∷ column.Verdict ∷ column.Label ∷ []
row_columns row.Path = column.Row ∷ column.Line ∷ column.Other ∷ []
row_columns row.Tainted = column.Row ∷ column.Line ∷ []
row_columns row.First = column.Row ∷ column.Node ∷ column.Rule ∷ column.Line ∷ []
row_columns row.Refused = column.Row ∷ column.Why ∷ []

-- whether the fields of one after those of its columns are lines
abbrev pub row_lists_lines : AnswerRow → Bool
row_lists_lines row.Chain = true
row_lists_lines row.Influenced = true
row_lists_lines row.Claimed = true
row_lists_lines row.Path = true
row_lists_lines row.Tainted = true
row_lists_lines _ = false

-- what an answer has, by its row
abbrev pub columns_if : Option AnswerRow → List JsonColumn
columns_if (Some r) = row_columns r
columns_if None = row_columns row.Refused

abbrev pub lines_if : Option AnswerRow → Bool
lines_if (Some r) = row_lists_lines r
lines_if None = false

-- the same, by its word: that of no answer has the columns of one that was refused
abbrev pub answer_columns : (word : List ℕ) → List JsonColumn
answer_columns word = columns_if (answer_of_word word)

abbrev pub lists_lines : (word : List ℕ) → Bool
lists_lines word = lines_if (answer_of_word word)
