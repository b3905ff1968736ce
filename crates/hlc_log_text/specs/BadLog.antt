-- Records that make no event.
use Rattle.std.specs.Prelude.{ℕ, List, Option, None, Some, codes}
use Rattle.hlc_log_text.specs.declared.bad_log.BadLog.{BadLog}
use Rattle.hlc_log_text.specs.declared.bad_log.BadLog.TheVariants as bad
use Rattle.hlc_log_text.specs.declared.log_column.LogColumn.{LogColumn}

-- the word of the row that answers such a record
abbrev pub bad_log_word : BadLog → List ℕ
bad_log_word bad.Word = codes "word"
bad_log_word bad.Header = codes "header"
bad_log_word (bad.Missing column) = codes "field"
bad_log_word bad.Fields = codes "fields"
bad_log_word (bad.Number column) = codes "number"
bad_log_word bad.Line = codes "number"
bad_log_word (bad.Name column) = codes "name"
bad_log_word bad.SentTwice = codes "sent-twice"
bad_log_word bad.Cycle = codes "cycle"
bad_log_word bad.Node = codes "node"
bad_log_word bad.Quote = codes "quote"

-- the column that the row names besides
abbrev pub bad_log_column : BadLog → Option LogColumn
bad_log_column bad.Word = None
bad_log_column bad.Header = None
bad_log_column (bad.Missing column) = Some column
bad_log_column bad.Fields = None
bad_log_column (bad.Number column) = Some column
bad_log_column bad.Line = None
bad_log_column (bad.Name column) = Some column
bad_log_column bad.SentTwice = None
bad_log_column bad.Cycle = None
bad_log_column bad.Node = None
bad_log_column bad.Quote = None
