-- Records that are no statement and no claim.
use Rattle.std.specs.Prelude.{ℕ, List, codes}
use Rattle.hlc_csv.specs.declared.bad_record.BadRecord.{BadRecord}
use Rattle.hlc_csv.specs.declared.bad_record.BadRecord.TheVariants as bad

-- the word of the row that answers such a record
abbrev pub bad_record_word : BadRecord → List ℕ
bad_record_word bad.Word = codes "word"
bad_record_word bad.Fields = codes "fields"
bad_record_word bad.Number = codes "number"
