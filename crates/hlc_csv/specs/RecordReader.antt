-- The records of a text, read one after the other.
use Rattle.std.specs.Prelude.{◌≡◌, ℕ, Bool, true, false, List, [], ◌∷◌, ◌++◌, Option, Some, None}
use Rattle.std.specs.Io.Buffered.{reader_remaining}
use Rattle.csv.specs.Reading.{Reached, default_config, strip_bom}
use Rattle.csv.specs.declared.parser.State.TheVariants as st
use Rattle.hlc_csv.specs.Records.{AreAllOf, BeginsWith}
use Rattle.hlc_csv.specs.Retrying.{retrying_remaining}
use Rattle.hlc_csv.specs.Rows.{Fields}
use Rattle.hlc_csv.specs.ParserState.{csv_state, is_inside}
use Rattle.hlc_csv.specs.RecordLines.{record_lines}
use Rattle.hlc_csv.specs.RecordParser.{end_state, lines_ahead}
use Rattle.hlc_csv.specs.TextEnd.{DoNotEndOpen, EndOpen, IsClosed, IsOpen}
use Rattle.hlc_csv.specs.TextReader.{text_remaining}
use Rattle.hlc_csv.specs.declared.found_record.FoundRecord.{FoundRecord}
use Rattle.hlc_csv.specs.declared.record_parser.RecordParser.{RecordParser}
use Rattle.hlc_csv.specs.declared.record_reader.RecordReader.{RecordReader}

-- the bytes that are left, if they are known
abbrev pub left_of : {R : Type 0} → (R → Option (List ℕ)) → RecordReader R → Option (List ℕ)
left_of remaining r = reader_remaining (text_remaining (retrying_remaining remaining)) r.input

-- a text was read up to the end of these records, which begin on these lines, and the rest is left
pub record IsReadTo (text : List ℕ) (records : List Fields) (lines : List ℕ) (parser : RecordParser) (rest : List ℕ) : Type 0 where
  pub reached : Reached default_config st.StartRecord (strip_bom text) records (csv_state parser.state) rest
  pub on_lines : record_lines text ≡ lines ++ lines_ahead parser rest
  pub ends_open : IsOpen text → end_state parser rest ≡ st.InQuoted
  pub is_open : end_state parser rest ≡ st.InQuoted → IsOpen text
  pub between : is_inside parser.state ≡ false
  pub none_kept : parser.field.items ≡ []

-- a reader has read these records of bytes, if they are known, and they begin on these lines
abbrev pub HasReadTo : {R : Type 0} → (R → Option (List ℕ)) → RecordReader R → Option (List ℕ) → List Fields → List ℕ → Type 0
HasReadTo rem r None records lines = Unit {0}
HasReadTo rem r (Some text) records lines = (rest : List ℕ) × (left_of rem r ≡ Some rest) × IsReadTo text records lines r.parser rest

-- the records of bytes, if they are known, begin on these lines
abbrev pub BeginOnLines : Option (List ℕ) → List ℕ → Type 0
BeginOnLines None lines = Unit {0}
BeginOnLines (Some text) lines = record_lines text ≡ lines

-- the first ones do
abbrev pub FirstBeginOnLines : Option (List ℕ) → List ℕ → Type 0
FirstBeginOnLines None lines = Unit {0}
FirstBeginOnLines (Some text) lines = (more : List ℕ) × (record_lines text ≡ lines ++ more)

-- these are the first records of bytes, and no last one is among them that is open; they begin on these lines
pub record AreFirst (bytes : Option (List ℕ)) (records : List Fields) (lines : List ℕ) : Type 0 where
  pub begins : BeginsWith bytes records
  pub closed : DoNotEndOpen bytes records
  pub on_lines : FirstBeginOnLines bytes lines

-- these are all records of bytes, which are closed, and they begin on these lines
pub record AreAll (bytes : Option (List ℕ)) (records : List Fields) (lines : List ℕ) : Type 0 where
  pub all : AreAllOf bytes records
  pub closed : IsClosed bytes
  pub on_lines : BeginOnLines bytes lines

-- these are all records of bytes, the last of which is open, and they begin on these lines
pub record AreAllOpen (bytes : Option (List ℕ)) (records : List Fields) (lines : List ℕ) : Type 0 where
  pub ends : EndOpen bytes records
  pub on_lines : BeginOnLines bytes lines

-- one more record was read, which is open or not
abbrev pub ReadsOne : {R : Type 0} → (R → Option (List ℕ)) → (new : RecordReader R) → Option (List ℕ) → List Fields → List ℕ → (is_open : Bool) → Type 0
ReadsOne rem new bytes records lines false = HasReadTo rem new bytes records lines × AreFirst bytes records lines
ReadsOne rem new bytes records lines true = AreAllOpen bytes records lines

-- a read of the next record, whatever was read before: it adds one, or there is none
abbrev pub ReadsRecord : {R : Type 0} → (R → Option (List ℕ)) → (old new : RecordReader R) → Fields → Option FoundRecord → Type 0
ReadsRecord rem old new fields None =
    (bytes : Option (List ℕ)) (records : List Fields) (lines : List ℕ) → HasReadTo rem old bytes records lines → AreAll bytes records lines
ReadsRecord rem old new fields (Some found) =
    (bytes : Option (List ℕ)) (records : List Fields) (lines : List ℕ) → HasReadTo rem old bytes records lines
    → ReadsOne rem new bytes (records ++ fields ∷ []) (lines ++ found.line ∷ []) found.is_open
