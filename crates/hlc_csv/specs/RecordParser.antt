-- How bytes make records, one after the other.
use Rattle.std.specs.Prelude.{◌≡◌, ℕ, Bool, true, false, List, [], ◌∷◌, ◌++◌, Option, Some, None, take, if◌then◌else◌}
use Rattle.csv.specs.Machine.{Read, next_record}
use Rattle.csv.specs.Reading.{default_config}
use Rattle.csv.specs.declared.parser.State.{State}
use Rattle.csv.specs.declared.parser.State.TheVariants as st
use Rattle.hlc_csv.specs.Rows.{Fields}
use Rattle.hlc_csv.specs.RecordLines.{lines_from}
use Rattle.hlc_csv.specs.TextEnd.{state_after}
use Rattle.hlc_csv.specs.declared.parser_state.ParserState.TheVariants.{StartRecord}
use Rattle.hlc_csv.specs.ParserState.{csv_state, is_inside, is_quoted}
use Rattle.hlc_csv.specs.declared.found_record.FoundRecord.{FoundRecord}
use Rattle.hlc_csv.specs.declared.record_parser.RecordParser.{RecordParser}

-- nothing was taken
pub record IsAtStart (parser : RecordParser) : Type 0 where
  pub state : parser.state ≡ StartRecord
  pub after_cr : parser.after_cr ≡ false
  pub line : parser.line ≡ 1
  pub none_kept : parser.field.items ≡ []

-- what the next record is, with the fields that it has so far, if these bytes follow
abbrev pub next_of : RecordParser → Fields → List ℕ → Option Read
next_of parser fields bytes = next_record default_config (csv_state parser.state) fields parser.field.items bytes

-- the lines of records: of the one under way, if there is one, and of those that begin in the bytes that follow
abbrev pub lines_ahead : RecordParser → List ℕ → List ℕ
lines_ahead parser bytes =
    (if is_inside parser.state then parser.began ∷ [] else []) ++ lines_from (csv_state parser.state) parser.after_cr parser.line bytes

-- the state in which the bytes that follow end
abbrev pub end_state : RecordParser → List ℕ → State
end_state parser bytes = state_after (csv_state parser.state) bytes

-- bytes were taken, and no record ends in them: whatever follows, it makes of the rest what it made of the bytes before that
pub record GoesOn (old new : RecordParser) (was now : Fields) (bytes : List ℕ) : Type 0 where
  pub next : (rest : List ℕ) → next_of old was (bytes ++ rest) ≡ next_of new now rest
  pub lines : (rest : List ℕ) → lines_ahead old (bytes ++ rest) ≡ lines_ahead new rest
  pub end : (rest : List ℕ) → end_state old (bytes ++ rest) ≡ end_state new rest

-- bytes were taken, and the last one ends a record
pub record EndsRecord (old new : RecordParser) (was now : Fields) (bytes : List ℕ) : Type 0 where
  pub next : (rest : List ℕ) → next_of old was (bytes ++ rest) ≡ Some (now, csv_state new.state, rest)
  pub lines : (rest : List ℕ) → lines_ahead old (bytes ++ rest) ≡ new.began ∷ lines_ahead new rest
  pub end : (rest : List ℕ) → end_state old (bytes ++ rest) ≡ end_state new rest
  pub between : is_inside new.state ≡ false
  pub none_kept : new.field.items ≡ []

-- one byte was taken: it ends a record, or not
abbrev pub TakesByte : (old new : RecordParser) (was now : Fields) → ℕ → Bool → Type 0
TakesByte old new was now byte true = EndsRecord old new was now (byte ∷ [])
TakesByte old new was now byte false = GoesOn old new was now (byte ∷ [])

-- bytes were taken: as many as stand up to the end of a record, or all of them
abbrev pub TakesBytes : (old new : RecordParser) (was now : Fields) → List ℕ → Option ℕ → Type 0
TakesBytes old new was now bytes (Some used) = EndsRecord old new was now (take used bytes)
TakesBytes old new was now bytes None = GoesOn old new was now bytes

-- so many bytes were taken, and no record ends in them
abbrev pub TakesRun : (old new : RecordParser) (was now : Fields) → List ℕ → (run : ℕ) → Type 0
TakesRun old new was now bytes run = GoesOn old new was now (take run bytes)

-- no byte is left, and the record under way ends with the text: it is open if nothing closes its last field
pub record EndsLast (old new : RecordParser) (was now : Fields) (found : FoundRecord) : Type 0 where
  pub next : next_of old was [] ≡ Some (now, st.StartRecord, [])
  pub lines : lines_ahead old [] ≡ found.line ∷ []
  pub is_open : found.is_open ≡ is_quoted old.state
  pub state : new.state ≡ StartRecord
  pub none_kept : new.field.items ≡ []

-- so it is, if a record is under way
abbrev pub EndsText : (old new : RecordParser) (was now : Fields) → Option FoundRecord → Type 0
EndsText old new was now None = (is_inside old.state ≡ false) × (new ≡ old)
EndsText old new was now (Some found) = EndsLast old new was now found

-- some bytes were taken of those before, which leaves those after, and no record ends in them
pub record Moves (old new : RecordParser) (was now : Fields) (before after : List ℕ) : Type 0 where
  pub next : next_of old was before ≡ next_of new now after
  pub lines : lines_ahead old before ≡ lines_ahead new after
  pub end : end_state old before ≡ end_state new after

-- some bytes were taken of those before, which leaves those after, and the last one ends a record
pub record MovesToEnd (old new : RecordParser) (was now : Fields) (before after : List ℕ) : Type 0 where
  pub next : next_of old was before ≡ Some (now, csv_state new.state, after)
  pub lines : lines_ahead old before ≡ new.began ∷ lines_ahead new after
  pub end : end_state old before ≡ end_state new after

-- the same of bytes that may be known
abbrev pub OfKnown : (List ℕ → List ℕ → Type 0) → Option (List ℕ) → Option (List ℕ) → Type 0
OfKnown P None after = Unit {0}
OfKnown P (Some before) None = ⊥
OfKnown P (Some before) (Some after) = P before after
