-- The records of a script or a trace, as csv reads them.
use Rattle.std.specs.Prelude.{◌≡◌, ℕ, List, [], ◌∷◌, ◌++◌, Option, Some, None, length, ⊤}
use Rattle.csv.specs.Reading.{AreRecords, Reached, Ready, default_config, reader_config, reader_state, reader_trim, source_of, strip_bom}
use Rattle.csv.specs.declared.parser.State.{State}
use Rattle.csv.specs.declared.parser.State.TheVariants as st
use Rattle.csv.specs.declared.reader.Reader.{Reader}
use Rattle.csv.specs.declared.reader.Trim.TheVariants as trim
use Rattle.hlc_csv.specs.Rows.{Fields}
use Rattle.hlc_csv.specs.declared.end.End.{End}
use Rattle.hlc_csv.specs.declared.end.End.TheVariants.{NoRecordLeft, PastLimit, ReadFailed}

-- bytes, if they are known, begin with these records
abbrev pub BeginsWith : Option (List ℕ) → List Fields → Type 0
BeginsWith None rows = ⊤
BeginsWith (Some bytes) rows = (s : State) × (rest : List ℕ) × Reached default_config st.StartRecord (strip_bom bytes) rows s rest

-- bytes, if they are known, are these records and no others
abbrev pub AreAllOf : Option (List ℕ) → List Fields → Type 0
AreAllOf None rows = ⊤
AreAllOf (Some bytes) rows = AreRecords default_config st.StartRecord (strip_bom bytes) rows

-- how a script is read: commas, quotes, no header row, nothing trimmed
pub record IsScript {R : Type 0} (r : Reader R) : Type 0 where
  pub config : reader_config r ≡ default_config
  pub trim : reader_trim r ≡ trim.None
  pub ready : Ready r

-- a reader has read these records of these bytes, if they are known
abbrev pub HasRead : {R : Type 0} → (R → Option (List ℕ)) → Reader R → Option (List ℕ) → List Fields → Type 0
HasRead rem r None rows = ⊤
HasRead rem r (Some bytes) rows =
    (rest : List ℕ) × (source_of rem r ≡ Some rest) × Reached default_config st.StartRecord (strip_bom bytes) rows (reader_state r) rest

-- no other records are those of the bytes
abbrev pub IsOnly : Option (List ℕ) → List Fields → Type 0
IsOnly None rows = ⊤
IsOnly (Some bytes) rows = (others : List Fields) → AreAllOf (Some bytes) others → others ≡ rows

-- a read of the next record: it adds one to those that were read, or tells why there is none
abbrev pub ReadsNext : {R : Type 0} → (R → Option (List ℕ)) → (old new : Reader R) → Fields → Option End → Type 0
ReadsNext rem old new fields None =
    IsScript new × ((bytes : Option (List ℕ)) (records : List Fields) → HasRead rem old bytes records → HasRead rem new bytes (records ++ fields ∷ []))
ReadsNext rem old new fields (Some NoRecordLeft) = (bytes : Option (List ℕ)) (records : List Fields) → HasRead rem old bytes records → AreAllOf bytes records
ReadsNext rem old new fields (Some (ReadFailed fault)) = ⊤
ReadsNext rem old new fields (Some PastLimit) = ⊥

-- where the reading of so many records at most ended
abbrev pub EndsAt : (most : ℕ) → (bytes : Option (List ℕ)) → List Fields → End → Type 0
EndsAt most bytes records NoRecordLeft = AreAllOf bytes records
EndsAt most bytes records (ReadFailed fault) = BeginsWith bytes records
EndsAt most bytes records PastLimit = (length records ≡ most) × (next : Fields) × BeginsWith bytes (records ++ next ∷ [])
