-- The first record that is read.
use Rattle.std.proofs.Common.{ℕ, List, [], ◌∷◌, Option, None, Some}
use Rattle.csv.specs.declared.reader.Reader.{Reader}
use Rattle.hlc_csv.specs.Records.{BeginsWith, EndsAt, HasRead, ReadsNext}
use Rattle.hlc_csv.specs.Rows.{Fields}
use Rattle.hlc_csv.specs.declared.end.End.{End}
use Rattle.hlc_csv.specs.declared.end.End.TheVariants.{NoRecordLeft, PastLimit, ReadFailed}
use Rattle.hlc_csv.proofs.RecordFacts.{has_read-begins}

-- the bytes begin with it
pub first_begins : {R : Type 0} (rem : R → Option (List ℕ)) (old new : Reader R) (bytes : Option (List ℕ)) (fields : Fields) →
    HasRead rem old bytes [] → ReadsNext rem old new fields None → BeginsWith bytes (fields ∷ [])
first_begins rem old new bytes fields start next = has_read-begins rem new bytes (fields ∷ []) (next.1 bytes [] start)

-- or there is none
pub first_ends : {R : Type 0} (rem : R → Option (List ℕ)) (old new : Reader R) (bytes : Option (List ℕ)) (fields : Fields) (end : End) →
    HasRead rem old bytes [] → ReadsNext rem old new fields (Some end) → EndsAt 1 bytes [] end
first_ends rem old new bytes fields NoRecordLeft start next = next bytes [] start
first_ends rem old new bytes fields (ReadFailed fault) start next = has_read-begins rem old bytes [] start
first_ends rem old new bytes fields PastLimit start next = absurd next
