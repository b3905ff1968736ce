-- When a script is too long.
use Rattle.std.specs.Prelude.{◌≡◌, ◌++◌, ◌∷◌, ℕ, List, [], Option, length}
use Rattle.hlc_stamp.specs.declared.limits.TheConstants.{MAX_RECORDS}
use Rattle.hlc_csv.specs.Records.{BeginsWith}
use Rattle.hlc_csv.specs.Rows.{Fields}

-- the input has more records than are taken: it begins with the most, and one more
pub record IsScriptTooLong (input : Option (List ℕ)) : Type 0 where
  pub records : List Fields
  pub next : Fields
  pub begins : BeginsWith input (records ++ next ∷ [])
  pub full : length records ≡ MAX_RECORDS
