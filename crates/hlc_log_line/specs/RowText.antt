-- Fields whose row has a length that can be told.
use Rattle.std.specs.Prelude.{◌^◌, ◌<◌, All, List, ℕ, length}
use Rattle.std.specs.Borrow.{Bor}

-- each field is short of 4 GiB
abbrev pub AreShort : List (Bor (List ℕ)) → Type 0
AreShort fields = All (λ field. length field.now < 2 ^ 32) fields
