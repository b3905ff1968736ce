-- A field that marks a file.
use Rattle.std.proofs.Common.{◌≡◌, ◌==◌, ◌&&◌, ℕ, Bool, true, false, List, [], ◌∷◌, Option, Some, ap, drop, eqb-true, refl, take}
use Rattle.std.specs.Prelude.{codes}
use Rattle.std.specs.Bool.{then_some}
use Rattle.std.specs.Option.{option_and_then}
use Rattle.std.specs.Str.{bytes_eq}
use Rattle.hlc_log_text.specs.FileMarks.{before_bytes, file_name}
use Rattle.hlc_log_text.specs.NamedEvent.{is_name}

-- it begins with an equals sign
pub mark_begins : (field name : List ℕ) → file_name field ≡ Some name → (rest : List ℕ) × (field ≡ 61 ∷ rest)
mark_begins [] name is = absurd (cc is)
mark_begins (byte ∷ rest) name is = (rest, ap (λ (b : ℕ). b ∷ rest) (eqb-true byte 61 (by (byte == 61) is))) where
  named : Option (List ℕ) → Option (List ℕ)
  named after = option_and_then (λ (name : List ℕ). then_some (is_name name) name) (option_and_then (before_bytes (codes " <==")) after)

  by : (test : Bool) → named (then_some (test && bytes_eq (take 3 rest) (61 ∷ 62 ∷ 32 ∷ [])) (drop 4 (byte ∷ rest))) ≡ Some name → test ≡ true
  by true is = refl
  by false is = absurd (cc is)
