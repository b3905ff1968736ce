-- Paths, and what they lead to.
use Rattle.std.proofs.Common.{◌≡◌, ◌∙◌, ◌+◌, ◌==◌, ◌&&◌, ◌∷◌, [], ℕ, Bool, true, false, List, Option, Some, None, arith, drop, eqb-true, length, refl, ap}
use Rattle.std.specs.Prelude.{if◌then◌else◌, not, option_and_then, option_map}
use Rattle.std.specs.List.{position_or_len}
use Rattle.std.proofs.lemmas.List.{drop_all}
use Rattle.serde_json.specs.Data.{Data}
use Rattle.hlc_json_lines.specs.Paths.{Key, has_empty_part, keys_in, path_of_text, value_at}
use Rattle.hlc_json_lines.specs.Rules.{after_equals, before_equals, field_name_of, field_of_text}
use Rattle.hlc_json_lines.specs.declared.field_name.FieldName.{FieldName}

-- the path of no key
pub at-once : (found : Option Data) → option_and_then (value_at []) found ≡ found
at-once None = refl
at-once (Some value) = refl

-- a text that begins with no point is no path
pub path-none : (text : List ℕ) → ((rest : List ℕ) → text ≡ 46 ∷ rest → ⊥) → path_of_text text ≡ None
path-none [] other = refl
path-none (byte ∷ text) other = by (byte == 46) refl where
  by : (test : Bool) → (byte == 46) ≡ test → (if test && not (has_empty_part 46 text) then Some (keys_in text) else None) ≡ None
  by true is = absurd (other text (ap (λ (b : ℕ). b ∷ text) (eqb-true byte 46 is)))
  by false is = refl

-- a text without `=` names no path
pub field-none : (text : List ℕ) → position_or_len (λ byte. byte == 61) text ≡ length text → field_of_text text ≡ None
field-none text none = by (field_name_of (before_equals text)) where
  nothing : after_equals text ≡ []
  nothing = ap (λ (n : ℕ). drop (n + 1) text) none ∙ drop_all (length text + 1) text (omega arith)

  by : (name : Option FieldName)
      → option_and_then {U = FieldName × List Key} (λ (name : FieldName). option_map (λ (keys : List Key). (name, keys)) (path_of_text (after_equals text))) name ≡ None
  by None = refl
  by (Some name) = rw nothing refl
