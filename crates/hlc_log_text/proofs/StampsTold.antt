-- Stamps that records tell.
use Rattle.std.proofs.Common.{◌≡◌, ℕ, ◌+◌, Bool, true, false, cond, List, [], ◌∷◌, Option, Some, None, ap, arith, eqb-true, refl}
use Rattle.std.specs.Prelude.{◌==◌, length, option_map}
use Rattle.std.proofs.lemmas.Bool.{and_parts}
use Rattle.hlc_stamp.specs.declared.stamp.Stamp.{Stamp}
use Rattle.hlc_csv.specs.Number.{number_of}
use Rattle.hlc_csv.specs.Rows.{Fields, field_of}
use Rattle.hlc_log_text.specs.NamedEvent.{stamp_told}
use Rattle.hlc_log_text.specs.StampForms.{dotted_stamp, form_stamp, is_empty_stamp, packed_stamp, pair_stamp}
use Rattle.hlc_log_text.specs.declared.log_word.LogWord.{LogWord}
use Rattle.hlc_log_text.specs.declared.log_word.LogWord.TheVariants as word
use Rattle.hlc_log_text.specs.declared.stamp_form.StampForm.{StampForm}
use Rattle.hlc_log_text.specs.declared.stamp_form.StampForm.TheVariants.{Dotted, Packed, Pair}

no_bytes : (field : List ℕ) → (length field == 0) ≡ true → field ≡ []
no_bytes [] is = refl
no_bytes (byte ∷ bytes) is = absurd (let none = eqb-true (length (byte ∷ bytes)) 0 is in omega (arith, none))

no_number : number_of [] ≡ None
no_number = refl

-- empty fields write no stamp
no_stamp : (form : StampForm) (fields : Fields) (place : ℕ) → is_empty_stamp form fields place ≡ true → form_stamp form fields place ≡ None
no_stamp Pair fields place empty =
    let first = no_bytes (field_of fields place)
    (and_parts (length (field_of fields place) == 0) (length (field_of fields (place + 1)) == 0) empty).0 in
    ap (λ (l : List ℕ). pair_stamp l (field_of fields (place + 1))) first
no_stamp Dotted fields place empty = ap dotted_stamp (no_bytes (field_of fields place) empty)
no_stamp (Packed p) fields place empty = ap (packed_stamp p.bits) (no_bytes (field_of fields place) empty)

-- so a stamp that is written is told, whatever the word
pub stamp_is_told : (form : StampForm) (w : LogWord) (fields : Fields) (stamp : Stamp) → form_stamp form fields 3 ≡ Some stamp
    → stamp_told form w fields ≡ Some (Some stamp)
stamp_is_told form word.Local fields stamp is = ap (option_map (λ (stamp : Stamp). Some stamp)) is
stamp_is_told form word.Send fields stamp is = ap (option_map (λ (stamp : Stamp). Some stamp)) is
stamp_is_told form word.Restart fields stamp is = ap (option_map (λ (stamp : Stamp). Some stamp)) is
stamp_is_told form word.Receive fields stamp is = by_test (is_empty_stamp form fields 3) refl where
  by_test : (test : Bool) → is_empty_stamp form fields 3 ≡ test
      → (let o : Option (Option Stamp) = cond test (Some None) (option_map (λ (stamp : Stamp). Some stamp) (form_stamp form fields 3)) in o) ≡ Some (Some stamp)
  by_test true empty = let none = no_stamp form fields 3 empty in absurd (cc)
  by_test false there = ap (option_map (λ (stamp : Stamp). Some stamp)) is
