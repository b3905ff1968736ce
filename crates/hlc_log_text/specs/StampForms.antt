-- The forms in which logs write stamps.
use Rattle.std.specs.Prelude.{◌==◌, ◌&&◌, ℕ, ◌+◌, ◌-◌, ◌^◌, Bool, List, Option, length, option_map}
use Rattle.hlc_stamp.specs.declared.stamp.Stamp.{Stamp}
use Rattle.hlc_csv.specs.Number.{number_of}
use Rattle.hlc_csv.specs.Rows.{Fields, field_of}
use Rattle.hlc_packed.specs.Packed.{unpacked}
pub use Rattle.hlc_log_line.specs.StampText.{dotted_stamp, pair_stamp}
use Rattle.hlc_log_text.specs.declared.stamp_form.StampForm.{StampForm}
use Rattle.hlc_log_text.specs.declared.stamp_form.StampForm.TheVariants.{Dotted, Packed, Pair}

-- the stamp that a field packs in one number
abbrev pub packed_stamp : (bits : ℕ) → List ℕ → Option Stamp
packed_stamp bits field = option_map (unpacked bits) (number_of field)

-- the stamp that the fields at a place write
abbrev pub form_stamp : StampForm → Fields → ℕ → Option Stamp
form_stamp Pair fields place = pair_stamp (field_of fields place) (field_of fields (place + 1))
form_stamp Dotted fields place = dotted_stamp (field_of fields place)
form_stamp (Packed p) fields place = packed_stamp p.bits (field_of fields place)

-- whether the fields of a stamp at a place are empty
abbrev pub is_empty_stamp : StampForm → Fields → ℕ → Bool
is_empty_stamp Pair fields place = (length (field_of fields place) == 0) && (length (field_of fields (place + 1)) == 0)
is_empty_stamp Dotted fields place = length (field_of fields place) == 0
is_empty_stamp (Packed p) fields place = length (field_of fields place) == 0

-- the stamp that two fields write, of which a stamp may take the first only
abbrev pub fields_stamp : StampForm → (first second : List ℕ) → Option Stamp
fields_stamp Pair first second = pair_stamp first second
fields_stamp Dotted first second = dotted_stamp first
fields_stamp (Packed p) first second = packed_stamp p.bits first

-- how many fields a stamp takes
abbrev pub stamp_field_count : StampForm → ℕ
stamp_field_count Pair = 2
stamp_field_count Dotted = 1
stamp_field_count (Packed p) = 1

-- how many low bits of a number c has: none if it isn't packed
abbrev pub packed_bits : StampForm → ℕ
packed_bits Pair = 0
packed_bits Dotted = 0
packed_bits (Packed p) = p.bits

-- the greatest c that can be written
abbrev pub greatest_c : StampForm → ℕ
greatest_c Pair = 2 ^ 32 - 1
greatest_c Dotted = 2 ^ 32 - 1
greatest_c (Packed p) = 2 ^ p.bits - 1
