-- Numbers in the fields of records.
use Rattle.std.specs.Prelude.{Bool, ℕ, ◌+◌, ◌-◌, ◌*◌, ◌^◌, ◌&&◌, List, [], ◌∷◌, length, Option, Some, None, if◌then◌else◌, nat_lt, nat_le, min, option_map}
use Rattle.std.specs.Str.{all_ascii_digits}
use Rattle.hlc_csv.specs.Rows.{Fields, field_of}

-- a number with one more digit, if that is a digit and the number then has at most 64 bits
abbrev pub with_digit : ℕ → ℕ → Option ℕ
with_digit n d = if nat_le 48 d && nat_le d 57 && nat_lt (n * 10 + (d - 48)) (2 ^ 64) then Some (n * 10 + (d - 48)) else None

-- the number that digits write when they follow those of n
abbrev pub value_after : ℕ → List ℕ → ℕ
value_after n [] = n
value_after n (d ∷ ds) = value_after (n * 10 + (d - 48)) ds

-- whether a field is a number: one to twenty digits, of at most 2 ^ 64 - 1
abbrev pub is_number : List ℕ → Bool
is_number field = nat_le 1 (length field) && nat_le (length field) 20 && (all_ascii_digits field && nat_lt (value_after 0 field) (2 ^ 64))

-- the number of a field, if it is one
abbrev pub number_of : List ℕ → Option ℕ
number_of field = if is_number field then Some (value_after 0 field) else None

-- a number of a narrower type, whose greatest value stands for all that are larger
abbrev pub number_up_to : ℕ → List ℕ → Option ℕ
number_up_to most field = option_map (λ n. min n most) (number_of field)

-- what two numbers make, if both are there
abbrev pub of_both : {A : Type 0} → (ℕ → ℕ → A) → Option ℕ → Option ℕ → Option A
of_both make (Some m) (Some n) = Some (make m n)
of_both make (Some m) None = None
of_both make None n = None

-- the node at a place, if a number stands there
abbrev pub node_in : Fields → ℕ → Option ℕ
node_in fields place = number_up_to 65535 (field_of fields place)

-- the greatest number that an event can have by its type; it stands for all that are larger, and no history has that event
abbrev pub greatest_event : ℕ
greatest_event = 4294967295

-- the event at a place, if a number stands there
abbrev pub event_in : Fields → ℕ → Option ℕ
event_in fields place = number_up_to greatest_event (field_of fields place)
