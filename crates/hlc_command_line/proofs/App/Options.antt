-- The row of an option, after words in which clap finds no fault.
use Rattle.std.proofs.Common.{◌≡◌, ◌∙◌, ◌&&◌, ◌||◌, arith, ap, sym, subst, cond, ℕ, suc, pos, Bool, true, false, not, List, [], ◌∷◌, ◌++◌, length, Option, Some, None, refl, append-nil, codes}
use Rattle.std.specs.Prelude.{◌==◌, ◌<◌, ⊤, ◌≤◌, ◌^◌, ◌↔◌, IsTrue, MatchBool, drop, Result, find, fold, option_and_then, option_map, slice_get}
use Rattle.std.specs.Borrow.{Bor}
use Rattle.std.specs.Str.Pattern.{FindsTextPrefix, HasPrefixMatch}
use Rattle.std.specs.Option.{IsSome, option_map_or}
use Rattle.std.specs.declared.num.ParseIntError.{ParseIntError}
use Rattle.std.specs.Str.Parse.{ExplainsUnsignedError, HasUnsignedDigitsIfOk, IsNumeral, ParsesUnsigned, digits_value, starts_with_minus, without_leading_plus}
use Rattle.std.proofs.lemmas.Str.Parse.{digit_at, without_leading_plus_none}
use Rattle.clap.specs.Lexer.{without_minus}
use Rattle.clap.specs.Matches.{ReadsOne, first_value, one_text}
use Rattle.clap.specs.declared.parser.matches.Found.{Found}
use Rattle.clap.proofs.WalkLemmas.{first_value-rows, one_text-rows}
use Rattle.std.specs.Str.{bytes_eq}
use Rattle.clap.specs.Facts.{explicit_source, parser_of_value}
use Rattle.clap.specs.Kinds.{range_kinds, value_kinds}
use Rattle.clap.specs.Faults.{repeat_fault, use_fault, values_fault}
use Rattle.clap.specs.Simple.{filled}
use Rattle.clap.specs.Takes.{is_given}
use Rattle.clap.specs.Values.{IsSignedIn, IsUnsignedIn, bool_text, read_as, reading_of, refused_kind}
use Rattle.clap.specs.ValueTests.{accepts}
use Rattle.clap.specs.Walk.{Row, Rule, Text, at_row, default_rows, first_of, has_row, more_values, one_of, reading_by, row_text, rows_of, with_default, with_values, without}
use Rattle.clap.specs.declared.error.kind.ErrorKind.TheVariants as kind
use Rattle.clap.specs.declared.builder.value_parser.Reading.{Reading}
use Rattle.clap.specs.declared.builder.value_parser.Reading.TheVariants.{AsWritten}
use Rattle.clap.specs.declared.parser.matches.ValueSource.{ValueSource}
use Rattle.clap.specs.declared.parser.matches.ValueSource.TheVariants.{CommandLine, DefaultValue}
use Rattle.std.proofs.lemmas.Bool.{eqb-true}
use Rattle.std.proofs.lemmas.Int.{ints}
use Rattle.clap.proofs.ValueTestLemmas.{accepts-Accepts}
use Rattle.clap.specs.declared.builder.value_parser.ValueParser.TheVariants as vp
use Rattle.std.proofs.lemmas.Slice.Eq.{bytes_eq-Decides}
use Rattle.hlc_command_line.specs.LineOption.{HasFlag, HasOption, IsUnsigned, LineOption, flag, number, option_name, option_rule, many, word}
use Rattle.hlc_command_line.specs.NumberOption.{HasNumber, HasSign, IsNumberOf, IsOptionalNumber, IsSigned, NumberOption, signed_option, unsigned_option}
use Rattle.hlc_command_line.proofs.App.Each.{Each, Each-push, found_holds, found_passes}
use Rattle.hlc_command_line.proofs.App.Walks.{Keeps, both_pass}

-- the row of an option of a number, with the text that passed
pub record IsNumberRow (o : NumberOption) (row : Row) : Type 0 where
  pub text : Text
  pub values : row.values ≡ text ∷ []
  pub reading : row.reading ≡ reading_of o.parser
  pub accepted : accepts false o.parser text ≡ true

-- the row of a flag has the text of whether it was given
abbrev pub IsFlagRow : Row → Type 0
IsFlagRow row = (row.values ≡ bool_text (explicit_source row.source) ∷ []) × (row.reading ≡ AsWritten)

abbrev pub IsRowOf : LineOption → Row → Type 0
IsRowOf (number o) row = IsNumberRow o row
IsRowOf (word name) row = ⊤
IsRowOf (many name) row = ⊤
IsRowOf (flag name) row = IsFlagRow row

-- the first option of this name
abbrev pub option_by_name : List LineOption → Text → Option LineOption
option_by_name os name = find (λ o. bytes_eq (option_name o) name) os

-- the row is that of the first option of its name
pub record IsUse (os : List LineOption) (row : Row) : Type 0 where
  pub option : LineOption
  pub first : option_by_name os row.id ≡ Some option
  pub fits : IsRowOf option row

abbrev pub AreUses : List LineOption → List Row → Type 0
AreUses os = Each (IsUse os)

-- ---- one use

either_false : (a b : Bool) → (a || b) ≡ false → (a ≡ false) × (b ≡ false)
either_false true b e = cc
either_false false b e = (refl, e)

at_row_missing : (id : Text) (change : Row → List Row) (missing : List Row) (rows : List Row) → has_row id rows ≡ false
    → at_row id change missing rows ≡ rows ++ missing
at_row_missing id change missing [] none = refl
at_row_missing id change missing (r ∷ rs) none =
    let both = either_false (bytes_eq r.id id) (has_row id rs) none in
    rw both.0 (ap (λ xs. r ∷ xs) (at_row_missing id change missing rs both.1))

not_repeated : (id : Text) (rows : List Row) → repeat_fault false id rows ≡ [] → has_row id rows ≡ false
not_repeated id rows e = go (has_row id rows) e
  where
    go : (b : Bool) → cond (b && not false) (kind.ArgumentConflict ∷ []) [] ≡ [] → b ≡ false
    go true e = cc
    go false e = refl

accepted_value : (i : Bool) (a : Rule) (text : Text) → value_kinds i (parser_of_value a.parser) text ≡ []
    → accepts i (parser_of_value a.parser) text ≡ true
accepted_value i a text e = go (accepts i (parser_of_value a.parser) text) e
  where
    go : (b : Bool) → cond b [] (refused_kind (parser_of_value a.parser) ∷ []) ≡ [] → b ≡ true
    go true e = refl
    go false e = cc

-- the row of a first use
abbrev pub new_row : Text → Reading → ValueSource → List Text → Row
new_row id how source values = record { id = id; values = values; count = None; source = Some source; reading = how }

values_added : (id : Text) (how : Reading) (source : ValueSource) (values : List Text) (rows : List Row) → has_row id rows ≡ false
    → rows ++ new_row id how source values ∷ [] ≡ with_values id how source values rows
values_added id how source values rows none = sym (at_row_missing id (more_values source values) _ rows none)

-- a first use adds its row
use_added : (id : Text) (how : Reading) (values : List Text) (rows : List Row) → has_row id rows ≡ false
    → rows ++ new_row id how CommandLine values ∷ [] ≡ with_values id how CommandLine values (without id rows)
use_added id how values rows none =
    let same : rows ≡ without id rows = sym (append-nil rows) ∙ sym (at_row_missing id (λ _. []) [] rows none) in
    values_added id how CommandLine values rows none ∙ ap (with_values id how CommandLine values) same

one_counted : (n : ℕ) → range_kinds 1 1 n ≡ [] → 1 ≡ n
one_counted n e = go (n == 0) (1 == n) refl e
  where
    go : (none one : Bool) → (1 == n) ≡ one → cond none (kind.InvalidValue ∷ []) (cond one [] (kind.WrongNumberOfValues ∷ [])) ≡ [] → 1 ≡ n
    go true one is e = cc
    go false true is e = eqb-true 1 n is
    go false false is e = cc

-- a use that passes has one value
one_value : (values : List Text) → range_kinds 1 1 (length values) ≡ [] → (text : Text) × (values ≡ text ∷ [])
one_value [] e = let bad : ◌≡◌ {A = ℕ} 1 0 = one_counted 0 e in absurd (omega arith)
one_value (v ∷ []) e = (v, refl)
one_value (v ∷ w ∷ ws) e = let bad : ◌≡◌ {A = ℕ} 1 (suc (suc (length ws))) = one_counted _ e in absurd (omega arith)

none_counted : (n : ℕ) → range_kinds 0 0 n ≡ [] → 0 ≡ n
none_counted n e = go (0 == n) refl e
  where
    go : (none : Bool) → (0 == n) ≡ none → cond none [] (kind.WrongNumberOfValues ∷ []) ≡ [] → 0 ≡ n
    go true is e = eqb-true 0 n is
    go false is e = cc

-- a use of a flag that passes has no value
no_values : (values : List Text) → range_kinds 0 0 (length values) ≡ [] → values ≡ []
no_values [] e = refl
no_values (v ∷ vs) e = let bad : ◌≡◌ {A = ℕ} 0 (suc (length vs)) = none_counted _ e in absurd (omega arith)

-- a use of an option that is the first of its name
module _ (os : List LineOption) where
  number_keeps : (o : NumberOption) → option_by_name os o.name ≡ Some (number o)
      → Keeps (AreUses os) false (filled (option_rule (number o)))
  number_keeps o first values rows e all =
      let a = filled (option_rule (number o)) in
      let parts = both_pass (range_kinds 1 1 (length values)) _ e in
      let one = one_value values parts.0 in
      let e2 : use_fault false a (one.0 ∷ []) rows ≡ [] = rw one.1 at e in
      let inner = both_pass (repeat_fault false o.name rows) (values_fault a (one.0 ∷ [])) e2 in
      let value = both_pass (value_kinds false (parser_of_value a.parser) one.0) [] inner.1 in
      let row = new_row o.name (reading_of o.parser) CommandLine (one.0 ∷ []) in
      let fits : IsNumberRow o row =
      record { text = one.0; values = refl; reading = refl; accepted = accepted_value false a one.0 value.0 } in
      let own : IsUse os row = record { option = number o; first = first; fits = fits } in
      rw one.1
      (subst (AreUses os) (use_added o.name (reading_of o.parser) (one.0 ∷ []) rows (not_repeated o.name rows inner.0)) (Each-push _ rows row all own))

  word_keeps : (name : Text) → option_by_name os name ≡ Some (word name) → Keeps (AreUses os) false (filled (option_rule (word name)))
  word_keeps name first values rows e all =
      let a = filled (option_rule (word name)) in
      let parts = both_pass (range_kinds 1 1 (length values)) _ e in
      let one = one_value values parts.0 in
      let e2 : use_fault false a (one.0 ∷ []) rows ≡ [] = rw one.1 at e in
      let inner = both_pass (repeat_fault false name rows) (values_fault a (one.0 ∷ [])) e2 in
      let row = new_row name AsWritten CommandLine (one.0 ∷ []) in
      let own : IsUse os row = record { option = word name; first = first; fits = tt } in
      rw one.1 (subst (AreUses os) (use_added name AsWritten (one.0 ∷ []) rows (not_repeated name rows inner.0)) (Each-push _ rows row all own))

  -- a use of an option that may be given more than once adds to its row, or is it
  many_added : (name : Text) → option_by_name os name ≡ Some (many name) → (values : List Text) (rows : List Row) → AreUses os rows
      → AreUses os (with_values name AsWritten CommandLine values rows)
  many_added name first values [] all = (record { option = many name; first = first; fits = tt }, tt)
  many_added name first values (r ∷ rs) all = go (bytes_eq r.id name) refl (many_added name first values rs all.1)
    where
      go : (b : Bool) → bytes_eq r.id name ≡ b → AreUses os (with_values name AsWritten CommandLine values rs)
          → AreUses os (cond b (more_values CommandLine values r ++ rs) (r ∷ with_values name AsWritten CommandLine values rs))
      go true is rest = (
        record {
          option = many name;
          first = ap (option_by_name os) ((bytes_eq-Decides r.id name).0 is) ∙ first;
          fits = tt;
        },
        all.1,
      )
      go false is rest = (all.0, rest)

  many_keep : (name : Text) → option_by_name os name ≡ Some (many name) → Keeps (AreUses os) false (filled (option_rule (many name)))
  many_keep name first values rows e all =
      let parts = both_pass (range_kinds 1 1 (length values)) _ e in
      let one = one_value values parts.0 in
      rw one.1 (many_added name first (one.0 ∷ []) rows all)

  flag_keeps : (name : Text) → option_by_name os name ≡ Some (flag name) → Keeps (AreUses os) false (filled (option_rule (flag name)))
  flag_keeps name first values rows e all =
      let a = filled (option_rule (flag name)) in
      let parts = both_pass (range_kinds 0 0 (length values)) _ e in
      let none = no_values values parts.0 in
      let e2 : use_fault false a [] rows ≡ [] = rw none at e in
      let inner = both_pass (repeat_fault false name rows) (values_fault a (codes "true" ∷ [])) e2 in
      let row = new_row name AsWritten CommandLine (codes "true" ∷ []) in
      let own : IsUse os row = record { option = flag name; first = first; fits = (refl, refl) } in
      rw none
      (subst (AreUses os) (use_added name AsWritten (codes "true" ∷ []) rows (not_repeated name rows inner.0)) (Each-push _ rows row all own))

  pub option_keeps : (o : LineOption) → option_by_name os (option_name o) ≡ Some o → Keeps (AreUses os) false (filled (option_rule o))
  option_keeps (number o) first = number_keeps o first
  option_keeps (word name) first = word_keeps name first
  option_keeps (many name) first = many_keep name first
  option_keeps (flag name) first = flag_keeps name first

-- ---- defaults

-- a flag that was not used gets its row
pub default_uses : (os : List LineOption) (o : LineOption) → option_by_name os (option_name o) ≡ Some o → (rows : List Row)
    → AreUses os rows → AreUses os (with_default rows (filled (option_rule o)))
default_uses os (number o) first rows all = go (has_row o.name rows)
  where
    go : (b : Bool) → AreUses os (cond b rows rows)
    go true = all
    go false = all
default_uses os (word name) first rows all = go (has_row name rows)
  where
    go : (b : Bool) → AreUses os (cond b rows rows)
    go true = all
    go false = all
default_uses os (many name) first rows all = go (has_row name rows)
  where
    go : (b : Bool) → AreUses os (cond b rows rows)
    go true = all
    go false = all
default_uses os (flag name) first rows all = go (has_row name rows) refl
  where
    go : (b : Bool) → has_row name rows ≡ b → AreUses os (cond b rows (with_values name AsWritten DefaultValue (codes "false" ∷ []) rows))
    go true is = all
    go false is =
        let row = new_row name AsWritten DefaultValue (codes "false" ∷ []) in
        let own : IsUse os row = record { option = flag name; first = first; fits = (refl, refl) } in
        subst (AreUses os) (values_added name AsWritten DefaultValue (codes "false" ∷ []) rows is) (Each-push _ rows row all own)

-- ---- what was given

-- every text that the option's parser takes is such a number, and is read as it was written
abbrev pub TakesNumbers : NumberOption → Type 0
TakesNumbers o = (text : Text) → accepts false o.parser text ≡ true
    → IsNumeral 10 (without_leading_plus text) × (o.low ≤ digits_value 10 (without_leading_plus text))
    × (digits_value 10 (without_leading_plus text) ≤ o.high) × (read_as (reading_of o.parser) text ≡ text)

-- a number from 1 on has no minus
no_minus : (low high : ℕ) (text : Text) → 1 ≤ low → IsSignedIn (pos low) (pos high) text → starts_with_minus text ≡ false
no_minus low high text one passed = go (starts_with_minus text) refl
  where
    go : (b : Bool) → starts_with_minus text ≡ b → b ≡ false
    go false is = refl
    go true is = let low_ok = rw is at passed.2 in absurd (omega (arith, ints))

without_minus-plain : (text : Text) → starts_with_minus text ≡ false → without_minus text ≡ text
without_minus-plain [] plain = refl
without_minus-plain (x ∷ xs) plain = rw plain refl

pub signed_numbers : (name : Text) (low high : ℕ) → 1 ≤ low → TakesNumbers (signed_option name low high)
signed_numbers name low high one text accepted =
    let passed : IsSignedIn (pos low) (pos high) text = accepts-Accepts false (vp.Signed (pos low) (pos high)) text accepted in
    let plain = no_minus low high text one passed in
    let numeral : IsNumeral 10 (without_leading_plus text) = rw plain at passed.0 in
    let least = rw plain at passed.2 in
    let most = rw plain at passed.3 in (
      numeral,
      omega (arith, ints),
      omega (arith, ints),
      without_minus-plain text plain,
    )

pub unsigned_numbers : (name : Text) (low high : ℕ) → TakesNumbers (unsigned_option name low high)
unsigned_numbers name low high text accepted =
    let passed : IsUnsignedIn low high text = accepts-Accepts false (vp.Unsigned low high) text accepted in
    (passed.0, passed.2, passed.3, refl)

-- a text without a sign, and so a numeral, is what clap's parsers read of it
unsigned_text : (text : Text) → (¬ HasSign text) → without_leading_plus text ≡ text
unsigned_text [] unsigned = without_leading_plus_none [] (λ e. omega arith)
unsigned_text (c ∷ cs) unsigned = without_leading_plus_none (c ∷ cs) (λ (e : c ≡ 43). unsigned (cs, ap (λ (d : ℕ). d ∷ cs) e))

numeral_text : (text : Text) → IsNumeral 10 text → without_leading_plus text ≡ text
numeral_text text is = without_leading_plus_none text (λ e. let digit = digit_at text 0 is.1 is.0 in let least = digit.0 in omega arith)

-- the row of an option of this name
row_fits : (os : List LineOption) (o : LineOption) (rows : List Row) (r : Row) → AreUses os rows
    → option_by_name os (option_name o) ≡ Some o → find (λ r. bytes_eq r.id (option_name o)) rows ≡ Some r → IsRowOf o r
row_fits os o rows r all first is =
    let u = found_holds (IsUse os) (λ r. bytes_eq r.id (option_name o)) rows r all is in
    let named : r.id ≡ option_name o = (bytes_eq-Decides r.id (option_name o)).0 (found_passes (λ r. bytes_eq r.id (option_name o)) rows r is) in
    let same : u.option ≡ o = let at = u.first in let to = ap (option_by_name os) named ∙ first in cc in
    subst (λ p. IsRowOf p r) same u.fits

number_given : (os : List LineOption) (o : NumberOption) (rows : List Row) → AreUses os rows → option_by_name os o.name ≡ Some (number o)
    → TakesNumbers o → (¬ IsSigned rows o.name) → (o.required ≡ true → is_given o.name rows ≡ true) → HasNumber rows o
number_given os o rows all is takes unsigned needed = go (find (λ r. bytes_eq r.id o.name) rows) refl needed
  where
    go : (found : Option Row) → find (λ r. bytes_eq r.id o.name) rows ≡ found
        → (o.required ≡ true → option_map_or (λ r. explicit_source r.source) found false ≡ true) → HasNumber rows o
    go None none needed =
        let first : first_of o.name rows ≡ None = ap (option_and_then (λ (r : Row). slice_get r.values 0)) none in
        (None, first, needed, ap (option_and_then row_text) none ∙ sym first)
    go (Some r) found needed =
        let at = row_fits os (number o) rows r all is found in
        let number = takes at.text at.accepted in
        let first : first_of o.name rows ≡ Some at.text =
        ap (option_and_then (λ (r : Row). slice_get r.values 0)) found ∙ ap (λ (vs : List Text). slice_get vs 0) at.values in
        let plain = unsigned_text at.text (λ sign. unsigned (at.text, first, sign)) in
        let numeral : IsNumeral 10 at.text = subst (IsNumeral 10) plain number.0 in
        let least : o.low ≤ digits_value 10 at.text = subst (λ (t : Text). o.low ≤ digits_value 10 t) plain number.1 in
        let most : digits_value 10 at.text ≤ o.high = subst (λ (t : Text). digits_value 10 t ≤ o.high) plain number.2 in
        let read : one_of o.name rows ≡ Some (read_as (reading_of o.parser) at.text) =
        ap (option_and_then row_text) found ∙ ap (λ (vs : List Text). option_map (read_as r.reading) (slice_get vs 0)) at.values
        ∙ ap (λ how. Some (read_as how at.text)) at.reading in (
          Some (digits_value 10 at.text),
          record { text = at.text; given = first; numeral = numeral; value = refl; least = least; most = most },
          (λ _. refl),
          read ∙ ap Some number.3 ∙ sym first,
        )

is_found : (name : Text) (rows : List Row) → has_row name rows ≡ true → (r : Row) × (find (λ r. bytes_eq r.id name) rows ≡ Some r)
is_found name [] e = cc
is_found name (r ∷ rs) e = go (bytes_eq r.id name) e (is_found name rs)
  where
    go : (b : Bool) → (b || has_row name rs) ≡ true
        → (has_row name rs ≡ true → (s : Row) × (find (λ r. bytes_eq r.id name) rs ≡ Some s))
        → (s : Row) × (cond b (Some r) (find (λ r. bytes_eq r.id name) rs) ≡ Some s)
    go true e rest = (r, refl)
    go false e rest = rest e

flag_given : (os : List LineOption) (name : Text) (rows : List Row) → AreUses os rows → option_by_name os name ≡ Some (flag name)
    → has_row name rows ≡ true → HasFlag rows name
flag_given os name rows all is has =
    let at = is_found name rows has in
    let fits = row_fits os (flag name) rows at.0 all is at.1 in
    let given : is_given name rows ≡ explicit_source at.0.source = ap (λ o. option_map_or (λ (r : Row). explicit_source r.source) o false) at.1 in
    ap (option_and_then row_text) at.1 ∙ ap (λ (vs : List Text). option_map (read_as at.0.reading) (slice_get vs 0)) fits.0
    ∙ ap (λ how. Some (read_as how (bool_text (explicit_source at.0.source)))) fits.1
    ∙ ap (λ b. Some (bool_text b)) (sym given)

-- every text that an option's parser takes is such a number, if it takes numbers
abbrev pub TakesWhat : LineOption → Type 0
TakesWhat (number o) = TakesNumbers o
TakesWhat _ = ⊤

-- a flag has a row
abbrev pub HasRowIfFlag : LineOption → List Row → Type 0
HasRowIfFlag (flag name) rows = has_row name rows ≡ true
HasRowIfFlag _ rows = ⊤

-- an option of a list, which is the first of its name there
abbrev pub IsOptionOf : List LineOption → LineOption → Type 0
IsOptionOf os o = (option_by_name os (option_name o) ≡ Some o) × TakesWhat o

pub option_given : (os : List LineOption) (o : LineOption) (rows : List Row) → AreUses os rows → IsOptionOf os o → HasRowIfFlag o rows
    → IsUnsigned rows o → ((option_rule o).required ≡ true → is_given (option_name o) rows ≡ true) → HasOption rows o
option_given os (number o) rows all is has unsigned needed = number_given os o rows all is.0 is.1 unsigned needed
option_given os (word name) rows all is has unsigned needed = tt
option_given os (many name) rows all is has unsigned needed = tt
option_given os (flag name) rows all is has unsigned needed = flag_given os name rows all is.0 has

-- what `parse` gives of a text, at an unsigned type of k bits
abbrev Parses : ℕ → List ℕ → Result ℕ ParseIntError → Type 0
Parses k t x = ParsesUnsigned k 10 t x × ExplainsUnsignedError 10 t x × HasUnsignedDigitsIfOk t x

module _ (k : ℕ) (f : Found) (o : NumberOption) (h : HasNumber (rows_of f) o) (fits : o.high < 2 ^ k) (r : Option ℕ)
    (none : one_text f o.name ≡ None → r ≡ None) (value : (t : Text) → one_text f o.name ≡ Some t → ReadsOne (Parses k) t r) where
  -- `get_one` reads the number, if its type is wide enough
  number_read : r ≡ h.0
  number_read = go h.0 h.1
    where
      read : one_text f o.name ≡ first_of o.name (rows_of f)
      read = one_text-rows f o.name ∙ h.3

      parsed : (n : ℕ) (is : IsNumberOf (rows_of f) o n) (x : Option ℕ) → ReadsOne (Parses k) is.text x → x ≡ Some n
      parsed n is (Some m) gives = ap Some (gives.0.1 ∙ ap (digits_value 10) (numeral_text is.text is.numeral) ∙ sym is.value)
      parsed n is None gives =
          let plain = numeral_text is.text is.numeral in
          let value : n ≡ digits_value 10 (without_leading_plus is.text) = is.value ∙ ap (digits_value 10) (sym plain) in
          let most = is.most in
          absurd (gives.1.0 (subst (IsNumeral 10) (sym plain) is.numeral, omega arith))

      go : (n : Option ℕ) → IsOptionalNumber (rows_of f) o n → r ≡ n
      go None is = none (read ∙ is)
      go (Some n) is = parsed n is r (value is.text (read ∙ is.given))

  pub some_number : o.required ≡ true → IsSome r
  some_number required = subst IsSome (sym number_read) (h.2 required)

  pub optional_is : IsOptionalNumber (rows_of f) o r
  optional_is = subst (IsOptionalNumber (rows_of f) o) (sym number_read) h.1

  pub number_is : (n : ℕ) → r ≡ Some n → IsNumberOf (rows_of f) o n
  number_is n is = subst (IsOptionalNumber (rows_of f) o) is optional_is

-- `get_flag` reads whether a flag was given
pub flag_is : (f : Found) (name : Text) → HasFlag (rows_of f) name → (r : Bool) → (one_text f name ≡ Some (codes "true") → r ≡ true)
    → (one_text f name ≡ Some (codes "false") → r ≡ false) → r ≡ is_given name (rows_of f)
flag_is f name h r set unset = go (is_given name (rows_of f)) (one_text-rows f name ∙ h)
  where
    go : (b : Bool) → one_text f name ≡ Some (bool_text b) → r ≡ b
    go true e = set e
    go false e = unset e

-- `get_str` gives the first text
pub text_is : (f : Found) (name : Text) (r : Option (Bor Text)) → option_map (λ s. s.now) r ≡ first_value f name
    → first_of name (rows_of f) ≡ option_map (λ s. s.now) r
text_is f name r e = sym (e ∙ first_value-rows f name)

-- whether what an option is given begins with a sign
pub given_signed : (rows : List Row) (name text : Text) (r : Bool) → first_of name rows ≡ Some text
    → MatchBool r (HasPrefixMatch (FindsTextPrefix (codes "+")) text) (FindsTextPrefix (codes "+") text None) → IsTrue r ↔ IsSigned rows name
given_signed rows name text true first cases = ((λ _. (text, first, (drop cases.0 text, cases.1.1))), (λ _. refl))
given_signed rows name text false first cases =
    ((λ signed. cc), (λ signed. let same : text ≡ signed.0 = let other = signed.1 in cc in absurd (cases signed.2.0 (same ∙ signed.2.1))))

pub not_given : (rows : List Row) (name : Text) → first_of name rows ≡ None → IsTrue false ↔ IsSigned rows name
not_given rows name none = ((λ signed. cc), (λ signed. let some = signed.1 in cc))

-- ---- the rows that defaults add

has_row_more : (id : Text) (rows more : List Row) → has_row id rows ≡ true → has_row id (rows ++ more) ≡ true
has_row_more id [] more e = cc
has_row_more id (r ∷ rs) more e = go (bytes_eq r.id id) e (has_row_more id rs more)
  where
    go : (b : Bool) → (b || has_row id rs) ≡ true → (has_row id rs ≡ true → has_row id (rs ++ more) ≡ true)
        → (b || has_row id (rs ++ more)) ≡ true
    go true e rest = refl
    go false e rest = rest e

has_row_last : (id : Text) (rows : List Row) (r : Row) → r.id ≡ id → has_row id (rows ++ r ∷ []) ≡ true
has_row_last id [] r e = rw ((bytes_eq-Decides r.id id).1 e) refl
has_row_last id (s ∷ rs) r e = go (bytes_eq s.id id) (has_row_last id rs r e)
  where
    go : (b : Bool) → has_row id (rs ++ r ∷ []) ≡ true → (b || has_row id (rs ++ r ∷ [])) ≡ true
    go true rest = refl
    go false rest = rest

default_has : (id : Text) (rows : List Row) (a : Rule) → has_row id rows ≡ true → has_row id (with_default rows a) ≡ true
default_has id rows a e = go (has_row a.id rows) refl
  where
    more : (values : List Text) → has_row a.id rows ≡ false → has_row id (default_rows a.id (reading_by a) values rows) ≡ true
    more [] none = e
    more (v ∷ vs) none =
        subst (λ rs. has_row id rs ≡ true) (values_added a.id (reading_by a) DefaultValue (v ∷ vs) rows none) (has_row_more id rows _ e)

    go : (b : Bool) → has_row a.id rows ≡ b → has_row id (cond b rows (default_rows a.id (reading_by a) a.defaults rows)) ≡ true
    go true is = e
    go false is = more a.defaults is

defaults_have : (id : Text) (rows : List Row) (rules : List Rule) → has_row id rows ≡ true → has_row id (fold with_default rows rules) ≡ true
defaults_have id rows [] e = e
defaults_have id rows (a ∷ rest) e = defaults_have id (with_default rows a) rest (default_has id rows a e)

-- its default gives a flag its row, and later ones leave it
pub flag_has : (o : LineOption) (rows : List Row) (rules : List Rule)
    → HasRowIfFlag o (fold with_default (with_default rows (filled (option_rule o))) rules)
flag_has (number o) rows rules = tt
flag_has (word name) rows rules = tt
flag_has (many name) rows rules = tt
flag_has (flag name) rows rules = defaults_have name _ rules (go (has_row name rows) refl)
  where
    go : (b : Bool) → has_row name rows ≡ b → has_row name (cond b rows (with_values name AsWritten DefaultValue (codes "false" ∷ []) rows)) ≡ true
    go true is = is
    go false is =
        subst (λ rs. has_row name rs ≡ true) (values_added name AsWritten DefaultValue (codes "false" ∷ []) rows is)
        (has_row_last name rows (new_row name AsWritten DefaultValue (codes "false" ∷ [])) refl)
