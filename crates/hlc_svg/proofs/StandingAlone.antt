-- Letters are seen, stand alone, and are read from left to right: their table has no characters that don't. It has all letters of some scripts.
use Rattle.std.proofs.Common.{◌≡◌, ◌⊎◌, ℕ, ◌<◌, ◌≤◌, ◌&&◌, ◌||◌, true, inl, inr, List, [], ◌∷◌, arith, refl, subst}
use Rattle.std.specs.Prelude.{Bool, nat_le, nat_lt}
use Rattle.std.specs.List.{list_all, list_any}
use Rattle.std.proofs.lemmas.Bool.{and_from, and_parts, or_cases, or_left, or_right}
use Rattle.std.proofs.lemmas.Bool.Decides.{nat_tests}
use Rattle.std.proofs.lemmas.List.Elements.{All-cons, All-nil}
use Rattle.std.proofs.lemmas.List.Sums.{AllPass-from_list_all}
use Rattle.hlc_svg.specs.Characters.{IsInside, IsOutside, controls, directions, eastern, formats, marks, unassigned, western}
use Rattle.hlc_svg.specs.LabelLaws.{LettersStandAlone, ScriptsAreLetters}
use Rattle.hlc_svg.specs.Letters.{is_among, is_letter}
use Rattle.hlc_svg.specs.declared.letters.Letters.{Letters}
use Rattle.hlc_svg.specs.declared.letters.TheConstants.{LETTERS, SURROGATES}

-- some letters have none of a range, and none of some ranges
abbrev have_none : List Letters → ℕ × ℕ → Bool
have_none some range = list_all (λ letters. nat_lt letters.last range.0 || nat_lt range.1 letters.first) some

abbrev have_none_of : List Letters → List (ℕ × ℕ) → Bool
have_none_of some ranges = list_all (λ range. have_none some range) ranges

outside_range :
    (some : List Letters) (range : ℕ × ℕ) (code : ℕ) → have_none some range ≡ true → is_among some code ≡ true →
    (code < range.0) ⊎ (range.1 < code)
unfolding is_among
outside_range [] range code none is = absurd (cc)
outside_range (letters ∷ some) range code none is =
    let apart = and_parts (nat_lt letters.last range.0 || nat_lt range.1 letters.first) (have_none some range) none in
    elim (or_cases (nat_le letters.first code && nat_le code letters.last) (is_among some code) is) [
      | inl here ↦
          let within = and_parts (nat_le letters.first code) (nat_le code letters.last) here in
          let from : letters.first ≤ code = grind (arith, nat_tests, within.0) in
          let to : code ≤ letters.last = grind (arith, nat_tests, within.1) in
          elim (or_cases (nat_lt letters.last range.0) (nat_lt range.1 letters.first) apart.0) [
            | inl before ↦ let lt : letters.last < range.0 = grind (arith, nat_tests, before) in inl (omega arith)
            | inr after ↦ let lt : range.1 < letters.first = grind (arith, nat_tests, after) in inr (omega arith)
          ]
      | inr later ↦ outside_range some range code apart.1 later
    ]

outside_ranges : (some : List Letters) (ranges : List (ℕ × ℕ)) (code : ℕ) → have_none_of some ranges ≡ true → is_among some code ≡ true → IsOutside code ranges
outside_ranges some [] code none is = All-nil (λ (range : ℕ × ℕ). (code < range.0) ⊎ (range.1 < code))
outside_ranges some (range ∷ ranges) code none is =
    let parts = and_parts (have_none some range) (have_none_of some ranges) none in
    All-cons (λ (range : ℕ × ℕ). (code < range.0) ⊎ (range.1 < code)) range ranges (outside_range some range code parts.0 is)
    (outside_ranges some ranges code parts.1 is)

pub letters_stand_alone : LettersStandAlone
unfolding is_letter
letters_stand_alone code is =
    let among = (and_parts (nat_lt code SURROGATES) (is_among LETTERS code) is).1 in
    record {
      no_control = outside_ranges LETTERS controls code refl among;
      no_format = outside_ranges LETTERS formats code refl among;
      no_direction = outside_ranges LETTERS directions code refl among;
      no_mark = outside_ranges LETTERS marks code refl among;
      assigned = outside_ranges LETTERS unassigned code refl among;
    }

-- some letters have all of a range, and of some ranges, and these come before the surrogates
abbrev have_all : List Letters → ℕ × ℕ → Bool
have_all some range = list_any (λ letters. nat_le letters.first range.0 && nat_le range.1 letters.last) some

abbrev have_all_of : List (ℕ × ℕ) → Bool
have_all_of ranges = list_all (λ range. nat_lt range.1 SURROGATES && have_all LETTERS range) ranges

in_range :
    (some : List Letters) (range : ℕ × ℕ) (code : ℕ) → have_all some range ≡ true → range.0 ≤ code → code ≤ range.1 →
    is_among some code ≡ true
unfolding is_among
in_range [] range code have from to = absurd (cc)
in_range (letters ∷ some) range code have from to =
    elim (or_cases (nat_le letters.first range.0 && nat_le range.1 letters.last) (have_all some range) have) [
      | inl here ↦
          let within = and_parts (nat_le letters.first range.0) (nat_le range.1 letters.last) here in
          let first : letters.first ≤ range.0 = grind (arith, nat_tests, within.0) in
          let last : range.1 ≤ letters.last = grind (arith, nat_tests, within.1) in
          let low : nat_le letters.first code ≡ true = grind (arith, nat_tests) in
          let high : nat_le code letters.last ≡ true = grind (arith, nat_tests) in
          or_left _ _ (and_from _ _ low high)
      | inr later ↦ or_right _ _ (in_range some range code later from to)
    ]

in_ranges : (ranges : List (ℕ × ℕ)) (code : ℕ) → have_all_of ranges ≡ true → IsInside code ranges → is_letter code ≡ true
unfolding is_letter
in_ranges ranges code have inside =
    let range = inside.0 in
    let from : range.0 ≤ code = inside.2 in
    let to : code ≤ range.1 = inside.3 in
    let found = AllPass-from_list_all (λ (range : ℕ × ℕ). nat_lt range.1 SURROGATES && have_all LETTERS range) ranges have inside.1.0 range inside.1.1 in
    let has = subst (λ (range : ℕ × ℕ). (nat_lt range.1 SURROGATES && have_all LETTERS range) ≡ true) inside.1.2 found in
    let parts = and_parts (nat_lt range.1 SURROGATES) (have_all LETTERS range) has in
    let end : range.1 < SURROGATES = grind (arith, nat_tests, parts.0) in
    let before : nat_lt code SURROGATES ≡ true = grind (arith, nat_tests) in
    and_from _ _ before (in_range LETTERS range code parts.1 from to)

pub scripts_are_letters : ScriptsAreLetters
scripts_are_letters code inside =
    elim inside [ inl west ↦ in_ranges western code refl west | inr east ↦ in_ranges eastern code refl east ]
