-- Labels that are cut in the middle.
use Rattle.std.proofs.Common.{◌≡◌, ◌∙◌, ℕ, zero, suc, ◌+◌, ◌-◌, ◌<◌, ◌≤◌, true, false, inl, inr, All, List, [], ◌∷◌, ◌++◌, ap, arith, drop, length, refl, sym}
use Rattle.std.specs.Prelude.{nat_lt}
use Rattle.std.proofs.lemmas.Bool.{cases_Bool}
use Rattle.std.proofs.lemmas.Bool.Decides.{nat_tests}
use Rattle.std.proofs.lemmas.List.Elements.{All-tail}
use Rattle.hlc_svg.specs.CutLabel.{CutLabelsAreHarmless, CutLabelsFit, EndsAreEnds, FittingLabelsAreWhole, end_within, fits, side_room}
use Rattle.hlc_svg.specs.Label.{byte_width, label_after, label_text, label_width, letter_width, shown_at, shown_len, shown_text, shown_width, width_after}
use Rattle.hlc_svg.specs.declared.label.Shown.{Shown}
use Rattle.hlc_svg.specs.declared.label.Shown.TheVariants.{Byte, Letter}
use Rattle.hlc_svg.specs.declared.label.TheConstants.{FIRST_WIDE}
use Rattle.hlc_svg.proofs.Harmless.{harmless_append, labels_are_harmless}

-- what is shown at one place is at most four characters wide
narrow_byte : (b : ℕ) → byte_width b ≤ 4
narrow_byte b = grind (arith, nat_tests)

narrow_letter : (code : ℕ) → letter_width code ≤ 4
narrow_letter code = elim (cases_Bool (nat_lt code FIRST_WIDE)) [ inl one ↦ rw one (omega arith) | inr two ↦ rw two (omega arith) ]

narrow : (s : Shown) → shown_width s ≤ 4
narrow (Letter code) = narrow_letter code
narrow (Byte b) = narrow_byte b

-- a label is no wider than there is room for, and two dots
width_bounded : (passed room : ℕ) (bytes : List ℕ) → width_after passed room bytes ≤ room + 2
width_bounded passed room [] = omega arith
width_bounded (suc passed) room (b ∷ bytes) = width_bounded passed room bytes
width_bounded zero room (b ∷ bytes) =
    let width : ℕ = shown_width (shown_at (b ∷ bytes)) in
    elim (cases_Bool (nat_lt room (shown_width (shown_at (b ∷ bytes))))) [
      | inl full ↦ rw full (omega arith)
      | inr space ↦
          let room_for : width ≤ room = grind (arith, nat_tests, space) in
          let rest = width_bounded (shown_len (shown_at (b ∷ bytes)) - 1) (room - width) bytes in
          rw space (omega (arith, rest))
    ]

-- a label that is no wider than there is room for with two characters more isn't cut: so it is as wide without them, and the same with more room
module _ (more : ℕ) where
  abbrev Stays : (passed room : ℕ) → List ℕ → Type 0
  Stays passed room bytes = (width_after passed room bytes ≤ room) × (label_after passed room bytes ≡ label_after passed (room + more) bytes)

  stays : (passed room : ℕ) (bytes : List ℕ) → width_after passed (room + 2) bytes ≤ room → Stays passed room bytes
  stays passed room [] small = (omega arith, refl)
  stays (suc passed) room (b ∷ bytes) small = stays passed room bytes small
  stays zero room (b ∷ bytes) small =
      let shown = shown_at (b ∷ bytes) in
      let width : ℕ = shown_width (shown_at (b ∷ bytes)) in
      let passed : ℕ = shown_len (shown_at (b ∷ bytes)) - 1 in
      let thin = narrow (shown_at (b ∷ bytes)) in
      elim (cases_Bool (nat_lt (room + 2) (shown_width (shown_at (b ∷ bytes))))) [
        | inl full ↦
            let wide : room + 2 < width = grind (arith, nat_tests, full) in
            let dots : 2 ≤ room = rw full at small in
            absurd (omega (arith, thin))
        | inr space ↦
            let rest : width + width_after passed (room + 2 - width) bytes ≤ room = rw space at small in
            let within : width ≤ room = omega arith in
            let left : room + 2 - width ≡ room - width + 2 = omega arith in
            let enough : width_after passed (room + 2 - width) bytes ≤ room - width = omega arith in
            let fewer : width_after passed (room - width + 2) bytes ≤ room - width = rw left at enough in
            let later = stays passed (room - width) bytes fewer in
            let test : nat_lt room (shown_width (shown_at (b ∷ bytes))) ≡ false = grind (arith, nat_tests, within) in
            let test_more : nat_lt (room + more) (shown_width (shown_at (b ∷ bytes))) ≡ false = grind (arith, nat_tests, within) in
            let left_more : room + more - width ≡ room - width + more = omega arith in (
              rw test (omega (arith, later.0)),
              rw (test, test_more) (ap (λ (t : List ℕ). shown_text shown ++ t) (rw left_more later.1)),
            )
      ]

fitted : (room : ℕ) (bytes : List ℕ) → fits room bytes ≡ true → label_width (room + 2) bytes ≤ room
unfolding fits
fitted room bytes fit = grind (arith, nat_tests, fit)

none_fits : (room : ℕ) → fits room [] ≡ true
unfolding fits
none_fits room = grind (arith, nat_tests)

fit_is_no_wider : (room : ℕ) (bytes : List ℕ) → fits room bytes ≡ true → label_width room bytes ≤ room
fit_is_no_wider room bytes fit = (stays 0 0 room bytes (fitted room bytes fit)).0

-- the end of bytes
end_fits : (room : ℕ) (bytes : List ℕ) → fits room (end_within room bytes) ≡ true
end_fits room [] = none_fits room
end_fits room (b ∷ bytes) = elim (cases_Bool (fits room (b ∷ bytes))) [ inl fit ↦ rw fit fit | inr cut ↦ rw cut (end_fits room bytes) ]

front_of : (room : ℕ) (bytes : List ℕ) → (front : List ℕ) × (front ++ end_within room bytes ≡ bytes)
front_of room [] = ([], refl)
front_of room (b ∷ bytes) =
    elim (cases_Bool (fits room (b ∷ bytes))) [
      | inl fit ↦ ([], rw fit refl)
      | inr cut ↦ (let rest = front_of room bytes in (b ∷ rest.0, rw cut (ap (λ (t : List ℕ). b ∷ t) rest.1)))
    ]

small_end : (room : ℕ) (bytes : List ℕ) → All (λ (b : ℕ). b < 256) bytes → All (λ (b : ℕ). b < 256) (end_within room bytes)
small_end room [] small = small
small_end room (b ∷ bytes) small =
    elim (cases_Bool (fits room (b ∷ bytes))) [
      | inl fit ↦ rw fit small
      | inr cut ↦ rw cut (small_end room bytes (All-tail (λ (b : ℕ). b < 256) b bytes small))
    ]

-- it is found byte by byte
pub end_is_here : (room : ℕ) (bytes : List ℕ) → fits room bytes ≡ true → bytes ≡ end_within room bytes
end_is_here room [] fit = refl
end_is_here room (b ∷ bytes) fit = rw fit refl

pub end_is_later : (room : ℕ) (bytes : List ℕ) → fits room bytes ≡ false → end_within room (drop 1 bytes) ≡ end_within room bytes
end_is_later room [] cut = refl
end_is_later room (b ∷ bytes) cut = rw cut refl

pub some_do_not_fit : (room : ℕ) (bytes : List ℕ) → fits room bytes ≡ false → 0 < length bytes
some_do_not_fit room [] cut = let both : true ≡ false = sym (none_fits room) ∙ cut in absurd (cc)
some_do_not_fit room (b ∷ bytes) cut = omega arith

pub ends_are_ends : EndsAreEnds
ends_are_ends room bytes = (end_fits room bytes, front_of room bytes)

pub cut_labels_fit : CutLabelsFit
cut_labels_fit room bytes dots =
    elim (cases_Bool (fits room bytes)) [
      | inl fit ↦ rw fit (fit_is_no_wider room bytes fit)
      | inr cut ↦
          let side : ℕ = side_room room in
          let begins = width_bounded 0 side bytes in
          let ends = fit_is_no_wider side (end_within side bytes) (end_fits side bytes) in
          rw cut (omega (arith, begins, ends))
    ]

pub fitting_labels_are_whole : FittingLabelsAreWhole
fitting_labels_are_whole room more bytes fit = rw fit (stays more 0 room bytes (fitted room bytes fit)).1

pub cut_labels_are_harmless : CutLabelsAreHarmless
cut_labels_are_harmless room bytes small =
    elim (cases_Bool (fits room bytes)) [
      | inl fit ↦ rw fit (labels_are_harmless room bytes small)
      | inr cut ↦
          let side : ℕ = side_room room in
          let begins = labels_are_harmless side bytes small in
          let ends = labels_are_harmless side (end_within side bytes) (small_end side bytes small) in
          rw cut (harmless_append (label_text side bytes) (label_text side (end_within side bytes)) begins ends)
    ]
