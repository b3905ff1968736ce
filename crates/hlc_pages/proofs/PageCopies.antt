-- Copies of pages are pages with the same items.
use Rattle.std.proofs.Common.{◌≡◌, ℕ, ◌-◌, ◌≤◌, List, [], ◌∷◌, ◌++◌, length, arith, refl, sym, ap, ◌∙◌}
use Rattle.std.specs.Prelude.{vec_len}
use Rattle.std.specs.Vec.{vec_capacity}
use Rattle.std.proofs.lemmas.List.{length-map}
use Rattle.std.proofs.lemmas.List.Elements.{All-head, All-tail}
use Rattle.hlc_pages.specs.Copies.{AreCopies}
use Rattle.hlc_pages.specs.Log.{AreLogPages, LogPage}
use Rattle.hlc_pages.specs.Pages.{ArePages, IsPage, Page, items_in}

module _ {X : Type 0} where
  -- what a copy of the first page, and those of the others, have
  module _ (size : ℕ) (page : Page X) (pages : List (Page X)) (copy : Page X) (copies : List (Page X))
      (h : AreCopies size (page ∷ pages) (copy ∷ copies)) where
    first_items : copy.items ≡ page.items
    first_items = let items = h.items in cc

    other_copies : AreCopies size pages copies
    other_copies = record {
      items = let items = h.items in cc;
      space = All-tail (λ (p : Page X). size ≤ vec_capacity p) copy copies h.space;
    }

    first_space : size ≤ vec_capacity copy
    first_space = All-head (λ (p : Page X). size ≤ vec_capacity p) copy copies h.space

  copied_page : (page copy : Page X) (left : ℕ) → IsPage page left → copy.items ≡ page.items → 1024 ≤ vec_capacity copy → IsPage copy left
  copied_page page copy left is items space =
      let len : vec_len copy ≡ vec_len page = copy.ok.0 ∙ ap length items ∙ sym page.ok.0 in
      record {
        space = space;
        few = λ le. len ∙ is.few le;
        full = λ le. len ∙ is.full le;
      }

  pub copies_are_pages : (pages copies : List (Page X)) (left : ℕ)
      → AreCopies 1024 pages copies → ArePages pages left → ArePages copies left
  copies_are_pages [] [] left h are = are
  copies_are_pages [] (copy ∷ copies) left h are = let items = h.items in absurd (cc)
  copies_are_pages (page ∷ pages) [] left h are = let items = h.items in absurd (cc)
  copies_are_pages (page ∷ pages) (copy ∷ copies) left h are = (
    copied_page page copy left are.0 (first_items 1024 page pages copy copies h) (first_space 1024 page pages copy copies h),
    copies_are_pages pages copies (left - 1024) (other_copies 1024 page pages copy copies h) are.1,
  )

  pub copies_have_items : (size : ℕ) (pages copies : List (Page X)) → AreCopies size pages copies → items_in copies ≡ items_in pages
  copies_have_items size [] [] h = refl
  copies_have_items size [] (copy ∷ copies) h = let items = h.items in absurd (cc)
  copies_have_items size (page ∷ pages) [] h = let items = h.items in absurd (cc)
  copies_have_items size (page ∷ pages) (copy ∷ copies) h =
      ap (λ (xs : List X). xs ++ items_in copies) (first_items size page pages copy copies h)
      ∙ ap (λ (xs : List X). page.items ++ xs) (copies_have_items size pages copies (other_copies size page pages copy copies h))

pub copies_are_log_pages : (pages copies : List LogPage) → AreCopies 65536 pages copies → AreLogPages pages → AreLogPages copies
copies_are_log_pages pages copies h are = record {
  count =
      let same = sym (length-map copies (λ (p : LogPage). p.items)) ∙ ap length h.items ∙ length-map pages (λ (p : LogPage). p.items) in
      omega (arith, are.count);
  space = h.space;
}
