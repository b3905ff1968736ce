-- Lists in pages, and what is always true of them.
use Rattle.std.specs.Prelude.{◌≡◌, ℕ, ◌-◌, ◌*◌, ◌≤◌, List, [], ◌∷◌, length, refl, slice_set, vec_len}
use Rattle.std.specs.Coded.{Coded, code_by, coded×, coded_ℕ, coded_list}
use Rattle.std.specs.List.{flat_map}
use Rattle.std.specs.Vec.{vec_capacity}
use Rattle.std.specs.declared.vec.Vec.{Vec}
use Rattle.std.specs.declared.alloc.Global.{Global}
use Rattle.hlc_pages.specs.declared.pages.TheConstants.{PAGE_LEN}

-- items in order, and how many more find room without memory
pub record PagedItems (X : Type 0) : Type 0 where
  pub items : List X
  pub room : ℕ

-- they are stored as the pair of both
abbrev pub paged_code : {X : Type 0} → Coded X → Coded (PagedItems X)
paged_code {X} code = code_by (List X × ℕ) (coded× (coded_list code) coded_ℕ) (λ p. (p.items, p.room)) (λ p. record { items = p.0; room = p.1 }) (λ _. refl)

abbrev pub Page : Type 0 → Type 0
Page X = Vec X Global

module _ {X : Type 0} where
  -- paged items after a write at a place
  abbrev pub with_item_at : PagedItems X → ℕ → X → PagedItems X
  with_item_at paged place item = record { items = slice_set paged.items place item; room = paged.room }

  -- the items of pages, one page after another
  abbrev pub items_in : List (Page X) → List X
  items_in pages = flat_map (λ page. page.items) pages

  -- the value of pages
  abbrev pub paged_items : List (Page X) → ℕ → PagedItems X
  paged_items pages len = record { items = items_in pages; room = PAGE_LEN * length pages - len }

  -- a page that has so many items from it on: it has as many of them as it holds
  pub record IsPage (page : Page X) (left : ℕ) : Type 0 where
    pub space : PAGE_LEN ≤ vec_capacity page
    pub few : left ≤ PAGE_LEN → vec_len page ≡ left
    pub full : PAGE_LEN ≤ left → vec_len page ≡ PAGE_LEN

  -- pages with so many items, of which each page but the last that has any is full
  abbrev pub ArePages : List (Page X) → ℕ → Type 0
  ArePages [] left = left ≡ 0
  ArePages (page ∷ pages) left = IsPage page left × ArePages pages (left - PAGE_LEN)
