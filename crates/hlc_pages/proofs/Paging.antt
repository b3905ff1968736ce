-- Items in pages are found and changed at their places.
use Rattle.std.proofs.Common.{◌≡◌, ℕ, zero, suc, ◌+◌, ◌-◌, ◌*◌, ◌<◌, ◌≤◌, ◌/◌, ◌%◌, ◌⊎◌, inl, inr, List, [], ◌∷◌, ◌++◌, length, get_or, append_assoc, length-append, arith, subst, sym, ap, ◌∙◌}
use Rattle.std.specs.Prelude.{slice_set, vec_len}
use Rattle.std.specs.Vec.{vec_capacity, with_item}
use Rattle.std.proofs.lemmas.Bool.{cases_lt}
use Rattle.std.proofs.lemmas.List.{append-nil, get_or-append-add, get_or_append_left, length_push, nil_from_length, set-append_left, set-append_right}
use Rattle.hlc_pages.specs.Growth.{HasNewPage}
use Rattle.hlc_pages.specs.Pages.{ArePages, IsPage, Page, PagedItems, items_in, paged_items}

module _ {X : Type 0} where
  module _ (page : Page X) (left : ℕ) (is : IsPage page left) where
    size_of_page : ((left < 1024) × (length page.items ≡ left)) ⊎ ((1024 ≤ left) × (length page.items ≡ 1024))
    size_of_page =
        elim (cases_lt left 1024) [
          | inl lt ↦ inl (lt, sym page.ok.0 ∙ is.few (omega arith))
          | inr le ↦ inr (le, sym page.ok.0 ∙ is.full le)
        ]

    size_when_full : 1024 ≤ left → length page.items ≡ 1024
    size_when_full le = sym page.ok.0 ∙ is.full le

    within_page : (s : ℕ) → s < 1024 → s < left → s < length page.items
    within_page s small within = elim size_of_page [ inl few ↦ omega (arith, few.1) | inr full ↦ omega (arith, full.1) ]

  pub length-items_in : (pages : List (Page X)) (left : ℕ) → ArePages pages left → length (items_in pages) ≡ left
  length-items_in [] left h = sym h
  length-items_in (page ∷ pages) left h =
      let rest = length-items_in pages (left - 1024) h.1 in
      let both = length-append page.items (items_in pages) in
      elim (size_of_page page left h.0) [
        | inl few ↦ omega (arith, rest, both, few.0, few.1)
        | inr full ↦ omega (arith, rest, both, full.0, full.1)
      ]

  page_exists_at : (pages : List (Page X)) (left p : ℕ) → ArePages pages left → 1024 * p < left → p < length pages
  page_exists_at [] left p h within = absurd (omega (arith, h))
  page_exists_at (page ∷ pages) left zero h within = omega arith
  page_exists_at (page ∷ pages) left (suc p) h within = let rest = page_exists_at pages (left - 1024) p h.1 (omega arith) in omega arith

  -- a place among the items is one in a page
  pub record IsInPage (pages : List (Page X)) (p s : ℕ) (other : Page X) : Type 0 where
    pub item : s < length (get_or pages p other).items
    pub is : (e : X) → get_or (get_or pages p other).items s e ≡ get_or (items_in pages) (1024 * p + s) e

  pub in_page : (pages : List (Page X)) (left p s : ℕ) (other : Page X) → ArePages pages left
      → s < 1024 → 1024 * p + s < left → IsInPage pages p s other
  in_page [] left p s other h small within = absurd (omega (arith, h))
  in_page (page ∷ pages) left zero s other h small within =
      let here = within_page page left h.0 s small (omega arith) in
      let same : 1024 * 0 + s ≡ s = omega arith in
      record {
        item = here;
        is = λ e.
            let at = ap (λ (i : ℕ). get_or (page.items ++ items_in pages) i e) same in
            sym (at ∙ get_or_append_left page.items (items_in pages) e s here);
      }
  in_page (page ∷ pages) left (suc p) s other h small within =
      let size = size_when_full page left h.0 (omega arith) in
      let rest = in_page pages (left - 1024) p s other h.1 small (omega arith) in
      let later : 1024 * suc p + s ≡ length page.items + (1024 * p + s) = omega (arith, size) in
      record {
        item = rest.item;
        is = λ e.
            let at = ap (λ (i : ℕ). get_or (page.items ++ items_in pages) i e) later in
            rest.is e ∙ sym (at ∙ get_or-append-add page.items (items_in pages) (1024 * p + s) e);
      }

  -- what is read at a place where pages show an item
  module _ (stored : PagedItems X) (pages : List (Page X)) (left i : ℕ) (view_is : paged_items pages left ≡ stored) (h : ArePages pages left)
      (lt : i < length stored.items) where
    within : i < left
    within =
        let shown = subst (λ (a : PagedItems X). i < length a.items) (sym view_is) lt in
        let size = length-items_in pages left h in
        omega arith

    pub page_exists : i / 1024 < length pages
    page_exists = page_exists_at pages left (i / 1024) h (omega (arith, within))

    module _ (page : Page X) (is : page ≡ get_or pages (i / 1024) page) where
      found : IsInPage pages (i / 1024) (i % 1024) page
      found = in_page pages left (i / 1024) (i % 1024) page h (omega arith) (omega (arith, within))

      pub item_exists_in_page : i % 1024 < vec_len page
      item_exists_in_page = omega (arith, page.ok.0, subst (λ (x : Page X). i % 1024 < length x.items) (sym is) found.item)

      pub item_of_page : (item : X) → item ≡ get_or page.items (i % 1024) item → item ≡ get_or stored.items i item
      item_of_page item read =
          read ∙ ap (λ (x : Page X). get_or x.items (i % 1024) item) is ∙ found.is item
          ∙ ap (λ (k : ℕ). get_or (items_in pages) k item) (let whole : 1024 * (i / 1024) + i % 1024 ≡ i = omega arith in whole)
          ∙ ap (λ (a : PagedItems X). get_or a.items i item) view_is

  pub length_shown : (stored : PagedItems X) (pages : List (Page X)) (len : ℕ)
      → paged_items pages len ≡ stored → ArePages pages len → len ≡ length stored.items
  length_shown stored pages len view_is h = sym (length-items_in pages len h) ∙ ap (λ (a : PagedItems X). length a.items) view_is

  -- a change of one item of a page is one of that item among all
  pub items-set : (pages : List (Page X)) (left p s : ℕ) (other changed : Page X) (item : X)
      → ArePages pages left → s < 1024 → 1024 * p + s < left → changed.items ≡ slice_set (get_or pages p other).items s item
      → items_in (slice_set pages p changed) ≡ slice_set (items_in pages) (1024 * p + s) item
  items-set [] left p s other changed item h small within is = absurd (omega (arith, h))
  items-set (page ∷ pages) left zero s other changed item h small within is =
      let here = within_page page left h.0 s small (omega arith) in
      let same : 1024 * 0 + s ≡ s = omega arith in
      let at = ap (λ (i : ℕ). slice_set (page.items ++ items_in pages) i item) same in
      ap (λ (items : List X). items ++ items_in pages) is ∙ sym (at ∙ set-append_left page.items (items_in pages) s item here)
  items-set (page ∷ pages) left (suc p) s other changed item h small within is =
      let size = size_when_full page left h.0 (omega arith) in
      let rest = items-set pages (left - 1024) p s other changed item h.1 small (omega arith) is in
      let later : 1024 * suc p + s - 1024 ≡ 1024 * p + s = omega arith in
      ap (λ (items : List X). page.items ++ items) (rest ∙ ap (λ (i : ℕ). slice_set (items_in pages) i item) (sym later))
      ∙ sym (set-append_right page.items (items_in pages) 1024 (1024 * suc p + s) item size (omega arith))

  is_page : (page changed : Page X) (left : ℕ)
      → IsPage page left → vec_len changed ≡ vec_len page → vec_capacity changed ≡ vec_capacity page → IsPage changed left
  is_page page changed left is len capacity = record {
    space = let space = is.space in omega arith;
    few = λ le. len ∙ is.few le;
    full = λ le. len ∙ is.full le;
  }

  -- pages of which one has as many items as before are as before
  pub pages-set : (pages : List (Page X)) (left p : ℕ) (other changed : Page X)
      → ArePages pages left → vec_len changed ≡ vec_len (get_or pages p other) → vec_capacity changed ≡ vec_capacity (get_or pages p other)
      → ArePages (slice_set pages p changed) left
  pages-set [] left p other changed h len capacity = h
  pages-set (page ∷ pages) left zero other changed h len capacity = (is_page page changed left h.0 len capacity, h.1)
  pages-set (page ∷ pages) left (suc p) other changed h len capacity = (h.0, pages-set pages (left - 1024) p other changed h.1 len capacity)

  -- what a change of one item makes of pages
  module _ (stored : PagedItems X) (pages : List (Page X)) (left i : ℕ) (view_is : paged_items pages left ≡ stored) (h : ArePages pages left)
      (lt : i < length stored.items) (page : Page X) (is : page ≡ get_or pages (i / 1024) page) where
    pub pages-set_at : (item : X) → ArePages (slice_set pages (i / 1024) (with_item page (i % 1024) item)) left
    pages-set_at item = pages-set pages left (i / 1024) page (with_item page (i % 1024) item) h (ap vec_len is) (ap vec_capacity is)

    pub items-set_at : (item : X)
        → items_in (slice_set pages (i / 1024) (with_item page (i % 1024) item)) ≡ slice_set (items_in pages) i item
    items-set_at item =
        items-set pages left (i / 1024) (i % 1024) page (with_item page (i % 1024) item) item h (omega arith)
        (omega (arith, within stored pages left i view_is h lt))
        (ap (λ (x : Page X). slice_set x.items (i % 1024) item) is)
        ∙ ap (λ (k : ℕ). slice_set (items_in pages) k item) (let whole : 1024 * (i / 1024) + i % 1024 ≡ i = omega arith in whole)

  pub room_for : (pages : List (Page X)) (left : ℕ) → ArePages pages left → left ≤ 1024 * length pages
  room_for [] left h = omega (arith, h)
  room_for (page ∷ pages) left h = let rest = room_for pages (left - 1024) h.1 in omega arith

  -- the page of the next item has space
  pub page_has_space : (pages : List (Page X)) (left p : ℕ) (other : Page X) → ArePages pages left
      → 1024 * p ≤ left → left < 1024 * p + 1024 → p < length pages
      → vec_len (get_or pages p other) < vec_capacity (get_or pages p other)
  page_has_space [] left p other h from to exists = absurd (omega arith)
  page_has_space (page ∷ pages) left zero other h from to exists = let space = h.0.space in let few = h.0.few (omega arith) in omega arith
  page_has_space (page ∷ pages) left (suc p) other h from to exists =
      page_has_space pages (left - 1024) p other h.1 (omega arith) (omega arith) (omega arith)

  -- one more item in that page
  module _ (other grown : Page X) (item : X) where
    pub pages-push : (pages : List (Page X)) (left p : ℕ) → ArePages pages left → 1024 * p ≤ left → left < 1024 * p + 1024
        → vec_len grown ≡ vec_len (get_or pages p other) + 1
        → vec_capacity grown ≡ vec_capacity (get_or pages p other) → p < length pages → ArePages (slice_set pages p grown) (left + 1)
    pages-push [] left p h from to len capacity exists = absurd (omega arith)
    pages-push (page ∷ pages) left zero h from to len capacity exists = (
      record {
        space = let space = h.0.space in omega arith;
        few = λ le. let few = h.0.few (omega arith) in omega arith;
        full = λ le. let few = h.0.few (omega arith) in omega arith;
      },
      subst (ArePages pages) (let none : left - 1024 ≡ left + 1 - 1024 = omega arith in none) h.1,
    )
    pages-push (page ∷ pages) left (suc p) h from to len capacity exists = (
      record {
        space = h.0.space;
        few = λ le. absurd (omega arith);
        full = λ le. h.0.full (omega arith);
      },
      subst (ArePages (slice_set pages p grown)) (let more : left - 1024 + 1 ≡ left + 1 - 1024 = omega arith in more)
          (pages-push pages (left - 1024) p h.1 (omega arith) (omega arith) len capacity (omega arith)),
    )

    pub items-push : (pages : List (Page X)) (left p : ℕ) → ArePages pages left → 1024 * p ≤ left → left < 1024 * p + 1024
        → grown.items ≡ (get_or pages p other).items ++ item ∷ [] → p < length pages
        → items_in (slice_set pages p grown) ≡ items_in pages ++ item ∷ []
    items-push [] left p h from to is exists = absurd (omega arith)
    items-push (page ∷ pages) left zero h from to is exists =
        let size = length-items_in pages (left - 1024) h.1 in
        let none : items_in pages ≡ [] = nil_from_length (items_in pages) (omega arith) in
        ap (λ (items : List X). grown.items ++ items) none ∙ append-nil grown.items ∙ is
        ∙ ap (λ (items : List X). items ++ item ∷ []) (sym (ap (λ (items : List X). page.items ++ items) none ∙ append-nil page.items))
    items-push (page ∷ pages) left (suc p) h from to is exists =
        ap (λ (items : List X). page.items ++ items) (items-push pages (left - 1024) p h.1 (omega arith) (omega arith) is (omega arith))
        ∙ sym (append_assoc page.items (items_in pages) (item ∷ []))

  -- one more page, without items
  module _ (page : Page X) (empty : page.items ≡ []) where
    pub pages-more : 1024 ≤ vec_capacity page → (pages : List (Page X)) (left : ℕ)
        → ArePages pages left → ArePages (pages ++ page ∷ []) left
    pages-more space [] left h =
        let none : vec_len page ≡ 0 = page.ok.0 ∙ ap length empty in
        (record { space = space; few = λ le. none ∙ sym h; full = λ le. absurd (omega arith) }, omega arith)
    pages-more space (other ∷ pages) left h = (h.0, pages-more space pages (left - 1024) h.1)

    pub items-more : (pages : List (Page X)) → items_in (pages ++ page ∷ []) ≡ items_in pages
    items-more [] = append-nil page.items ∙ empty
    items-more (other ∷ pages) = ap (λ (items : List X). other.items ++ items) (items-more pages)

  module _ {old new : List (Page X)} (grown : HasNewPage 1024 old new ⊎ (new ≡ old)) where
    pub pages-grown : (left : ℕ) → ArePages old left → ArePages new left
    pages-grown left h = elim grown [
      | inl added ↦ subst (λ (pages : List (Page X)). ArePages pages left) (sym added.is) (pages-more added.page added.empty added.space old left h)
      | inr same ↦ subst (λ (pages : List (Page X)). ArePages pages left) (sym same) h
    ]

    pub items-grown : items_in new ≡ items_in old
    items-grown = elim grown [
      | inl added ↦ ap items_in added.is ∙ items-more added.page added.empty old
      | inr same ↦ ap items_in same
    ]

  pub room_in_new_page : {old new : List (Page X)} (left : ℕ) → ArePages old left → HasNewPage 1024 old new → 0 < 1024 * length new - left
  room_in_new_page {old} {new} left h added =
      let size = ap length added.is ∙ length_push old added.page in
      omega (arith, room_for old left h)
