-- The last page of a log, and what an entry at its end makes of the log.
use Rattle.std.proofs.Common.{◌≡◌, ℕ, zero, suc, ◌+◌, ◌-◌, ◌/◌, ◌<◌, ◌≤◌, inl, inr, List, [], ◌∷◌, ◌++◌, length, length-append, get_or, set, take, ◌⊎◌, arith, refl, sym, ap, subst, ◌∙◌, append_assoc}
use Rattle.std.specs.Prelude.{Some, slice_get, slice_range}
use Rattle.std.specs.Io.{StartsWith}
use Rattle.std.specs.Vec.{vec_capacity}
use Rattle.std.proofs.lemmas.Bool.{cases_eq}
use Rattle.std.proofs.lemmas.Option.{get_or_from_slice_get}
use Rattle.std.proofs.lemmas.List.Elements.{All-push}
use Rattle.std.proofs.lemmas.List.{drop_at, get_or-map, get_or-set_other, get_or-set_same, get_or_push, length-map, length_push, length-set, map-append, map-set, take_all, take_at}
use Rattle.hlc_pages.specs.Log.{AreLogPages, Extends, IsWithin, Log, LogPage, bytes_of, key_in, log_of, page_at, room_in, value_in}
use Rattle.hlc_pages.specs.declared.span.Span.{Span}
use Rattle.hlc_pages.specs.Growth.{HasNewPage}
use Rattle.hlc_pages.proofs.Spans.{extends_itself, starts_itself}

-- the room is that of the last page
pub room_of_last : (pages : List (List ℕ)) (last : ℕ) → length pages ≡ last + 1
    → room_in pages ≡ (65536 - length (page_at pages last)) / 4352
room_of_last [] last h = absurd (omega (arith, h))
room_of_last (page ∷ []) zero h = refl
room_of_last (page ∷ []) (suc last) h = absurd (omega (arith, h))
room_of_last (page ∷ next ∷ pages) zero h = absurd (omega (arith, h))
room_of_last (page ∷ next ∷ pages) (suc last) h = room_of_last (next ∷ pages) last (omega (arith, h))

pub pages_exist : (pages : List (List ℕ)) → 0 < room_in pages → 0 < length pages
pages_exist [] h = h
pages_exist (page ∷ pages) h = omega arith

-- more bytes at the end of a page
module _ (pages : List (List ℕ)) (last : ℕ) (more : List ℕ) (exists : last < length pages) where
  pub page_extended : page_at (set pages last (page_at pages last ++ more)) last ≡ page_at pages last ++ more
  page_extended = get_or-set_same pages last (page_at pages last ++ more) [] exists

  pub extends_last : Extends pages (set pages last (page_at pages last ++ more))
  extends_last = record {
    count = let size = length-set pages last (page_at pages last ++ more) in omega arith;
    begins = λ page. elim (cases_eq page last) [
      | inl same ↦ subst (λ (p : ℕ). StartsWith (page_at (set pages last (page_at pages last ++ more)) p) (page_at pages p)) (sym same)
          (ap (take (length (page_at pages last))) page_extended ∙ take_at (page_at pages last) more (length (page_at pages last)) refl)
      | inr other ↦ ap (take (length (page_at pages page))) (get_or-set_other pages last page (page_at pages last ++ more) [] other)
          ∙ starts_itself (page_at pages page)
    ];
  }

-- a key and a value after the bytes of a page
module _ (start key value : List ℕ) (from : ℕ) (size : length start ≡ from) where
  range_of_key : slice_range (start ++ (key ++ value)) from (from + length key) ≡ key
  range_of_key =
      ap (take (from + length key - from)) (drop_at start (key ++ value) from size)
      ∙ take_at key value (from + length key - from) (omega arith)

  range_of_value : slice_range (start ++ (key ++ value)) (from + length key) (from + length key + length value) ≡ value
  range_of_value =
      let to = from + length key in
      let both : length (start ++ key) ≡ to = length-append start key ∙ ap (λ (n : ℕ). n + length key) size in
      ap (λ (xs : List ℕ). slice_range xs to (to + length value)) (sym (append_assoc start key value))
      ∙ ap (take (to + length value - to)) (drop_at (start ++ key) value to both)
      ∙ take_all (to + length value - to) value (omega arith)

module _ (pages : List LogPage) (last : ℕ) (page : LogPage) (exists : length pages ≡ last + 1) (is : page ≡ get_or pages last page) where
  -- the last page as it is stored
  pub bytes_of_last : page_at (bytes_of pages) last ≡ page.items
  bytes_of_last = get_or-map (λ (p : LogPage). p.items) pages last page [] (omega (arith, exists)) ∙ ap (λ (p : LogPage). p.items) (sym is)

  pub room_of_last_page : room_in (bytes_of pages) ≡ (65536 - length page.items) / 4352
  room_of_last_page =
      room_of_last (bytes_of pages) last (length-map pages (λ (p : LogPage). p.items) ∙ exists)
      ∙ ap (λ (xs : List ℕ). (65536 - length xs) / 4352) bytes_of_last

  pub space_of_last : AreLogPages pages → 65536 ≤ vec_capacity page
  space_of_last are = subst (λ (p : LogPage). 65536 ≤ vec_capacity p) (sym is) (are.space last page (omega (arith, exists)))

last_exists : (pages : List LogPage) (page : LogPage) → slice_get pages (length pages - 1) ≡ Some page → length pages ≡ length pages - 1 + 1
last_exists [] page h = cc
last_exists (first ∷ pages) page h = omega arith

pub room_by_last : (pages : List LogPage) (page : LogPage) → slice_get pages (length pages - 1) ≡ Some page
    → room_in (bytes_of pages) ≡ (65536 - length page.items) / 4352
room_by_last pages page h =
    let last = length pages - 1 in
    room_of_last_page pages last page (last_exists pages page h) (sym (get_or_from_slice_get pages last page page h))

-- a new page has room
pub room_of_new : (pages : List LogPage) (page : LogPage) → page.items ≡ [] → 0 < room_in (bytes_of (pages ++ page ∷ []))
room_of_new pages page empty =
    let last : page ≡ get_or (pages ++ page ∷ []) (length pages) page = sym (get_or_push pages page page (length pages) refl) in
    let room = room_of_last_page (pages ++ page ∷ []) (length pages) page (length_push pages page) last in
    let size = ap length empty in
    omega arith

-- the last page of a log that has room for an entry
pub record IsLastPage (a : Log) (pages : List LogPage) (last : ℕ) (page : LogPage) : Type 0 where
  pub view_is : log_of pages ≡ a
  pub are : AreLogPages pages
  pub room : 0 < a.room
  pub place : last ≡ length pages - 1
  pub stored : page ≡ get_or pages last page

pub is_last_page : {a : Log} {pages : List LogPage} {last : ℕ} {page : LogPage}
    → log_of pages ≡ a → AreLogPages pages → 0 < a.room → last ≡ length pages - 1 → page ≡ get_or pages last page
    → IsLastPage a pages last page
is_last_page view_is are room place stored = record { view_is = view_is; are = are; room = room; place = place; stored = stored }

module _ {a : Log} {pages : List LogPage} {last : ℕ} {page : LogPage} (h : IsLastPage a pages last page) where
  last_of_log : length pages ≡ last + 1
  last_of_log =
      let exists = pages_exist (bytes_of pages) (subst (λ (b : Log). 0 < b.room) (sym h.view_is) h.room) in
      let size = length-map pages (λ (p : LogPage). p.items) in
      omega (arith, h.place)

  room_of_log : a.room ≡ (65536 - length page.items) / 4352
  room_of_log = ap (λ (b : Log). b.room) (sym h.view_is) ∙ room_of_last_page pages last page last_of_log h.stored

  pub bytes_fit : length page.items + 4352 ≤ 65536
  bytes_fit = let same = room_of_log in omega arith

  pub last_has_space : length page.items + 4352 ≤ vec_capacity page
  last_has_space = let space = space_of_last pages last page last_of_log h.stored h.are in let fit = bytes_fit in omega arith

  -- after an entry at its end
  module _ (grown : LogPage) (key value : List ℕ) (is_grown : grown.items ≡ page.items ++ key ++ value) where
    abbrev after : List (List ℕ)
    after = bytes_of (set pages last grown)

    length-after : length after ≡ last + 1
    length-after = length-map (set pages last grown) (λ (p : LogPage). p.items) ∙ length-set pages last grown ∙ last_of_log

    last_is_before : last < length (bytes_of pages)
    last_is_before = let size = length-map pages (λ (p : LogPage). p.items) in omega (arith, last_of_log)

    after_is : after ≡ set (bytes_of pages) last (page_at (bytes_of pages) last ++ (key ++ value))
    after_is =
        map-set (λ (p : LogPage). p.items) pages last grown
        ∙ ap (set (bytes_of pages) last)
        (is_grown
        ∙ append_assoc page.items key value
        ∙ ap (λ (xs : List ℕ). xs ++ (key ++ value)) (sym (bytes_of_last pages last page last_of_log h.stored)))

    page_after : page_at after last ≡ page.items ++ (key ++ value)
    page_after =
        ap (λ (b : List (List ℕ)). page_at b last) after_is
        ∙ page_extended (bytes_of pages) last (key ++ value) last_is_before
        ∙ ap (λ (xs : List ℕ). xs ++ (key ++ value)) (bytes_of_last pages last page last_of_log h.stored)

    length-page_after : length (page_at after last) ≡ length page.items + (length key + length value)
    length-page_after =
        ap length page_after
        ∙ length-append page.items (key ++ value)
        ∙ ap (λ (n : ℕ). length page.items + n) (length-append key value)

    pub push_extends : Extends a.pages after
    push_extends =
        subst (λ (b : Log). Extends b.pages after) h.view_is
        (subst (Extends (bytes_of pages)) (sym after_is) (extends_last (bytes_of pages) last (key ++ value) last_is_before))

    module _ (start : ℕ) (is_start : start ≡ length page.items) where
      abbrev entry : Span
      entry = record { page = last; start = start; key_len = length key; value_len = length value }

      pub push_within : IsWithin after entry
      push_within = record { page = omega (arith, length-after); bytes = omega (arith, length-page_after, is_start) }

      pub push_key : key_in after entry ≡ key
      push_key = ap (λ (xs : List ℕ). slice_range xs start (start + length key)) page_after ∙ range_of_key page.items key value start (sym is_start)

      pub push_value : value_in after entry ≡ value
      push_value =
          ap (λ (xs : List ℕ). slice_range xs (start + length key) (start + length key + length value)) page_after
          ∙ range_of_value page.items key value start (sym is_start)

    pub push_room : length key ≤ 256 → length value ≤ 4096 → a.room ≤ room_in after + 1
    push_room few_key few_value =
        let size = length-page_after in
        let before = room_of_log in
        let now = room_of_last after last length-after in
        omega arith

begins_as_before : (pages more : List (List ℕ)) (p : ℕ) → StartsWith (page_at (pages ++ more) p) (page_at pages p)
begins_as_before [] more p = refl
begins_as_before (page ∷ pages) more zero = starts_itself page
begins_as_before (page ∷ pages) more (suc p) = begins_as_before pages more p

-- a page more
pub room_in_new_page : {old new : List LogPage} → HasNewPage 65536 old new → 0 < room_in (bytes_of new)
room_in_new_page {old} {new} added =
    subst (λ (pages : List LogPage). 0 < room_in (bytes_of pages)) (sym added.is) (room_of_new old added.page added.empty)

module _ {old new : List LogPage} (grown : HasNewPage 65536 old new ⊎ (new ≡ old)) where
  pub log_pages-grown : length old < 4294967296 → AreLogPages old → AreLogPages new
  log_pages-grown few are = elim grown [
    | inl added ↦ subst AreLogPages (sym added.is) (record {
      count = let size = length_push old added.page in omega arith;
      space = All-push (λ (page : LogPage). 65536 ≤ vec_capacity page) old added.page are.space added.space;
    })
    | inr same ↦ subst AreLogPages (sym same) are
  ]

  pub extends-grown : Extends (bytes_of old) (bytes_of new)
  extends-grown = elim grown [
    | inl added ↦
        subst (Extends (bytes_of old)) (sym (ap bytes_of added.is ∙ map-append (λ (page : LogPage). page.items) old (added.page ∷ []))) (record {
          count = let size = length_push (bytes_of old) added.page.items in omega arith;
          begins = begins_as_before (bytes_of old) (added.page.items ∷ []);
        })
    | inr same ↦ subst (λ (pages : List LogPage). Extends (bytes_of old) (bytes_of pages)) (sym same) (extends_itself (bytes_of old))
  ]
