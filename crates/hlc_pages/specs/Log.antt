-- Keys and values in pages of bytes, and where they lie.
use Rattle.std.specs.Prelude.{ℕ, ◌+◌, ◌-◌, ◌<◌, ◌/◌, ◌≤◌, List, [], ◌∷◌, length, map, slice_index_or, slice_range}
use Rattle.std.specs.Io.{StartsWith}
use Rattle.std.specs.List.{All}
use Rattle.std.specs.Vec.{vec_capacity}
use Rattle.std.specs.declared.vec.Vec.{Vec}
use Rattle.std.specs.declared.alloc.Global.{Global}
use Rattle.hlc_pages.specs.declared.byte_log.TheConstants.{MAX_ENTRY, MAX_PAGES, PAGE_BYTES}
use Rattle.hlc_pages.specs.declared.span.Span.{Span}

-- the bytes of each page, and how many more entries of the greatest size find room without memory
pub record Log : Type 0 where
  pub pages : List (List ℕ)
  pub room : ℕ

-- the bytes of a page; a page that isn't there has none
abbrev pub page_at : List (List ℕ) → ℕ → List ℕ
page_at pages page = slice_index_or pages page []

-- the bytes of the key that lies at a span
abbrev pub key_in : List (List ℕ) → Span → List ℕ
key_in pages span = slice_range (page_at pages span.page) span.start (span.start + span.key_len)

-- the bytes of the value that lies there, after the key
abbrev pub value_in : List (List ℕ) → Span → List ℕ
value_in pages span = let start = span.start + span.key_len in slice_range (page_at pages span.page) start (start + span.value_len)

-- a span lies in one of the pages
pub record IsWithin (pages : List (List ℕ)) (span : Span) : Type 0 where
  pub page : span.page < length pages
  pub bytes : span.start + span.key_len + span.value_len ≤ length (page_at pages span.page)

-- each page of old is the beginning of the same page of new
pub record Extends (old new : List (List ℕ)) : Type 0 where
  pub count : length old ≤ length new
  pub begins : (page : ℕ) → StartsWith (page_at new page) (page_at old page)

-- how many entries of the greatest size find room after the bytes of the last page
abbrev pub room_in : List (List ℕ) → ℕ
room_in [] = 0
room_in (page ∷ []) = (PAGE_BYTES - length page) / MAX_ENTRY
room_in (_ ∷ next ∷ pages) = room_in (next ∷ pages)

abbrev pub LogPage : Type 0
LogPage = Vec ℕ Global

-- the bytes of pages as they are stored
abbrev pub bytes_of : List LogPage → List (List ℕ)
bytes_of pages = map (λ page. page.items) pages

-- the value of a log with such pages
abbrev pub log_of : List LogPage → Log
log_of pages = record { pages = bytes_of pages; room = room_in (bytes_of pages) }

-- pages of a log: no more than a span can name, each with space for as many bytes as a page holds
pub record AreLogPages (pages : List LogPage) : Type 0 where
  pub count : length pages ≤ MAX_PAGES
  pub space : All (λ page. PAGE_BYTES ≤ vec_capacity page) pages
