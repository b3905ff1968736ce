-- What lies at a span stays there when a log is extended.
use Rattle.std.proofs.Common.{◌≡◌, ℕ, ◌+◌, ◌-◌, ◌≤◌, List, ◌++◌, length, take, drop, arith, sym, ap, ◌∙◌}
use Rattle.std.specs.Prelude.{slice_range}
use Rattle.std.specs.Io.{StartsWith}
use Rattle.std.specs.List.{All}
use Rattle.std.proofs.lemmas.List.{drop-append-le, length-drop, length-take, take-append-drop, take-append-le, take-take, take_all}
use Rattle.hlc_pages.specs.Log.{Extends, IsWithin, key_in, page_at, value_in}
use Rattle.hlc_pages.specs.declared.span.Span.{Span}

pub starts_itself : (bytes : List ℕ) → StartsWith bytes bytes
starts_itself bytes = take_all (length bytes) bytes (omega arith)

no_shorter : (bytes start : List ℕ) → StartsWith bytes start → length start ≤ length bytes
no_shorter bytes start h = let size = sym (length-take (length start) bytes) ∙ ap length h in omega arith

starts_beyond : (first second third : List ℕ) → StartsWith second first → StartsWith third second → StartsWith third first
starts_beyond first second third h more =
    sym (take-take (length first) (length second) third (no_shorter second first h)) ∙ ap (take (length first)) more ∙ h

same_range : (bytes start : List ℕ) (from to : ℕ)
    → StartsWith bytes start → from ≤ to → to ≤ length start → slice_range bytes from to ≡ slice_range start from to
same_range bytes start from to h le within =
    let rest = drop (length start) bytes in
    let whole : bytes ≡ start ++ rest = sym (take-append-drop (length start) bytes) ∙ ap (λ (xs : List ℕ). xs ++ rest) h in
    ap (λ (xs : List ℕ). slice_range xs from to) whole
    ∙ ap (take (to - from)) (drop-append-le from start rest (omega arith))
    ∙ take-append-le (to - from) (drop from start) rest (let size = length-drop from start in omega arith)

pub extends_itself : (pages : List (List ℕ)) → Extends pages pages
extends_itself pages = record { count = omega arith; begins = λ page. starts_itself (page_at pages page) }

pub extends_beyond : {first second third : List (List ℕ)} → Extends first second → Extends second third → Extends first third
extends_beyond {first} {second} {third} h more = record {
  count = omega arith;
  begins = λ page. starts_beyond (page_at first page) (page_at second page) (page_at third page) (h.begins page) (more.begins page);
}

module _ {old new : List (List ℕ)} (h : Extends old new) where
  module _ {span : Span} (within : IsWithin old span) where
    pub stays_within : IsWithin new span
    stays_within = record {
      page = omega arith;
      bytes = let size = no_shorter (page_at new span.page) (page_at old span.page) (h.begins span.page) in omega arith;
    }

    pub key_stays : key_in new span ≡ key_in old span
    key_stays =
        same_range (page_at new span.page) (page_at old span.page) span.start (span.start + span.key_len) (h.begins span.page) (omega arith)
        (omega arith)

    pub value_stays : value_in new span ≡ value_in old span
    value_stays =
        let start = span.start + span.key_len in
        same_range (page_at new span.page) (page_at old span.page) start (start + span.value_len) (h.begins span.page) (omega arith) (omega arith)

  pub all_stay_within : (spans : List Span) → All (IsWithin old) spans → All (IsWithin new) spans
  all_stay_within spans within k other lt = stays_within (within k other lt)
