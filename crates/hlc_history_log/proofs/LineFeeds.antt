-- Each event has two lines in the text with vectors.
use Rattle.std.proofs.Common.{◌≡◌, ◌∙◌, ℕ, ◌^◌, ◌<◌, ◌≤◌, ◌==◌, inl, inr, Bool, true, false, cond, List, [], ◌∷◌, ◌++◌, Option, Some, None, append_assoc, arith, decimal, filter, length, map, refl, sym, ap, subst}
use Rattle.std.specs.Prelude.{All, codes, flat_map, nat_lt, slice_index}
use Rattle.std.specs.Char.{is_ascii_digit}
use Rattle.std.specs.List.{list_any}
use Rattle.std.specs.Str.{all_ascii_digits}
use Rattle.std.proofs.lemmas.Bool.{cases_Bool, ne_eqb}
use Rattle.std.proofs.lemmas.Bool.Decides.{nat_tests}
use Rattle.std.proofs.lemmas.List.{get_or-map, get_or_default, length-map}
use Rattle.std.proofs.lemmas.List.Elements.{All-filter, All-head, All-tail}
use Rattle.std.proofs.lemmas.List.Folds.{list_any-append}
use Rattle.std.proofs.lemmas.List.Sums.{count_by-le-length}
use Rattle.csv.specs.Writing.{escaped, field_text, fields_text, is_blank, needs_quotes, row_body}
use Rattle.hlc_causality.specs.Causality.{Skeleton}
use Rattle.hlc_causality.specs.Places.{places_below}
use Rattle.hlc_causality.proofs.PlacesBelow.{length-places_below, place_at}
use Rattle.hlc_arena.specs.History.{Delivered, Erased, EventKind, Sent, StampedEvent, Synced, Written, causality_of, stamped_at}
use Rattle.hlc_arena.proofs.Histories.{length_skeleton}
use Rattle.hlc_explain.specs.Plain.{if_plain, is_hidden}
use Rattle.hlc_csv.specs.Rows.{Fields, row_setup, text_of_row}
use Rattle.hlc_csv.proofs.DecimalFacts.{all_digits-decimal}
use Rattle.hlc_explain.specs.VectorLine.{count_text, count_texts, joined, vector_line}
use Rattle.hlc_explain.specs.Vectors.{is_counted, vector_at, vector_of}
use Rattle.hlc_history_log.specs.Label.{label_of}
use Rattle.hlc_history_log.specs.Laws.{HasNoLineFeed, TwoLinesEach}
use Rattle.hlc_history_log.specs.LogRows.{message_numbers, message_of, row_with, row_word}
use Rattle.hlc_history_log.specs.VectorText.{plain_row}
use Rattle.hlc_history_log.proofs.LogLaws.{in_range}
use Rattle.hlc_history_log.proofs.RowsTell.{IsInRange}

none-append : (xs ys : List ℕ) → HasNoLineFeed xs → HasNoLineFeed ys → HasNoLineFeed (xs ++ ys)
none-append xs ys a b = list_any-append (λ (byte : ℕ). byte == 10) xs ys ∙ rw (a, b) refl

none-cons : (b : ℕ) (xs : List ℕ) → (b == 10) ≡ false → HasNoLineFeed xs → HasNoLineFeed (b ∷ xs)
none-cons b xs other rest = rw (other, rest) refl

none-head : (b : ℕ) (xs : List ℕ) → HasNoLineFeed (b ∷ xs) → (b == 10) ≡ false
none-head b xs none = elim (cases_Bool (b == 10)) [
  | inl is ↦ absurd (let bad : ◌≡◌ {A = Bool} true false = rw is at none in cc bad)
  | inr other ↦ other
]

none-tail : (b : ℕ) (xs : List ℕ) → HasNoLineFeed (b ∷ xs) → HasNoLineFeed xs
none-tail b xs none = rw (none-head b xs none) at none

-- digits are no line feeds
none-digits : (ds : List ℕ) → all_ascii_digits ds ≡ true → HasNoLineFeed ds
none-digits [] all = refl
none-digits (d ∷ ds) all = elim (cases_Bool (is_ascii_digit d)) [
  | inl digit ↦
      let low : 48 ≤ d = grind (arith, nat_tests, digit) in
      none-cons d ds (ne_eqb d 10 (λ e. absurd (omega arith))) (none-digits ds (rw digit at all))
  | inr other ↦ absurd (let no : ◌≡◌ {A = Bool} false true = rw other at all in cc no)
]

none-decimal : (n : ℕ) → n < 2 ^ 64 → HasNoLineFeed (decimal n)
none-decimal n small = none-digits (decimal n) (all_digits-decimal n small)

-- quotes bring none
none-escaped : (xs : List ℕ) → HasNoLineFeed xs → HasNoLineFeed (escaped row_setup xs)
unfolding escaped
none-escaped [] none = refl
none-escaped (b ∷ xs) none =
    let rest = none-cons b (escaped row_setup xs) (none-head b xs none) (none-escaped xs (none-tail b xs none)) in
    elim (cases_Bool (b == 34)) [
      | inl is ↦ rw is (none-cons 34 (b ∷ escaped row_setup xs) refl rest)
      | inr other ↦ rw other rest
    ]

none-field : (field : List ℕ) → HasNoLineFeed field → HasNoLineFeed (field_text row_setup field)
none-field field none = by (needs_quotes row_setup field) where
  by : (needs : Bool) → HasNoLineFeed (cond needs (34 ∷ (escaped row_setup field ++ 34 ∷ [])) field)
  by true = none-cons 34 (escaped row_setup field ++ 34 ∷ []) refl (none-append (escaped row_setup field) (34 ∷ []) (none-escaped field none) refl)
  by false = none

-- no field has one
abbrev NoneHas : Fields → Type 0
NoneHas [] = Unit {0}
NoneHas (field ∷ fields) = HasNoLineFeed field × NoneHas fields

none-fields : (fields : Fields) → NoneHas fields → HasNoLineFeed (fields_text row_setup fields)
unfolding fields_text
none-fields [] none = refl
none-fields (field ∷ fields) none =
    none-cons 44 (field_text row_setup field ++ fields_text row_setup fields) refl
    (none-append (field_text row_setup field) (fields_text row_setup fields) (none-field field none.0) (none-fields fields none.1))

-- the text of a row of two fields or more without line feeds is one line
row_is_line : (x y : List ℕ) (fields : Fields) → NoneHas (x ∷ y ∷ fields)
    → (line : List ℕ) × HasNoLineFeed line × (text_of_row (x ∷ y ∷ fields) ≡ line ++ 10 ∷ [])
unfolding text_of_row is_blank
row_is_line x y fields none = (
  row_body row_setup (x ∷ y ∷ fields),
  none-append (field_text row_setup x) (fields_text row_setup (y ∷ fields)) (none-field x none.0) (none-fields (y ∷ fields) none.1),
  refl,
)

-- a plain label has none
hidden_none : (label : List ℕ) → list_any is_hidden label ≡ false → HasNoLineFeed label
hidden_none [] plain = refl
hidden_none (b ∷ label) plain = elim (cases_Bool (is_hidden b)) [
  | inl hidden ↦ absurd (let bad : ◌≡◌ {A = Bool} true false = rw hidden at plain in cc bad)
  | inr seen ↦
      let low : 32 ≤ b = grind (arith, nat_tests, seen) in
      none-cons b label (ne_eqb b 10 (λ e. absurd (omega arith))) (hidden_none label (rw seen at plain))
]

-- the text of a vector has none
none-codes-joined : (texts : List (List ℕ)) → NoneHas texts → HasNoLineFeed (joined texts)
none-codes-joined [] none = refl
none-codes-joined (text ∷ texts) none = none-append text _ none.0 (others texts none.1) where
  others : (texts : List (List ℕ)) → NoneHas texts → HasNoLineFeed (flat_map (λ next. codes ", " ++ next) texts)
  others [] none = refl
  others (text ∷ texts) none = none-append (codes ", " ++ text) _ (none-append (codes ", ") text refl none.0) (others texts none.1)

none-count : (node : List ℕ) (count : ℕ) → HasNoLineFeed node → count < 2 ^ 64 → HasNoLineFeed (count_text node count)
none-count node count none count_small =
    none-append (codes "\"" ++ node ++ codes "\":") (decimal count)
    (none-append (codes "\"" ++ node) (codes "\":") (none-append (codes "\"") node refl none) refl) (none-decimal count count_small)

module _ (spelled : ℕ → List ℕ) (vector : ℕ → ℕ) (n : ℕ) (none : (node : ℕ) → node < n → HasNoLineFeed (spelled node))
    (small : (node : ℕ) → node < n → vector node < 2 ^ 64) where
  none-map : (places : List ℕ) → All (λ node. node < n) places → NoneHas (map (λ node. count_text (spelled node) (vector node)) places)
  none-map [] all = tt
  none-map (node ∷ places) all =
      let here = All-head (λ node. node < n) node places all in
      (none-count (spelled node) (vector node) (none node here) (small node here), none-map places (All-tail (λ node. node < n) node places all))

  none-counts : NoneHas (count_texts spelled vector n)
  none-counts =
      let size = length-places_below n in
      none-map (filter (λ node. nat_lt 0 (vector node)) (places_below n))
      (All-filter (λ node. nat_lt 0 (vector node)) (λ node. node < n) (places_below n)
      (λ k d lt. let is = get_or_default (places_below n) k 0 d lt in let at = place_at n k (omega arith) in omega (arith, is, at)))

vector_is_line : (spelled : ℕ → List ℕ) (node : ℕ) (vector : List ℕ) → HasNoLineFeed (spelled node)
    → ((k : ℕ) → k < length vector → HasNoLineFeed (spelled k)) → ((k : ℕ) → k < length vector → slice_index vector k < 2 ^ 64)
    → (line : List ℕ) × HasNoLineFeed line × (vector_line spelled node vector ≡ line ++ 10 ∷ [])
vector_is_line spelled node vector none_here none small =
    let texts = count_texts spelled (slice_index vector) (length vector) in
    let counts = joined texts in (
      spelled node ++ codes " {" ++ counts ++ codes "}",
      none-append (spelled node ++ codes " {" ++ counts) (codes "}")
          (none-append (spelled node ++ codes " {") counts (none-append (spelled node) (codes " {") none_here refl)
          (none-codes-joined texts (none-counts spelled (slice_index vector) (length vector) none small))) refl,
      sym (append_assoc (spelled node ++ codes " {" ++ counts) (codes "}") (10 ∷ [])),
    )

-- a number in the vector of an event counts some events
count_at : (s : Skeleton) (nodes e node : ℕ) → node < nodes → slice_index (vector_of s nodes e) node ≡ vector_at s e node
count_at s nodes e node lt =
    let size = length-places_below nodes in
    get_or-map (vector_at s e) (places_below nodes) node 0 0 (omega arith) ∙ ap (vector_at s e) (place_at nodes node lt)

count_small : (s : Skeleton) (nodes e node : ℕ) → length s < 2 ^ 64 → node < nodes → slice_index (vector_of s nodes e) node < 2 ^ 64
count_small s nodes e node few lt =
    let is = count_at s nodes e node lt in
    let counted = count_by-le-length (is_counted s e node) (places_below (length s)) in
    let places = length-places_below (length s) in
    omega arith

-- the row of an event has none, unless its label has one
none_has-append : (xs ys : Fields) → NoneHas xs → NoneHas ys → NoneHas (xs ++ ys)
none_has-append [] ys a b = b
none_has-append (x ∷ xs) ys a b = (a.0, none_has-append xs ys a.1 b)

none-word : (k : EventKind) → HasNoLineFeed (row_word k)
none-word (Written key value) = refl
none-word (Erased key) = refl
none-word (Sent to write) = refl
none-word (Synced to writes) = refl
none-word (Delivered sent) = refl

none-message : (m : Option ℕ) → ((n : ℕ) → m ≡ Some n → n < 2 ^ 64) → NoneHas (map decimal (message_numbers m))
none-message None small = tt
none-message (Some n) small = (none-decimal n (small n refl), tt)

module _ (e : ℕ) (x : StampedEvent) (r : IsInRange e x) where
  abbrev others : Fields
  others = decimal x.event.reading ∷ decimal x.stamp.l ∷ decimal x.stamp.c ∷ map decimal (message_numbers (message_of e x.event.kind))

  none-others : NoneHas others
  none-others =
      let reading = r.reading in
      let c = r.c in (
        none-decimal x.event.reading (omega arith),
        (none-decimal x.stamp.l r.l, (none-decimal x.stamp.c (omega arith), none-message (message_of e x.event.kind) r.message)),
      )

  row_line : (label : Option (List ℕ)) → ((l : List ℕ) → label ≡ Some l → HasNoLineFeed l)
      → (line : List ℕ) × HasNoLineFeed line × (text_of_row (row_with e x label) ≡ line ++ 10 ∷ [])
  row_line None none =
      row_is_line (row_word x.event.kind) (decimal x.event.node) others (none-word x.event.kind, (none-decimal x.event.node r.node, none-others))
  row_line (Some label) none =
      row_is_line (row_word x.event.kind) (decimal x.event.node) (others ++ label ∷ [])
      (none-word x.event.kind, (none-decimal x.event.node r.node, none_has-append others (label ∷ []) none-others (none label refl, tt)))

-- a label that is kept has none
kept_none : (label kept : List ℕ) → if_plain label ≡ Some kept → HasNoLineFeed kept
kept_none label kept is = elim (cases_Bool (list_any is_hidden label)) [
  | inl hidden ↦ absurd (let bad : ◌≡◌ {A = Option (List ℕ)} None (Some kept) = rw hidden at is in cc bad)
  | inr plain ↦
      let same : label ≡ kept = let both : ◌≡◌ {A = Option (List ℕ)} (Some label) (Some kept) = rw plain at is in cc both in
      subst HasNoLineFeed same (hidden_none label plain)
]

pub two_lines_each : TwoLinesEach
two_lines_each h e clocked lt =
    let x = stamped_at h.events e in
    let r = in_range h clocked e lt in
    let few = clocked.well_formed.few_nodes in
    let a = clocked.well_formed.within_capacity in
    let b = clocked.well_formed.small_capacity in
    let s = causality_of h.events in
    let size = length_skeleton h.events in
    let len = length-map (places_below h.nodes) (vector_at s e) ∙ length-places_below h.nodes in
    let named : (k : ℕ) → k < length (vector_of s h.nodes e) → HasNoLineFeed (decimal k) = λ k below. none-decimal k (omega arith) in
    let small : (k : ℕ) → k < length (vector_of s h.nodes e) → slice_index (vector_of s h.nodes e) k < 2 ^ 64 =
    λ k below. count_small s h.nodes e k (omega arith) (omega arith) in
    let first = vector_is_line decimal x.event.node (vector_of s h.nodes e) (none-decimal x.event.node r.node) named small in
    let second = row_line e x r (if_plain (label_of h.events x.event.kind)) (kept_none (label_of h.events x.event.kind)) in
    record {
      first = first.0;
      second = second.0;
      none_in_first = first.1;
      none_in_second = second.1;
      text_is =
          ap (λ (t : List ℕ). t ++ text_of_row (plain_row h.events e)) first.2 ∙ ap (λ (t : List ℕ). (first.0 ++ 10 ∷ []) ++ t) second.2;
    }
