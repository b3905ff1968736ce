-- The keys of a table: those of the known writes, in the order in which they became known.
use Rattle.std.proofs.Common.{◌≡◌, ◌≢◌, ◌↔◌, ℕ, ◌≤◌, inl, inr, Bool, true, false, cond, List, [], ◌∷◌, ◌++◌, ◌<◌, length, map, take, drop, fold, arith, refl, subst, sym, ap, ◌∙◌, get_or, append_assoc}
use Rattle.std.specs.Prelude.{AllPairs, Contains}
use Rattle.std.proofs.lemmas.Bool.{cases_lt}
use Rattle.std.proofs.lemmas.Cmp.{nat_list_eq_equiv}
use Rattle.std.proofs.lemmas.List.{append-nil, get_or-map, get_or-take, length-map, length-take, take-append-drop, take-map, take_at}
use Rattle.std.proofs.lemmas.List.Elements.{Contains-append_left, Contains-get_or}
use Rattle.std.proofs.lemmas.List.Quantifiers.{all_pairs_push}
use Rattle.std.proofs.lemmas.Map.Views.{Contains-from_any, list_any-from_Contains}
use Rattle.hlc_stamp.specs.declared.rank.Rank.{Rank}
use Rattle.hlc_arena.specs.EntryLaws.{AllNamesFit}
use Rattle.hlc_arena.specs.History.{StampedEvent}
use Rattle.hlc_arena.specs.Known.{Rows, first_keys, key_at, known_writes, rank_at, rows_of_writes, table_of, with_key}
use Rattle.hlc_arena.specs.KnownSteps.{rows_after, rows_learnt}
use Rattle.hlc_arena.specs.TableLaws.{BecameKnownBefore, IsKeyAmong, KeysInKnownOrder}
use Rattle.hlc_arena.proofs.KnownWrites.{known_is_write}
use Rattle.hlc_arena.proofs.OneOrder.{one_order}
use Rattle.hlc_arena.proofs.RowSteps.{Key, fold_push, has, has_fold, same_key}
use Rattle.hlc_arena.proofs.TableSteps.{rows_of_learnt}

contains_has : (keys : List Key) (key : Key) → Contains keys key ↔ (has key keys ≡ true)
contains_has keys key = (list_any-from_Contains nat_list_eq_equiv key keys, Contains-from_any same_key key keys)

-- some keys, each once, are the same keys
first_key : (keys : List Key) (key : Key) → Contains (first_keys keys) key ↔ Contains keys key
first_key keys key = (
  λ among. (contains_has keys key).1 (sym (has_fold key [] keys) ∙ (contains_has (first_keys keys) key).0 among),
  λ among. (contains_has (first_keys keys) key).1 (has_fold key [] keys ∙ (contains_has keys key).0 among),
)

-- key a is among the first n of some keys, and key b isn't
abbrev pub StandsBefore : List Key → Key → Key → Type 0
StandsBefore keys a b = (n : ℕ) × Contains (take n keys) a × (Contains (take n keys) b → ⊥)

module _ (all : List Key) where
  abbrev pub AreOrdered : List Key → Type 0
  AreOrdered keys = AllPairs (StandsBefore all) keys

  -- a key that is new goes last
  next_ordered : (seen rest : List Key) (key : Key) (b : Bool) → seen ++ key ∷ rest ≡ all → has key (first_keys seen) ≡ b →
      AreOrdered (first_keys seen) → AreOrdered (cond b (first_keys seen) (first_keys seen ++ key ∷ []))
  next_ordered seen rest key true is there ordered = ordered
  next_ordered seen rest key false is new ordered =
      let keys = first_keys seen in
      let first : take (length seen) all ≡ seen = ap (take (length seen)) (sym is) ∙ take_at seen (key ∷ rest) (length seen) refl in
      let was_seen : (k : ℕ) (d : Key) → k < length keys → Contains seen (get_or keys k d) =
      λ k d lt. (first_key seen (get_or keys k d)).0 (Contains-get_or keys k d lt) in
      let not_seen : Contains seen key → ⊥ = λ among. let there = (contains_has keys key).0 ((first_key seen key).1 among) in absurd (cc) in
      all_pairs_push (StandsBefore all) keys key ordered (λ k d lt. (
        length seen,
        subst (λ (ks : List Key). Contains ks (get_or keys k d)) (sym first) (was_seen k d lt),
        λ among. not_seen (subst (λ (ks : List Key). Contains ks key) first among),
      ))

  ordered_from : (seen rest : List Key) → seen ++ rest ≡ all → AreOrdered (first_keys seen) → AreOrdered (first_keys all)
  ordered_from seen [] is ordered = subst (λ (keys : List Key). AreOrdered (first_keys keys)) (sym (append-nil seen) ∙ is) ordered
  ordered_from seen (key ∷ rest) is ordered =
      ordered_from (seen ++ key ∷ []) rest (append_assoc seen (key ∷ []) rest ∙ is)
      (subst AreOrdered (sym (fold_push [] seen key)) (next_ordered seen rest key (has key (first_keys seen)) is refl ordered))

  -- some keys, each once, stand in their order
  first_keys_ordered : AreOrdered (first_keys all)
  first_keys_ordered = ordered_from [] all refl (λ i j d lt within. absurd (omega arith))

-- the keys of rows
abbrev pub row_keys : Rows → List Key
row_keys rows = map (λ row. row.0) rows

-- a key that is learnt goes last, if it isn't there
keys_after : (rank : ℕ → Rank) (rows : Rows) (key : Key) (w : ℕ) → row_keys (rows_after rank rows key w) ≡ with_key (row_keys rows) key
keys_after rank [] key w = refl
keys_after rank (row ∷ rows) key w = grind (arith, keys_after rank rows key w)

keys_learnt : (events : List StampedEvent) (rows : Rows) (ws : List ℕ) →
    row_keys (rows_learnt events rows ws) ≡ fold with_key (row_keys rows) (map (key_at events) ws)
keys_learnt events rows [] = refl
keys_learnt events rows (w ∷ ws) =
    let key = key_at events w in
    keys_learnt events (rows_after (rank_at events) rows key w) ws
    ∙ ap (λ (keys : List Key). fold with_key keys (map (key_at events) ws)) (keys_after (rank_at events) rows key w)

-- the keys of the rows that some writes give
keys_of_rows : (events : List StampedEvent) (ws : List ℕ) → row_keys (rows_of_writes events ws) ≡ first_keys (map (key_at events) ws)
keys_of_rows events ws = ap row_keys (rows_of_learnt events [] ws) ∙ keys_learnt events [] ws

-- what is among the values of a function
among_map : (f : ℕ → Key) (ws : List ℕ) (key : Key) → Contains (map f ws) key ↔ ((w : ℕ) × Contains ws w × (f w ≡ key))
among_map f ws key =
    let size = length-map ws f in (
      λ (k, lt, is). (get_or ws k 0, Contains-get_or ws k 0 (omega arith), sym (get_or-map f ws k 0 key (omega arith)) ∙ is),
      λ (w, (k, lt, is), same). (k, omega arith, get_or-map f ws k w key lt ∙ (ap f is ∙ same)),
    )

module _ (events : List StampedEvent) (ws : List ℕ) where
  abbrev pub IsBefore : Key → Key → Type 0
  IsBefore a b = BecameKnownBefore events ws a b

  -- what is known stays known
  known_later : (m n : ℕ) (key : Key) → m ≤ n → IsKeyAmong events (take m ws) key → IsKeyAmong events (take n ws) key
  known_later m n key le (w, (k, lt, is), write) =
      let first = length-take m ws in
      let more = length-take n ws in
      (w, (k, omega arith, get_or-take n ws k w (omega arith) ∙ (sym (get_or-take m ws k w (omega arith)) ∙ is)), write)

  -- of two keys not each became known before the other
  not_both_before : (a b : Key) → IsBefore a b → IsBefore b a → ⊥
  not_both_before a b ab ba = elim (cases_lt ab.n ba.n) [
    | inl lt ↦ ba.not_yet (known_later ab.n ba.n a (omega arith) ab.known)
    | inr le ↦ ab.not_yet (known_later ba.n ab.n b le ba.known)
  ]

  -- keys in the order in which they became known differ
  pub keys_in_order_differ : (keys : List Key) → AllPairs IsBefore keys → AllPairs (λ a b. a ≢ b) keys
  keys_in_order_differ keys ordered i j d lt within same =
      let itself = subst (λ (a : Key). IsBefore a (get_or keys j d)) same (ordered i j d lt within) in
      not_both_before (get_or keys j d) (get_or keys j d) itself itself

  -- and are one list
  pub one_known_order : (keys others : List Key) → AllPairs IsBefore keys → AllPairs IsBefore others →
      ((key : Key) → Contains keys key ↔ Contains others key) → keys ≡ others
  one_known_order = one_order IsBefore not_both_before

module _ (events : List StampedEvent) (places : ℕ → Bool) (node : ℕ) (fit : AllNamesFit events) where
  abbrev pub known : List ℕ
  known = known_writes events places node

  -- the keys of some known writes
  key_among : (ws : List ℕ) → ((w : ℕ) → Contains ws w → Contains known w) → (key : Key) →
      Contains (map (key_at events) ws) key ↔ IsKeyAmong events ws key
  key_among ws are_known key =
      let found = among_map (key_at events) ws key in (
        λ among. let (w, there, same) = found.0 among in (w, there, (known_is_write events fit places node w (are_known w there), same)),
        λ (w, there, write). found.1 (w, there, write.1),
      )

  first_among : (n : ℕ) (key : Key) → Contains (take n (map (key_at events) known)) key ↔ IsKeyAmong events (take n known) key
  first_among n key = rw (take-map (key_at events) n known) (key_among (take n known) (λ w among.
      subst (λ (ws : List ℕ). Contains ws w) (take-append-drop n known) (Contains-append_left (take n known) (drop n known) w among)) key)

  -- the keys of a table are those of the known writes
  pub table_keys_known : (key : Key) → Contains (row_keys (table_of events places node)) key ↔ IsKeyAmong events known key
  table_keys_known key =
      let first = first_key (map (key_at events) known) key in
      let there = key_among known (λ w is. is) key in
      rw (keys_of_rows events known) (λ among. there.0 (first.0 among), λ among. first.1 (there.1 among))

  -- and stand in the order in which they became known
  pub table_keys_ordered : AllPairs (BecameKnownBefore events known) (row_keys (table_of events places node))
  table_keys_ordered = rw (keys_of_rows events known) (λ i j d lt within.
      let keys = first_keys (map (key_at events) known) in
      let (n, among, not_yet) = first_keys_ordered (map (key_at events) known) i j d lt within in
      record {
        n = n;
        known = (first_among n (get_or keys i d)).0 among;
        not_yet = λ among. not_yet ((first_among n (get_or keys j d)).1 among);
      })

pub keys_in_known_order : KeysInKnownOrder
keys_in_known_order events places node fit i j d lt within =
    let rows = table_of events places node in
    let size = length-map rows (λ row. row.0) in
    let at_i = get_or-map (λ row. row.0) rows i d d.0 (omega arith) in
    let at_j = get_or-map (λ row. row.0) rows j d d.0 within in
    rw (at_i, at_j) at (table_keys_ordered events places node fit i j d.0 lt (omega arith))
