-- The receives that wait, as they are kept.
use Rattle.std.proofs.Common.{◌≡◌, ◌∙◌, ℕ, ◌+◌, ◌-◌, ◌≤◌, true, false, cond, zero, suc, List, [], ◌∷◌, ◌++◌, Option, Some, None, take, length, arith, inl, inr, refl, sym, ap}
use Rattle.std.specs.Prelude.{is_some, bytes_eq, option_map, slice_get, unwrap_or}
use Rattle.std.specs.Map.{lookup, lookup_entry, remove_entry, set_value}
use Rattle.std.specs.Option.{option_map_or}
use Rattle.std.specs.Result.{OnErr}
use Rattle.std.specs.declared.result.Result.{Result}
use Rattle.std.specs.declared.result.Result.TheVariants.{Err, Ok}
use Rattle.std.specs.declared.vec.Vec.{Vec}
use Rattle.std.specs.declared.alloc.Global.{Global}
use Rattle.std.proofs.lemmas.Bool.{cases_Bool}
use Rattle.std.proofs.lemmas.List.{take_all}
use Rattle.std.proofs.lemmas.Map.Entries.{sum_by-remove_entry}
use Rattle.lru.specs.LruCache.{last_entry, lru_cache, promoted, put_entries}
use Rattle.hlc_watch.specs.declared.records.Records.{Records}
use Rattle.hlc_watch.specs.Kept.{receive_count, waiting_for, with_receive}
use Rattle.hlc_watch.specs.Lists.{lists_of}
use Rattle.hlc_watch.proofs.Bounds.{count-first}
use Rattle.hlc_watch.proofs.Entries.{found_value, same_name, some_at}

abbrev pub items_of : Vec Records Global → List Records
items_of v = v.items

pub lookup_lists : (m : List ℕ) (es : List (List ℕ × Vec Records Global)) → lookup (bytes_eq m) (lists_of es) ≡ option_map items_of (lookup (bytes_eq m) es)
lookup_lists m [] = refl
lookup_lists m (e ∷ es) = (elim (bytes_eq m e.0) as (λ b. cond b (Some e.1.items) (lookup (bytes_eq m) (lists_of es)) ≡ option_map items_of (cond b (Some e.1) (lookup (bytes_eq m) es))) [
  | true ↦ refl
  | false ↦ lookup_lists m es
])

pub remove_lists : (m : List ℕ) (es : List (List ℕ × Vec Records Global)) → lists_of (remove_entry (bytes_eq m) es) ≡ remove_entry (bytes_eq m) (lists_of es)
remove_lists m [] = refl
remove_lists m (e ∷ es) = (elim (bytes_eq m e.0) as (λ b. lists_of (cond b es (e ∷ remove_entry (bytes_eq m) es)) ≡ cond b (lists_of es) ((e.0, e.1.items) ∷ remove_entry (bytes_eq m) (lists_of es))) [
  | true ↦ refl
  | false ↦ ap (λ rest. (e.0, e.1.items) ∷ rest) (remove_lists m es)
])

pub set_lists : (m : List ℕ) (es : List (List ℕ × Vec Records Global)) (v : Vec Records Global) → lists_of (set_value (bytes_eq m) es v) ≡ set_value (bytes_eq m) (lists_of es) v.items
set_lists m [] v = refl
set_lists m (e ∷ es) v = (elim (bytes_eq m e.0) as (λ b. lists_of (cond b ((e.0, v) ∷ es) (e ∷ set_value (bytes_eq m) es v)) ≡ cond b ((e.0, v.items) ∷ lists_of es) ((e.0, e.1.items) ∷ set_value (bytes_eq m) (lists_of es) v.items)) [
  | true ↦ refl
  | false ↦ ap (λ rest. (e.0, e.1.items) ∷ rest) (set_lists m es v)
])

pub take_lists : (n : ℕ) (es : List (List ℕ × Vec Records Global)) → lists_of (take n es) ≡ take n (lists_of es)
take_lists zero es = refl
take_lists (suc n) [] = refl
take_lists (suc n) (e ∷ es) = ap (λ rest. (e.0, e.1.items) ∷ rest) (take_lists n es)

pub length_lists : (es : List (List ℕ × Vec Records Global)) → length (lists_of es) ≡ length es
length_lists [] = refl
length_lists (e ∷ es) = ap (λ n. suc n) (length_lists es)

-- what is found is what waits
pub waiting_items : (m : List ℕ) (es : List (List ℕ × Vec Records Global)) (v : Vec Records Global) → lookup (bytes_eq m) es ≡ Some v → waiting_for (lists_of es) m ≡ v.items
waiting_items m es v found = ap (λ (o : Option (List Records)). unwrap_or o []) (lookup_lists m es ∙ ap (option_map items_of) found)

pub waiting_none : (m : List ℕ) (es : List (List ℕ × Vec Records Global)) → is_some (lookup (bytes_eq m) es) ≡ false → waiting_for (lists_of es) m ≡ []
waiting_none m es none = by_found (lookup (bytes_eq m) es) refl none
  where
    by_found : (o : Option (Vec Records Global)) → lookup (bytes_eq m) es ≡ o → is_some (lookup (bytes_eq m) es) ≡ false → waiting_for (lists_of es) m ≡ []
    by_found None is h = ap (λ (o : Option (List Records)). unwrap_or o []) (lookup_lists m es ∙ ap (option_map items_of) is)
    by_found (Some v) is h = let bad : true ≡ false = sym (ap is_some is) ∙ h in absurd cc

-- a value that is set to itself
pub set_same : (m : List ℕ) (ls : List (List ℕ × List Records)) (ws : List Records) → lookup (bytes_eq m) ls ≡ Some ws → set_value (bytes_eq m) ls ws ≡ ls
set_same m [] ws found = refl
set_same m (e ∷ ls) ws found = (elim (bytes_eq m e.0) as (λ b. cond b (Some e.1) (lookup (bytes_eq m) ls) ≡ Some ws → cond b ((e.0, ws) ∷ ls) (e ∷ set_value (bytes_eq m) ls ws) ≡ e ∷ ls) [
  | true ↦ λ is. let same : e.1 ≡ ws = cc in ap (λ (w : List Records). (e.0, w) ∷ ls) (sym same)
  | false ↦ λ is. ap (λ rest. e ∷ rest) (set_same m ls ws is)
]) found

module _ (m : List ℕ) where
  -- entries that go first, as lists
  promoted_by : (es : List (List ℕ × Vec Records Global)) (o : Option (List ℕ × Vec Records Global)) → lookup_entry (bytes_eq m) es ≡ o
      → lists_of (option_map_or (λ e. e ∷ remove_entry (bytes_eq m) es) o es)
      ≡ option_map_or (λ e. e ∷ remove_entry (bytes_eq m) (lists_of es)) (option_map (λ e. (e.0, e.1.items)) o) (lists_of es)
  promoted_by es None is = refl
  promoted_by es (Some e) is = ap (λ rest. (e.0, e.1.items) ∷ rest) (remove_lists m es)

  entry_lists : (es : List (List ℕ × Vec Records Global)) → lookup_entry (bytes_eq m) (lists_of es) ≡ option_map (λ e. (e.0, e.1.items)) (lookup_entry (bytes_eq m) es)
  entry_lists [] = refl
  entry_lists (e ∷ es) = (elim (bytes_eq m e.0) as (λ b. cond b (Some (e.0, e.1.items)) (lookup_entry (bytes_eq m) (lists_of es)) ≡ option_map (λ x. (x.0, x.1.items)) (cond b (Some e) (lookup_entry (bytes_eq m) es))) [
    | true ↦ refl
    | false ↦ entry_lists es
  ])

  promoted_lists : (es : List (List ℕ × Vec Records Global)) → lists_of (promoted (bytes_eq m) es) ≡ promoted (bytes_eq m) (lists_of es)
  promoted_lists es =
      promoted_by es (lookup_entry (bytes_eq m) es) refl
      ∙ ap (λ o. option_map_or (λ e. e ∷ remove_entry (bytes_eq m) (lists_of es)) o (lists_of es)) (sym (entry_lists es))

  entry_set : (ls : List (List ℕ × List Records)) (ws : List Records) → is_some (lookup (bytes_eq m) ls) ≡ true → lookup_entry (bytes_eq m) (set_value (bytes_eq m) ls ws) ≡ Some (m, ws)
  entry_set [] ws some = absurd cc
  entry_set (e ∷ ls) ws some = elim (cases_Bool (bytes_eq m e.0)) [
    | inl test ↦ let same = same_name m e.0 test in rw (test, test) (ap (λ (k : List ℕ). Some (k, ws)) (sym same))
    | inr test ↦ rw (test, test) (entry_set ls ws (rw test at some))
  ]

  remove_set : (ls : List (List ℕ × List Records)) (ws : List Records) → remove_entry (bytes_eq m) (set_value (bytes_eq m) ls ws) ≡ remove_entry (bytes_eq m) ls
  remove_set [] ws = refl
  remove_set (e ∷ ls) ws = elim (cases_Bool (bytes_eq m e.0)) [
    | inl test ↦ rw (test, test) refl
    | inr test ↦ rw (test, test) (ap (λ rest. e ∷ rest) (remove_set ls ws))
  ]

  promoted_set : (ls : List (List ℕ × List Records)) (ws : List Records) → is_some (lookup (bytes_eq m) ls) ≡ true
      → promoted (bytes_eq m) (set_value (bytes_eq m) ls ws) ≡ (m, ws) ∷ remove_entry (bytes_eq m) ls
  promoted_set ls ws some =
      ap (λ o. option_map_or (λ e. e ∷ remove_entry (bytes_eq m) (set_value (bytes_eq m) ls ws)) o (set_value (bytes_eq m) ls ws)) (entry_set ls ws some)
      ∙ ap (λ rest. (m, ws) ∷ rest) (remove_set ls ws)

  pub is_some_lists : (es : List (List ℕ × Vec Records Global)) → is_some (lookup (bytes_eq m) (lists_of es)) ≡ is_some (lookup (bytes_eq m) es)
  is_some_lists es = ap is_some (lookup_lists m es) ∙ by_any (lookup (bytes_eq m) es)
    where
      by_any : (o : Option (Vec Records Global)) → is_some (option_map items_of o) ≡ is_some o
      by_any None = refl
      by_any (Some v) = refl

  -- a receive was put at the end of those of its message, which went first
  pub pushed_first : (es changed : List (List ℕ × Vec Records Global)) (records : Records) → is_some (lookup (bytes_eq m) es) ≡ true
      → lists_of changed ≡ set_value (bytes_eq m) (lists_of es) (waiting_for (lists_of es) m ++ records ∷ [])
      → lists_of (promoted (bytes_eq m) changed) ≡ with_receive (lists_of es) m records
  pushed_first es changed records some is =
      promoted_lists changed ∙ ap (promoted (bytes_eq m)) is
      ∙ promoted_set (lists_of es) (waiting_for (lists_of es) m ++ records ∷ []) (is_some_lists es ∙ some)

  -- none is taken of a message that isn't awaited
  pub remove_none : (ls : List (List ℕ × List Records)) → is_some (lookup (bytes_eq m) ls) ≡ false → remove_entry (bytes_eq m) ls ≡ ls
  remove_none [] h = refl
  remove_none (e ∷ ls) h = (elim (bytes_eq m e.0) as (λ b. is_some (cond b (Some e.1) (lookup (bytes_eq m) ls)) ≡ false → cond b ls (e ∷ remove_entry (bytes_eq m) ls) ≡ e ∷ ls) [
    | true ↦ λ bad. absurd cc
    | false ↦ λ rest. ap (λ r. e ∷ r) (remove_none ls rest)
  ]) h

  -- or it is the first of its message
  put_by : (cap : ℕ) (es : List (List ℕ × Vec Records Global)) (v : Vec Records Global) (records : Records) → length es ≤ cap - 1 → v.items ≡ records ∷ []
      → (o : Option (List ℕ × Vec Records Global)) → lookup_entry (bytes_eq m) es ≡ o → is_some (lookup (bytes_eq m) es) ≡ false
      → lists_of (option_map_or (λ e. (e.0, v) ∷ remove_entry (bytes_eq m) es) o ((m, v) ∷ take (cap - 1) es)) ≡ with_receive (lists_of es) m records
  put_by cap es v records few is None entry none =
      ap (λ rest. (m, v.items) ∷ lists_of rest) (take_all (cap - 1) es few)
      ∙ ap (λ ws. (m, ws) ∷ lists_of es) (is ∙ ap (λ ws. ws ++ records ∷ []) (sym (waiting_none m es none)))
      ∙ ap (λ rest. (m, waiting_for (lists_of es) m ++ records ∷ []) ∷ rest) (sym (remove_none (lists_of es) (is_some_lists es ∙ none)))
  put_by cap es v records few is (Some e) entry none =
      let found = found_value m es e entry in let bad : true ≡ false = sym (ap is_some found) ∙ none in absurd cc

  pub put_first : (cap : ℕ) (es : List (List ℕ × Vec Records Global)) (v : Vec Records Global) (records : Records) → length es ≤ cap - 1 → v.items ≡ records ∷ []
      → is_some (lookup (bytes_eq m) es) ≡ false → lists_of (put_entries bytes_eq (lru_cache es cap) m v) ≡ with_receive (lists_of es) m records
  put_first cap es v records few is none = put_by cap es v records few is (lookup_entry (bytes_eq m) es) refl none

  -- how many wait when those of a message were taken
  pub taken_count : (es : List (List ℕ × Vec Records Global)) (v : Vec Records Global) → lookup (bytes_eq m) es ≡ Some v
      → receive_count (lists_of (remove_entry (bytes_eq m) es)) + length v.items ≡ receive_count (lists_of es)
  taken_count es v found =
      ap (λ ls. receive_count ls + length v.items) (remove_lists m es)
      ∙ ap (λ (o : Option (List Records)). receive_count (remove_entry (bytes_eq m) (lists_of es)) + unwrap_or (option_map length o) 0) (sym (lookup_lists m es ∙ ap (option_map items_of) found))
      ∙ sum_by-remove_entry length (bytes_eq m) (lists_of es)

  pub none_taken : (es : List (List ℕ × Vec Records Global)) → lookup (bytes_eq m) es ≡ None → receive_count (lists_of (remove_entry (bytes_eq m) es)) ≡ receive_count (lists_of es)
  none_taken es none =
      let is = sum_by-remove_entry length (bytes_eq m) (lists_of es) in
      let zero_more : unwrap_or (option_map length (lookup (bytes_eq m) (lists_of es))) 0 ≡ 0 =
      ap (λ (o : Option (List Records)). unwrap_or (option_map length o) 0) (lookup_lists m es ∙ ap (option_map items_of) none) in
      let same = ap receive_count (remove_lists m es) in
      omega arith

-- and when the last of them were
last_by : (es : List (List ℕ × Vec Records Global)) (n : ℕ) (x : List ℕ × Vec Records Global) → length es ≡ n + 1 → slice_get es n ≡ Some x
    → receive_count (lists_of (take n es)) + length x.1.items ≡ receive_count (lists_of es)
last_by [] n x len is = absurd (omega arith)
last_by (e ∷ []) zero x len is =
    let same : e ≡ x = cc in
    let one = ap (λ (y : List ℕ × Vec Records Global). length y.1.items) same in
    let all = count-first (e.0, e.1.items) [] in
    let none : receive_count [] ≡ 0 = refl in
    omega arith
last_by (e ∷ d ∷ es) zero x len is = absurd (omega arith)
last_by (e ∷ es) (suc n) x len is =
    let rest = last_by es n x (omega arith) is in
    let all = count-first (e.0, e.1.items) (lists_of es) in
    let less = count-first (e.0, e.1.items) (lists_of (take n es)) in
    omega arith

pub last_count : (es : List (List ℕ × Vec Records Global)) (x : List ℕ × Vec Records Global) → last_entry es ≡ Some x
    → receive_count (lists_of (take (length es - 1) es)) + length x.1.items ≡ receive_count (lists_of es)
last_count [] x is = absurd cc
last_count (e ∷ es) x is = last_by (e ∷ es) (length (e ∷ es) - 1) x (omega arith) is

pub none_last : (es : List (List ℕ × Vec Records Global)) → last_entry es ≡ None → es ≡ []
none_last [] is = refl
none_last (e ∷ es) is = let some = some_at (e ∷ es) (length (e ∷ es) - 1) (omega arith) in (let bad : Some some.0 ≡ None = sym some.1 ∙ is in absurd cc)

-- what holds after any answer holds after an error
pub on_err_so : {T E P : Type 0} (r : Result T E) → P → OnErr r P
on_err_so (Ok x) p = tt
on_err_so (Err e) p = p
