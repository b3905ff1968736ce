-- What learning one entry does to rows.
use Rattle.std.proofs.Common.{◌≡◌, ℕ, Bool, true, false, cond, fold, List, [], ◌∷◌, Option, Some, None, IfSome, ◌⊎◌, inl, inr, refl, ap, arith}
use Rattle.std.proofs.lemmas.Slice.Eq.{bytes_eq-Decides}
use Rattle.std.specs.Str.{bytes_eq}
use Rattle.hlc_table.specs.declared.entry.Entry.{Entry}
use Rattle.hlc_table.specs.Rows.{HoldsAtLeast, Row, entry_at, greater_entry, is_news, learn_entry, ranks_below}
use Rattle.hlc_table.proofs.RankOrder.{same_rank}

-- rows after keys with their entries are learnt, one by one
abbrev pub rows_after : List Row → List Row → List Row
rows_after rows learns = fold (λ rows learn. learn_entry rows learn.key learn.entry) rows learns

-- the entry of a key once another is learnt for it
abbrev pub entry_with : Option Entry → Entry → Entry
entry_with None new = new
entry_with (Some held) new = greater_entry held new

pub entry_at-learn_entry : (rows : List Row) (key : List ℕ) (new : Entry)
    → entry_at (learn_entry rows key new) key ≡ Some (entry_with (entry_at rows key) new)
entry_at-learn_entry [] key new = grind (arith, (bytes_eq-Decides key key).1 refl)
entry_at-learn_entry (row ∷ rows) key new = grind (arith, entry_at-learn_entry rows key new)

-- other keys keep their entries
pub entry_at-learnt_other : (rows : List Row) (key other : List ℕ) (new : Entry) → bytes_eq other key ≡ false
    → entry_at (learn_entry rows key new) other ≡ entry_at rows other
entry_at-learnt_other [] key other new apart = grind arith
entry_at-learnt_other (row ∷ rows) key other new apart =
    let at_key = λ (same : bytes_eq key row.key ≡ true). ap (bytes_eq other) ((bytes_eq-Decides key row.key).0 same) in
    grind (arith, entry_at-learnt_other rows key other new apart, at_key)

-- a known key of an entry that is no less leaves the rows
pub learnt_same : (rows : List Row) (key : List ℕ) (held new : Entry) → entry_at rows key ≡ Some held → ranks_below held new ≡ false
    → learn_entry rows key new ≡ rows
learnt_same [] key held new found stays = cc
learnt_same (row ∷ rows) key held new found stays = grind (arith, learnt_same rows key held new)

-- and so does one that is no news
pub no_news_same : (rows : List Row) (key : List ℕ) (new : Entry) → is_news (entry_at rows key) new.rank ≡ false
    → learn_entry rows key new ≡ rows
no_news_same rows key new none = by (entry_at rows key) refl none where
  by : (o : Option Entry) → entry_at rows key ≡ o → is_news o new.rank ≡ false → learn_entry rows key new ≡ rows
  by None is false_is = cc
  by (Some held) is false_is = learnt_same rows key held new is false_is

-- if equal ranks are of the same write, the entry that is held then is the new one or one of greater rank
at_least : (held : Option Entry) (new : Entry) → IfSome held (λ held. held.rank ≡ new.rank → held.write ≡ new.write)
    → (entry_with held new ≡ new) ⊎ (ranks_below new (entry_with held new) ≡ true)
at_least None new one_write = inl refl
at_least (Some held) new one_write = by (ranks_below held new) (ranks_below new held) refl refl where
  by : (less greater : Bool) → ranks_below held new ≡ less → ranks_below new held ≡ greater
      → (cond less new held ≡ new) ⊎ (ranks_below new (cond less new held) ≡ true)
  by true greater is_less is_greater = inl refl
  by false true is_less is_greater = inr is_greater
  by false false is_less is_greater =
      let rank : held.rank ≡ new.rank = same_rank held new is_less is_greater in
      let write : held.write ≡ new.write = one_write rank in
      inl (λ i. record { write = write i; rank = rank i })

pub holds_learnt : (rows : List Row) (key : List ℕ) (new : Entry)
    → IfSome (entry_at rows key) (λ held. held.rank ≡ new.rank → held.write ≡ new.write)
    → HoldsAtLeast (learn_entry rows key new) key new
holds_learnt rows key new one_write =
    (entry_with (entry_at rows key) new, entry_at-learn_entry rows key new, at_least (entry_at rows key) new one_write)
