-- The first of the entries of greatest rank.
use Rattle.std.proofs.Common.{◌≡◌, ℕ, Bool, true, false, cond, List, [], ◌∷◌, ◌++◌, Option, Some, None, MatchOption, filter, get_or, map, refl, ap, ◌∙◌, append_assoc}
use Rattle.std.specs.List.{All}
use Rattle.std.specs.Str.{bytes_eq}
use Rattle.std.proofs.lemmas.Slice.Eq.{bytes_eq-Decides}
use Rattle.std.proofs.lemmas.List.{append-nil}
use Rattle.std.proofs.lemmas.List.Elements.{All-append, All-cons, All-nil, All-push}
use Rattle.hlc_table.specs.declared.entry.Entry.{Entry}
use Rattle.hlc_table.specs.Laws.{GreatestRankWins, IsFirstOfGreatestRank, learnt_of}
use Rattle.hlc_table.specs.Rows.{Row, entry_at, greater_entry, learn_entry, ranks_below}
use Rattle.hlc_table.proofs.RankOrder.{below_below, not_above_below}
use Rattle.hlc_table.proofs.Learning.{entry_at-learn_entry, entry_at-learnt_other, entry_with, rows_after}

-- one more entry after others: it comes first if all are below it, and else the one that came first stays
one_more : (seen : List Entry) (held new : Entry) → IsFirstOfGreatestRank seen held
    → IsFirstOfGreatestRank (seen ++ new ∷ []) (greater_entry held new)
one_more seen held new first = by (ranks_below held new) refl where
  by : (b : Bool) → ranks_below held new ≡ b → IsFirstOfGreatestRank (seen ++ new ∷ []) (cond b new held)
  by true below =
      let below_new : Entry → Type 0 = λ other. ranks_below other new ≡ true in
      let before : All below_new first.earlier = λ k d within.
      below_below (get_or first.earlier k d) held new (first.above_earlier k d within) below in
      let after : All below_new first.later = λ k d within.
      not_above_below (get_or first.later k d) held new (first.not_below_later k d within) below in
      let from_held : All below_new (held ∷ first.later) = All-cons below_new held first.later below after in
      record {
        earlier = seen;
        later = [];
        among = refl;
        above_earlier = rw first.among (All-append below_new first.earlier (held ∷ first.later) before from_held);
        not_below_later = All-nil (λ other. ranks_below new other ≡ false);
      }
  by false below = record {
    earlier = first.earlier;
    later = first.later ++ new ∷ [];
    among = ap (λ (entries : List Entry). entries ++ new ∷ []) first.among ∙ append_assoc first.earlier (held ∷ first.later) (new ∷ []);
    above_earlier = first.above_earlier;
    not_below_later = All-push (λ other. ranks_below held other ≡ false) first.later new first.not_below_later below;
  }

-- the entry that is held after others are learnt
abbrev held_after : Entry → List Entry → Entry
held_after held [] = held
held_after held (new ∷ news) = held_after (greater_entry held new) news

first_held_after : (seen : List Entry) (held : Entry) (news : List Entry) → IsFirstOfGreatestRank seen held
    → IsFirstOfGreatestRank (seen ++ news) (held_after held news)
first_held_after seen held [] first = rw append-nil first
first_held_after seen held (new ∷ news) first =
    let next = one_more seen held new first in
    rw append_assoc at (first_held_after (seen ++ new ∷ []) (greater_entry held new) news next)

-- the same, when possibly none is held at first
abbrev entry_after : Option Entry → List Entry → Option Entry
entry_after held [] = held
entry_after held (new ∷ news) = entry_after (Some (entry_with held new)) news

entry_after-held : (held : Entry) (news : List Entry) → entry_after (Some held) news ≡ Some (held_after held news)
entry_after-held held [] = refl
entry_after-held held (new ∷ news) = entry_after-held (greater_entry held new) news

-- learns change the entry of a key as those of the key do
module _ (rows : List Row) (key : List ℕ) (learn : Row) (learns : List Row) where
  abbrev learnt : List Row
  learnt = learn_entry rows learn.key learn.entry

  abbrev of_key : List Row
  of_key = filter (λ other. bytes_eq key other.key) learns

  abbrev after : Option Entry → Option Entry
  after held = entry_after held (learnt_of learns key)

  after_one : (of_this : Bool) → bytes_eq key learn.key ≡ of_this
      → after (entry_at learnt key) ≡ entry_after (entry_at rows key) (map (λ other. other.entry) (cond of_this (learn ∷ of_key) of_key))
  after_one true same =
      let here : entry_at learnt key ≡ Some (entry_with (entry_at rows key) learn.entry) =
      rw (← (bytes_eq-Decides key learn.key).0 same) (entry_at-learn_entry rows key learn.entry) in
      ap after here
  after_one false apart = ap after (entry_at-learnt_other rows learn.key key learn.entry apart)

entry_at-after : (rows learns : List Row) (key : List ℕ)
    → entry_at (rows_after rows learns) key ≡ entry_after (entry_at rows key) (learnt_of learns key)
entry_at-after rows [] key = refl
entry_at-after rows (learn ∷ learns) key =
    entry_at-after (learn_entry rows learn.key learn.entry) learns key
    ∙ after_one rows key learn learns (bytes_eq key learn.key) refl

pub greatest_rank_wins : GreatestRankWins
greatest_rank_wins learns key = rw (entry_at-after [] learns key) (by (learnt_of learns key)) where
  by : (news : List Entry) → MatchOption (entry_after None news) (news ≡ []) (λ entry. IsFirstOfGreatestRank news entry)
  by [] = refl
  by (new ∷ news) =
      let alone : IsFirstOfGreatestRank (new ∷ []) new = record {
        earlier = [];
        later = [];
        among = refl;
        above_earlier = All-nil (λ other. ranks_below other new ≡ true);
        not_below_later = All-nil (λ other. ranks_below new other ≡ false);
      } in
      rw (entry_after-held new news) (first_held_after (new ∷ []) new news alone)
