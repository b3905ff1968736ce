-- Names of a log differ, and so do decimals of numbers.
use Rattle.std.proofs.Common.{◌≡◌, ◌≢◌, ℕ, ◌<◌, ◌∙◌, inl, inr, true, not, List, [], ◌∷◌, length, filter, arith, sym, ap}
use Rattle.std.specs.Str.{bytes_eq}
use Rattle.std.proofs.lemmas.Bool.{cases_order}
use Rattle.std.proofs.lemmas.List.Elements.{All-weaker, filter_passes}
use Rattle.std.proofs.lemmas.List.Kept.{AllPairs-cons, AllPairs-filter}
use Rattle.std.proofs.lemmas.Slice.Eq.{bytes_eq-Decides}
use Rattle.hlc_log_text.specs.LogText.{name_of}
use Rattle.hlc_log_text.specs.Names.{EachNameOnce, first_mentions}

differs : (name other : List ℕ) → not (bytes_eq name other) ≡ true → name ≢ other
differs name other passes same =
    let bad : not true ≡ true = ap not (sym ((bytes_eq-Decides name other).1 same)) ∙ passes in
    cc bad

pub mentions_once : (names : List (List ℕ)) → EachNameOnce (first_mentions names)
mentions_once [] = λ i j d lt within. absurd (omega arith)
mentions_once (name ∷ names) =
    let others = λ (other : List ℕ). not (bytes_eq name other) in
    let rest = filter others (first_mentions names) in
    AllPairs-cons (λ a b. a ≢ b) name rest
    (All-weaker (λ other. others other ≡ true) (λ other. name ≢ other) (differs name) rest (filter_passes others (first_mentions names)))
    (AllPairs-filter (λ a b. a ≢ b) others (first_mentions names) (mentions_once names))

-- a name has one number
pub same_number : (names : List (List ℕ)) (m n : ℕ) → EachNameOnce names → m < length names → n < length names → name_of names m ≡ name_of names n → m ≡ n
same_number names m n once m_lt n_lt same = elim (cases_order m n) [
  | inl is ↦ is
  | inr differ ↦ elim differ [
    | inl lt ↦ absurd (once m n [] lt n_lt same)
    | inr gt ↦ absurd (once n m [] gt m_lt (sym same))
  ]
]
