-- Names that are decimals of few numbers are few.
use Rattle.std.proofs.Common.{◌≡◌, ◌∙◌, ℕ, ◌^◌, ◌<◌, ◌≤◌, List, [], ◌∷◌, Option, arith, decimal, get_or, length, map, false, true, sym, ap}
use Rattle.std.specs.Prelude.{All, unwrap_or}
use Rattle.std.specs.List.{list_any}
use Rattle.std.proofs.Math.Dec.{eqb}
use Rattle.std.proofs.lemmas.Bool.{eqb-true, ne_eqb}
use Rattle.std.proofs.lemmas.List.{get_or-map, length-map}
use Rattle.std.proofs.lemmas.List.Elements.{All-cons, All-filter, All-head, All-tail}
use Rattle.std.proofs.lemmas.Map.Keys.{IsDistinct-from_apart}
use Rattle.std.proofs.lemmas.Map.Steps.{length-le_from_distinct_below}
use Rattle.std.proofs.lemmas.Map.Views.{Contains-from_any}
use Rattle.hlc_csv.specs.Number.{number_of}
use Rattle.hlc_csv.proofs.DecimalFacts.{number_of-decimal}
use Rattle.hlc_log_text.specs.LogText.{name_of}
use Rattle.hlc_log_text.specs.Names.{EachNameOnce, first_mentions}
use Rattle.hlc_history_log.proofs.Names.{mentions_once}

-- a name is the decimal of a number below n
abbrev pub IsDecimalBelow : ℕ → List ℕ → Type 0
IsDecimalBelow n name = (k : ℕ) × (k < n) × (name ≡ decimal k)

-- what is true of all mentions is true of the first ones
all_mentions : (P : List ℕ → Type 0) (names : List (List ℕ)) → All P names → All P (first_mentions names)
all_mentions P [] all = all
all_mentions P (name ∷ names) all =
    All-cons P name _ (All-head P name names all) (All-filter _ P (first_mentions names) (all_mentions P names (All-tail P name names all)))

-- the number of a name
abbrev value : List ℕ → ℕ
value name = unwrap_or (number_of name) 0

value_is : (n : ℕ) (name : List ℕ) → n ≤ 2 ^ 64 → (is : IsDecimalBelow n name) → value name ≡ is.0
value_is n name small (k, lt, same) = ap value same ∙ ap (λ (o : Option ℕ). unwrap_or o 0) (number_of-decimal k (omega arith))

module _ (n : ℕ) (small : n ≤ 2 ^ 64) (names : List (List ℕ)) (once : EachNameOnce names) (below : All (IsDecimalBelow n) names) where
  abbrev values : List ℕ
  values = map value names

  values_apart : (i j : ℕ) (d : ℕ) → i < j → j < length values → eqb (get_or values i d) (get_or values j d) ≡ false
  values_apart i j d lt within =
      let size : length values ≡ length names = length-map names value in
      let first = below i [] (omega arith) in
      let second = below j [] (omega arith) in
      let at_i : get_or values i d ≡ first.0 = get_or-map value names i [] d (omega arith) ∙ value_is n (name_of names i) small first in
      let at_j : get_or values j d ≡ second.0 = get_or-map value names j [] d (omega arith) ∙ value_is n (name_of names j) small second in
      ne_eqb (get_or values i d) (get_or values j d) (λ same.
      once i j [] lt (omega arith) (first.2 ∙ ap decimal (sym at_i ∙ same ∙ at_j) ∙ sym second.2))

  values_below : (q : ℕ) → list_any (eqb q) values ≡ true → q < n
  values_below q found =
      let size : length values ≡ length names = length-map names value in
      let at = Contains-from_any eqb-true q values found in
      let is = below at.0 [] (omega (arith, at.1)) in
      let here : q ≡ is.0 =
      sym at.2 ∙ get_or-map value names at.0 [] q (omega (arith, at.1)) ∙ value_is n (name_of names at.0) small is in
      omega (arith, is.1, here)

  few_values : length names ≤ n
  few_values =
      let size : length values ≡ length names = length-map names value in
      let few = length-le_from_distinct_below values n (IsDistinct-from_apart eqb values values_apart) values_below in
      omega arith

pub few_names : (n : ℕ) (names : List (List ℕ)) → n ≤ 2 ^ 64 → All (IsDecimalBelow n) names → length (first_mentions names) ≤ n
few_names n names small below = few_values n small (first_mentions names) (mentions_once names) (all_mentions (IsDecimalBelow n) names below)
