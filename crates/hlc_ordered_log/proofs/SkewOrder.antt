-- Skews in the order of their nodes.
use Rattle.std.proofs.Common.{◌≡◌, ◌≢◌, ◌∙◌, true, false, inl, inr, List, [], ◌∷◌, map, Option, Some, None, option_map, refl, sym, ap}
use Rattle.std.specs.BTreeMap.{is_at}
use Rattle.std.specs.Cmp.{IsTotalOrder}
use Rattle.std.specs.List.Sorted.{IsStrictlySortedBy}
use Rattle.std.specs.Map.{keys_of}
use Rattle.std.specs.declared.cmp.Ordering.{Ordering}
use Rattle.std.specs.declared.cmp.Ordering.TheVariants.{Less, Equal, Greater}
use Rattle.std.specs.Ordering.{eq_by_cmp, is_eq, nat_cmp, ordering_reverse, ordering_then}
use Rattle.std.proofs.lemmas.Bool.{cases_Bool}
use Rattle.std.proofs.lemmas.Cmp.{eq_by_cmp_equiv, nat_cmp_total, on_total, then_total, tied_itself}
use Rattle.std.proofs.lemmas.Map.{lookup-none}
use Rattle.std.proofs.lemmas.Map.Entries.{lookup_head, lookup_tail, none_below_head, none_past_head}
use Rattle.std.proofs.lemmas.Map.Keys.{IsDistinct-from_sorted, sorted_tail}
use Rattle.std.proofs.lemmas.Map.Lookups.{CmpEqualImpliesEq, exact_unsigned}
use Rattle.std.proofs.lemmas.Map.Views.{tells_apart}
use Rattle.hlc_ordered_log.specs.declared.skew.Skew.{Skew}
use Rattle.hlc_ordered_log.specs.declared.skew_nodes.SkewNodes.{SkewNodes}
use Rattle.hlc_ordered_log.specs.Skew.{Skews, by_nodes, skew_between}

-- the order is total
pub by_nodes_total : IsTotalOrder by_nodes
by_nodes_total = then_total (on_total (λ (x : SkewNodes). x.to.0) nat_cmp_total) (on_total (λ (x : SkewNodes). x.from.0) nat_cmp_total)

-- and tells nodes apart
both_equal : (a b : Ordering) → ordering_then a b ≡ Equal → (a ≡ Equal) × (b ≡ Equal)
both_equal Less b is = absurd cc
both_equal Equal b is = (refl, is)
both_equal Greater b is = absurd cc

pub by_nodes_exact : CmpEqualImpliesEq by_nodes
by_nodes_exact x y is =
    let both = both_equal (nat_cmp x.to.0 y.to.0) (nat_cmp x.from.0 y.from.0) is in
    let to_is = exact_unsigned x.to.0 y.to.0 both.0 in
    let from_is = exact_unsigned x.from.0 y.from.0 both.1 in
    λ i. record { to = record { 0 = to_is i }; from = record { 0 = from_is i } }

pub not_at : (nodes other : SkewNodes) → other ≢ nodes → is_at (by_nodes nodes) other ≡ false
not_at nodes other ne = elim (cases_Bool (is_at (by_nodes nodes) other)) [
  | inl is ↦ absurd (ne (sym (tells_apart by_nodes_exact nodes other is)))
  | inr differs ↦ differs
]

-- the first skew, and the others
abbrev Sorted : Skews → Type 0
Sorted skews = IsStrictlySortedBy by_nodes (keys_of skews)

at_head : (x : SkewNodes × Skew) (xs : Skews) → skew_between (x ∷ xs) x.0 ≡ Some x.1
at_head x xs = lookup_head (is_at (by_nodes x.0)) x xs (ap is_eq (tied_itself by_nodes_total x.0))

past_head : (q : SkewNodes) (x : SkewNodes × Skew) (xs : Skews) → Sorted (x ∷ xs) → eq_by_cmp by_nodes q x.0 ≡ true → skew_between xs q ≡ None
past_head q x xs sorted here =
    lookup-none (is_at (by_nodes q)) xs
    (none_past_head (eq_by_cmp_equiv by_nodes_total) q x xs (IsDistinct-from_sorted by_nodes (keys_of (x ∷ xs)) sorted) here)

of_some : (a b : Skew) → Some a ≡ Some b → a ≡ b
of_some a b is = cc

-- skews are told by those of each two nodes
module _ (x y : SkewNodes × Skew) (xs ys : Skews) (sorted : Sorted (x ∷ xs)) (other_sorted : Sorted (y ∷ ys))
    (same : (q : SkewNodes) → skew_between (x ∷ xs) q ≡ skew_between (y ∷ ys) q) where
  tied : (r : Ordering) → by_nodes x.0 y.0 ≡ r → by_nodes x.0 y.0 ≡ Equal
  tied Less is =
      let none = lookup-none (is_at (by_nodes x.0)) (y ∷ ys) (none_below_head by_nodes_total x.0 y ys other_sorted is) in
      let both : ◌≡◌ {A = Option Skew} (Some x.1) None = sym (at_head x xs) ∙ same x.0 ∙ none in
      absurd cc
  tied Equal is = is
  tied Greater is =
      let back = by_nodes_total.antisymm y.0 x.0 ∙ ap ordering_reverse is in
      let none = lookup-none (is_at (by_nodes y.0)) (x ∷ xs) (none_below_head by_nodes_total y.0 x xs sorted back) in
      let both : ◌≡◌ {A = Option Skew} (Some y.1) None = sym (at_head y ys) ∙ sym (same y.0) ∙ none in
      absurd cc

  same_nodes : x.0 ≡ y.0
  same_nodes = by_nodes_exact x.0 y.0 (tied (by_nodes x.0 y.0) refl)

  same_skew : x.1 ≡ y.1
  same_skew =
      of_some x.1 y.1
      (sym (at_head x xs) ∙ same x.0 ∙ ap (skew_between (y ∷ ys)) same_nodes ∙ at_head y ys)

  same_tails : (q : SkewNodes) → skew_between xs q ≡ skew_between ys q
  same_tails q =
      let here = ap (λ (z : SkewNodes). eq_by_cmp by_nodes q z) same_nodes in
      elim (cases_Bool (eq_by_cmp by_nodes q x.0)) [
        | inl is ↦ past_head q x xs sorted is ∙ sym (past_head q y ys other_sorted (sym here ∙ is))
        | inr differs ↦ sym (lookup_tail (is_at (by_nodes q)) x xs differs) ∙ same q ∙ lookup_tail (is_at (by_nodes q)) y ys (sym here ∙ differs)
      ]

pub same_skews : (skews others : Skews) → Sorted skews → Sorted others → ((q : SkewNodes) → skew_between skews q ≡ skew_between others q) → skews ≡ others
same_skews [] [] sorted other_sorted same = refl
same_skews [] (y ∷ ys) sorted other_sorted same =
    let both : ◌≡◌ {A = Option Skew} None (Some y.1) = same y.0 ∙ at_head y ys in
    absurd cc
same_skews (x ∷ xs) [] sorted other_sorted same =
    let both : ◌≡◌ {A = Option Skew} (Some x.1) None = sym (at_head x xs) ∙ same x.0 in
    absurd cc
same_skews (x ∷ xs) (y ∷ ys) sorted other_sorted same =
    let nodes = same_nodes x y xs ys sorted other_sorted same in
    let skew = same_skew x y xs ys sorted other_sorted same in
    let rest =
    same_skews xs ys (sorted_tail by_nodes x.0 (keys_of xs) sorted) (sorted_tail by_nodes y.0 (keys_of ys) other_sorted)
    (same_tails x y xs ys sorted other_sorted same) in
    λ i. (nodes i, skew i) ∷ rest i

-- skews that are told otherwise, by the same nodes
module _ (f : Skew → Skew) where
  abbrev pub told_by : Skews → Skews
  told_by skews = map (λ (e : SkewNodes × Skew). (e.0, f e.1)) skews

  pub same_keys : (skews : Skews) → keys_of (told_by skews) ≡ keys_of skews
  same_keys [] = refl
  same_keys (x ∷ xs) = ap (λ (keys : List SkewNodes). x.0 ∷ keys) (same_keys xs)

  pub told_between : (skews : Skews) (q : SkewNodes) → skew_between (told_by skews) q ≡ option_map f (skew_between skews q)
  told_between [] q = refl
  told_between (x ∷ xs) q = elim (cases_Bool (is_at (by_nodes q) x.0)) [
    | inl is ↦
        lookup_head (is_at (by_nodes q)) (x.0, f x.1) (told_by xs) is
        ∙ sym (ap (option_map f) (lookup_head (is_at (by_nodes q)) x xs is))
    | inr differs ↦
        lookup_tail (is_at (by_nodes q)) (x.0, f x.1) (told_by xs) differs ∙ told_between xs q
        ∙ sym (ap (option_map f) (lookup_tail (is_at (by_nodes q)) x xs differs))
  ]
