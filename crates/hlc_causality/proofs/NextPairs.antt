-- The least pair that may come directly after another, and the greater of two.
use Rattle.std.proofs.Common.{◌≡◌, ℕ, ◌⊎◌, inl, inr, Bool, true, false, List, Option, Some, None, arith, refl, subst, sym}
use Rattle.std.specs.Ordering.{is_le}
use Rattle.std.proofs.lemmas.Bool.{cases_Bool}
use Rattle.std.proofs.lemmas.Bool.Decides.{nat_tests}
use Rattle.hlc_stamp.specs.Order.{IsAtMost, IsBelow, Pair, stamp_cmp}
use Rattle.hlc_stamp.proofs.OrderLaws.{at_most_below, at_most_from_below, at_most_itself, at_most_trans}
use Rattle.hlc_causality.specs.Assignment.{pair_at}
use Rattle.hlc_causality.specs.Feasible.{Follows}
use Rattle.hlc_causality.specs.LeastFeasible.{greater, greater_next, next_pair}
use Rattle.hlc_causality.specs.LeastPairs.{raised}
use Rattle.hlc_causality.proofs.Pairs.{at_most_antisymm, below_at_most}
use Rattle.hlc_causality.proofs.PredecessorsFound.{Finds}

pub next_at_most : (ticks : Bool) (p q : Pair) → Follows ticks p q → IsAtMost (next_pair ticks p) q
next_at_most true p q a = grind arith
next_at_most false p q a = a

follows_from_next : (ticks : Bool) (p q : Pair) → IsAtMost (next_pair ticks p) q → Follows ticks p q
follows_from_next true p q a = grind arith
follows_from_next false p q a = a

pub at_most_from_follows : (ticks : Bool) (p q : Pair) → Follows ticks p q → IsAtMost p q
at_most_from_follows true p q a = grind arith
at_most_from_follows false p q a = a

pub at_most_follows : (ticks : Bool) (p q r : Pair) → IsAtMost p q → Follows ticks q r → Follows ticks p r
at_most_follows true p q r a b = at_most_below p q r a b
at_most_follows false p q r a b = at_most_trans p q r a b

pub follows_at_most : (ticks : Bool) (p q r : Pair) → Follows ticks p q → IsAtMost q r → Follows ticks p r
follows_at_most true p q r a b = below_at_most p q r a b
follows_at_most false p q r a b = at_most_trans p q r a b

pub l_of_next : (ticks : Bool) (p : Pair) → (next_pair ticks p).l ≡ p.l
l_of_next true p = refl
l_of_next false p = refl

-- r is the greater of p and q
record IsGreater (p q r : Pair) : Type 0 where
  left : IsAtMost p r
  right : IsAtMost q r
  least : (other : Pair) → IsAtMost p other → IsAtMost q other → IsAtMost r other
  source : (r ≡ p) ⊎ (r ≡ q)

at_most_tested : (p q : Pair) → is_le (stamp_cmp p q) ≡ true → IsAtMost p q
at_most_tested p q test = grind (arith, nat_tests, test)

above_tested : (p q : Pair) → is_le (stamp_cmp p q) ≡ false → IsBelow q p
above_tested p q test = grind (arith, nat_tests, test)

greater_is : (p q : Pair) → IsGreater p q (greater p q)
greater_is p q =
    elim (cases_Bool (is_le (stamp_cmp p q))) [
      | inl test ↦ rw test (record { left = at_most_tested p q test; right = at_most_itself q; least = λ x a b. b; source = inr refl })
      | inr test ↦
          let right = at_most_from_below q p (above_tested p q test) in
          rw test (record { left = at_most_itself p; right = right; least = λ x a b. a; source = inl refl })
    ]

-- raised above q is the greater of p and what is next to q
pub raised_is_greater : (p q : Pair) → raised p q ≡ greater p (next_pair true q)
raised_is_greater p q =
    let next = next_pair true q in
    let r = greater p next in
    let up = greater_is p next in
    elim (cases_Bool (is_le (stamp_cmp p q))) [
      | inl test ↦
          let low = at_most_trans p q next (at_most_tested p q test) (at_most_from_follows true q next (follows_from_next true q next (at_most_itself next))) in
          rw test (at_most_antisymm next r up.right (up.least next low (at_most_itself next)))
      | inr test ↦
          rw test (at_most_antisymm p r up.left (up.least p (at_most_itself p) (next_at_most true q p (above_tested p q test))))
    ]

-- r is the least pair that is at least p and may come directly after those of the events of which P holds
pub record IsLeastAfter (ticks : Bool) (pairs : List Pair) (P : ℕ → Type 0) (p r : Pair) : Type 0 where
  pub at_least : IsAtMost p r
  pub follows : (d : ℕ) → P d → Follows ticks (pair_at pairs d) r
  pub least : (q : Pair) → IsAtMost p q → ((d : ℕ) → P d → Follows ticks (pair_at pairs d) q) → IsAtMost r q
  pub source : (r ≡ p) ⊎ ((d : ℕ) × P d × (next_pair ticks (pair_at pairs d) ≡ r))

greater_next_is_least : (ticks : Bool) (pairs : List Pair) (P : ℕ → Type 0) (p r : Pair) (e : ℕ)
    → ((d : ℕ) → P d → e ≡ d) → P e → IsGreater p (next_pair ticks (pair_at pairs e)) r → IsLeastAfter ticks pairs P p r
greater_next_is_least ticks pairs P p r e only found up = record {
  at_least = up.left;
  follows = λ d h.
      subst (λ x. Follows ticks (pair_at pairs x) r) (only d h) (follows_from_next ticks (pair_at pairs e) r up.right);
  least = λ q a b. up.least q a (next_at_most ticks (pair_at pairs e) q (b e found));
  source = elim up.source [ inl same ↦ inl same | inr next ↦ inr (e, found, sym next) ];
}

pub greater_next_is : (ticks : Bool) (pairs : List Pair) (P : ℕ → Type 0) (p : Pair) (o : Option ℕ)
    → ((d e : ℕ) → P d → P e → d ≡ e) → Finds P o → IsLeastAfter ticks pairs P p (greater_next ticks pairs p o)
greater_next_is ticks pairs P p None unique none = record {
  at_least = at_most_itself p;
  follows = λ d h. absurd (none d h);
  least = λ q a b. a;
  source = inl refl;
}
greater_next_is ticks pairs P p (Some e) unique found =
    let next = next_pair ticks (pair_at pairs e) in
    greater_next_is_least ticks pairs P p (greater p next) e (λ d h. unique e d found h) found (greater_is p next)
