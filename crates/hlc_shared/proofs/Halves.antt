-- What comes of two halves of some jobs.
use Rattle.std.proofs.Common.{◌≡◌, ℕ, ◌≤◌, Bool, true, false, ◌+◌, List, [], ◌∷◌, ◌++◌, length, ◌∙◌, refl, sym, subst, arith, length-append}
use Rattle.std.specs.Prelude.{All, Any, Ok, Err, Result, Vec, if◌then◌else◌, nat_lt}
use Rattle.std.specs.List.{AllZip}
use Rattle.std.specs.declared.alloc.Global.{Global}
use Rattle.std.proofs.lemmas.Bool.Decides.{nat_tests}
use Rattle.std.proofs.lemmas.List.Elements.{All-append, All-cons, All-nil, All-weaker}
use Rattle.std.proofs.lemmas.List.{get_or-append-add, get_or_append_left}
use mathlib.Core.Logic.{inl, inr}
use Rattle.hlc_shared.specs.declared.fate.Fate.{Fate}
use Rattle.hlc_shared.specs.declared.fate.Fate.TheVariants.{Memory, Shut}
use Rattle.hlc_stamp.specs.declared.id.NodeId.{NodeId}
use Rattle.hlc_shared.specs.Endings.{AreOfBoth, HaveEnded, IsDoneOrShutFrom, IsFateOf, worse_of}

Any-front : {A : Type 0} (P : A → Type 0) (xs ys : List A) → Any P xs → Any P (xs ++ ys)
Any-front P xs ys p = (p.0, p.1, omega (arith, p.2, length-append xs ys), get_or_append_left xs ys p.1 p.0 p.2 ∙ p.3, p.4)

Any-back : {A : Type 0} (P : A → Type 0) (xs ys : List A) → Any P ys → Any P (xs ++ ys)
Any-back P xs ys p = (length xs + p.0, p.1, omega (arith, p.2, length-append xs ys), get_or-append-add xs ys p.0 p.1 ∙ p.3, p.4)

module _ {T U : Type 0} (done : T → U → Type 0) (shut : T → ℕ → Type 0) where
  AllZip-append : (xs ys : List T) (us vs : List U) → AllZip done xs us → AllZip done ys vs → AllZip done (xs ++ ys) (us ++ vs)
  AllZip-append [] ys [] vs p q = q
  AllZip-append [] ys (u ∷ us) vs p q = absurd p
  AllZip-append (x ∷ xs) ys [] vs p q = absurd p
  AllZip-append (x ∷ xs) ys (u ∷ us) vs p q = (p.0, AllZip-append xs ys us vs p.1 q)

  -- jobs that were done
  all_done : (node : ℕ) (jobs : List T) (us : List U) → AllZip done jobs us → All (IsDoneOrShutFrom done shut node) jobs
  all_done node [] [] p = All-nil (IsDoneOrShutFrom done shut node)
  all_done node [] (u ∷ us) p = absurd p
  all_done node (job ∷ jobs) [] p = absurd p
  all_done node (job ∷ jobs) (u ∷ us) p = All-cons (IsDoneOrShutFrom done shut node) job jobs (inl (u, p.0)) (all_done node jobs us p.1)

  -- what was shut out from a node on was so from a lesser one on
  from_less : (less node : ℕ) → less ≤ node → (job : T) → IsDoneOrShutFrom done shut node job → IsDoneOrShutFrom done shut less job
  from_less less node at job (inl p) = inl p
  from_less less node at job (inr p) = inr (p.0, omega (arith, at, p.1), p.2)

  all_from_less : (less node : ℕ) (jobs : List T) → less ≤ node → All (IsDoneOrShutFrom done shut node) jobs
      → All (IsDoneOrShutFrom done shut less) jobs
  all_from_less less node jobs at =
      All-weaker (IsDoneOrShutFrom done shut node) (IsDoneOrShutFrom done shut less) (from_less less node at) jobs

  front_shut : (xs ys : List T) (vs : List U) (fate : Fate) → IsFateOf done shut xs fate → AllZip done ys vs
      → IsFateOf done shut (xs ++ ys) fate
  front_shut xs ys vs Memory p q = tt
  front_shut xs ys vs (Shut n) p q =
      (Any-front (λ job. shut job n.0) xs ys p.0, All-append (IsDoneOrShutFrom done shut n.0) xs ys p.1 (all_done n.0 ys vs q))

  back_shut : (xs ys : List T) (us : List U) (fate : Fate) → AllZip done xs us → IsFateOf done shut ys fate
      → IsFateOf done shut (xs ++ ys) fate
  back_shut xs ys us Memory p q = tt
  back_shut xs ys us (Shut n) p q =
      (Any-back (λ job. shut job n.0) xs ys q.0, All-append (IsDoneOrShutFrom done shut n.0) xs ys (all_done n.0 xs us p) q.1)

  both_shut : (xs ys : List T) (m n : NodeId) (b : Bool) → nat_lt n.0 m.0 ≡ b → IsFateOf done shut xs (Shut m)
      → IsFateOf done shut ys (Shut n)
      → IsFateOf done shut (xs ++ ys) (Shut (if b then n else m))
  both_shut xs ys m n true is p q =
      let less : n.0 ≤ m.0 = grind (arith, nat_tests, is) in (
        Any-back (λ job. shut job n.0) xs ys q.0,
        All-append (IsDoneOrShutFrom done shut n.0) xs ys (all_from_less n.0 m.0 xs less p.1) q.1,
      )
  both_shut xs ys m n false is p q =
      let less : m.0 ≤ n.0 = grind (arith, nat_tests, is) in (
        Any-front (λ job. shut job m.0) xs ys p.0,
        All-append (IsDoneOrShutFrom done shut m.0) xs ys p.1 (all_from_less m.0 n.0 ys less q.1),
      )

  worse_fate : (xs ys : List T) (one two : Fate) → IsFateOf done shut xs one → IsFateOf done shut ys two
      → IsFateOf done shut (xs ++ ys) (worse_of one two)
  worse_fate xs ys (Shut m) (Shut n) p q = both_shut xs ys m n (nat_lt n.0 m.0) refl p q
  worse_fate xs ys (Shut m) Memory p q = tt
  worse_fate xs ys Memory two p q = tt

  pub halves : (xs ys : List T) (a b r : Result (Vec U Global) Fate) → HaveEnded done shut xs a → HaveEnded done shut ys b → AreOfBoth a b r
      → HaveEnded done shut (xs ++ ys) r
  halves xs ys (Ok x) (Ok y) (Ok v) p q h = subst (λ vs. AllZip done (xs ++ ys) vs) (sym h) (AllZip-append xs ys x.items y.items p q)
  halves xs ys (Ok x) (Ok y) (Err f) p q h = subst (λ fate. IsFateOf done shut (xs ++ ys) fate) (sym h) tt
  halves xs ys (Ok x) (Err g) r p q h = subst (λ s. HaveEnded done shut (xs ++ ys) s) (sym h) (back_shut xs ys x.items g p q)
  halves xs ys (Err f) (Ok y) r p q h = subst (λ s. HaveEnded done shut (xs ++ ys) s) (sym h) (front_shut xs ys y.items f p q)
  halves xs ys (Err f) (Err g) r p q h = subst (λ s. HaveEnded done shut (xs ++ ys) s) (sym h) (worse_fate xs ys f g p q)
