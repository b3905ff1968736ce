-- Ways on which claimed l's came, and walks back over events.
use Rattle.std.proofs.Common.{◌≡◌, ◌∙◌, ℕ, zero, suc, ◌==◌, ◌<◌, ◌≤◌, inl, inr, List, [], ◌∷◌, ◌++◌, length, Option, Some, None, arith, refl, subst, sym, ap}
use Rattle.std.specs.Prelude.{All, nat_lt, option_map, unwrap_or}
use Rattle.std.proofs.lemmas.Bool.{cases_Bool}
use Rattle.std.proofs.lemmas.Bool.Decides.{nat_tests}
use Rattle.hlc_stamp.specs.declared.id.EventId.{EventId}
use Rattle.hlc_stamp.specs.Order.{Pair}
use Rattle.hlc_causality.specs.Assignment.{pair_at}
use Rattle.hlc_causality.specs.Causality.{IsPrevious, IsSendOf, Skeleton}
use Rattle.hlc_causality.specs.Neighbours.{NamesSend, place_of}
use Rattle.hlc_causality.specs.Predecessors.{previous_of, send_of}
use Rattle.hlc_causality.proofs.Predecessors.{direct_earlier, previous_is_unique, send_is_unique}
use Rattle.hlc_causality.proofs.PredecessorsFound.{Finds, previous_found, send_found}
use Rattle.hlc_explain.proofs.Found.{only_within, within_joined}
use Rattle.hlc_causes.proofs.Disorder.{found_is}
use Rattle.hlc_log_audit.specs.ClaimedWay.{BringsAlong, BringsGreatestC, BringsL, IsWayOfL, claimed_way, greater_c, if_same_l, source_of, way_back}

module _ (s : Skeleton) (claimed : List Pair) where
  abbrev l_at : ℕ → ℕ
  l_at e = (pair_at claimed e).l

  abbrev c_at : ℕ → ℕ
  c_at e = (pair_at claimed e).c

  -- an event is of one kind of direct predecessor, and claims the same l as f
  abbrev pub IsSo : (ℕ → Type 0) → ℕ → ℕ → Type 0
  IsSo P f d = P d × (l_at d ≡ l_at f)

  pub so_found : (P : ℕ → Type 0) → ((d e : ℕ) → P d → P e → d ≡ e) → (f : ℕ) (o : Option ℕ) → Finds P o → Finds (IsSo P f) (if_same_l claimed f o)
  so_found P unique f None found = λ d h. found d h.0
  so_found P unique f (Some d) found = elim (cases_Bool (l_at d == l_at f)) [
    | inl test ↦ let same : l_at d ≡ l_at f = grind (arith, nat_tests, test) in rw test (found, same)
    | inr test ↦ rw test (λ e h.
        let is : e ≡ d = unique e d h.0 found in
        let same : l_at d ≡ l_at f = sym (ap (λ (k : ℕ). l_at k) is) ∙ h.1 in
        absurd (grind (arith, nat_tests, test, same)))
  ]

  -- what is found is the source of f's claimed l, or none is
  abbrev pub IsSource : ℕ → Option ℕ → Type 0
  IsSource f None = (d : ℕ) → ¬ BringsL s claimed d f
  IsSource f (Some d) = BringsGreatestC s claimed d f

  module _ (f : ℕ) where
    abbrev Earlier : ℕ → Type 0
    Earlier = IsSo (λ d. IsPrevious s d f) f

    abbrev Sent : ℕ → Type 0
    Sent = IsSo (λ d. IsSendOf s d f) f

    greatest_of_both : (a b : Option ℕ) → Finds Earlier a → Finds Sent b → IsSource f (greater_c claimed a b)
    greatest_of_both None None none none' = λ d h. elim h.direct [
      | inl previous ↦ none d (previous, h.same_l)
      | inr send ↦ none' d (send, h.same_l)
    ]
    greatest_of_both None (Some e) none (send, same) = record {
      brings = record { direct = inr send; same_l = same };
      none_greater = λ x h. elim h.direct [
        | inl previous ↦ absurd (none x (previous, h.same_l))
        | inr other ↦ let is = ap c_at (send_is_unique s x e f other send) in omega arith
      ];
    }
    greatest_of_both (Some d) None (previous, same) none = record {
      brings = record { direct = inl previous; same_l = same };
      none_greater = λ x h. elim h.direct [
        | inl other ↦ let is = ap c_at (previous_is_unique s x d f other previous) in omega arith
        | inr send ↦ absurd (none x (send, h.same_l))
      ];
    }
    greatest_of_both (Some d) (Some e) (previous, same) (send, same') = elim (cases_Bool (nat_lt (c_at d) (c_at e))) [
      | inl test ↦
          let lt : c_at d < c_at e = grind (arith, nat_tests, test) in
          rw test (record {
            brings = record { direct = inr send; same_l = same' };
            none_greater = λ x h. elim h.direct [
              | inl other ↦ let is = ap c_at (previous_is_unique s x d f other previous) in omega arith
              | inr other ↦ let is = ap c_at (send_is_unique s x e f other send) in omega arith
            ];
          })
      | inr test ↦
          let le : c_at e ≤ c_at d = grind (arith, nat_tests, test) in
          rw test (record {
            brings = record { direct = inl previous; same_l = same };
            none_greater = λ x h. elim h.direct [
              | inl other ↦ let is = ap c_at (previous_is_unique s x d f other previous) in omega arith
              | inr other ↦ let is = ap c_at (send_is_unique s x e f other send) in omega arith
            ];
          })
    ]

    pub source_found : f < length s → IsSource f (source_of s claimed f)
    source_found exists =
        greatest_of_both (if_same_l claimed f (previous_of s f)) (if_same_l claimed f (send_of s f))
        (so_found (λ d. IsPrevious s d f) (λ d e. previous_is_unique s d e f) f (previous_of s f) (previous_found s f exists))
        (so_found (λ d. IsSendOf s d f) (λ d e. send_is_unique s d e f) f (send_of s f) (send_found s f exists))

    pub source_earlier : f < length s → (d : ℕ) → source_of s claimed f ≡ Some d → d < f
    source_earlier exists d is = direct_earlier s d f (subst (IsSource f) is (source_found exists)).brings.direct

  -- a way goes on to one event more
  along_push : (e : ℕ) (rest : List ℕ) (d f : ℕ) → BringsAlong s claimed e rest d → BringsGreatestC s claimed d f
      → BringsAlong s claimed e (rest ++ f ∷ []) f
  along_push e [] d f is brings = (subst (λ (k : ℕ). BringsGreatestC s claimed k f) (sym is) brings, refl)
  along_push e (m ∷ rest) d f h brings = (h.0, along_push m rest d f h.1 brings)

  way_push : (way : List ℕ) (d f : ℕ) → IsWayOfL s claimed d way → BringsGreatestC s claimed d f → IsWayOfL s claimed f (way ++ f ∷ [])
  way_push [] d f h brings = absurd h
  way_push (e ∷ rest) d f h brings = record { brought_in = h.brought_in; along = along_push e rest d f h.along brings }

  way_joined : (before : ℕ → List ℕ) (o : Option ℕ) (f : ℕ) → IsSource f o → ((d : ℕ) → o ≡ Some d → IsWayOfL s claimed d (before d))
      → IsWayOfL s claimed f (unwrap_or (option_map (λ d. before d) o) [] ++ f ∷ [])
  way_joined before None f none earlier = record { brought_in = none; along = refl }
  way_joined before (Some d) f brings earlier = way_push (before d) d f (earlier d refl) brings

  way_is : (n f : ℕ) → f ≤ n → f < length s → IsWayOfL s claimed f (way_back s claimed n f)
  way_is zero f le exists = record {
    brought_in = λ d h. let earlier = direct_earlier s d f h.direct in omega arith;
    along = refl;
  }
  way_is (suc n) f le exists =
      way_joined (way_back s claimed n) (source_of s claimed f) f (source_found f exists)
      (λ d is. let earlier = source_earlier f exists d is in way_is n d (omega arith) (omega arith))

  pub claimed_way_is : (f : ℕ) → f < length s → IsWayOfL s claimed f (claimed_way s claimed f)
  claimed_way_is f exists = way_is f f (omega arith) exists

  way_within : (n f : ℕ) → f < length s → All (λ (k : ℕ). k < length s) (way_back s claimed n f)
  way_within zero f exists = only_within (length s) f exists
  way_within (suc n) f exists =
      within_joined (length s) (way_back s claimed n) (source_of s claimed f) f exists
      (λ d is. let earlier = source_earlier f exists d is in way_within n d (omega arith))

  pub claimed_way_within : (f : ℕ) → f < length s → All (λ (k : ℕ). k < length s) (claimed_way s claimed f)
  claimed_way_within f exists = way_within f f exists

  -- a way doesn't depend on how many events may be followed back, once there are enough
  same_joined : (before other : ℕ → List ℕ) (o : Option ℕ) (f : ℕ) → ((d : ℕ) → o ≡ Some d → before d ≡ other d)
      → unwrap_or (option_map (λ d. before d) o) [] ++ f ∷ [] ≡ unwrap_or (option_map (λ d. other d) o) [] ++ f ∷ []
  same_joined before other None f same = refl
  same_joined before other (Some d) f same = ap (λ (xs : List ℕ). xs ++ f ∷ []) (same d refl)

  alone_joined : (before : ℕ → List ℕ) (o : Option ℕ) (f : ℕ) → ((d : ℕ) → ¬ (o ≡ Some d))
      → unwrap_or (option_map (λ d. before d) o) [] ++ f ∷ [] ≡ f ∷ []
  alone_joined before None f none = refl
  alone_joined before (Some d) f none = absurd (none d refl)

  way_enough : (n m f : ℕ) → f ≤ n → f ≤ m → f < length s → way_back s claimed n f ≡ way_back s claimed m f
  way_enough zero zero f le le' exists = refl
  way_enough zero (suc m) f le le' exists =
      sym (alone_joined (way_back s claimed m) (source_of s claimed f) f
      (λ d is. let earlier = source_earlier f exists d is in omega arith))
  way_enough (suc n) zero f le le' exists =
      alone_joined (way_back s claimed n) (source_of s claimed f) f
      (λ d is. let earlier = source_earlier f exists d is in omega arith)
  way_enough (suc n) (suc m) f le le' exists =
      same_joined (way_back s claimed n) (way_back s claimed m) (source_of s claimed f) f
      (λ d is. let earlier = source_earlier f exists d is in way_enough n m d (omega arith) (omega arith) (omega arith))

  step_joined : (before : ℕ → List ℕ) (o : Option ℕ) (d f : ℕ) → o ≡ Some d
      → unwrap_or (option_map (λ d. before d) o) [] ++ f ∷ [] ≡ before d ++ f ∷ []
  step_joined before o d f is = ap (λ (o : Option ℕ). unwrap_or (option_map (λ d. before d) o) [] ++ f ∷ []) is

  way_step_at : (n d f : ℕ) → f ≤ n → f < length s → source_of s claimed f ≡ Some d → way_back s claimed n f ≡ claimed_way s claimed d ++ f ∷ []
  way_step_at zero d f le exists is = let earlier = source_earlier f exists d is in absurd (omega arith)
  way_step_at (suc n) d f le exists is =
      let earlier = source_earlier f exists d is in
      step_joined (way_back s claimed n) (source_of s claimed f) d f is
      ∙ ap (λ (xs : List ℕ). xs ++ f ∷ []) (way_enough n d d (omega arith) (omega arith) (omega arith))

  -- the way of f is that of its source, and then f
  pub way_step : (d f : ℕ) → f < length s → source_of s claimed f ≡ Some d → claimed_way s claimed f ≡ claimed_way s claimed d ++ f ∷ []
  way_step d f exists is = way_step_at f d f (omega arith) exists is

  way_end_at : (n f : ℕ) → source_of s claimed f ≡ None → way_back s claimed n f ≡ f ∷ []
  way_end_at zero f is = refl
  way_end_at (suc n) f is = ap (λ (o : Option ℕ). unwrap_or (option_map (λ d. way_back s claimed n d) o) [] ++ f ∷ []) is

  -- and f alone, if it has none
  pub way_end : (f : ℕ) → source_of s claimed f ≡ None → claimed_way s claimed f ≡ f ∷ []
  way_end f is = way_end_at f f is

-- what names the send names the one that is found
none_sent : (o : Option ℕ) (s : Skeleton) (f : ℕ) → Finds (λ d. IsSendOf s d f) o → ((d : ℕ) → ¬ IsSendOf s d f) → o ≡ None
none_sent None s f found none = refl
none_sent (Some d) s f found none = absurd (none d found)

pub send_named : (s : Skeleton) (f : ℕ) (link : Option EventId) → f < length s → NamesSend s f link → place_of link ≡ send_of s f
send_named s f None exists names = sym (none_sent (send_of s f) s f (send_found s f exists) names)
send_named s f (Some d) exists names =
    sym (found_is (λ x. IsSendOf s x f) (λ x y. send_is_unique s x y f) (send_of s f) (send_found s f exists) d.0 names)
