-- A reordering keeps the paths that are found.
use Rattle.std.proofs.Common.{◌≡◌, ◌≢◌, ◌∙◌, Bool, true, false, cond, ℕ, zero, suc, ◌==◌, ◌<◌, inl, inr, List, [], ◌∷◌, ◌++◌, length, map, Option, Some, None, arith, refl, sym, ap}
use Rattle.std.specs.Prelude.{nat_le, option_map}
use Rattle.std.proofs.lemmas.Bool.{cases_Bool}
use Rattle.std.proofs.lemmas.Bool.Decides.{nat_tests}
use Rattle.std.proofs.lemmas.List.{length-map, map-append}
use Rattle.hlc_causality.specs.Causality.{IsDirectPredecessor, IsPrevious, IsSendOf, Skeleton}
use Rattle.hlc_causality.specs.Predecessors.{previous_of, send_of}
use Rattle.hlc_causality.proofs.Predecessors.{direct_earlier}
use Rattle.hlc_causality.proofs.PredecessorsFound.{previous_found, send_found}
use Rattle.hlc_causes.proofs.Disorder.{some_is_so}
use Rattle.hlc_explain.specs.Paths.{path_to, path_within, shorter}
use Rattle.hlc_log.specs.Reordering.{IsReordering}
use Rattle.hlc_log.proofs.Reorderings.{direct_kept}
use Rattle.hlc_ordered_log.proofs.ReorderedTraces.{previous_moved, send_moved}
use Rattle.hlc_log_audit.specs.Laws.{ReorderingKeepsPaths}

module _ (to : ℕ → ℕ) where
  abbrev moved : Option (List ℕ) → Option (List ℕ)
  moved = option_map (map to)

  shorter_moved : (a b : Option (List ℕ)) → shorter (moved a) (moved b) ≡ moved (shorter a b)
  shorter_moved None b = refl
  shorter_moved (Some path) None = refl
  shorter_moved (Some path) (Some other) =
      (λ i. cond (nat_le (length-map path to i) (length-map other to i)) (Some (map to path)) (Some (map to other)))
      ∙ either (nat_le (length path) (length other))
    where
      either : (test : Bool) → cond test (Some (map to path)) (Some (map to other)) ≡ moved (cond test (Some path) (Some other))
      either true = refl
      either false = refl

  then_moved : (f : ℕ) (o : Option (List ℕ)) → option_map (λ path. path ++ to f ∷ []) (moved o) ≡ moved (option_map (λ path. path ++ f ∷ []) o)
  then_moved f None = refl
  then_moved f (Some path) = ap (λ (list : List ℕ). (let o : Option (List ℕ) = Some list in o)) (sym (map-append to path (f ∷ [])))

  path_to_moved : (path other : ℕ → Option (List ℕ)) (link : Option ℕ) → ((d : ℕ) → link ≡ Some d → other (to d) ≡ moved (path d))
      → path_to other (option_map to link) ≡ moved (path_to path link)
  path_to_moved path other None each = refl
  path_to_moved path other (Some d) each = each d refl

module _ (s t : Skeleton) (to back : ℕ → ℕ) (h : IsReordering s t to back) (e : ℕ) (here : e < length s) where
  -- what is direct before an event is so in each order
  moves_earlier : (d f : ℕ) → IsDirectPredecessor s d f → to d < to f
  moves_earlier d f direct = direct_earlier t (to d) (to f) (direct_kept s t to back h d f direct)

  same_test : (f : ℕ) → f < length s → (to e == to f) ≡ (e == f)
  same_test f exists = elim (cases_Bool (e == f)) [
    | inl is ↦ let same : e ≡ f = grind (arith, nat_tests, is) in let there : to e ≡ to f = ap to same in rw is (grind (arith, nat_tests, there))
    | inr not ↦
        let differ : to e ≢ to f =
        λ same. (let both : e ≡ f = sym (h.back_here e here) ∙ ap back same ∙ h.back_here f exists in grind (arith, nat_tests, not, both)) in
        rw not (grind (arith, nat_tests, differ))
  ]

  -- by whatever number of events is enough in each order
  path_moved : (n m f : ℕ) → f < n → to f < m → f < length s → path_within t (to e) m (to f) ≡ option_map (map to) (path_within s e n f)
  path_moved zero m f lt there exists = absurd (omega (arith, lt))
  path_moved (suc n) zero f lt there exists = absurd (omega (arith, there))
  path_moved (suc n) (suc m) f lt there exists =
      let below : (d : ℕ) → IsDirectPredecessor s d f → path_within t (to e) m (to d) ≡ option_map (map to) (path_within s e n d) = λ d direct.
      let earlier = direct_earlier s d f direct in
      let earlier_there = moves_earlier d f direct in
      path_moved n m d (omega arith) (omega arith) (omega arith) in
      let by_previous : path_to (path_within t (to e) m) (previous_of t (to f)) ≡ option_map (map to) (path_to (path_within s e n) (previous_of s f)) =
      ap (path_to (path_within t (to e) m)) (previous_moved s t to back h f exists)
      ∙ path_to_moved to (path_within s e n) (path_within t (to e) m) (previous_of s f)
      (λ d is. below d (inl (some_is_so (λ x. IsPrevious s x f) (previous_of s f) (previous_found s f exists) d is))) in
      let by_send : path_to (path_within t (to e) m) (send_of t (to f)) ≡ option_map (map to) (path_to (path_within s e n) (send_of s f)) =
      ap (path_to (path_within t (to e) m)) (send_moved s t to back h f exists)
      ∙ path_to_moved to (path_within s e n) (path_within t (to e) m) (send_of s f)
      (λ d is. below d (inr (some_is_so (λ x. IsSendOf s x f) (send_of s f) (send_found s f exists) d is))) in
      let rest : option_map (λ path. path ++ to f ∷ []) (shorter (path_to (path_within t (to e) m) (previous_of t (to f))) (path_to (path_within t (to e) m) (send_of t (to f))))
      ≡ option_map (map to) (option_map (λ path. path ++ f ∷ []) (shorter (path_to (path_within s e n) (previous_of s f)) (path_to (path_within s e n) (send_of s f)))) =
      (λ i. option_map (λ path. path ++ to f ∷ []) (shorter (by_previous i) (by_send i)))
      ∙ ap (option_map (λ path. path ++ to f ∷ [])) (shorter_moved to (path_to (path_within s e n) (previous_of s f)) (path_to (path_within s e n) (send_of s f)))
      ∙ then_moved to f (shorter (path_to (path_within s e n) (previous_of s f)) (path_to (path_within s e n) (send_of s f))) in
      (λ i. cond (same_test f exists i) (Some (to f ∷ [])) (rest i)) ∙ either (e == f) f _
    where
      either : (test : Bool) (f : ℕ) (o : Option (List ℕ)) → cond test (Some (to f ∷ [])) (option_map (map to) o) ≡ option_map (map to) (cond test (Some (f ∷ [])) o)
      either true f o = refl
      either false f o = refl

pub reordering_keeps_paths : ReorderingKeepsPaths
reordering_keeps_paths s t to back h e f here exists = path_moved s t to back h e here (suc f) (suc (to f)) f (omega arith) (omega arith) exists
