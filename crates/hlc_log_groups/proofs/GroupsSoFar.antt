-- The causes of one event more.
use Rattle.std.proofs.Common.{◌≡◌, ◌∙◌, ℕ, zero, suc, ◌+◌, ◌<◌, List, [], ◌∷◌, ◌++◌, length, add-one, append-nil, arith, refl, sym, ap}
use Rattle.std.specs.Prelude.{slice_index_or}
use Rattle.std.specs.List.{flat_map}
use Rattle.std.proofs.lemmas.List.{get_or_append_left, get_or_push}
use Rattle.std.proofs.lemmas.List.Concat.{flat_map-append}
use Rattle.hlc_causality.specs.Places.{places_below}
use Rattle.hlc_causes.specs.Causes.{no_causes}
use Rattle.hlc_causes.specs.declared.answers.Causes.{Causes}
use Rattle.hlc_ordered_log.specs.InOrder.{LogInOrder}
use Rattle.hlc_log_groups.specs.Groups.{KeyedCauses, keyed_at, keyed_in}

-- what stands at places depends on these alone
same_places : (one other : ℕ → KeyedCauses) (n : ℕ) → ((k : ℕ) → k < n → one k ≡ other k) → flat_map one (places_below n) ≡ flat_map other (places_below n)
same_places one other zero same = refl
same_places one other (suc n) same =
    flat_map-append one (places_below n) (n ∷ [])
    ∙ ap (λ (before : KeyedCauses). before ++ (one n ++ [])) (same_places one other n (λ k lt. same k (omega arith)))
    ∙ ap (λ (here : KeyedCauses). flat_map other (places_below n) ++ (here ++ [])) (same n (omega arith))
    ∙ sym (flat_map-append other (places_below n) (n ∷ []))

pub keyed_more : (log : LogInOrder) (n : ℕ) (causes : List Causes) (found : Causes) → length causes ≡ n
    → keyed_in log (n + 1) (causes ++ found ∷ []) ≡ keyed_in log n causes ++ keyed_at log n found
keyed_more log n causes found size =
    let at : List Causes → ℕ → KeyedCauses = λ all e. keyed_at log e (slice_index_or all e no_causes) in
    let more = causes ++ found ∷ [] in
    let before : flat_map (at more) (places_below n) ≡ flat_map (at causes) (places_below n) =
    same_places (at more) (at causes) n (λ k lt. ap (keyed_at log k) (get_or_append_left causes (found ∷ []) no_causes k (omega arith))) in
    ap (λ (k : ℕ). flat_map (at more) (places_below k)) (add-one n)
    ∙ flat_map-append (at more) (places_below n) (n ∷ [])
    ∙ ap (λ (all : KeyedCauses). flat_map (at more) (places_below n) ++ all) (append-nil (at more n) ∙ ap (keyed_at log n) (get_or_push causes found no_causes n size))
    ∙ ap (λ (all : KeyedCauses). all ++ keyed_at log n found) before
