-- The labels of events that are opened, where not all are.
use Rattle.std.proofs.Common.{◌≡◌, ◌∙◌, ◌<◌, ◌+◌, ℕ, zero, suc, List, [], ◌∷◌, Option, None, Some, Bool, arith, ap, refl}
use Rattle.std.specs.Prelude.{if◌then◌else◌, nat_eq, slice_get}
use Rattle.std.specs.Option.{option_and_then}
use Rattle.std.specs.Map.{lookup}
use Rattle.std.proofs.lemmas.Bool.{eq-eqb, ne_eqb}
use Rattle.hlc_log_text.specs.Labels.{label_at}
use Rattle.hlc_open_log.specs.Opened.{labels_from, labels_kept, place_read, with_label}

-- whether one label more is found
label_here : (k : ℕ) (label : Option (List ℕ)) (rest : List (ℕ × List ℕ)) → label_at rest k ≡ None → label_at (with_label k label rest) k ≡ label
label_here k None rest none = none
label_here k (Some label) rest none = ap (λ (test : Bool). (let o : Option (List ℕ) = if test then Some label else lookup (nat_eq k) rest in o)) (eq-eqb k k refl)

label_there : (k e : ℕ) (label : Option (List ℕ)) (rest : List (ℕ × List ℕ)) → ¬ (e ≡ k) → label_at (with_label k label rest) e ≡ label_at rest e
label_there k e None rest differ = refl
label_there k e (Some label) rest differ =
    ap (λ (test : Bool). (let o : Option (List ℕ) = if test then Some label else lookup (nat_eq e) rest in o)) (ne_eqb e k differ)

-- none is of an event before k
none_before : (labels : List (ℕ × List ℕ)) (k : ℕ) (places : List ℕ) (e : ℕ) → e < k → label_at (labels_from labels k places) e ≡ None
none_before labels k [] e lt = refl
none_before labels k (place ∷ places) e lt =
    label_there k e (label_at labels place) (labels_from labels (k + 1) places) (λ same. omega (arith, lt, same))
    ∙ none_before labels (k + 1) places e (omega (arith, lt))

label_from : (labels : List (ℕ × List ℕ)) (k : ℕ) (places : List ℕ) (j : ℕ)
    → label_at (labels_from labels k places) (k + j) ≡ option_and_then (label_at labels) (slice_get places j)
label_from labels k [] j = refl
label_from labels k (place ∷ places) zero =
    ap (label_at (labels_from labels k (place ∷ places))) (let same : k + 0 ≡ k = omega arith in same)
    ∙ label_here k (label_at labels place) (labels_from labels (k + 1) places) (none_before labels (k + 1) places k (omega arith))
label_from labels k (place ∷ places) (suc j) =
    label_there k (k + suc j) (label_at labels place) (labels_from labels (k + 1) places) (λ same. omega (arith, same))
    ∙ ap (label_at (labels_from labels (k + 1) places)) (let same : k + suc j ≡ (k + 1) + j = omega arith in same)
    ∙ label_from labels (k + 1) places j

pub label_read : (kept : Option (List ℕ)) (labels : List (ℕ × List ℕ)) (place : ℕ)
    → label_at (labels_kept kept labels) place ≡ option_and_then (label_at labels) (place_read kept place)
label_read None labels place = refl
label_read (Some kept) labels place =
    ap (label_at (labels_from labels 0 kept)) (let same : place ≡ 0 + place = omega arith in same) ∙ label_from labels 0 kept place
