-- In an execution each delivery is of an earlier event that is no delivery, and one more event keeps it an execution.
use Rattle.std.proofs.Common.{◌≡◌, ℕ, ◌+◌, ◌<◌, inl, inr, [], ◌∷◌, ◌++◌, length, take, Option, Some, None, arith, subst, sym, ap, ◌∙◌}
use Rattle.std.specs.Prelude.{IfSome}
use Rattle.std.proofs.Math.Seq.{take-append_seam}
use Rattle.std.proofs.lemmas.Bool.{cases_eq}
use Rattle.std.proofs.lemmas.List.{get_or_append_left, get_or_push, get_or-take, length_push, length-take-le, take-append-le}
use Rattle.hlc_stamp.specs.declared.limits.TheConstants.{MAX_CAPACITY}
use Rattle.hlc_stamp.specs.Order.{Pair}
use Rattle.hlc_causality.specs.Causality.{Skeleton, SkeletonEvent, skeleton_at}
use Rattle.hlc_causality.proofs.SamePrefix.{sent_within}
use Rattle.hlc_execution.specs.Execution.{IsExecution, IsSource, MayFollow, StoredExecution}

-- what skeleton_at answers beyond the end
abbrev pub no_event : SkeletonEvent
no_event = record { node = 0; reading = 0; send = None }

named_source : (s : Skeleton) (o : Option ℕ) (d : ℕ) → IfSome o (IsSource s) → o ≡ Some d → IsSource s d
named_source s o d h is = subst (λ (x : Option ℕ). IfSome x (IsSource s)) is h

-- the send of a delivery is earlier, and no delivery
pub send_is_source : (x : StoredExecution) → IsExecution x → (f d : ℕ) → (skeleton_at x.events f).send ≡ Some d
    → (d < f) × ((skeleton_at x.events d).send ≡ None)
send_is_source x execution f d is =
    let within = sent_within x.events f d is in
    let source = named_source (take f x.events) (skeleton_at x.events f).send d (execution.each f within).send is in
    let size = length-take-le f x.events (omega arith) in
    let earlier : d < f = omega (arith, source.0, size) in
    (earlier, ap (λ (e : SkeletonEvent). e.send) (sym (get_or-take f x.events d no_event earlier)) ∙ source.1)

-- one more event after others
module _ (R : Skeleton → SkeletonEvent → Type 0) (events : Skeleton) (e : SkeletonEvent)
    (each : (f : ℕ) → f < length events → R (take f events) (skeleton_at events f)) (new : R events e) where
  follows_along : {s t : Skeleton} {x y : SkeletonEvent} → s ≡ t → x ≡ y → R t y → R s x
  follows_along {s} {t} {x} {y} same is h = subst (λ (u : Skeleton). R u x) (sym same) (subst (R t) (sym is) h)

  pub each_after_others-push : (f : ℕ) → f < length (events ++ e ∷ []) → R (take f (events ++ e ∷ [])) (skeleton_at (events ++ e ∷ []) f)
  each_after_others-push f lt =
      let longer : length (events ++ e ∷ []) ≡ length events + 1 = length_push events e in
      elim (cases_eq f (length events)) [
        | inl last ↦
            let cut = ap (λ (n : ℕ). take n (events ++ e ∷ [])) last in
            let before : take f (events ++ e ∷ []) ≡ events = cut ∙ take-append_seam events (e ∷ []) in
            let here : skeleton_at (events ++ e ∷ []) f ≡ e = get_or_push events e no_event f (sym last) in
            follows_along before here new
        | inr ne ↦
            let below : f < length events = omega arith in
            let before : take f (events ++ e ∷ []) ≡ take f events = take-append-le f events (e ∷ []) (omega arith) in
            let here : skeleton_at (events ++ e ∷ []) f ≡ skeleton_at events f = get_or_append_left events (e ∷ []) no_event f below in
            follows_along before here (each f below)
      ]

-- an execution stays one with one more event that may follow
pub execution-push : (x : StoredExecution) (e : SkeletonEvent) (p : Pair) (room : ℕ)
    → IsExecution x → length x.events < MAX_CAPACITY → MayFollow x.nodes x.events e
    → IsExecution (record { rules = x.rules; nodes = x.nodes; events = x.events ++ e ∷ []; stamps = x.stamps ++ p ∷ []; room = room })
execution-push x e p room execution few follows =
    let longer = length_push x.events e in
    record {
      few_nodes = execution.few_nodes;
      small_floors = execution.small_floors;
      few = omega arith;
      stamped = length_push x.stamps p ∙ ap (λ (n : ℕ). n + 1) execution.stamped ∙ sym longer;
      each = each_after_others-push (MayFollow x.nodes) x.events e execution.each follows;
    }
