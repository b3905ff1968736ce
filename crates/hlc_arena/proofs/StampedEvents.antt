-- Events made of an execution's, their stamps and what happened at each.
use Rattle.std.proofs.Common.{◌≡◌, ℕ, zero, suc, ◌<◌, List, [], ◌∷◌, ◌++◌, length, arith, refl, ap}
use Rattle.std.specs.Prelude.{slice_index_or}
use Rattle.hlc_stamp.specs.Order.{Pair}
use Rattle.hlc_causality.specs.Assignment.{pair_at}
use Rattle.hlc_causality.specs.Causality.{Skeleton, SkeletonEvent, skeleton_at}
use Rattle.hlc_arena.specs.History.{EventKind, StampedEvent, stamped_at}
use Rattle.hlc_arena.specs.Stored.{stamped_events}

-- one event with its stamp and what happened
abbrev pub stamped_event : SkeletonEvent → Pair → EventKind → StampedEvent
stamped_event e p k = record { event = record { node = e.node; reading = e.reading; kind = k }; stamp = p }

pub length-stamped_events :
    (es : Skeleton) (ps : List Pair) (ks : List EventKind) → length ps ≡ length es → length ks ≡ length es →
    length (stamped_events es ps ks) ≡ length es
length-stamped_events [] ps ks a b = refl
length-stamped_events (e ∷ es) [] ks a b = absurd (omega (arith, a))
length-stamped_events (e ∷ es) (p ∷ ps) [] a b = absurd (omega (arith, b))
length-stamped_events (e ∷ es) (p ∷ ps) (k ∷ ks) a b = ap suc (length-stamped_events es ps ks (omega (arith, a)) (omega (arith, b)))

pub stamped_events-push :
    (es : Skeleton) (ps : List Pair) (ks : List EventKind) (e : SkeletonEvent) (p : Pair) (k : EventKind) →
    length ps ≡ length es → length ks ≡ length es →
    stamped_events (es ++ e ∷ []) (ps ++ p ∷ []) (ks ++ k ∷ []) ≡ stamped_events es ps ks ++ stamped_event e p k ∷ []
stamped_events-push [] [] [] e p k a b = refl
stamped_events-push [] [] (l ∷ ks) e p k a b = absurd (omega (arith, b))
stamped_events-push [] (q ∷ ps) ks e p k a b = absurd (omega (arith, a))
stamped_events-push (d ∷ es) [] ks e p k a b = absurd (omega (arith, a))
stamped_events-push (d ∷ es) (q ∷ ps) [] e p k a b = absurd (omega (arith, b))
stamped_events-push (d ∷ es) (q ∷ ps) (l ∷ ks) e p k a b =
    ap (λ (xs : List StampedEvent). stamped_event d q l ∷ xs) (stamped_events-push es ps ks e p k (omega (arith, a)) (omega (arith, b)))

pub stamped_events-at :
    (es : Skeleton) (ps : List Pair) (ks : List EventKind) (other : EventKind) (i : ℕ) →
    length ps ≡ length es → length ks ≡ length es → i < length es →
    stamped_at (stamped_events es ps ks) i ≡ stamped_event (skeleton_at es i) (pair_at ps i) (slice_index_or ks i other)
stamped_events-at [] ps ks other i a b lt = absurd (omega arith)
stamped_events-at (e ∷ es) [] ks other i a b lt = absurd (omega (arith, a))
stamped_events-at (e ∷ es) (p ∷ ps) [] other i a b lt = absurd (omega (arith, b))
stamped_events-at (e ∷ es) (p ∷ ps) (k ∷ ks) other zero a b lt = refl
stamped_events-at (e ∷ es) (p ∷ ps) (k ∷ ks) other (suc i) a b lt =
    stamped_events-at es ps ks other i (omega (arith, a)) (omega (arith, b)) (omega arith)
