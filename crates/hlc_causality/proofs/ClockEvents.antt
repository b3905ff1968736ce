-- Events as a clock rule reads them, and as causality sees them.
use Rattle.std.proofs.Common.{◌≡◌, ℕ, ◌<◌, [], ◌∷◌, ◌++◌, length, take, arith, refl, subst, sym, ap}
use Rattle.std.proofs.lemmas.List.{get_or-take, get_or_append_left, length-map, map-append, take-map}
use Rattle.std.proofs.Math.ListN.{get_or-map}
use Rattle.hlc_causality.specs.Causality.{IsDirectPredecessor, Skeleton, skeleton_at}
use Rattle.hlc_causality.specs.ClockEvents.{ClockEvent, ClockEvents, clock_event_at, clock_skeleton, skeleton_event, ticking, ticking_event}
use Rattle.hlc_causality.specs.TickingLaws.{TickingHasTheSkeleton}
use Rattle.hlc_causality.proofs.Predecessors.{direct_exists}
use Rattle.hlc_causality.proofs.SamePrefix.{IsSameUpTo, no_event, same_at_push, same_at_take, same_back, same_itself}

pub skeleton_size : (t : ClockEvents) → length (clock_skeleton t) ≡ length t
skeleton_size t = length-map t skeleton_event

pub ticking_size : (s : Skeleton) → length (ticking s) ≡ length s
ticking_size s = length-map s ticking_event

pub clock_skeleton_at : (t : ClockEvents) (e : ℕ) → skeleton_at (clock_skeleton t) e ≡ skeleton_event (clock_event_at t e)
clock_skeleton_at t e = get_or-map skeleton_event t e _

pub ticking_at : (s : Skeleton) (e : ℕ) → clock_event_at (ticking s) e ≡ ticking_event (skeleton_at s e)
ticking_at s e = get_or-map ticking_event s e no_event

pub ticking_has_the_skeleton : TickingHasTheSkeleton
ticking_has_the_skeleton [] = refl
ticking_has_the_skeleton (x ∷ s) = ap (λ (rest : Skeleton). x ∷ rest) (ticking_has_the_skeleton s)

pub clock_event_exists : (t : ClockEvents) (d f : ℕ) → IsDirectPredecessor (clock_skeleton t) d f → f < length t
clock_event_exists t d f h = let exists = direct_exists (clock_skeleton t) d f h in omega (arith, skeleton_size t)

-- two lists of events have the same event at f, and the same skeleton up to it
pub record IsSameAt (t u : ClockEvents) (f : ℕ) : Type 0 where
  pub skeletons : IsSameUpTo (clock_skeleton t) (clock_skeleton u) f
  pub event : clock_event_at t f ≡ clock_event_at u f

pub same_at_back : (t u : ClockEvents) (f : ℕ) → IsSameAt t u f → IsSameAt u t f
same_at_back t u f h = record { skeletons = same_back (clock_skeleton t) (clock_skeleton u) f h.skeletons; event = sym h.event }

pub same_at_itself : (t : ClockEvents) (f : ℕ) → f < length t → IsSameAt t t f
same_at_itself t f lt = record { skeletons = same_itself (clock_skeleton t) f (omega (arith, skeleton_size t)); event = refl }

pub same_event_at_push : (t : ClockEvents) (x : ClockEvent) (f : ℕ) → f < length t → IsSameAt t (t ++ x ∷ []) f
same_event_at_push t x f lt = record {
  skeletons = subst (λ (s : Skeleton). IsSameUpTo (clock_skeleton t) s f) (sym (map-append skeleton_event t (x ∷ [])))
      (same_at_push (clock_skeleton t) (skeleton_event x) f (omega (arith, skeleton_size t)));
  event = sym (get_or_append_left t (x ∷ []) _ f lt);
}

pub same_event_at_take : (t : ClockEvents) (n f : ℕ) → f < n → f < length t → IsSameAt t (take n t) f
same_event_at_take t n f below lt = record {
  skeletons = subst (λ (s : Skeleton). IsSameUpTo (clock_skeleton t) s f) (take-map skeleton_event n t)
      (same_at_take (clock_skeleton t) n f below (omega (arith, skeleton_size t)));
  event = sym (get_or-take n t f _ below);
}
