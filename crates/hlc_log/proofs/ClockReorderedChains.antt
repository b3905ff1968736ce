-- A reordering keeps chains by floors and ticks, by equal pairs.
use Rattle.std.proofs.Common.{◌≡◌, ◌∙◌, ℕ, ◌<◌, inl, inr, List, [], ◌∷◌, length, map, arith, subst, sym, ap}
use Rattle.hlc_stamp.specs.Order.{Pair}
use Rattle.hlc_causality.specs.Assignment.{pair_at}
use Rattle.hlc_causality.specs.Causality.{Skeleton}
use Rattle.hlc_causality.specs.ClockChain.{ClockForcesAlong, IsClockChainOf, IsClockForcing, IsClockOrigin, IsPreviousNext, NoPreviousNext}
use Rattle.hlc_causality.specs.ClockEvents.{ClockEvents, clock_event_at, clock_skeleton}
use Rattle.hlc_causality.specs.FollowedClockChains.{clock_chain_of}
use Rattle.hlc_causality.specs.LeastFeasible.{next_pair}
use Rattle.hlc_causality.proofs.ClockChains.{clock_chain_of_exists}
use Rattle.hlc_causality.proofs.ClockEvents.{clock_event_exists, skeleton_size}
use Rattle.hlc_causality.proofs.ClockForcing.{clock_forcing_is_direct}
use Rattle.hlc_causality.proofs.FollowedClockChains.{clock_chain_is_followed}
use Rattle.hlc_causality.proofs.Predecessors.{direct_earlier}
use Rattle.hlc_log.specs.Laws.{ClockReorderingKeepsChains}
use Rattle.hlc_log.specs.Reordering.{HaveEqualPairs, IsClockReordering}
use Rattle.hlc_log.proofs.ClockReorderings.{clocks_turned}
use Rattle.hlc_log.proofs.Reorderings.{equal_turned, previous_kept}

module _ (t u : ClockEvents) (to back : ℕ → ℕ) (h : IsClockReordering t u to back) (pairs others : List Pair)
    (equal : HaveEqualPairs (clock_skeleton t) to pairs others) where
  abbrev s : Skeleton
  s = clock_skeleton t

  shown : (f : ℕ) → f < length t → f < length s
  shown f lt = omega (arith, lt, skeleton_size t)

  next_kept : (d f : ℕ) → IsPreviousNext t pairs d f → IsPreviousNext u others (to d) (to f)
  next_kept d f one =
      let direct = inl one.previous in
      let earlier : d < f = direct_earlier s d f direct in
      let exists = clock_event_exists t d f direct in
      let ticks = (clock_event_at t f).ticks in
      record {
        previous = previous_kept s (clock_skeleton u) to back h.links d f one.previous;
        next =
            subst (λ b. next_pair b (pair_at others (to d)) ≡ pair_at others (to f)) (sym (h.ticks f exists))
            (ap (next_pair ticks) (sym (equal d (omega (arith, earlier, shown f exists)))) ∙ one.next ∙ equal f (shown f exists));
      }

module _ (t u : ClockEvents) (to back : ℕ → ℕ) (h : IsClockReordering t u to back) (pairs others : List Pair)
    (equal : HaveEqualPairs (clock_skeleton t) to pairs others) where
  equal_back : HaveEqualPairs (clock_skeleton u) back others pairs
  equal_back = equal_turned (clock_skeleton t) (clock_skeleton u) to back h.links pairs others equal

  returns_here : (f : ℕ) → f < length t → back (to f) ≡ f
  returns_here f lt = h.links.back_here f (omega (arith, lt, skeleton_size t))

  none_kept : (f : ℕ) → f < length t → NoPreviousNext t pairs f → NoPreviousNext u others (to f)
  none_kept f exists none d one =
      none (back d) (subst (IsPreviousNext t pairs (back d)) (returns_here f exists)
      (next_kept u t back to (clocks_turned t u to back h) others pairs equal_back d (to f) one))

  forcing_kept : (d f : ℕ) → f < length t → IsClockForcing t pairs d f → IsClockForcing u others (to d) (to f)
  forcing_kept d f exists forces =
      let same = equal f (omega (arith, exists, skeleton_size t)) in
      record {
        off_floor = λ floor. forces.off_floor (same ∙ floor ∙ h.floor f exists);
        above_zero = λ ticks. subst (λ (p : Pair). 0 < p.c) same (forces.above_zero (sym (h.ticks f exists) ∙ ticks));
        event = elim forces.event [
          | inl one ↦ inl (next_kept t u to back h pairs others equal d f one)
          | inr sent ↦ inr (none_kept f exists sent.0, h.links.there.send d f sent.1)
        ];
      }

module _ (t u : ClockEvents) (to back : ℕ → ℕ) (h : IsClockReordering t u to back) (pairs others : List Pair)
    (equal : HaveEqualPairs (clock_skeleton t) to pairs others) where
  moved_exists : (f : ℕ) → f < length t → to f < length u
  moved_exists f exists =
      let there = h.links.there.exists f (omega (arith, exists, skeleton_size t)) in omega (arith, there, skeleton_size u)

  origin_kept : (e : ℕ) → e < length t → IsClockOrigin t pairs e → IsClockOrigin u others (to e)
  origin_kept e exists origin d forces =
      origin (back d) (subst (IsClockForcing t pairs (back d)) (returns_here t u to back h pairs others equal e exists)
      (forcing_kept u t back to (clocks_turned t u to back h) others pairs (equal_back t u to back h pairs others equal) d (to e)
      (moved_exists e exists) forces))

  along_kept : (e : ℕ) (rest : List ℕ) (f : ℕ) → ClockForcesAlong t pairs e rest f → ClockForcesAlong u others (to e) (map to rest) (to f)
  along_kept e [] f same = ap to same
  along_kept e (m ∷ rest) f (forces, along) = (
    forcing_kept t u to back h pairs others equal e m (clock_event_exists t e m (clock_forcing_is_direct t pairs e m forces)) forces,
    along_kept m rest f along,
  )

  pub chain_kept : (f : ℕ) (chain : List ℕ) → IsClockChainOf t pairs f chain → IsClockChainOf u others (to f) (map to chain)
  chain_kept f [] is = absurd is
  chain_kept f (e ∷ rest) is = record {
    exists = moved_exists e is.exists;
    origin = origin_kept e is.exists is.origin;
    forces = along_kept e rest f is.forces;
  }

  chain_moved : (f : ℕ) → f < length t → clock_chain_of u others (to f) ≡ map to (clock_chain_of t pairs f)
  chain_moved f exists =
      let chain = clock_chain_of_exists t pairs f exists in
      sym (clock_chain_is_followed u others (to f) (map to chain.0) (moved_exists f exists) (chain_kept f chain.0 chain.1))
      ∙ ap (map to) (clock_chain_is_followed t pairs f chain.0 exists chain.1)

pub clock_reordering_keeps_chains : ClockReorderingKeepsChains
clock_reordering_keeps_chains t u to back h pairs others equal f exists = chain_moved t u to back h pairs others equal f exists
