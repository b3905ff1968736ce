-- A reordering keeps chains, by equal pairs.
use Rattle.std.proofs.Common.{◌≡◌, ◌∙◌, ℕ, ◌<◌, inl, inr, List, [], ◌∷◌, length, map, arith, subst, sym, ap}
use Rattle.hlc_stamp.specs.Order.{Pair}
use Rattle.hlc_causality.specs.Assignment.{pair_at}
use Rattle.hlc_causality.specs.Causality.{Skeleton}
use Rattle.hlc_causality.specs.Chain.{ForcesAlong, IsChainOf, IsForcing, IsOneBefore, IsOrigin, IsPreviousOneBefore, NoPreviousOneBefore}
use Rattle.hlc_causality.specs.FollowedChains.{chain_of}
use Rattle.hlc_causality.proofs.FollowedChains.{chain_is_followed}
use Rattle.hlc_causality.proofs.ForcedChains.{chain_of_exists}
use Rattle.hlc_causality.proofs.Forcing.{forcing_event_is_direct}
use Rattle.hlc_causality.proofs.Predecessors.{direct_earlier, direct_exists}
use Rattle.hlc_log.specs.Laws.{ReorderingKeepsChains}
use Rattle.hlc_log.specs.Reordering.{HaveEqualPairs, IsReordering}
use Rattle.hlc_log.proofs.Reorderings.{equal_turned, previous_kept, turned}

module _ (s t : Skeleton) (to back : ℕ → ℕ) (h : IsReordering s t to back) (pairs others : List Pair) (equal : HaveEqualPairs s to pairs others) where
  one_before_kept : (d f : ℕ) → IsPreviousOneBefore s pairs d f → IsPreviousOneBefore t others (to d) (to f)
  one_before_kept d f one =
      let direct = inl one.previous in
      let earlier : d < f = direct_earlier s d f direct in
      let exists : f < length s = direct_exists s d f direct in
      record {
        previous = previous_kept s t to back h d f one.previous;
        one_before =
            subst (λ (p : Pair). IsOneBefore p (pair_at others (to f))) (equal d (omega arith))
            (subst (IsOneBefore (pair_at pairs d)) (equal f exists) one.one_before);
      }

module _ (s t : Skeleton) (to back : ℕ → ℕ) (h : IsReordering s t to back) (pairs others : List Pair) (equal : HaveEqualPairs s to pairs others) where
  none_kept : (f : ℕ) → f < length s → NoPreviousOneBefore s pairs f → NoPreviousOneBefore t others (to f)
  none_kept f exists none d one =
      none (back d) (subst (IsPreviousOneBefore s pairs (back d)) (h.back_here f exists)
      (one_before_kept t s back to (turned s t to back h) others pairs (equal_turned s t to back h pairs others equal) d (to f) one))

  forcing_kept : (d f : ℕ) → f < length s → IsForcing s pairs d f → IsForcing t others (to d) (to f)
  forcing_kept d f exists forces = record {
    above_zero = subst (λ (p : Pair). 0 < p.c) (equal f exists) forces.above_zero;
    event = elim forces.event [
      | inl one ↦ inl (one_before_kept s t to back h pairs others equal d f one)
      | inr sent ↦ inr (none_kept f exists sent.0, h.there.send d f sent.1)
    ];
  }

module _ (s t : Skeleton) (to back : ℕ → ℕ) (h : IsReordering s t to back) (pairs others : List Pair) (equal : HaveEqualPairs s to pairs others) where
  origin_kept : (e : ℕ) → e < length s → IsOrigin s pairs e → IsOrigin t others (to e)
  origin_kept e exists origin d forces =
      origin (back d) (subst (IsForcing s pairs (back d)) (h.back_here e exists)
      (forcing_kept t s back to (turned s t to back h) others pairs (equal_turned s t to back h pairs others equal) d (to e)
      (h.there.exists e exists) forces))

  along_kept : (e : ℕ) (rest : List ℕ) (f : ℕ) → ForcesAlong s pairs e rest f → ForcesAlong t others (to e) (map to rest) (to f)
  along_kept e [] f same = ap to same
  along_kept e (m ∷ rest) f (forces, along) = (
    forcing_kept s t to back h pairs others equal e m (direct_exists s e m (forcing_event_is_direct s pairs e m forces)) forces,
    along_kept m rest f along,
  )

  pub chain_kept : (f : ℕ) (chain : List ℕ) → IsChainOf s pairs f chain → IsChainOf t others (to f) (map to chain)
  chain_kept f [] is = absurd is
  chain_kept f (e ∷ rest) is = record {
    exists = h.there.exists e is.exists;
    origin = origin_kept e is.exists is.origin;
    forces = along_kept e rest f is.forces;
  }

  chain_moved : (f : ℕ) → f < length s → chain_of t others (to f) ≡ map to (chain_of s pairs f)
  chain_moved f exists =
      let chain = chain_of_exists s pairs f exists in
      sym (chain_is_followed t others (to f) (map to chain.0) (h.there.exists f exists) (chain_kept f chain.0 chain.1))
      ∙ ap (map to) (chain_is_followed s pairs f chain.0 exists chain.1)

pub reordering_keeps_chains : ReorderingKeepsChains
reordering_keeps_chains s t to back h pairs others equal f exists = chain_moved s t to back h pairs others equal f exists
