-- Worked examples of chains.
use Rattle.std.proofs.Common.{◌≡◌, ℕ, ◌<◌, inl, inr, lit<, List, [], ◌∷◌, length, Some, None, refl, subst, arith}
use Rattle.hlc_stamp.specs.Order.{Pair}
use Rattle.hlc_causality.specs.Assignment.{pair_at}
use Rattle.hlc_causality.specs.Causality.{HappenedBefore, IsDirectPredecessor, IsPrevious, IsSendOf, Skeleton}
use Rattle.hlc_causality.specs.Chain.{IsChain, IsChainOf, IsForcing, IsOneBefore, IsOrigin, NoPreviousOneBefore}
use Rattle.hlc_causality.proofs.Forcing.{forcing_event_is_unique, previous_forces, send_forces, zero_is_origin}
use Rattle.hlc_causality.proofs.Predecessors.{previous_is_unique}

-- node 0 writes and sends at 10; node 1 writes at 10, and then delivers at 10
abbrev relay : Skeleton
relay =
    record { node = 0; reading = 10; send = None } ∷ record { node = 0; reading = 10; send = None } ∷ record { node = 1; reading = 10; send = None }
    ∷ record { node = 1; reading = 10; send = Some 1 } ∷ []

relay_own : IsDirectPredecessor relay 0 1
relay_own = inl (record {
  at_node = record { earlier = lit< tt; exists = lit< tt; same_node = refl };
  latest = λ m h. let lt : m < 1 = h.earlier in omega arith;
})

relay_sent : IsDirectPredecessor relay 1 3
relay_sent = inr (record { earlier = lit< tt; exists = lit< tt; delivers = refl })

relay_chain : IsChain relay (record { l = 10; c = 2 }) 3 (0 ∷ 1 ∷ 3 ∷ [])
relay_chain = record { exists = lit< tt; reads = refl; counts = refl; linked = (relay_own, (relay_sent, refl)) }

-- a list of the wrong length is no chain, nor is one that isn't linked
relay_short : ¬ IsChain relay (record { l = 10; c = 2 }) 3 (2 ∷ 3 ∷ [])
relay_short h = let no : length {A = ℕ} (3 ∷ []) ≡ 2 = h.counts in absurd (omega arith)

relay_not_back : ¬ IsDirectPredecessor relay 2 1
relay_not_back (inl h) = let lt : 2 < 1 = h.at_node.earlier in absurd (omega arith)
relay_not_back (inr h) = let lt : 2 < 1 = h.earlier in absurd (omega arith)

relay_unlinked : ¬ IsChain relay (record { l = 10; c = 2 }) 3 (2 ∷ 1 ∷ 3 ∷ [])
relay_unlinked h = relay_not_back h.linked.0

relay_before : HappenedBefore relay 0 3
relay_before =
    (1 ∷ [], (inl (record { earlier = lit< tt; exists = lit< tt; same_node = refl }), inr (record { earlier = lit< tt; exists = lit< tt; delivers = refl })))

-- node 0 sends at 10; node 1 writes at 10, and then delivers at 10: both direct predecessors have the pair one before
abbrev tie : Skeleton
tie =
    record { node = 0; reading = 10; send = None } ∷ record { node = 1; reading = 10; send = None } ∷ record { node = 1; reading = 10; send = Some 0 } ∷ []

abbrev tie_pairs : List Pair
tie_pairs = record { l = 10; c = 0 } ∷ record { l = 10; c = 0 } ∷ record { l = 10; c = 1 } ∷ []

tie_own : IsPrevious tie 1 2
tie_own = record {
  at_node = record { earlier = lit< tt; exists = lit< tt; same_node = refl };
  latest = λ m h. let lt : m < 2 = h.earlier in omega arith;
}

tie_sent : IsSendOf tie 0 2
tie_sent = record { earlier = lit< tt; exists = lit< tt; delivers = refl }

-- either way there is a chain
tie_own_chain : IsChain tie (record { l = 10; c = 1 }) 2 (1 ∷ 2 ∷ [])
tie_own_chain = record { exists = lit< tt; reads = refl; counts = refl; linked = (inl tie_own, refl) }

tie_sent_chain : IsChain tie (record { l = 10; c = 1 }) 2 (0 ∷ 2 ∷ [])
tie_sent_chain = record { exists = lit< tt; reads = refl; counts = refl; linked = (inr tie_sent, refl) }

-- and the forcing event is the node's own
tie_forcing : IsForcing tie tie_pairs 1 2
tie_forcing = previous_forces tie tie_pairs 1 2 (record { previous = tie_own; one_before = (refl, refl) })

tie_not_sent : ¬ IsForcing tie tie_pairs 0 2
tie_not_sent h = let same : ◌≡◌ {A = ℕ} 0 1 = forcing_event_is_unique tie tie_pairs 0 1 2 h tie_forcing in absurd (omega arith)

tie_origin : IsOrigin tie tie_pairs 1
tie_origin = zero_is_origin tie tie_pairs 1 refl

tie_chain : IsChainOf tie tie_pairs 2 (1 ∷ 2 ∷ [])
tie_chain = record { exists = lit< tt; origin = tie_origin; forces = (tie_forcing, refl) }

-- with pairs that aren't least the send is the forcing event, whatever pair it has
abbrev high_pairs : List Pair
high_pairs = record { l = 10; c = 0 } ∷ record { l = 10; c = 0 } ∷ record { l = 12; c = 5 } ∷ []

high_own : NoPreviousOneBefore tie high_pairs 2
high_own m h =
    let own : m ≡ 1 = previous_is_unique tie m 1 2 h.previous tie_own in
    let step : IsOneBefore (pair_at high_pairs 1) (pair_at high_pairs 2) =
    subst (λ x. IsOneBefore (pair_at high_pairs x) (pair_at high_pairs 2)) own h.one_before in
    absurd (omega (arith, step.0))

high_forcing : IsForcing tie high_pairs 0 2
high_forcing = send_forces tie high_pairs 0 2 (lit< tt) high_own tie_sent

high_chain : IsChainOf tie high_pairs 2 (0 ∷ 2 ∷ [])
high_chain = record { exists = lit< tt; origin = zero_is_origin tie high_pairs 0 refl; forces = (high_forcing, refl) }
