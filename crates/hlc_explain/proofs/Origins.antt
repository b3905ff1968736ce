-- The origin of an event.
use Rattle.std.proofs.Common.{◌≡◌, ℕ, ◌<◌, List, [], ◌∷◌, ◌++◌, length, get_or, map, arith, refl, subst, ap, ◌∙◌}
use Rattle.std.proofs.lemmas.List.{get_or-map, length-map}
use Rattle.hlc_stamp.specs.Order.{Pair}
use Rattle.hlc_causality.specs.Causality.{Skeleton}
use Rattle.hlc_causality.specs.Chain.{IsChainOf, IsForcing, IsOrigin}
use Rattle.hlc_causality.specs.Places.{places_below}
use Rattle.hlc_causality.proofs.FollowedChains.{chain_is_followed}
use Rattle.hlc_causality.proofs.ForcedChains.{chain_of_exists, chain_of_push}
use Rattle.hlc_causality.proofs.PlacesBelow.{length-places_below, place_at}
use Rattle.hlc_causality.specs.Forcing.{HasOrigin}
use Rattle.hlc_explain.specs.Summaries.{OriginsBeginChains, origin_of}

-- what begins the chain of an event is its origin
pub origin_is : (s : Skeleton) (pairs : List Pair) (e origin : ℕ) → e < length s → HasOrigin s pairs e origin → origin ≡ origin_of s pairs e
origin_is s pairs e origin exists has =
    ap (λ (chain : List ℕ). get_or chain 0 e) (chain_is_followed s pairs e (origin ∷ has.0) exists has.1)

origin_from :
    (s : Skeleton) (pairs : List Pair) (e : ℕ) (chain : List ℕ) → e < length s → IsChainOf s pairs e chain →
    HasOrigin s pairs e (origin_of s pairs e)
origin_from s pairs e [] exists h = absurd h
origin_from s pairs e (origin ∷ rest) exists h = subst (HasOrigin s pairs e) (origin_is s pairs e origin exists (rest, h)) (rest, h)

pub origins_begin_chains : OriginsBeginChains
origins_begin_chains s pairs e exists =
    let chain = chain_of_exists s pairs e exists in
    origin_from s pairs e chain.0 exists chain.1

-- the origin of an event is that of its forcing event
pub forced_origin :
    (s : Skeleton) (pairs : List Pair) (d f : ℕ) → d < length s → f < length s → IsForcing s pairs d f →
    origin_of s pairs d ≡ origin_of s pairs f
forced_origin s pairs d f d_exists f_exists forces =
    let has = origins_begin_chains s pairs d d_exists in
    origin_is s pairs f (origin_of s pairs d) f_exists (has.0 ++ f ∷ [], chain_of_push s pairs d f (origin_of s pairs d ∷ has.0) has.1 forces)

-- an event with no forcing event is its own origin
pub own_origin : (s : Skeleton) (pairs : List Pair) (e : ℕ) → e < length s → IsOrigin s pairs e → e ≡ origin_of s pairs e
own_origin s pairs e exists origin =
    origin_is s pairs e e exists ([], record { exists = exists; origin = origin; forces = refl })

module _ {A : Type 0} (f : ℕ → A) where
  pub length_by_place : (n : ℕ) → length (map f (places_below n)) ≡ n
  length_by_place n = length-map (places_below n) f ∙ length-places_below n

  -- what stands at a place of a list that is made place by place
  pub at_place : (n e : ℕ) (other : A) → e < n → get_or (map f (places_below n)) e other ≡ f e
  at_place n e other lt = get_or-map f (places_below n) e 0 other (let size = length-places_below n in omega arith) ∙ ap f (place_at n e lt)
