-- Marks that lead to origins.
use Rattle.std.proofs.Common.{◌≡◌, ℕ, ◌<◌, ◌≤◌, inl, inr, List, [], ◌∷◌, length, slice_set, arith, ap, sym, ◌∙◌}
use Rattle.std.proofs.lemmas.Bool.{cases_eq}
use Rattle.std.proofs.lemmas.Grind.{get_or-set_at}
use Rattle.std.proofs.lemmas.List.{get_or-set_other}
use Rattle.hlc_stamp.specs.declared.id.EventId.{EventId}
use Rattle.hlc_stamp.specs.Order.{Pair}
use Rattle.hlc_causality.specs.Causality.{Skeleton}
use Rattle.hlc_causality.specs.Chain.{ForcesAlong}
use Rattle.hlc_causality.proofs.Forcing.{forcing_event_is_earlier}
use Rattle.hlc_explain.specs.KnownOrigins.{AreKnownOrigins, known_at}
use Rattle.hlc_explain.specs.Summaries.{origin_of}
use Rattle.hlc_explain.proofs.Origins.{origins_begin_chains, own_origin}

forces_later : (s : Skeleton) (pairs : List Pair) (e : ℕ) (rest : List ℕ) (f : ℕ) → ForcesAlong s pairs e rest f → e ≤ f
forces_later s pairs e [] f h = let same : e ≡ f = h in omega arith
forces_later s pairs e (m ∷ rest) f h =
    let step = forcing_event_is_earlier s pairs e m h.0 in
    let on = forces_later s pairs m rest f h.1 in
    omega arith

-- an origin comes no later than its event
pub origin_no_later : (s : Skeleton) (pairs : List Pair) (e : ℕ) → e < length s → origin_of s pairs e ≤ e
origin_no_later s pairs e exists =
    let has = origins_begin_chains s pairs e exists in
    forces_later s pairs (origin_of s pairs e) has.0 e has.1.forces

-- and is its own origin
pub origin_of_origin : (s : Skeleton) (pairs : List Pair) (e : ℕ) → e < length s
    → origin_of s pairs (origin_of s pairs e) ≡ origin_of s pairs e
origin_of_origin s pairs e exists =
    let has = origins_begin_chains s pairs e exists in
    let before = origin_no_later s pairs e exists in
    sym (own_origin s pairs (origin_of s pairs e) (omega arith) has.1.origin)

module _ (s : Skeleton) (pairs : List Pair) (origins : List EventId) (known : AreKnownOrigins s pairs origins) where
  -- a mark has the origin of its event
  pub known_origin : (e : ℕ) → e < length s → origin_of s pairs (known_at origins e) ≡ origin_of s pairs e
  known_origin e exists = elim (known e) [
    | inl own ↦ ap (origin_of s pairs) own
    | inr origin ↦ ap (origin_of s pairs) origin ∙ origin_of_origin s pairs e exists
  ]

  -- and comes no later
  pub known_no_later : (e : ℕ) → e < length s → known_at origins e ≤ e
  known_no_later e exists = elim (known e) [
    | inl own ↦ omega arith
    | inr origin ↦ let before = origin_no_later s pairs e exists in omega arith
  ]

  -- an origin is written at its event
  pub marked : (e : ℕ) (origin : EventId) → e < length origins → origin.0 ≡ origin_of s pairs e
      → AreKnownOrigins s pairs (slice_set origins e origin)
  marked e origin within is = λ d. elim (cases_eq d e) [
    | inl same ↦
        let written = ap (λ (id : EventId). id.0) (get_or-set_at origins e d origin (record { 0 = d }) same within) in
        inr (written ∙ is ∙ ap (origin_of s pairs) (sym same))
    | inr other ↦
        let stays = ap (λ (id : EventId). id.0) (get_or-set_other origins e d origin (record { 0 = d }) other) in
        elim (known d) [
          | inl own ↦ inl (stays ∙ own)
          | inr origin ↦ inr (stays ∙ origin)
        ]
  ]
