-- Where receives tick and no event has a rule of its own, what is named by floors and ticks is named by readings.
use Rattle.std.proofs.Common.{◌≡◌, ◌↔◌, ◌∙◌, ℕ, List, length, Option, Some, None, ◌∷◌, arith, ap, subst, sym}
use Rattle.hlc_causality.specs.Assignment.{pair_at}
use Rattle.hlc_stamp.specs.declared.id.EventId.{EventId}
use Rattle.hlc_stamp.specs.Order.{Pair}
use Rattle.hlc_causality.specs.declared.receives.Receives.TheVariants.{Tick}
use Rattle.hlc_causality.specs.Assignment.{IsForcedAt, IsLeast}
use Rattle.hlc_causality.specs.Causality.{Skeleton}
use Rattle.hlc_causality.specs.Chain.{IsChainOf}
use Rattle.hlc_causality.specs.ClockChain.{IsClockChainOf, ticks_among}
use Rattle.hlc_causality.specs.ClockEvents.{ClockEvents, ticking}
use Rattle.hlc_causality.specs.ClockExplanation.{IsClockExplainedBy, IsClockForcedAt}
use Rattle.hlc_causality.specs.Explanation.{IsExplainedBy}
use Rattle.hlc_causality.specs.Feasible.{IsLeastFeasible}
use Rattle.hlc_causality.specs.Forcing.{HasClockOrigin, HasOrigin, NamesClockForcing, NamesForcing}
use Rattle.hlc_causality.specs.ReceiveEvents.{ClockRules, clock_events, plain_rules}
use Rattle.hlc_causality.proofs.ReceiveEvents.{ticking_receives_tick}
use Rattle.hlc_causality.proofs.ClockEvents.{ticking_size}
use Rattle.hlc_causality.proofs.Ticking.{ticks_count, ticking_chain_is_chain, ticking_chain_of_is_chain_of, ticking_feasible_is_allowed, ticking_forcing_is_forcing, ticking_least_is_least}

module _ (rules : ClockRules) (s : Skeleton) (ticks : rules ≡ plain_rules Tick) where
  pub all_tick : clock_events rules s ≡ ticking s
  all_tick = ap (λ r. clock_events r s) ticks ∙ ticking_receives_tick s

  pub all_among_tick : (rest : List ℕ) → ticks_among (clock_events rules s) rest ≡ length rest
  all_among_tick rest = ap (λ (t : ClockEvents). ticks_among t rest) all_tick ∙ ticks_count s rest

  module _ (pairs : List Pair) where
    named_by_readings : (f : ℕ) (o : Option EventId) → NamesClockForcing (ticking s) pairs f o → NamesForcing s pairs f o
    named_by_readings f None none = λ d h. none d ((ticking_forcing_is_forcing s pairs d f).0 h)
    named_by_readings f (Some d) forcing = (ticking_forcing_is_forcing s pairs d.0 f).1 forcing

    pub names_by_readings : (f : ℕ) (o : Option EventId) → NamesClockForcing (clock_events rules s) pairs f o → NamesForcing s pairs f o
    names_by_readings f o names = named_by_readings f o (subst (λ (t : ClockEvents). NamesClockForcing t pairs f o) all_tick names)

    pub origin_by_readings : (e origin : ℕ) → HasClockOrigin (clock_events rules s) pairs e origin → HasOrigin s pairs e origin
    origin_by_readings e origin has =
        let chain = subst (λ (t : ClockEvents). HasClockOrigin t pairs e origin) all_tick has in
        (chain.0, (ticking_chain_of_is_chain_of s pairs e (origin ∷ chain.0)).1 chain.1)

    pub least_by_readings : IsLeast s pairs ↔ IsLeastFeasible (clock_events rules s) pairs
    least_by_readings = subst (λ (t : ClockEvents). IsLeast s pairs ↔ IsLeastFeasible t pairs) (sym all_tick) (ticking_least_is_least s pairs)

    pub chain_of_by_readings : (e : ℕ) (chain : List ℕ) → IsClockChainOf (clock_events rules s) pairs e chain → IsChainOf s pairs e chain
    chain_of_by_readings e chain h =
        (ticking_chain_of_is_chain_of s pairs e chain).1 (subst (λ (t : ClockEvents). IsClockChainOf t pairs e chain) all_tick h)

    pub forced_by_readings : (e : ℕ) → IsClockForcedAt (clock_events rules s) pairs e → IsForcedAt s pairs e
    forced_by_readings e h others allowed =
        subst (λ (t : ClockEvents). IsClockForcedAt t pairs e) all_tick h others ((ticking_feasible_is_allowed s others).0 allowed)

    ticking_explained : (e : ℕ) (list : List ℕ) → IsExplainedBy s pairs e list ↔ IsClockExplainedBy (ticking s) pairs e list
    ticking_explained e list =
        let size = ticking_size s in
        let same = ticking_chain_is_chain s (pair_at pairs e) e list in (
          λ h. record { exists = omega (arith, h.exists, size); chain = same.0 h.chain },
          λ h. record { exists = omega (arith, h.exists, size); chain = same.1 h.chain },
        )

    pub explained_by_readings : (e : ℕ) (list : List ℕ) → IsExplainedBy s pairs e list ↔ IsClockExplainedBy (clock_events rules s) pairs e list
    explained_by_readings e list =
        subst (λ (t : ClockEvents). IsExplainedBy s pairs e list ↔ IsClockExplainedBy t pairs e list) (sym all_tick) (ticking_explained e list)
