-- Chains by floors and ticks: they force their pairs, and each event has its own.
use Rattle.std.proofs.Common.{◌≡◌, ℕ, zero, suc, ◌+◌, ◌<◌, ◌⊎◌, inl, inr, Bool, true, false, cond, List, [], ◌∷◌, ◌++◌, length, add-zero, arith, refl, subst, sym, ap, ◌∙◌}
use Rattle.std.proofs.lemmas.List.Sums.{sum_by-cons}
use Rattle.hlc_stamp.specs.Order.{IsAtMost, Pair}
use Rattle.hlc_causality.specs.Assignment.{pair_at}
use Rattle.hlc_causality.specs.ClockChain.{ClockForcesAlong, IsClockChainOf, IsClockForcing, IsClockOrigin, ticks_among}
use Rattle.hlc_causality.specs.ClockEvents.{ClockEvents, clock_event_at, clock_skeleton}
use Rattle.hlc_causality.specs.Feasible.{Follows, IsFeasible, IsLeastFeasible}
use Rattle.hlc_causality.specs.FloorLaws.{ClockChainOfExists, ClockChainOfIsChain, ClockChainOfIsUnique, ClockChainsForce}
use Rattle.hlc_causality.specs.LeastFeasible.{next_pair}
use Rattle.hlc_causality.specs.Past.{LeadsTo}
use Rattle.hlc_causality.proofs.ClockEvents.{clock_event_exists}
use Rattle.hlc_causality.proofs.ClockForcing.{clock_forcing_is_direct, clock_forcing_is_earlier, clock_forcing_is_next, clock_forcing_is_unique, clock_forcing_or_origin, origin_has_its_floor}
use Rattle.hlc_causality.proofs.LeastFeasible.{each_from_least_feasible}

pub ticks_among_more : (t : ClockEvents) (m : ℕ) (rest : List ℕ)
    → ticks_among t (m ∷ rest) ≡ cond (clock_event_at t m).ticks 1 0 + ticks_among t rest
ticks_among_more t m rest = sum_by-cons (λ e. cond (clock_event_at t e).ticks 1 0) m rest

-- q is at least (l, c)
abbrev Reaches : ℕ → ℕ → Pair → Type 0
Reaches l c q = IsAtMost (record { l = l; c = c }) q

reaches_next : (l c : ℕ) (ticks : Bool) (q r : Pair) → Reaches l c q → Follows ticks q r → Reaches l (c + cond ticks 1 0) r
reaches_next l c true q r a b = grind arith
reaches_next l c false q r a b = grind arith

walk_reaches :
    (t : ClockEvents) (pairs : List Pair) → IsFeasible t pairs → (l c e : ℕ) (rest : List ℕ) (f : ℕ) → Reaches l c (pair_at pairs e) →
    LeadsTo (clock_skeleton t) e rest f → Reaches l (c + ticks_among t rest) (pair_at pairs f)
walk_reaches t pairs feasible l c e [] f r h = subst (λ g. Reaches l (c + 0) (pair_at pairs g)) h (rw add-zero r)
walk_reaches t pairs feasible l c e (m ∷ rest) f r h =
    let ticks = (clock_event_at t m).ticks in
    let step = (feasible.each m (clock_event_exists t e m h.0)).follows e h.0 in
    let here = reaches_next l c ticks (pair_at pairs e) (pair_at pairs m) r step in
    let there = walk_reaches t pairs feasible l (c + cond ticks 1 0) m rest f here h.1 in
    let same : c + ticks_among t (m ∷ rest) ≡ c + cond ticks 1 0 + ticks_among t rest = omega (arith, ticks_among_more t m rest) in
    subst (λ n. Reaches l n (pair_at pairs f)) (sym same) there

pub clock_chains_force : ClockChainsForce
clock_chains_force t p f [] h pairs feasible = absurd h
clock_chains_force t p f (e ∷ rest) h pairs feasible =
    let floor = (clock_event_at t e).floor in
    let start : Reaches p.l floor.c (pair_at pairs e) =
    subst (λ n. Reaches n floor.c (pair_at pairs e)) h.floor (feasible.each e h.exists).not_below in
    subst (λ n. Reaches p.l n (pair_at pairs f)) h.counts (walk_reaches t pairs feasible p.l floor.c e rest f start h.linked)

forces_on : (t : ClockEvents) (pairs : List Pair) (e : ℕ) (rest : List ℕ) (d f : ℕ)
    → ClockForcesAlong t pairs e rest d → IsClockForcing t pairs d f → ClockForcesAlong t pairs e (rest ++ f ∷ []) f
forces_on t pairs e [] d f h forcing = (subst (λ x. IsClockForcing t pairs x f) (sym h) forcing, refl)
forces_on t pairs e (m ∷ rest) d f h forcing = (h.0, forces_on t pairs m rest d f h.1 forcing)

-- the chain of an event is that of its forcing event, and then the event
pub clock_chain_of_push : (t : ClockEvents) (pairs : List Pair) (d f : ℕ) (chain : List ℕ)
    → IsClockChainOf t pairs d chain → IsClockForcing t pairs d f → IsClockChainOf t pairs f (chain ++ f ∷ [])
clock_chain_of_push t pairs d f [] h forcing = absurd h
clock_chain_of_push t pairs d f (e ∷ rest) h forcing = record {
  exists = h.exists;
  origin = h.origin;
  forces = forces_on t pairs e rest d f h.forces forcing;
}

exists_below : (t : ClockEvents) (pairs : List Pair) (n f : ℕ) → f < n → f < length t → (chain : List ℕ) × IsClockChainOf t pairs f chain
exists_below t pairs zero f lt exists = absurd (omega (arith, lt))
exists_below t pairs (suc n) f lt exists =
    elim (clock_forcing_or_origin t pairs f exists) [
      | inr origin ↦ (f ∷ [], record { exists = exists; origin = origin; forces = refl })
      | inl forcing ↦
          let earlier = clock_forcing_is_earlier t pairs forcing.0 f forcing.1 in
          let before = exists_below t pairs n forcing.0 (omega arith) (omega arith) in
          (before.0 ++ f ∷ [], clock_chain_of_push t pairs forcing.0 f before.0 before.1 forcing.1)
    ]

pub clock_chain_of_exists : ClockChainOfExists
clock_chain_of_exists t pairs f exists = exists_below t pairs (suc f) f (omega arith) exists

-- the last step of a chain: from the forcing event of f
record IsLastStep (t : ClockEvents) (pairs : List Pair) (e : ℕ) (rest : List ℕ) (f d : ℕ) (before : List ℕ) : Type 0 where
  forces : ClockForcesAlong t pairs e before d
  last : IsClockForcing t pairs d f
  is : rest ≡ before ++ f ∷ []

last_step : (t : ClockEvents) (pairs : List Pair) (e m : ℕ) (rest : List ℕ) (f : ℕ)
    → IsClockForcing t pairs e m → ClockForcesAlong t pairs m rest f
    → (d : ℕ) × (before : List ℕ) × IsLastStep t pairs e (m ∷ rest) f d before
last_step t pairs e m [] f first h =
    (e, [], record { forces = refl; last = subst (λ x. IsClockForcing t pairs e x) h first; is = ap (λ x. x ∷ []) h })
last_step t pairs e m (n ∷ rest) f first h =
    let more = last_step t pairs m n rest f h.0 h.1 in
    (more.0, m ∷ more.1, record { forces = (first, more.2.forces); last = more.2.last; is = ap (λ (xs : List ℕ). m ∷ xs) more.2.is })

-- the chain of an event is the event alone, an origin, or the chain of its forcing event, and then the event
chain_of_last :
    (t : ClockEvents) (pairs : List Pair) (f : ℕ) (chain : List ℕ) → IsClockChainOf t pairs f chain →
    (IsClockOrigin t pairs f × (chain ≡ f ∷ []))
    ⊎ ((d : ℕ) × (before : List ℕ) × IsClockForcing t pairs d f × IsClockChainOf t pairs d before × (chain ≡ before ++ f ∷ []))
chain_of_last t pairs f [] h = absurd h
chain_of_last t pairs f (e ∷ []) h = inl (subst (λ x. IsClockOrigin t pairs x) h.forces h.origin, ap (λ x. x ∷ []) h.forces)
chain_of_last t pairs f (e ∷ (m ∷ rest)) h =
    let step = last_step t pairs e m rest f h.forces.0 h.forces.1 in
    let before : IsClockChainOf t pairs step.0 (e ∷ step.1) = record { exists = h.exists; origin = h.origin; forces = step.2.forces } in
    inr (step.0, e ∷ step.1, step.2.last, before, ap (λ (xs : List ℕ). e ∷ xs) step.2.is)

unique_below :
    (t : ClockEvents) (pairs : List Pair) (n f : ℕ) (chain other : List ℕ)
    → f < n → IsClockChainOf t pairs f chain → IsClockChainOf t pairs f other → chain ≡ other
unique_below t pairs zero f chain other lt a b = absurd (omega (arith, lt))
unique_below t pairs (suc n) f chain other lt a b =
    elim (chain_of_last t pairs f chain a) [
      | inl alone ↦
          elim (chain_of_last t pairs f other b) [
            | inl same ↦ alone.1 ∙ sym same.1
            | inr forced ↦ absurd (alone.0 forced.0 forced.2)
          ]
      | inr forced ↦
          elim (chain_of_last t pairs f other b) [
            | inl alone ↦ absurd (alone.0 forced.0 forced.2)
            | inr also ↦
                let same : also.0 ≡ forced.0 = clock_forcing_is_unique t pairs also.0 forced.0 f also.2 forced.2 in
                let moved : IsClockChainOf t pairs forced.0 also.1 = subst (λ x. IsClockChainOf t pairs x also.1) same also.3 in
                let earlier = clock_forcing_is_earlier t pairs forced.0 f forced.2 in
                let before = unique_below t pairs n forced.0 forced.1 also.1 (omega arith) forced.3 moved in
                forced.4 ∙ ap (λ (xs : List ℕ). xs ++ f ∷ []) before ∙ sym also.4
          ]
    ]

pub clock_chain_of_is_unique : ClockChainOfIsUnique
clock_chain_of_is_unique t pairs f chain other a b = unique_below t pairs (suc f) f chain other (omega arith) a b

-- the chain of an event with a forcing event is that one's chain, and then the event
pub clock_chain_of_is_pushed : (t : ClockEvents) (pairs : List Pair) (d f : ℕ) (chain : List ℕ)
    → IsClockChainOf t pairs f chain → IsClockForcing t pairs d f
    → (before : List ℕ) × IsClockChainOf t pairs d before × (chain ≡ before ++ f ∷ [])
clock_chain_of_is_pushed t pairs d f chain h forcing =
    let exists = clock_event_exists t d f (clock_forcing_is_direct t pairs d f forcing) in
    let earlier = clock_forcing_is_earlier t pairs d f forcing in
    let before = clock_chain_of_exists t pairs d (omega arith) in
    (before.0, before.1, clock_chain_of_is_unique t pairs f chain (before.0 ++ f ∷ []) h (clock_chain_of_push t pairs d f before.0 before.1 forcing))

forces_lead : (t : ClockEvents) (pairs : List Pair) (e : ℕ) (rest : List ℕ) (f : ℕ)
    → ClockForcesAlong t pairs e rest f → LeadsTo (clock_skeleton t) e rest f
forces_lead t pairs e [] f h = h
forces_lead t pairs e (m ∷ rest) f h = (clock_forcing_is_direct t pairs e m h.0, forces_lead t pairs m rest f h.1)

next_counts : (ticks : Bool) (p q : Pair) → next_pair ticks p ≡ q → (p.l ≡ q.l) × (p.c + cond ticks 1 0 ≡ q.c)
next_counts true p q next = (ap (λ (x : Pair). x.l) next, ap (λ (x : Pair). x.c) next)
next_counts false p q next = (ap (λ (x : Pair). x.l) next, add-zero p.c ∙ ap (λ (x : Pair). x.c) next)

-- with least pairs l stays along forcing events, and c counts up at each that ticks
forces_count :
    (t : ClockEvents) (pairs : List Pair) (e : ℕ) (rest : List ℕ) (f : ℕ) → IsLeastFeasible t pairs → ClockForcesAlong t pairs e rest f →
    ((pair_at pairs e).l ≡ (pair_at pairs f).l) × ((pair_at pairs e).c + ticks_among t rest ≡ (pair_at pairs f).c)
forces_count t pairs e [] f least h = (ap (λ x. (pair_at pairs x).l) h, add-zero (pair_at pairs e).c ∙ ap (λ x. (pair_at pairs x).c) h)
forces_count t pairs e (m ∷ rest) f least h =
    let ticks = (clock_event_at t m).ticks in
    let step = next_counts ticks (pair_at pairs e) (pair_at pairs m) (clock_forcing_is_next t pairs e m least h.0) in
    let more = forces_count t pairs m rest f least h.1 in
    (step.0 ∙ more.0, omega (arith, step.1, more.1, ticks_among_more t m rest))

pub clock_chain_of_is_chain : ClockChainOfIsChain
clock_chain_of_is_chain t pairs f [] least h = absurd h
clock_chain_of_is_chain t pairs f (e ∷ rest) least h =
    let origin = origin_has_its_floor t pairs e h.exists (each_from_least_feasible t pairs least e h.exists) h.origin in
    let counts = forces_count t pairs e rest f least h.forces in
    record {
      exists = h.exists;
      floor = ap (λ (x : Pair). x.l) (sym origin) ∙ counts.0;
      counts = ap (λ (x : Pair). x.c + ticks_among t rest) (sym origin) ∙ counts.1;
      linked = forces_lead t pairs e rest f h.forces;
    }
