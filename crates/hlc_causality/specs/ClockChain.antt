-- Chains by floors and ticks: they force a pair, and show why one is no lower.
use Rattle.std.specs.Prelude.{◌≡◌, ◌≢◌, ℕ, ◌+◌, ◌<◌, ◌⊎◌, IsTrue, List, [], ◌∷◌, length}
use Rattle.std.specs.List.{count_by}
use Rattle.hlc_stamp.specs.Order.{Pair}
use Rattle.hlc_causality.specs.Assignment.{pair_at}
use Rattle.hlc_causality.specs.Causality.{IsPrevious, IsSendOf}
use Rattle.hlc_causality.specs.ClockEvents.{ClockEvents, clock_event_at, clock_skeleton}
use Rattle.hlc_causality.specs.LeastFeasible.{next_pair}
use Rattle.hlc_causality.specs.Past.{LeadsTo}

-- how many of these events tick
abbrev pub ticks_among : ClockEvents → List ℕ → ℕ
ticks_among t list = count_by (λ e. (clock_event_at t e).ticks) list

-- l of the floor of e is p.l, its c with the number of events that tick in rest is p.c, and rest leads from e to f by direct predecessors
pub record IsClockChainFrom (t : ClockEvents) (p : Pair) (e : ℕ) (rest : List ℕ) (f : ℕ) : Type 0 where
  pub exists : e < length t
  pub floor : (clock_event_at t e).floor.l ≡ p.l
  pub counts : (clock_event_at t e).floor.c + ticks_among t rest ≡ p.c
  pub linked : LeadsTo (clock_skeleton t) e rest f

-- a chain for p may begin with the event at e and have so many ticks after it
pub record BeginsClockChain (t : ClockEvents) (e ticks : ℕ) (p : Pair) : Type 0 where
  pub exists : e < length t
  pub floor : (clock_event_at t e).floor.l ≡ p.l
  pub counts : (clock_event_at t e).floor.c + ticks ≡ p.c

-- a chain for p at f: it counts up to p, from the floor of its first event by those after it that tick; each is a direct predecessor of
-- the next, and the last is f
abbrev pub IsClockChain : ClockEvents → Pair → ℕ → List ℕ → Type 0
IsClockChain t p f [] = ⊥
IsClockChain t p f (e ∷ rest) = IsClockChainFrom t p e rest f

-- the pair of f is the least that may come directly after that of d
abbrev pub IsNext : ClockEvents → List Pair → ℕ → ℕ → Type 0
IsNext t pairs d f = next_pair (clock_event_at t f).ticks (pair_at pairs d) ≡ pair_at pairs f

-- d is the previous event of f's node, and the pair of f is next to its
pub record IsPreviousNext (t : ClockEvents) (pairs : List Pair) (d f : ℕ) : Type 0 where
  pub previous : IsPrevious (clock_skeleton t) d f
  pub next : IsNext t pairs d f

-- f has no previous event to whose pair its own is next
abbrev pub NoPreviousNext : ClockEvents → List Pair → ℕ → Type 0
NoPreviousNext t pairs f = (d : ℕ) → ¬ IsPreviousNext t pairs d f

-- d is the forcing event of f: the pair of f isn't its floor nor, if f ticks, its c 0; and d is the previous event if the pair of f is
-- next to its, else the send
pub record IsClockForcing (t : ClockEvents) (pairs : List Pair) (d f : ℕ) : Type 0 where
  pub off_floor : pair_at pairs f ≢ (clock_event_at t f).floor
  pub above_zero : IsTrue (clock_event_at t f).ticks → 0 < (pair_at pairs f).c
  pub event : IsPreviousNext t pairs d f ⊎ (NoPreviousNext t pairs f × IsSendOf (clock_skeleton t) d f)

-- e has no forcing event
abbrev pub IsClockOrigin : ClockEvents → List Pair → ℕ → Type 0
IsClockOrigin t pairs e = (d : ℕ) → ¬ IsClockForcing t pairs d e

-- from e on, each event is the forcing event of the next, up to f
abbrev pub ClockForcesAlong : ClockEvents → List Pair → ℕ → List ℕ → ℕ → Type 0
ClockForcesAlong t pairs e [] f = e ≡ f
ClockForcesAlong t pairs e (m ∷ rest) f = IsClockForcing t pairs e m × ClockForcesAlong t pairs m rest f

-- e is the origin of f: it has no forcing event, and by rest each event is the forcing event of the next, up to f
pub record IsClockOriginOf (t : ClockEvents) (pairs : List Pair) (e : ℕ) (rest : List ℕ) (f : ℕ) : Type 0 where
  pub exists : e < length t
  pub origin : IsClockOrigin t pairs e
  pub forces : ClockForcesAlong t pairs e rest f

-- the chain of f: f with its forcing events, followed back to its origin, which comes first
abbrev pub IsClockChainOf : ClockEvents → List Pair → ℕ → List ℕ → Type 0
IsClockChainOf t pairs f [] = ⊥
IsClockChainOf t pairs f (e ∷ rest) = IsClockOriginOf t pairs e rest f
