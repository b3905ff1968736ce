-- Chains by floors and ticks, by functions: the chain of an event, and whether a list is a chain.
use Rattle.std.specs.Prelude.{Bool, false, ℕ, zero, suc, ◌+◌, ◌==◌, ◌&&◌, ◌||◌, List, [], ◌∷◌, ◌++◌, length, Option, Some, None, if◌then◌else◌, nat_lt, option_map, unwrap_or}
use Rattle.hlc_stamp.specs.Order.{Pair}
use Rattle.hlc_causality.specs.Assignment.{pair_at}
use Rattle.hlc_causality.specs.ClockChain.{ticks_among}
use Rattle.hlc_causality.specs.ClockEvents.{ClockEvent, ClockEvents, clock_event_at, clock_skeleton}
use Rattle.hlc_causality.specs.FollowedChains.{leads_to}
use Rattle.hlc_causality.specs.LeastFeasible.{next_pair}
use Rattle.hlc_causality.specs.Predecessors.{previous_of, send_of}

-- whether two pairs are the same
abbrev pub is_same_pair : Pair → Pair → Bool
is_same_pair p q = (p.l == q.l) && (p.c == q.c)

-- whether an event has its pair by itself: it is its floor, or the event ticks and c is 0
abbrev pub is_by_itself : ClockEvent → Pair → Bool
is_by_itself x p = is_same_pair p x.floor || (x.ticks && (p.c == 0))

-- the previous event, if the pair of f is next to its, else the send
abbrev pub next_or_send : ClockEvents → List Pair → ℕ → Option ℕ → Option ℕ → Option ℕ
next_or_send t pairs f None send = send
next_or_send t pairs f (Some d) send =
    if is_same_pair (next_pair (clock_event_at t f).ticks (pair_at pairs d)) (pair_at pairs f) then Some d else send

-- which of these two forces f: none, if f has its pair by itself
abbrev pub clock_forcing_among : ClockEvents → List Pair → ℕ → Option ℕ → Option ℕ → Option ℕ
clock_forcing_among t pairs f previous send =
    if is_by_itself (clock_event_at t f) (pair_at pairs f) then None else next_or_send t pairs f previous send

-- the forcing event of f, if it has one
abbrev pub clock_forcing_of : ClockEvents → List Pair → ℕ → Option ℕ
clock_forcing_of t pairs f = clock_forcing_among t pairs f (previous_of (clock_skeleton t) f) (send_of (clock_skeleton t) f)

-- f, and before it its forcing events, of which at most n are followed back
abbrev pub clock_followed_back : ClockEvents → List Pair → ℕ → ℕ → List ℕ
clock_followed_back t pairs zero f = f ∷ []
clock_followed_back t pairs (suc n) f =
    unwrap_or (option_map (λ d. clock_followed_back t pairs n d) (clock_forcing_of t pairs f)) [] ++ f ∷ []

-- the chain of the event at f, which has at most f events before it
abbrev pub clock_chain_of : ClockEvents → List Pair → ℕ → List ℕ
clock_chain_of t pairs f = clock_followed_back t pairs f f

-- whether a list is a chain for p at f
abbrev pub is_clock_chain : ClockEvents → Pair → ℕ → List ℕ → Bool
is_clock_chain t p f [] = false
is_clock_chain t p f (e ∷ rest) =
    nat_lt e (length t) && (((clock_event_at t e).floor.l == p.l) && ((((clock_event_at t e).floor.c + ticks_among t rest) == p.c)
    && leads_to (clock_skeleton t) e rest f))

-- whether the event at e exists, and a list is a chain for its pair
abbrev pub is_clock_explained_by : ClockEvents → List Pair → ℕ → List ℕ → Bool
is_clock_explained_by t pairs e list = nat_lt e (length t) && is_clock_chain t (pair_at pairs e) e list
