-- Answers that name the neighbours of an event.
use Rattle.std.specs.Prelude.{◌≡◌, ◌≢◌, ◌==◌, ℕ, ◌<◌, ◌≤◌, Bool, false, Option, Some, None, List, filter, length}
use Rattle.std.specs.Option.{option_map}
use Rattle.hlc_stamp.specs.declared.id.EventId.{EventId}
use Rattle.hlc_stamp.specs.Order.{Pair, zero_pair}
use Rattle.hlc_causality.specs.Assignment.{pair_at}
use Rattle.hlc_causality.specs.Causality.{IsEarlierAtNode, IsPrevious, IsSendOf, Skeleton, skeleton_at}
use Rattle.hlc_causality.specs.Places.{places_below}

-- the place that an answer names
abbrev pub place_of : Option EventId → Option ℕ
place_of answer = option_map (λ id. id.0) answer

-- d is the last event of a node
pub record IsLastAt (s : Skeleton) (node d : ℕ) : Type 0 where
  pub exists : d < length s
  pub at_node : (skeleton_at s d).node ≡ node
  pub latest : (m : ℕ) → m < length s → (skeleton_at s m).node ≡ node → m ≤ d

-- the answer is the last event of a node, or None if the node has no event
abbrev pub NamesLast : Skeleton → ℕ → Option EventId → Type 0
NamesLast s node None = (d : ℕ) → d < length s → (skeleton_at s d).node ≢ node
NamesLast s node (Some d) = IsLastAt s node d.0

-- the answer is the event before f at its node, or None if no event of the node is earlier
abbrev pub NamesPrevious : Skeleton → ℕ → Option EventId → Type 0
NamesPrevious s f None = (d : ℕ) → ¬ IsEarlierAtNode s d f
NamesPrevious s f (Some d) = IsPrevious s d.0 f

-- the answer is the event after e at its node, or None if no event of the node is later
abbrev pub NamesNext : Skeleton → ℕ → Option EventId → Type 0
NamesNext s e None = (f : ℕ) → ¬ IsEarlierAtNode s e f
NamesNext s e (Some f) = IsPrevious s e f.0

-- the answer is the send that f delivers, or None if there is none
abbrev pub NamesSend : Skeleton → ℕ → Option EventId → Type 0
NamesSend s f None = (e : ℕ) → ¬ IsSendOf s e f
NamesSend s f (Some e) = IsSendOf s e.0 f

-- whether e is the send
abbrev pub is_of_send : ℕ → Option ℕ → Bool
is_of_send e None = false
is_of_send e (Some send) = send == e

-- the deliveries of e, rising
abbrev pub deliveries_of : Skeleton → ℕ → List ℕ
deliveries_of s e = filter (λ f. is_of_send e (skeleton_at s f).send) (places_below (length s))

-- a pair is that of a node's last event, or the pair before every other if the node has no event
abbrev pub NamesLastPair : List Pair → Option EventId → Pair → Type 0
NamesLastPair pairs None pair = pair ≡ zero_pair
NamesLastPair pairs (Some d) pair = pair ≡ pair_at pairs d.0
