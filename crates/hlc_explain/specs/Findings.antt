-- Relation, influence and drift by functions.
use Rattle.std.specs.Prelude.{◌≡◌, ◌↔◌, Bool, false, ℕ, zero, suc, ◌==◌, ◌&&◌, ◌||◌, Contains, IsTrue, List, MatchOption, filter, length, Option, Some, None, if◌then◌else◌, nat_lt, option_map}
use Rattle.std.specs.List.Sorted.{IsStrictlyIncreasing}
use Rattle.hlc_stamp.specs.Order.{Pair}
use Rattle.hlc_causality.specs.Causality.{HappenedBefore, Skeleton, skeleton_at}
use Rattle.hlc_causality.specs.NodeEvents.{HasNoEvent, drift_at}
use Rattle.hlc_causality.specs.Places.{places_below}
use Rattle.hlc_causality.specs.Predecessors.{previous_of, send_of}
use Rattle.hlc_explain.specs.declared.answers.Drift.{Drift}
use Rattle.hlc_explain.specs.declared.answers.Relation.{Relation}
use Rattle.hlc_explain.specs.declared.answers.Relation.TheVariants.{After, Before, Concurrent, Same}
use Rattle.hlc_explain.specs.Drift.{IsDriftOf}
use Rattle.hlc_explain.specs.Summaries.{origin_of}

-- whether a link names an event of which a test holds
abbrev pub names_such : (ℕ → Bool) → Option ℕ → Bool
names_such test None = false
names_such test (Some d) = test d

-- whether e happened before f, by at most n steps back: a direct predecessor of f is e, or e happened before it
abbrev pub is_before : Skeleton → ℕ → ℕ → ℕ → Bool
is_before s zero e f = false
is_before s (suc n) e f =
    names_such (λ d. (d == e) || is_before s n e d) (previous_of s f) || names_such (λ d. (d == e) || is_before s n e d) (send_of s f)

-- whether the event at e happened before that at f, from which at most f steps lead back
abbrev pub happened_before : Skeleton → ℕ → ℕ → Bool
happened_before s e f = nat_lt f (length s) && is_before s f e f

-- how the events at e and f stand in happened-before
abbrev pub relation_of : Skeleton → ℕ → ℕ → Relation
relation_of s e f =
    if e == f then Same else if happened_before s e f then Before else if happened_before s f e then After else Concurrent

-- all events that the event at e happened before, rising
abbrev pub influenced_by : Skeleton → ℕ → List ℕ
influenced_by s e = filter (happened_before s e) (places_below (length s))

-- of an event, if there is one, and a later one, the one of greater drift, and the first if they tie
abbrev pub further_ahead : Skeleton → List Pair → Option ℕ → ℕ → ℕ
further_ahead s pairs None e = e
further_ahead s pairs (Some d) e = if nat_lt (drift_at s pairs d) (drift_at s pairs e) then e else d

-- the first event of greatest drift among a node's events before a place
abbrev pub furthest_before : Skeleton → List Pair → ℕ → ℕ → Option ℕ
furthest_before s pairs node zero = None
furthest_before s pairs node (suc n) =
    if (skeleton_at s n).node == node then Some (further_ahead s pairs (furthest_before s pairs node n) n) else furthest_before s pairs node n

-- the drift of the event at e, with the event and its origin
abbrev pub drift_with_origin : Skeleton → List Pair → ℕ → Drift
drift_with_origin s pairs e = record { ahead = drift_at s pairs e; event = record { 0 = e }; origin = record { 0 = origin_of s pairs e } }

-- the drift of a node: that of the first event of greatest drift among all its events, if it has any
abbrev pub node_drift : Skeleton → List Pair → ℕ → Option Drift
node_drift s pairs node = option_map (drift_with_origin s pairs) (furthest_before s pairs node (length s))

-- a relation is the one in which the events at e and f stand
pub record IsRelationOf (s : Skeleton) (e f : ℕ) (relation : Relation) : Type 0 where
  pub before : (relation ≡ Before) ↔ HappenedBefore s e f
  pub after : (relation ≡ After) ↔ HappenedBefore s f e
  pub same : (relation ≡ Same) ↔ (e ≡ f)

-- the test finds happened-before
abbrev pub HappenedBeforeIsTested : Type 0
HappenedBeforeIsTested = (s : Skeleton) (e f : ℕ) → IsTrue (happened_before s e f) ↔ HappenedBefore s e f

-- the relation that is found is the one in which two events stand
abbrev pub RelationsAreFound : Type 0
RelationsAreFound = (s : Skeleton) (e f : ℕ) → IsRelationOf s e f (relation_of s e f)

-- the influenced events that are found are all that an event happened before, rising
abbrev pub InfluencedAreFound : Type 0
InfluencedAreFound = (s : Skeleton) (e : ℕ) →
    ((f : ℕ) → Contains (influenced_by s e) f ↔ HappenedBefore s e f) × IsStrictlyIncreasing (influenced_by s e)

-- the drift that is found is that of the node
abbrev pub DriftsAreFound : Type 0
DriftsAreFound = (s : Skeleton) (pairs : List Pair) (node : ℕ) →
    MatchOption (node_drift s pairs node) (HasNoEvent s node) (λ drift. IsDriftOf s pairs node drift)
