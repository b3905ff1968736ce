-- Paths by direct predecessors, and a shortest one by a function.
use Rattle.std.specs.Prelude.{◌≡◌, ℕ, zero, suc, ◌+◌, ◌==◌, ◌<◌, ◌≤◌, List, [], ◌∷◌, ◌++◌, MatchOption, Option, Some, None, if◌then◌else◌, length, nat_le, option_map, slice_index_or}
use Rattle.hlc_causality.specs.Causality.{Skeleton}
use Rattle.hlc_causality.specs.Past.{IsInPast, LeadsTo}
use Rattle.hlc_causality.specs.Predecessors.{previous_of, send_of}

-- a list is a path from e to f: it begins with e, each event is a direct predecessor of the next, and the last is f
abbrev pub IsDirectPath : Skeleton → ℕ → List ℕ → ℕ → Type 0
IsDirectPath s e [] f = ⊥
IsDirectPath s e (first ∷ rest) f = (first ≡ e) × LeadsTo s e rest f

-- it is one, and none has fewer events
pub record IsShortestPath (s : Skeleton) (e f : ℕ) (path : List ℕ) : Type 0 where
  pub leads : IsDirectPath s e path f
  pub shortest : (other : List ℕ) → IsDirectPath s e other f → length path ≤ length other

-- a shortest path from e to f, or none if e is neither f nor happened before it
abbrev pub IsPathFound : Skeleton → ℕ → ℕ → Option (List ℕ) → Type 0
IsPathFound s e f found = MatchOption found (¬ IsInPast s e f) (λ path. IsShortestPath s e f path)

-- of two lists, if there are any, the shorter, and the first if they tie
abbrev pub shorter : Option (List ℕ) → Option (List ℕ) → Option (List ℕ)
shorter None other = other
shorter (Some path) None = Some path
shorter (Some path) (Some other) = if nat_le (length path) (length other) then Some path else Some other

-- the path to the event that a link names
abbrev pub path_to : (ℕ → Option (List ℕ)) → Option ℕ → Option (List ℕ)
path_to path None = None
path_to path (Some d) = path d

-- a shortest path from e to f of at most n events: the event alone, or the shorter of those to its previous event and to its send, and
-- then the event; by the previous event if they tie
abbrev pub path_within : Skeleton → ℕ → ℕ → ℕ → Option (List ℕ)
path_within s e zero f = None
path_within s e (suc n) f =
    if e == f then Some (f ∷ []) else
    option_map (λ path. path ++ f ∷ []) (shorter (path_to (path_within s e n) (previous_of s f)) (path_to (path_within s e n) (send_of s f)))

-- a shortest path from e to f, which has at most f + 1 events
abbrev pub path_of : Skeleton → ℕ → ℕ → Option (List ℕ)
path_of s e f = path_within s e (suc f) f

-- there is an event e, and a list has how many events a shortest path from there has to each of the events from e on
pub record ArePathLengths (s : Skeleton) (e : ℕ) (lengths : List (Option ℕ)) : Type 0 where
  pub exists : e < length s
  pub each : (k : ℕ) → k < length lengths → slice_index_or lengths k None ≡ option_map length (path_of s e (e + k))

-- the path that is found is a shortest one
abbrev pub PathsAreFound : Type 0
PathsAreFound = (s : Skeleton) (e f : ℕ) → f < length s → IsPathFound s e f (path_of s e f)
