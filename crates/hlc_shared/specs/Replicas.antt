-- What replicas do that follow lists of steps.
use Rattle.std.specs.Prelude.{◌≡◌, ◌⊎◌, ℕ, Bool, true, false, Option, Some, None, List, [], ◌∷◌, ◌++◌, map, slice_get}
use Rattle.hlc_core.specs.Timed.{TimedRequest}
use Rattle.hlc_held.specs.LogEntry.{DidAct, DidLook, LogEntry}
use Rattle.hlc_held.specs.Seats.{NodeLog}

-- the first list is the second with some of its items left out, or none
abbrev pub IsSubsequence : {A : Type 0} → List A → List A → Type 0
IsSubsequence [] ys = Unit {0}
IsSubsequence (x ∷ xs) [] = ⊥
IsSubsequence (x ∷ xs) (y ∷ ys) = ((x ≡ y) × IsSubsequence xs ys) ⊎ IsSubsequence (x ∷ xs) ys

-- what an entry of a log asks, if it is of an accepted request
abbrev pub request_logged : LogEntry → Option TimedRequest
request_logged (DidAct reading request event stamp) = Some (record { reading = reading; request = request })
request_logged (DidLook key answer) = None

-- a log gained entries of accepted requests alone, which ask a subsequence of the list
pub record HasFollowed (list : List TimedRequest) (old new : List LogEntry) : Type 0 where
  pub gained : List LogEntry
  pub log : new ≡ old ++ gained
  pub asked : IsSubsequence (map request_logged gained) (map Some list)

-- each replica followed the list of its node: these are the logs by node that came of the seats
abbrev pub EachHasFollowed : List (List TimedRequest) → List NodeLog → (ℕ → List LogEntry) → Type 0
EachHasFollowed lists seats log = (node : ℕ) (list : List TimedRequest) (seat : NodeLog) →
    slice_get lists node ≡ Some list → slice_get seats node ≡ Some seat → HasFollowed list seat.log (log node)

-- a replica was let in, and followed the list with its seat
pub record HasRun (may_answer : ℕ → Bool → Type 0) (list : List TimedRequest) (old new : NodeLog) : Type 0 where
  pub let_in : may_answer old.node true
  pub same_node : new.node ≡ old.node
  pub followed : HasFollowed list old.log new.log

-- the replica of a seat has this node, and was shut out
abbrev pub IsShutOut : (ℕ → Bool → Type 0) → NodeLog → ℕ → Type 0
IsShutOut may_answer seat node = (seat.node ≡ node) × may_answer node false
