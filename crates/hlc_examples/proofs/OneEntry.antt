-- A log of one accepted request.
use Rattle.std.proofs.Common.{◌≡◌, ◌<◌, ◌↔◌, ℕ, zero, suc, List, [], ◌∷◌, Some, arith, refl, subst, sym, take}
use Rattle.std.specs.Prelude.{slice_get}
use Rattle.hlc_stamp.specs.Order.{Pair}
use Rattle.hlc_arena.specs.History.{StampedEvent, Written, event_at}
use Rattle.hlc_core.specs.Request.{Request, ToWrite}
use Rattle.hlc_held.specs.Agreement.{Agrees, FitsAfter, FitsThere, IsAnswerTo, places_of_node}
use Rattle.hlc_held.specs.LogEntry.{DidAct, LogEntry}

-- if the one entry fits, each entry does
each_fits : (events : List StampedEvent) (node : ℕ) (x : LogEntry) → FitsThere events node [] x →
    (k : ℕ) (entry : LogEntry) → slice_get (x ∷ []) k ≡ Some entry → FitsAfter events node (take k (x ∷ [])) entry
each_fits events node x fits zero entry e =
    let same : x ≡ entry = cc e in
    subst (λ (y : LogEntry). FitsThere events node [] y) same fits
each_fits events node x fits (suc k) entry e = cc e

-- it agrees if and only if the event is the node's only one, and is what was asked
pub agrees-one : (events : List StampedEvent) (node reading : ℕ) (request : Request) (event : ℕ) (stamp : Pair) →
    Agrees events node (DidAct reading request event stamp ∷ [])
    ↔ ((places_of_node events node ≡ event ∷ []) × IsAnswerTo events reading request event stamp)
agrees-one events node reading request event stamp =
    let entry : LogEntry = DidAct reading request event stamp in (
      λ agrees. (sym agrees.names, agrees.each zero entry refl),
      λ both. record { names = sym both.0; each = each_fits events node entry both.1 },
    )

-- the one event of a node whose log is of one write
pub one_write : (events : List StampedEvent) (node reading : ℕ) (key value : List ℕ) (event : ℕ) (stamp : Pair) (log : List LogEntry) →
    log ≡ DidAct reading (ToWrite key value) event stamp ∷ [] → Agrees events node log →
    (e : ℕ) × (places_of_node events node ≡ e ∷ []) × ((event_at events e).kind ≡ Written key value)
one_write events node reading key value event stamp log is agrees =
    let both = (agrees-one events node reading (ToWrite key value) event stamp).0 (subst (λ (l : List LogEntry). Agrees events node l) is agrees) in
    (event, both.0, both.1.asked)

-- what is true of 0 and of 1 is true below 2
pub below_two : (P : ℕ → Type 0) → P 0 → P 1 → (n : ℕ) → n < 2 → P n
below_two P first second zero lt = first
below_two P first second (suc zero) lt = second
below_two P first second (suc (suc n)) lt = absurd (omega arith)
