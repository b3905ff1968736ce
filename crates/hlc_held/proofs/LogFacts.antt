-- Logs that get longer, and logs by node.
use Rattle.std.proofs.Common.{◌≡◌, ◌∙◌, ℕ, zero, suc, ◌+◌, ◌<◌, Bool, true, false, List, [], ◌∷◌, ◌++◌, length, length-append, map, set, get_or, refl, sym, ap, subst, eqb}
use Rattle.std.specs.Prelude.{◌==◌, if◌then◌else◌}
use Rattle.std.specs.declared.alloc.Global.{Global}
use Rattle.std.specs.declared.vec.Vec.{Vec}
use Rattle.std.proofs.lemmas.Bool.{eqb-false, eqb-true}
use Rattle.std.proofs.lemmas.List.{map-append, map-set, get_or-set_same, get_or-set_other, length-map}
use Rattle.std.proofs.lemmas.List.Elements.{filter_map-append}
use Rattle.hlc_held.specs.declared.logged.Logged.{Logged}
use Rattle.hlc_held.specs.LogEntry.{LogEntry, event_named, events_named, log_entry_of, log_of}
use Rattle.hlc_held.specs.Seats.{NodeLog, act_count, log_at, log_of_last, log_of_node}

-- a log with one more entry
pub log_of-more : (log : List Logged) (entry : Logged) → log_of (log ++ entry ∷ []) ≡ log_of log ++ log_entry_of entry ∷ []
log_of-more log entry = map-append log_entry_of log (entry ∷ [])

-- counts the new entry too
pub act_count-more : (log : List LogEntry) (entry : LogEntry) → act_count (log ++ entry ∷ []) ≡ act_count log + act_count (entry ∷ [])
act_count-more log entry =
    ap (λ (events : List ℕ). length events) (filter_map-append event_named log (entry ∷ []))
    ∙ length-append (events_named log) (events_named (entry ∷ []))

-- a log to which an entry was added
pub act_count-pushed : (log new : List Logged) (entry : Logged) → new ≡ log ++ entry ∷ []
    → act_count (log_of new) ≡ act_count (log_of log) + act_count (log_entry_of entry ∷ [])
act_count-pushed log new entry is =
    ap (λ (l : List Logged). act_count (log_of l)) is ∙ ap (λ (l : List LogEntry). act_count l) (log_of-more log entry)
    ∙ act_count-more (log_of log) (log_entry_of entry)

abbrev log_in : Vec Logged Global → List LogEntry
log_in v = log_of v.items

set_at : (b : Bool) (logs : List (List LogEntry)) (i n : ℕ) (log : List LogEntry) → eqb i n ≡ b → i < length logs
    → get_or (set logs i log) n [] ≡ (if b then log else get_or logs n [])
set_at true logs i n log is within =
    subst (λ k. get_or (set logs i log) k [] ≡ log) (eqb-true i n is) (get_or-set_same logs i log [] within)
set_at false logs i n log is within = get_or-set_other logs i n log [] (λ same. eqb-false i n is (sym same))

-- a log is put at a place
pub log_at-set : (n i : ℕ) (logs : List (Vec Logged Global)) (v : Vec Logged Global) → i < length logs
    → log_at (set logs i v) n ≡ (if i == n then log_of v.items else log_at logs n)
log_at-set n i logs v within =
    ap (λ (all : List (List LogEntry)). get_or all n []) (map-set log_in logs i v)
    ∙ set_at (i == n) (map log_in logs) i n (log_of v.items) refl (subst (λ k. i < k) (sym (length-map logs log_in)) within)

-- an empty log is put last
pub log_at-pushed : (n : ℕ) (logs : List (Vec Logged Global)) (v : Vec Logged Global) → v.items ≡ [] → log_at logs n ≡ []
    → log_at (logs ++ v ∷ []) n ≡ []
log_at-pushed zero [] v empty none = ap (λ (entries : List Logged). log_of entries) empty
log_at-pushed (suc n) [] v empty none = refl
log_at-pushed zero (log ∷ logs) v empty none = none
log_at-pushed (suc n) (log ∷ logs) v empty none = log_at-pushed n logs v empty none

-- one more seat
pub log_of_last-more : (n : ℕ) (seats : List NodeLog) (seat : NodeLog) (log : List LogEntry)
    → log_of_last n (seats ++ seat ∷ []) log ≡ (if seat.node == n then seat.log else log_of_last n seats log)
log_of_last-more n [] seat log = refl
log_of_last-more n (x ∷ seats) seat log = log_of_last-more n seats seat (if x.node == n then x.log else log)

pub put_more : (n : ℕ) (before : List NodeLog) (seat : NodeLog) (old new : List LogEntry) → new ≡ (if seat.node == n then seat.log else old)
    → old ≡ log_of_node before n
    → new ≡ log_of_node (before ++ seat ∷ []) n
put_more n before seat old new put is =
    put ∙ ap (λ (log : List LogEntry). if seat.node == n then seat.log else log) is ∙ sym (log_of_last-more n before seat [])
