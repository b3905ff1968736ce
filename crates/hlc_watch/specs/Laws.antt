-- The laws of a watch.
use Rattle.std.specs.Prelude.{◌≡◌, ◌<◌, ◌≤◌, ◌++◌, ◌+◌, ◌^◌, ℕ, zero, suc, Contains, List, [], ◌∷◌, Option, Some, None, length}
use Rattle.hlc_causality.specs.declared.receives.Receives.{Receives}
use Rattle.hlc_causes.specs.declared.answers.Causes.{Causes}
use Rattle.hlc_causes.specs.Causes.{NamesCauses}
use Rattle.hlc_log.specs.declared.log_event.LogEvent.{LogEvent}
use Rattle.hlc_log.specs.CausalOrder.{IsCausalOrder, place_at}
use Rattle.hlc_log.specs.Events.{event_at}
use Rattle.hlc_log.specs.Messages.{EachIsSentOnce, SendsTo}
use Rattle.hlc_watch.specs.declared.records.Records.{Records}
use Rattle.hlc_watch.specs.declared.ruled_event.RuledEvent.{RuledEvent}
use Rattle.hlc_watch.specs.Coming.{LinesDiffer, NamesSender, NodesStandAsTheyCome, TellApart, by_lines, clocks_in, last_needed, records_at, ruled_at, seen_in, sent_count}
use Rattle.hlc_watch.specs.Kept.{receive_count}
use Rattle.hlc_watch.specs.Records.{line_causes}
use Rattle.hlc_watch.specs.Watching.{KeptLog, after_event, event_of, no_log, waited_of}

-- what is kept once the first n events have come, which have messages of these names
abbrev pub kept_after : Receives → (keep : ℕ) → (files : ℕ → ℕ) → (names : ℕ → List ℕ) → List LogEvent → ℕ → KeptLog
kept_after receives keep files names events zero = no_log keep
kept_after receives keep files names events (suc n) =
    after_event (kept_after receives keep files names events n) (ruled_at receives files events n) (names n)

-- an answer as a list
abbrev pub if_any : Option Records → List Records
if_any None = []
if_any (Some records) = records ∷ []

-- the records that are told as an event comes
abbrev pub told_as : KeptLog → RuledEvent → (m : List ℕ) → List Records
told_as kept event m = if_any (event_of kept event m) ++ waited_of kept event m

-- records are told as the event at n comes
abbrev pub IsToldAt : Receives → (keep : ℕ) → (files : ℕ → ℕ) → (names : ℕ → List ℕ) → List LogEvent → ℕ → Records → Type 0
IsToldAt receives keep files names events n records =
    Contains (told_as (kept_after receives keep files names events n) (ruled_at receives files events n) (names n)) records

-- the nodes are as few as are kept
abbrev pub AreFewNodes : List LogEvent → Type 0
AreFewNodes events = (e : ℕ) → e < length events → (event_at events e).node.0 < 65536

-- records are those of the event at e, and the last of them comes at n
pub record AreRecordsOf (receives : Receives) (files : ℕ → ℕ) (events : List LogEvent) (n : ℕ) (records : Records) : Type 0 where
  pub place : ℕ
  pub send : Option ℕ
  pub names : NamesSender events place send
  pub are : records ≡ records_at receives files events place send
  pub last : n ≡ last_needed place send

-- whatever is forgotten, only records of events are told, and as soon as the last of the three has come
abbrev pub TellsRecords : Type 0
TellsRecords = (receives : Receives) (keep : ℕ) (files : ℕ → ℕ) (names : ℕ → List ℕ) (events : List LogEvent) (n : ℕ) (records : Records) →
    AreFewNodes events → TellApart names events → n < length events →
    IsToldAt receives keep files names events n records → AreRecordsOf receives files events n records

-- where no more events come than messages are kept, each event's are told, but of a receive that nobody sends
abbrev pub TellsAll : Type 0
TellsAll = (receives : Receives) (keep : ℕ) (files : ℕ → ℕ) (names : ℕ → List ℕ) (events : List LogEvent) (e : ℕ) (send : Option ℕ) →
    AreFewNodes events → TellApart names events → EachIsSentOnce events → length events ≤ keep → e < length events → NamesSender events e send →
    IsToldAt receives keep files names events (last_needed e send) (records_at receives files events e send)

-- a receive whose send came before it is told as it comes, if since then no more messages were sent than are kept, that one among them
abbrev pub TellsLatest : Type 0
TellsLatest = (receives : Receives) (keep : ℕ) (files : ℕ → ℕ) (names : ℕ → List ℕ) (events : List LogEvent) (d e : ℕ) →
    AreFewNodes events → TellApart names events → EachIsSentOnce events → d < e → SendsTo events d e →
    sent_count events e ≤ sent_count events d + keep → IsToldAt receives keep files names events e (records_at receives files events e (Some d))

-- how many records are told as the first n events come
abbrev pub told_count : Receives → (keep : ℕ) → (files : ℕ → ℕ) → (names : ℕ → List ℕ) → List LogEvent → ℕ → ℕ
told_count receives keep files names events zero = 0
told_count receives keep files names events (suc n) =
    told_count receives keep files names events n
    + length (told_as (kept_after receives keep files names events n) (ruled_at receives files events n) (names n))

-- each event that came is told, or waits, or is forgotten
abbrev pub EachIsCounted : Type 0
EachIsCounted = (receives : Receives) (keep : ℕ) (files : ℕ → ℕ) (names : ℕ → List ℕ) (events : List LogEvent) (n : ℕ) → n < 2 ^ 64 →
    let messages = (kept_after receives keep files names events n).messages in
    told_count receives keep files names events n + (receive_count messages.awaited + messages.forgotten) ≡ n

-- however many events come, the memory is bounded
pub record IsSmall (keep : ℕ) (kept : KeptLog) : Type 0 where
  pub nodes : length kept.last ≡ 65536
  pub sent : length kept.messages.sent.sends ≤ keep
  pub waiting : receive_count kept.messages.awaited ≤ keep

abbrev pub StaysSmall : Type 0
StaysSmall = (receives : Receives) (keep : ℕ) (files : ℕ → ℕ) (names : ℕ → List ℕ) (events : List LogEvent) (n : ℕ) → 0 < keep → keep < 2 ^ 32 →
    IsSmall keep (kept_after receives keep files names events n)

-- causes are local: in whatever causal order, the rules that an event breaks are those which its three records tell
abbrev pub RecordsTellCauses : Type 0
RecordsTellCauses = (receives : Receives) (files : ℕ → ℕ) (events : List LogEvent) (order : List ℕ) (full k : ℕ) (send : Option ℕ) (answer : Causes) →
    EachIsSentOnce events → LinesDiffer files events → NodesStandAsTheyCome events → IsCausalOrder events order → k < length order →
    let e = place_at order k in
    NamesSender events e send →
    NamesCauses (clocks_in receives events order) (seen_in receives events order k) full k answer →
    line_causes full (records_at receives files events e send) ≡ by_lines files events order answer
