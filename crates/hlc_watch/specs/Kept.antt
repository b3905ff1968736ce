-- What a watch keeps of a log whose events come one after another.
use Rattle.std.specs.Prelude.{◌+◌, ◌-◌, ◌^◌, ◌<◌, ◌≤◌, ℕ, Contains, List, [], ◌∷◌, ◌++◌, Option, Some, None, bytes_eq, drop, if◌then◌else◌, length, map, min, nat_lt, sum_by, take, unwrap_or}
use Rattle.std.specs.Map.{lookup, remove_entry, values_of}
use Rattle.indexmap.specs.IndexMap.{insert_entry}
use Rattle.hlc_watch.specs.declared.records.Claimed.{Claimed}
use Rattle.hlc_watch.specs.declared.records.Records.{Records}
use Rattle.hlc_watch.specs.Records.{with_send}

-- what the sends of the latest messages claim, by their names, that of the one that was sent first coming first; and how many are kept
pub record KeptSends : Type 0 where
  pub sends : List (List ℕ × Claimed)
  pub keep : ℕ

-- none
abbrev pub no_sends : ℕ → KeptSends
no_sends keep = record { sends = []; keep = keep }

-- the last so many of a list
abbrev pub latest : {X : Type 0} → (keep : ℕ) → List X → List X
latest keep xs = drop (length xs - keep) xs

-- a message is sent: it comes last, or keeps its place if it is there already
abbrev pub with_sent : KeptSends → (m : List ℕ) → Claimed → KeptSends
with_sent kept m claimed = record kept { sends = latest kept.keep (insert_entry bytes_eq kept.sends m claimed) }

-- what is kept of messages, which are told apart by their names: what the sends of the latest of them claim; the receives whose sends haven't come, by
-- their messages, that of the latest coming first; how many are kept of both; and how many receives were forgotten that waited, or the greatest
-- number, if there were more
pub record KeptMessages : Type 0 where
  pub sent : KeptSends
  pub awaited : List (List ℕ × List Records)
  pub forgotten : ℕ

-- none
abbrev pub no_messages : ℕ → KeptMessages
no_messages keep = record { sent = no_sends keep; awaited = []; forgotten = 0 }

-- the receives that wait for a message
abbrev pub waiting_for : List (List ℕ × List Records) → (m : List ℕ) → List Records
waiting_for awaited m = unwrap_or (lookup (bytes_eq m) awaited) []

-- how many wait
abbrev pub receive_count : List (List ℕ × List Records) → ℕ
receive_count awaited = sum_by length (values_of awaited)

-- those that wait, once one more does
abbrev pub with_receive : List (List ℕ × List Records) → (m : List ℕ) → Records → List (List ℕ × List Records)
with_receive awaited m records = (m, waiting_for awaited m ++ records ∷ []) ∷ remove_entry (bytes_eq m) awaited

-- but for those of the message for which none has come for the longest time
abbrev pub without_last : List (List ℕ × List Records) → List (List ℕ × List Records)
without_last awaited = take (length awaited - 1) awaited

-- the same, but for the last if there were as many already as are kept
abbrev pub with_latest : (keep : ℕ) → List (List ℕ × List Records) → (m : List ℕ) → Records → List (List ℕ × List Records)
with_latest keep awaited m records =
    let more = with_receive awaited m records in if nat_lt (receive_count awaited) keep then more else without_last more

-- a receive waits
abbrev pub after_wait : KeptMessages → (m : List ℕ) → Records → KeptMessages
after_wait kept m records =
    let awaited = with_latest kept.sent.keep kept.awaited m records in
    let forgotten = receive_count (with_receive kept.awaited m records) - receive_count awaited in
    record kept { awaited = awaited; forgotten = min (kept.forgotten + forgotten) (2 ^ 64 - 1) }

-- a message is sent: none waits for it any more
abbrev pub after_send : KeptMessages → (m : List ℕ) → Claimed → KeptMessages
after_send kept m claimed = record kept { sent = with_sent kept.sent m claimed; awaited = remove_entry (bytes_eq m) kept.awaited }

-- the records that then are there, of those that waited
abbrev pub waited_for : KeptMessages → (m : List ℕ) → Claimed → List Records
waited_for kept m claimed = map (with_send claimed) (waiting_for kept.awaited m)

-- what the send of a message claims, if that is remembered
abbrev pub send_of : KeptSends → (m : List ℕ) → Option Claimed
send_of kept m = lookup (bytes_eq m) kept.sends

-- a message is received, whose send claims this, if that is remembered: else the receive waits
abbrev pub received_from : KeptMessages → (m : List ℕ) → Records → Option Claimed → KeptMessages
received_from kept m records None = after_wait kept m records
received_from kept m records (Some send) = kept

abbrev pub after_receive : KeptMessages → (m : List ℕ) → Records → KeptMessages
after_receive kept m records = received_from kept m records (send_of kept.sent m)

-- the records that then are there
abbrev pub records_with : Records → Option Claimed → Option Records
records_with records None = None
records_with records (Some send) = Some (with_send send records)

abbrev pub records_told : KeptMessages → (m : List ℕ) → Records → Option Records
records_told kept m records = records_with records (send_of kept.sent m)

-- each message that is awaited is by some receive, and no more receives wait than are kept
pub record IsBounded (keep : ℕ) (awaited : List (List ℕ × List Records)) : Type 0 where
  pub few : receive_count awaited ≤ keep
  pub fits : keep < 2 ^ 32
  pub some : (x : List ℕ × List Records) → Contains awaited x → 0 < length x.1
