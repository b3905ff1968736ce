-- Each event that came is told, or waits, or is forgotten.
use Rattle.std.proofs.Common.{◌≡◌, ℕ, zero, suc, ◌+◌, ◌-◌, ◌^◌, ◌<◌, ◌≤◌, Bool, true, false, List, [], ◌∷◌, ◌++◌, Option, Some, None, length, take, arith, refl}
use Rattle.std.specs.Prelude.{if◌then◌else◌, bytes_eq, nat_lt}
use Rattle.std.specs.Map.{lookup}
use Rattle.std.proofs.lemmas.List.{length-map}
use Rattle.std.proofs.lemmas.Map.Entries.{sum_by-remove_entry}
use Rattle.hlc_causality.specs.declared.receives.Receives.{Receives}
use Rattle.hlc_log.specs.declared.log_event.LogEvent.{LogEvent}
use Rattle.hlc_watch.specs.declared.message_role.MessageRole.{MessageRole}
use Rattle.hlc_watch.specs.declared.message_role.MessageRole.TheVariants.{Local, Receive, Send}
use Rattle.hlc_watch.specs.declared.records.Claimed.{Claimed}
use Rattle.hlc_watch.specs.declared.records.Records.{Records}
use Rattle.hlc_watch.specs.Coming.{ruled_at}
use Rattle.hlc_watch.specs.Kept.{KeptMessages, received_from, receive_count, records_with, send_of, waited_for, waiting_for, with_latest, with_receive, without_last}
use Rattle.hlc_watch.specs.Laws.{EachIsCounted, if_any, kept_after, told_count}
use Rattle.hlc_watch.specs.Records.{claimed_by, with_send}
use Rattle.hlc_watch.specs.Watching.{after_role, event_told, records_of, waited_told}
use Rattle.hlc_watch.proofs.Bounds.{count-first, count-with_receive, waiting_length}

-- fewer wait without the last
fewer_first : (n : ℕ) (awaited : List (List ℕ × List Records)) → receive_count (take n awaited) ≤ receive_count awaited
fewer_first zero awaited = let none : receive_count [] ≡ 0 = refl in omega arith
fewer_first (suc n) [] = omega arith
fewer_first (suc n) (x ∷ awaited) =
    let rest = fewer_first n awaited in
    let first = count-first x (take n awaited) in
    let all = count-first x awaited in
    omega arith

latest_fewer : (keep : ℕ) (awaited : List (List ℕ × List Records)) (m : List ℕ) (records : Records)
    → receive_count (with_latest keep awaited m records) ≤ receive_count (with_receive awaited m records)
latest_fewer keep awaited m records = by_test (nat_lt (receive_count awaited) keep)
  where
    by_test : (test : Bool) → receive_count (if test then with_receive awaited m records else without_last (with_receive awaited m records)) ≤ receive_count (with_receive awaited m records)
    by_test true = omega arith
    by_test false = fewer_first (length (with_receive awaited m records) - 1) (with_receive awaited m records)

-- how many wait and are forgotten
abbrev open_count : KeptMessages → ℕ
open_count messages = receive_count messages.awaited + messages.forgotten

module _ (messages : KeptMessages) (records : Records) (few : open_count messages + 1 < 2 ^ 64) where
  -- one event more is told or open
  abbrev IsOneMore : MessageRole → (m : List ℕ) → Type 0
  IsOneMore role m =
      length (if_any (event_told messages records role m) ++ waited_told messages records role m) + open_count (after_role messages records role m)
      ≡ open_count messages + 1

  one_waits : (m : List ℕ) → open_count (received_from messages m records None) ≡ open_count messages + 1
  one_waits m =
      let more = count-with_receive messages.awaited m records in
      let less = latest_fewer messages.sent.keep messages.awaited m records in
      omega arith

  one_received : (m : List ℕ) (o : Option Claimed) → length (if_any (records_with records o) ++ []) + open_count (received_from messages m records o) ≡ open_count messages + 1
  one_received m None = let one = one_waits m in omega arith
  one_received m (Some c) = omega arith

  one_sent : (m : List ℕ) → length (records ∷ waited_for messages m (claimed_by records.event)) + open_count (after_role messages records Send m) ≡ open_count messages + 1
  one_sent m =
      let told = length-map (waiting_for messages.awaited m) (with_send (claimed_by records.event)) in
      let count = sum_by-remove_entry length (bytes_eq m) messages.awaited in
      let own = waiting_length (lookup (bytes_eq m) messages.awaited) in
      omega arith

  one_more : (role : MessageRole) (m : List ℕ) → IsOneMore role m
  one_more Local m = omega arith
  one_more Send m = one_sent m
  one_more Receive m = one_received m (send_of messages.sent m)

module _ (receives : Receives) (keep : ℕ) (files : ℕ → ℕ) (names : ℕ → List ℕ) (events : List LogEvent) where
  counted : (n : ℕ) → n < 2 ^ 64 → told_count receives keep files names events n + open_count (kept_after receives keep files names events n).messages ≡ n
  counted zero few = refl
  counted (suc n) few =
      let kept = kept_after receives keep files names events n in
      let event = ruled_at receives files events n in
      let before = counted n (omega arith) in
      let one = one_more kept.messages (records_of kept.last event) (omega arith) event.role (names n) in
      omega arith

pub each_is_counted : EachIsCounted
each_is_counted receives keep files names events n few = counted receives keep files names events n few
