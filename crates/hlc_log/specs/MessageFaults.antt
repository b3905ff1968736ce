-- Each event whose message is sent again, and each whose message nobody sends.
use Rattle.std.specs.Prelude.{ℕ, zero, suc, ◌++◌, List, [], Option, Some, None, if◌then◌else◌, is_some, length}
use Rattle.std.specs.Option.{option_to_list}
use Rattle.hlc_stamp.specs.declared.id.EventId.{EventId}
use Rattle.hlc_log.specs.declared.log_event.LogEvent.{LogEvent}
use Rattle.hlc_log.specs.declared.log_event.LogKind.{LogKind}
use Rattle.hlc_log.specs.declared.log_event.LogKind.TheVariants.{Local, Outside, Receive, Restart, Send}
use Rattle.hlc_log.specs.declared.order_fault.OrderFault.{OrderFault}
use Rattle.hlc_log.specs.declared.order_fault.OrderFault.TheVariants.{SentTwice, Unsent}
use Rattle.hlc_log.specs.Events.{event_at}
use Rattle.hlc_log.specs.Resent.{first_send, is_at}

-- what is wrong with the message of an event of a kind at a place, by the first send of each message: another event sent it before, or nobody sends it
abbrev pub fault_by_first : (first : ℕ → Option EventId) → (place : ℕ) → LogKind → Option OrderFault
fault_by_first first place Local = None
fault_by_first first place (Send message) = if is_at place (first message.0) then None else Some (SentTwice (record { 0 = place }))
fault_by_first first place (Receive message) = if is_some (first message.0) then None else Some (Unsent (record { 0 = place }))
fault_by_first first place Restart = None
fault_by_first first place Outside = None

module _ (events : List LogEvent) where
  -- what is wrong with the message of the event at a place
  abbrev pub message_fault : (place : ℕ) → Option OrderFault
  message_fault place = fault_by_first (first_send events) place (event_at events place).kind

  -- all that is wrong with the messages of the events before a place, in their order
  abbrev pub message_faults_before : (place : ℕ) → List OrderFault
  message_faults_before zero = []
  message_faults_before (suc n) = message_faults_before n ++ option_to_list (message_fault n)

-- all that is wrong with the messages of a log, in the order of its events
abbrev pub message_faults : List LogEvent → List OrderFault
message_faults events = message_faults_before events (length events)
