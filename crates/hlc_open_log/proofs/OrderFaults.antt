-- Which events the faults of a log name.
use Rattle.std.proofs.Common.{◌≡◌, ◌∙◌, ◌<◌, ◌+◌, ◌++◌, ℕ, zero, suc, Bool, true, false, List, [], ◌∷◌, Option, Some, None, add-one, ap, arith, get_or, length, refl, take}
use Rattle.std.specs.Prelude.{All, if◌then◌else◌, is_some}
use Rattle.std.specs.List.{cons_option, filter_map}
use Rattle.std.specs.Option.{option_to_list}
use Rattle.std.proofs.lemmas.List.Elements.{All-append, All-cons, All-nil, All-weaker, filter_map-append}
use Rattle.std.proofs.Math.Seq.{take-suc}
use Rattle.hlc_stamp.specs.declared.id.EventId.{EventId}
use Rattle.hlc_log.specs.Events.{event_at}
use Rattle.hlc_log.specs.Faults.{IsFaultOf}
use Rattle.hlc_log.specs.MessageFaults.{fault_by_first, message_fault, message_faults, message_faults_before}
use Rattle.hlc_log.specs.Resent.{first_send, is_at}
use Rattle.hlc_log.specs.declared.log_event.LogEvent.{LogEvent}
use Rattle.hlc_log.specs.declared.log_event.LogKind.{LogKind}
use Rattle.hlc_log.specs.declared.log_event.LogKind.TheVariants.{Local, Outside, Receive, Restart, Send}
use Rattle.hlc_log.specs.declared.order_fault.OrderFault.{OrderFault}
use Rattle.hlc_log.specs.declared.order_fault.OrderFault.TheVariants as order
use Rattle.hlc_log_text.specs.declared.fault_rule.FaultRule.{FaultRule}
use Rattle.hlc_log_text.specs.declared.fault_rule.FaultRule.TheVariants.{First, LeaveOut, TellEach}
use Rattle.hlc_open_log.specs.Unopened.{order_fault_place, told_faults}

abbrev IsBefore : ℕ → OrderFault → Type 0
IsBefore n fault = order_fault_place fault < n

one : (n : ℕ) (fault : OrderFault) → order_fault_place fault < n → All (IsBefore n) (fault ∷ [])
one n fault lt = All-cons (IsBefore n) fault [] lt (All-nil (IsBefore n))

either : (n place : ℕ) (fault : OrderFault) (test : Bool) → order_fault_place fault < n
    → All (IsBefore n) (option_to_list (let o : Option OrderFault = if test then None else Some fault in o))
either n place fault true lt = All-nil (IsBefore n)
either n place fault false lt = one n fault lt

here : (n : ℕ) (first : ℕ → Option EventId) (place : ℕ) (kind : LogKind) → place < n → All (IsBefore n) (option_to_list (fault_by_first first place kind))
here n first place Local lt = All-nil (IsBefore n)
here n first place (Send m) lt = either n place (order.SentTwice (record { 0 = place })) (is_at place (first m.0)) lt
here n first place (Receive m) lt = either n place (order.Unsent (record { 0 = place })) (is_some (first m.0)) lt
here n first place Restart lt = All-nil (IsBefore n)
here n first place Outside lt = All-nil (IsBefore n)

before : (events : List LogEvent) (n : ℕ) → All (IsBefore n) (message_faults_before events n)
before events zero = All-nil (IsBefore 0)
before events (suc n) =
    All-append (IsBefore (suc n)) (message_faults_before events n) (option_to_list (message_fault events n))
    (All-weaker (IsBefore n) (IsBefore (suc n)) (λ fault lt. omega arith) (message_faults_before events n) (before events n))
    (here (suc n) (first_send events) n (event_at events n).kind (omega arith))

-- faults of messages name events of the log
pub message_faults_named : (events : List LogEvent) → All (λ fault. order_fault_place fault < length events) (message_faults events)
message_faults_named events = before events (length events)

-- so does a fault of a log, unless it is out of memory
fault_named : (events : List LogEvent) (fault : OrderFault) → IsFaultOf events fault → ¬ (fault ≡ order.Memory) → order_fault_place fault < length events
fault_named events (order.SentTwice e) is known = is.has.2.second.exists
fault_named events (order.Unsent e) is known = is.1.has.1.exists
fault_named events (order.Cycle e) is known = is.1.has.exists
fault_named events order.Memory is known = absurd (known refl)

-- and those that are told of it
pub told_named : (rule : FaultRule) (events : List LogEvent) (fault : OrderFault) → IsFaultOf events fault → ¬ (fault ≡ order.Memory)
    → All (λ f. order_fault_place f < length events) (told_faults rule events fault)
told_named TellEach events (order.SentTwice e) is known = message_faults_named events
told_named TellEach events (order.Unsent e) is known = message_faults_named events
told_named TellEach events (order.Cycle e) is known = one (length events) (order.Cycle e) (fault_named events (order.Cycle e) is known)
told_named TellEach events order.Memory is known = absurd (known refl)
told_named First events fault is known = one (length events) fault (fault_named events fault is known)
told_named LeaveOut events fault is known = one (length events) fault (fault_named events fault is known)

alone : {Y : Type 0} (o : Option Y) → cons_option o [] ≡ option_to_list o
alone None = refl
alone (Some z) = refl

-- what is picked of one item more
pub picked_more : {X Y : Type 0} (pick : X → Option Y) (xs : List X) (n : ℕ) (d : X) → n < length xs
    → filter_map pick (take (n + 1) xs) ≡ filter_map pick (take n xs) ++ option_to_list (pick (get_or xs n d))
picked_more pick xs n d within =
    ap (λ (k : ℕ). filter_map pick (take k xs)) (add-one n) ∙ ap (filter_map pick) (take-suc xs n d within)
    ∙ filter_map-append pick (take n xs) (get_or xs n d ∷ []) ∙ ap (λ (ys : List _). filter_map pick (take n xs) ++ ys) (alone (pick (get_or xs n d)))
