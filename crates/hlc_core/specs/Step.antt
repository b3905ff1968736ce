-- The step of the store: one request, its refusal, or the state after it.
use Rattle.std.specs.Prelude.{◌≡◌, ◌==◌, ◌⊎◌, ◌||◌, ℕ, Bool, true, false, not, Option, Some, None, List, [], ◌∷◌, ◌++◌, filter, length, if◌then◌else◌, is_none, nat_lt, nat_le, unwrap_or, Result, Ok, Err}
use Rattle.hlc_stamp.specs.Order.{Pair}
use Rattle.hlc_stamp.specs.declared.limits.TheConstants.{MAX_KEY_LEN, MAX_READING, MAX_VALUE_LEN}
use Rattle.hlc_arena.specs.ClockRule.{MeetsClockRule}
use Rattle.hlc_arena.specs.History.{Delivered, Erased, Event, EventKind, Sent, StampedEvent, Synced, Written, target_of}
use Rattle.hlc_arena.specs.Known.{entry_of, everywhere, table_writes}
use Rattle.hlc_core.specs.declared.accepted.Accepted.{Accepted}
use Rattle.hlc_pool.specs.declared.no_message.NoMessage.{NoMessage as NoLiveMessage}
use Rattle.hlc_core.specs.declared.refusal.Refusal.{Refusal}
use Rattle.hlc_core.specs.declared.refusal.Refusal.TheVariants.{Full, KeySize, Memory, NoEntry, NoMessage, NoNode, NoTarget, ReadingTooLarge, SelfSend, TooFarAhead, ValueSize, WrongNode, ZeroReading}
use Rattle.hlc_core.specs.Limit.{drift_if_next, exceeds}
use Rattle.hlc_core.specs.Request.{Request, ToDeliver, ToErase, ToPull, ToSend, ToSync, ToWrite}
use Rattle.hlc_core.specs.State.{State, inbox_of, is_live, sends_to}

abbrev pub is_bad_key : List ℕ → Bool
is_bad_key key = length key == 0 || nat_lt MAX_KEY_LEN (length key)

abbrev pub is_bad_value : List ℕ → Bool
is_bad_value value = nat_lt MAX_VALUE_LEN (length value)

-- the entry of a key at a node, after all events
abbrev pub entry_in : State → ℕ → List ℕ → Option ℕ
entry_in s node key = entry_of s.history.events everywhere node key

-- the writes of the entries of a node, in the order of its table, after all events
abbrev pub entries_in : State → ℕ → List ℕ
entries_in s node = table_writes s.history.events everywhere node

-- what is asked of each request, in order, each condition with its refusal
abbrev pub common_refusals : State → ℕ → ℕ → List (Bool × Refusal)
common_refusals s node reading =
    (nat_le s.history.nodes node, NoNode) ∷ (reading == 0, ZeroReading) ∷ (nat_lt MAX_READING reading, ReadingTooLarge)
    ∷ (nat_le s.history.capacity (length s.history.events), Full) ∷ []

-- what is asked of a key and a value that may be written
abbrev pub size_refusals : List ℕ → List ℕ → List (Bool × Refusal)
size_refusals key value = (is_bad_key key, KeySize) ∷ (is_bad_value value, ValueSize) ∷ []

-- what is asked of a target, of so many nodes
abbrev pub target_refusals : (nodes node to : ℕ) → List (Bool × Refusal)
target_refusals nodes node to = (nat_le nodes to, NoTarget) ∷ (to == node, SelfSend) ∷ []

-- what is asked then of the sizes and the target of a request
abbrev pub size_and_target_refusals : (nodes node : ℕ) → Request → List (Bool × Refusal)
size_and_target_refusals nodes node (ToWrite key value) = size_refusals key value
size_and_target_refusals nodes node (ToErase key) = (is_bad_key key, KeySize) ∷ []
size_and_target_refusals nodes node (ToSend to key) = (is_bad_key key, KeySize) ∷ target_refusals nodes node to
size_and_target_refusals nodes node (ToSync to) = target_refusals nodes node to
size_and_target_refusals nodes node (ToDeliver sent) = []
size_and_target_refusals nodes node (ToPull key value) = size_refusals key value

-- what is asked of the entry that a request sends, or of the message that it delivers
abbrev pub entry_and_message_refusals : State → ℕ → Request → List (Bool × Refusal)
entry_and_message_refusals s node (ToSend to key) = (is_none (entry_in s node key), NoEntry) ∷ []
entry_and_message_refusals s node (ToSync to) = (length (entries_in s node) == 0, NoEntry) ∷ []
entry_and_message_refusals s node (ToDeliver sent) = (not (is_live s sent), NoMessage) ∷ (not (sends_to s.history.events node sent), WrongNode) ∷ []
entry_and_message_refusals s node _ = []

-- what is asked then of this request
abbrev pub own_refusals : State → ℕ → Request → List (Bool × Refusal)
own_refusals s node request = size_and_target_refusals s.history.nodes node request ++ entry_and_message_refusals s node request

-- the first refusal whose condition holds
abbrev pub first_refusal : List (Bool × Refusal) → Option Refusal
first_refusal [] = None
first_refusal (r ∷ rs) = if r.0 then Some r.1 else first_refusal rs

-- what a pull makes happen: it delivers the first message of the inbox, or writes if there is none
abbrev pub pulled_kind : List ℕ → List ℕ → List ℕ → EventKind
pulled_kind [] key value = Written key value
pulled_kind (sent ∷ inbox) key value = Delivered sent

-- what an accepted request makes happen
abbrev pub kind_for : State → ℕ → Request → EventKind
kind_for s node (ToWrite key value) = Written key value
kind_for s node (ToErase key) = Erased key
kind_for s node (ToSend to key) = Sent to (unwrap_or (entry_in s node key) 0)
kind_for s node (ToSync to) = Synced to (entries_in s node)
kind_for s node (ToDeliver sent) = Delivered sent
kind_for s node (ToPull key value) = pulled_kind (inbox_of s node) key value

-- what happens at a node whose clock reads this
abbrev pub event_with : ℕ → ℕ → EventKind → Event
event_with node reading kind = record { node = node; reading = reading; kind = kind }

-- the event of an accepted request
abbrev pub event_for : State → ℕ → ℕ → Request → Event
event_for s node reading request = event_with node reading (kind_for s node request)

-- what is asked last: that the event wouldn't be too far ahead of its reading
abbrev pub drift_refusals : State → Event → List (Bool × Refusal)
drift_refusals s e = (exceeds s.limit (drift_if_next s.history.events e), TooFarAhead) ∷ []

-- the refusal of a request, if it is refused
abbrev pub refusal_of : State → ℕ → ℕ → Request → Option Refusal
refusal_of s node reading request =
    first_refusal (common_refusals s node reading ++ own_refusals s node request ++ drift_refusals s (event_for s node reading request))

-- live messages but one
abbrev pub live_without : ℕ → List ℕ → List ℕ
live_without sent live = filter (λ m. not (m == sent)) live

-- live messages but the first of an inbox
abbrev pub without_first : List ℕ → List ℕ → List ℕ
without_first [] live = live
without_first (sent ∷ inbox) live = live_without sent live

-- live messages, and the message of an event that has this target
abbrev pub live_and : List ℕ → ℕ → Option ℕ → List ℕ
live_and live event (Some to) = live ++ event ∷ []
live_and live event None = live

-- the live messages after an event: what is sent is live
abbrev pub live_with : State → EventKind → List ℕ
live_with s kind = live_and s.live (length s.history.events) (target_of kind)

-- the live messages after an accepted request: what is sent is live, and a pull ends what it delivers
abbrev pub live_after : State → ℕ → Request → List ℕ
live_after s node (ToPull key value) = without_first (inbox_of s node) s.live
live_after s node request = live_with s (kind_for s node request)

-- a state with one more event
abbrev pub state_with : State → StampedEvent → List ℕ → State
state_with s x live = record s { history = record s.history { events = s.history.events ++ x ∷ [] }; live = live }

-- the refusal if there is one, and else the new state
abbrev pub refused_or : Option Refusal → State → Result State Refusal
refused_or (Some refusal) new = Err refusal
refused_or None new = Ok new

-- the step: the first refusal whose condition holds, or the state with the request's event, which gets this stamp
abbrev pub accept : State → ℕ → ℕ → Request → Pair → Result State Refusal
accept s node reading request stamp =
    refused_or (refusal_of s node reading request)
    (state_with s (record { event = event_for s node reading request; stamp = stamp }) (live_after s node request))

-- the request was accepted: the answer names the new event and its stamp, which meets the clock rule
pub record Accepts (old : State) (node reading : ℕ) (request : Request) (answer : Accepted) (new : State) : Type 0 where
  pub step : accept old node reading request answer.stamp ≡ Ok new
  pub event : answer.event.0 ≡ length old.history.events
  pub clock : MeetsClockRule old.history.events (record { event = event_for old node reading request; stamp = answer.stamp })

-- the request is refused: for the first condition that holds, or for memory if none holds
abbrev pub Refuses : State → ℕ → ℕ → Request → Refusal → Type 0
Refuses s node reading request refusal =
    (refusal_of s node reading request ≡ Some refusal) ⊎ ((refusal ≡ Memory) × (refusal_of s node reading request ≡ None))

-- the state after a live message is lost
abbrev pub with_lost : State → ℕ → State
with_lost s sent = record s { live = live_without sent s.live }

-- an event was added, whose stamp meets the clock rule, and these messages are live
pub record IsAdded (old : State) (e : Event) (live : List ℕ) (answer : Accepted) (new : State) : Type 0 where
  pub after : new ≡ state_with old (record { event = e; stamp = answer.stamp }) live
  pub event : answer.event.0 ≡ length old.history.events
  pub clock : MeetsClockRule old.history.events (record { event = e; stamp = answer.stamp })

-- what came of adding an event: it was added, or memory was refused and nothing changed
abbrev pub AddsEvent : State → Event → List ℕ → Result Accepted Refusal → State → Type 0
AddsEvent old e live (Ok answer) new = IsAdded old e live answer new
AddsEvent old e live (Err refusal) new = (refusal ≡ Memory) × (new ≡ old)

-- what came of a request is the step's answer, and a refusal changes nothing
abbrev pub IsAnswered : State → ℕ → ℕ → Request → Result Accepted Refusal → State → Type 0
IsAnswered old node reading request (Ok answer) new = Accepts old node reading request answer new
IsAnswered old node reading request (Err refusal) new = Refuses old node reading request refusal × (new ≡ old)

-- what came of losing a message: it was live and has ended, or it was not live and nothing changed
abbrev pub EndsMessage : State → ℕ → Result (Unit {0}) NoLiveMessage → State → Type 0
EndsMessage old sent (Ok _) new = (is_live old sent ≡ true) × (new ≡ with_lost old sent)
EndsMessage old sent (Err _) new = (is_live old sent ≡ false) × (new ≡ old)

-- nothing that is asked of every request refuses it
abbrev pub PassesCommon : State → ℕ → ℕ → Type 0
PassesCommon s node reading = first_refusal (common_refusals s node reading) ≡ None
