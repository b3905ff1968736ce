-- The slots of a log, and what is kept aside.
use Rattle.std.specs.Prelude.{ℕ, Bool, true, false, ◌+◌, ◌-◌, ◌≤◌, ◌==◌, List, [], ◌∷◌, ◌++◌, Option, None, is_some, length, not, replicate, slice_index_or}
use Rattle.hlc_stamp.specs.declared.limits.TheConstants.{MAX_CAPACITY}
use Rattle.hlc_stamp.specs.Order.{Pair}
use Rattle.hlc_log.specs.declared.asides.Aside.{Aside}
use Rattle.hlc_log.specs.declared.asides.Asides.{Asides}
use Rattle.hlc_log.specs.declared.log_event.LogEvent.{LogEvent}
use Rattle.hlc_log.specs.declared.log_event.LogKind.{LogKind}
use Rattle.hlc_log.specs.declared.log_event.LogKind.TheVariants as kind
use Rattle.hlc_log.specs.declared.message_id.MessageId.{MessageId}
use Rattle.hlc_log.specs.declared.slot.Role.{Role}
use Rattle.hlc_log.specs.declared.slot.Role.TheVariants as role
use Rattle.hlc_log.specs.declared.slot.Slot.{Slot}
use Rattle.hlc_log.specs.declared.slot.Told.{Told}
use Rattle.hlc_log.specs.declared.slot.Told.TheVariants as told
use Rattle.hlc_log.specs.Log.{StoredLog}

-- what an event is, by what it does with its message
abbrev pub kind_by : Role → MessageId → LogKind
kind_by role.Local message = kind.Local
kind_by role.Send message = kind.Send message
kind_by role.Receive message = kind.Receive message
kind_by role.Restart message = kind.Restart
kind_by role.Outside message = kind.Outside

-- whether what is told of an event is its reading, and whether it is its stamp
abbrev pub tells_reading : Told → Bool
tells_reading told.Both = true
tells_reading told.Reading = true
tells_reading told.Stamp = false
tells_reading told.Neither = false

abbrev pub tells_stamp : Told → Bool
tells_stamp told.Both = true
tells_stamp told.Reading = false
tells_stamp told.Stamp = true
tells_stamp told.Neither = false

-- the event that a slot holds, with what is told of it aside
abbrev pub stored_event : Aside → Slot → LogEvent
stored_event aside slot =
    let stamp : Pair = record { l = slot.l; c = slot.c } in
    record {
      node = slot.node;
      reading = slot.reading;
      has_reading = tells_reading slot.told;
      kind = kind_by slot.role slot.message;
      stamp = stamp;
      has_stamp = tells_stamp slot.told;
      carried = aside.carried;
      seq = aside.seq;
      line = slot.line;
    }

-- what the message of the event at a place carried, if that is kept
abbrev pub carried_at : List (Option Pair) → ℕ → Option Pair
carried_at carried e = slice_index_or carried e None

-- the seq of the event at a place: 0 if none is kept
abbrev pub kept_seq_at : List ℕ → ℕ → ℕ
kept_seq_at seqs e = slice_index_or seqs e 0

-- both
abbrev pub aside_at : Asides → ℕ → Aside
aside_at asides e = record { carried = carried_at asides.carried.items e; seq = kept_seq_at asides.seqs.items e }

-- what is told aside of an event
abbrev pub aside_of : LogEvent → Aside
aside_of event = record { carried = event.carried; seq = event.seq }

-- a list with an item at a place at its end or past it, and nothing between, if the item is told
abbrev pub put_told : {A : Type 0} → (is_told : Bool) → A → List A → ℕ → A → List A
put_told true nothing items place item = items ++ (replicate (place - length items) nothing ++ item ∷ [])
put_told false nothing items place item = items

-- what is kept with one more event, which stands after all of which something is kept
abbrev pub with_carried : List (Option Pair) → ℕ → Option Pair → List (Option Pair)
with_carried carried place stamp = put_told (is_some stamp) None carried place stamp

abbrev pub with_seq : List ℕ → ℕ → ℕ → List ℕ
with_seq seqs place seq = put_told (not (seq == 0)) 0 seqs place seq

-- the events that slots hold, of which the first stands at a place, with what is told of them aside
abbrev pub stored_from : Asides → (place : ℕ) → List Slot → List LogEvent
stored_from asides place [] = []
stored_from asides place (slot ∷ slots) = stored_event (aside_at asides place) slot ∷ stored_from asides (place + 1) slots

abbrev pub stored_events : Asides → List Slot → List LogEvent
stored_events asides slots = stored_from asides 0 slots

-- the value of a log
abbrev pub stored_log : Asides → List Slot → StoredLog
stored_log asides slots = record { events = stored_events asides slots }

-- what is always true of a log
pub record AreSlots (asides : Asides) (slots : List Slot) : Type 0 where
  pub few : length slots ≤ MAX_CAPACITY
  pub carried_few : length asides.carried.items ≤ length slots
  pub seqs_few : length asides.seqs.items ≤ length slots
