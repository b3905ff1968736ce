-- The rows of a log that tell of events.
use Rattle.std.specs.Prelude.{◌≡◌, ◌⊎◌, ℕ, ◌≤◌, List, [], ◌∷◌, codes, length}
use Rattle.hlc_stamp.specs.declared.limits.TheConstants.{MAX_READING}
use Rattle.hlc_csv.specs.Rows.{Fields, text_of_row}
use Rattle.hlc_log_line.specs.Room.{IsWritten}
use Rattle.hlc_log_line.specs.StampText.{number_or_none}
use Rattle.hlc_log_line.specs.declared.log_event.LogEvent.{LogEvent}
use Rattle.hlc_log_line.specs.declared.log_event.TheConstants.{MAX_LABEL_LEN, MAX_NAME_LEN}
use Rattle.hlc_log_line.specs.declared.log_kind.LogKind.{LogKind}
use Rattle.hlc_log_line.specs.declared.log_kind.LogKind.TheVariants as kind

-- the word of a kind
abbrev pub kind_word : LogKind → List ℕ
kind_word kind.Local = codes "local"
kind_word kind.Send = codes "send"
kind_word kind.Receive = codes "receive"
kind_word kind.Restart = codes "restart"

-- an event of a kind has this stamp: only a receive may have none
abbrev pub IsStamped : LogKind → (stamp : List ℕ) → Type 0
IsStamped kind.Receive stamp = Unit {0}
IsStamped _ stamp = 1 ≤ length stamp

-- what an event of a kind received is named: by the message, or by the node that sent it and the stamp that it carried
abbrev pub IsNamed : LogKind → (message from carried : List ℕ) → Type 0
IsNamed kind.Receive message from carried = (1 ≤ length message) ⊎ ((1 ≤ length from) × (1 ≤ length carried))
IsNamed _ message from carried = Unit {0}

-- its node has a name, and none of its texts is too long
pub record HasGoodTexts (event : LogEvent) : Type 0 where
  pub some_node : 1 ≤ length event.node.now
  pub node : length event.node.now ≤ MAX_NAME_LEN
  pub message : length event.message.now ≤ MAX_NAME_LEN
  pub from : length event.from.now ≤ MAX_NAME_LEN
  pub label : length event.label.now ≤ MAX_LABEL_LEN

-- a log may have an event with this stamp, to which a message came that carried this one; each text may be that of none
pub record IsLoggable (event : LogEvent) (stamp carried : List ℕ) : Type 0 where
  pub texts : HasGoodTexts event
  pub reading : event.reading ≤ MAX_READING
  pub stamped : IsStamped event.kind stamp
  pub named : IsNamed event.kind event.message.now event.from.now carried

-- the row of an event, under the header kind,node,reading,stamp,message,from,carried,label
abbrev pub log_row : LogEvent → (stamp carried : List ℕ) → Fields
log_row event stamp carried =
    kind_word event.kind ∷ event.node.now ∷ number_or_none event.reading ∷ stamp ∷ event.message.now ∷ event.from.now ∷ carried ∷ event.label.now ∷ []

-- the row of an event is written into a room, if a log may have the event; else nothing is
pub record IsRowWritten (event : LogEvent) (stamp carried : List ℕ) (old new : List ℕ) (told : ℕ) : Type 0 where
  pub row : IsLoggable event stamp carried → IsWritten old new (text_of_row (log_row event stamp carried)) told
  pub none : ¬ IsLoggable event stamp carried → (told ≡ 0) × (new ≡ old)
