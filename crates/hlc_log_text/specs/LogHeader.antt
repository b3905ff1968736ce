-- Records of a log, each read by itself.
use Rattle.std.specs.Prelude.{◌≡◌, Bool, true, false, IfOk, List, ℕ, [], ◌∷◌, ◌++◌, Option, None, Some, Result, Ok, Err}
use Rattle.hlc_csv.specs.Rows.{Fields, field_of}
use Rattle.hlc_log.specs.Events.{IsSmallCarried}
use Rattle.hlc_log_text.specs.LogItem.{Begins, Fails, LogItem, Names, Tells, columns_then, header_columns, header_item, if_event, if_file, is_at_start, item_after}
use Rattle.hlc_log_text.specs.NamedEvent.{message_place, told_by, with_extras}
use Rattle.hlc_log_text.specs.Question.{Asked}
use Rattle.hlc_log_text.specs.declared.bad_log.BadLog.{BadLog}
use Rattle.hlc_log_text.specs.declared.columns.Columns.{Columns}
use Rattle.hlc_log_text.specs.declared.extras.Extras.{Extras}
use Rattle.hlc_log_text.specs.declared.log_header.LogHeader.{LogHeader}
use Rattle.hlc_log_text.specs.declared.log_header.RecordItem.{RecordItem}
use Rattle.hlc_log_text.specs.declared.log_header.RecordItem.TheVariants.{Event, Other}
use Rattle.hlc_log_text.specs.declared.log_rules.LogRules.{LogRules}
use Rattle.hlc_log_text.specs.declared.record_head.RecordHead.{RecordHead}
use Rattle.hlc_log_text.specs.declared.stamp_form.StampForm.{StampForm}

-- what is kept of a log, after records that say this
pub record IsHeaderAfter (items : List LogItem) (header : LogHeader) : Type 0 where
  pub columns : header.columns ≡ header_columns items
  pub at_start : header.at_start ≡ is_at_start items

-- what names no columns and begins no file
abbrev pub IsPassed : LogItem → Type 0
IsPassed item = (if_file item ≡ None) × ((columns : Option Columns) → columns_then columns item ≡ columns)

-- a record that says such a thing is taken in, whatever was read before
abbrev pub PassesNext : (old new : LogHeader) → Type 0
PassesNext old new =
    (items : List LogItem) (item : LogItem) → IsPassed item → IsHeaderAfter items old → IsHeaderAfter (items ++ item ∷ []) new

-- a header that names these columns is taken in, whatever was read before; or it is bad for this reason, and what is kept stays
abbrev pub TakesHeader : StampForm → Columns → (old new : LogHeader) → Option BadLog → Type 0
TakesHeader form columns old new None =
    (header_item form columns ≡ Ok (Names columns)) × ((items : List LogItem) → IsHeaderAfter (items ++ Names columns ∷ []) new)
TakesHeader form columns old new (Some why) = (header_item form columns ≡ Err why) × (new ≡ old)

-- what a record says, or that it is bad
abbrev pub said_item : Result LogItem BadLog → LogItem
said_item (Ok item) = item
said_item (Err why) = Fails why

-- what a record says is told so: of an event all but its names, which stand in these fields; the name of a sending node and a label aren't told
abbrev pub IsTold : StampForm → (placed : Fields) → LogItem → RecordItem → Type 0
IsTold form placed item (Event head extras) =
    (from label : Option (List ℕ))
    × (item ≡ Tells (with_extras extras (told_by head (field_of placed 1) (field_of placed (message_place form)) from label)))
IsTold form placed item Other = if_event item ≡ None

-- so is what it is to say, or why it says nothing
abbrev pub IsSaid : StampForm → (placed : Fields) → Result LogItem BadLog → Result RecordItem BadLog → Type 0
IsSaid form placed said (Ok told) = (item : LogItem) × (said ≡ Ok item) × IsTold form placed item told
IsSaid form placed said (Err why) = said ≡ Err why

-- after records that say anything the next one says this
abbrev pub SaysNext : LogRules → (old : LogHeader) → Fields → (placed : Fields) → (new : LogHeader) → Result RecordItem BadLog → Type 0
SaysNext rules old fields placed new told =
    (items : List LogItem) → IsHeaderAfter items old →
    let said = item_after rules items fields in
    IsSaid rules.form placed said told × IsHeaderAfter (items ++ said_item said ∷ []) new

-- a stamp that is told as carried leaves room for each c above it
abbrev pub IsSmallTold : RecordItem → Type 0
IsSmallTold (Event head extras) = IsSmallCarried extras.carried
IsSmallTold Other = Unit {0}

abbrev pub HasSmallCarried : Result RecordItem BadLog → Type 0
HasSmallCarried told = IfOk told IsSmallTold

abbrev pub HasSmallHead : Result (RecordHead × Extras) BadLog → Type 0
HasSmallHead told = IfOk told (λ told. IsSmallCarried told.1.carried)

-- what names no columns, begins no file and tells of no event
abbrev pub IsAside : LogItem → Type 0
IsAside item = (if_event item ≡ None) × IsPassed item

-- why a record asks no question, if it doesn't
abbrev pub asked_fault : Result Asked BadLog → Option BadLog
asked_fault (Ok asked) = None
asked_fault (Err why) = Some why

-- what a record that begins with no word of an event is to say: it begins a file, or says something else
abbrev pub BeginsFile : Result LogItem BadLog → Result Bool BadLog → Type 0
BeginsFile said (Ok true) = (name : List ℕ) × (said ≡ Ok (Begins name))
BeginsFile said (Ok false) = (item : LogItem) × (said ≡ Ok item) × IsAside item
BeginsFile said (Err why) = said ≡ Err why

-- a record of an event is to say this, but for its names, or is bad for this reason
abbrev pub IsHeadSaid : StampForm → (placed : Fields) → Result LogItem BadLog → Result (RecordHead × Extras) BadLog → Type 0
IsHeadSaid form placed said (Ok (head, extras)) = (item : LogItem) × (said ≡ Ok item) × IsTold form placed item (Event head extras)
IsHeadSaid form placed said (Err why) = said ≡ Err why
