-- What may be asked about a log.
use Rattle.std.specs.Prelude.{Bool, true, false, ◌==◌, ◌≡◌, ◌↔◌, ℕ, ◌+◌, List, [], ◌∷◌, length, Option, Some, None, Result, Ok, Err, bytes_eq, codes, drop, if◌then◌else◌, nat_le, ok_or, option_map, take}
use Rattle.memchr.specs.Find.{is_byte, last_of, places}
use Rattle.hlc_csv.specs.Number.{number_of}
use Rattle.hlc_csv.specs.Records.{AreAllOf}
use Rattle.hlc_csv.specs.TextEnd.{IsClosed}
use Rattle.hlc_csv.specs.Rows.{Fields, field_of}
use Rattle.hlc_log_text.specs.declared.bad_log.BadLog.{BadLog}
use Rattle.hlc_log_text.specs.declared.bad_log.BadLog.TheVariants as bad
use Rattle.hlc_log_text.specs.declared.cause_word.CauseWord.{CauseWord}
use Rattle.hlc_log_text.specs.declared.log_column.LogColumn.TheVariants as column
use Rattle.hlc_log_text.specs.declared.location.Location.{Location}
use Rattle.hlc_log_text.specs.declared.question.LogQuestion.{LogQuestion}
use Rattle.hlc_log_text.specs.declared.question.LogQuestion.TheVariants as question
use Rattle.hlc_log_text.specs.declared.question_word.QuestionWord.{QuestionWord}
use Rattle.hlc_log_text.specs.declared.question_word.QuestionWord.TheVariants as word
use Rattle.hlc_log_text.specs.CauseWord.{cause_word_of}
use Rattle.hlc_log_text.specs.NamedEvent.{is_name}

-- what a record asks about events, by where their lines stand, or about a node, by its name, and a rule
pub data Asked : Type 0 where
  Explain : (event : Location) → Asked
  Check : (event : Location) (chain : List Location) → Asked
  Relation : (first second : Location) → Asked
  Influenced : (event : Location) → Asked
  Drift : (node : List ℕ) → Asked
  Claimed : (event : Location) → Asked
  Event : (event : Location) → Asked
  Why : (first second : Location) → Asked
  Tainted : (event : Location) → Asked
  First : (node : List ℕ) (rule : CauseWord) → Asked

-- a question of the program, without its types
abbrev pub plain_asked : LogQuestion → Asked
plain_asked (question.Explain event) = Explain event
plain_asked (question.Check event chain) = Check event chain.items
plain_asked (question.Relation first second) = Relation first second
plain_asked (question.Influenced event) = Influenced event
plain_asked (question.Drift node) = Drift node
plain_asked (question.Claimed event) = Claimed event
plain_asked (question.Event event) = Event event
plain_asked (question.Why first second) = Why first second
plain_asked (question.Tainted event) = Tainted event
plain_asked (question.First node rule) = First node rule

-- what was read as a question, or the reason for which it is none
abbrev pub plain_read : Result LogQuestion BadLog → Result Asked BadLog
plain_read (Ok question) = Ok (plain_asked question)
plain_read (Err why) = Err why

-- the word that a field spells
abbrev pub question_word_of : List ℕ → Option QuestionWord
question_word_of field =
    if bytes_eq field (codes "explain") then Some word.Explain
    else if bytes_eq field (codes "check") then Some word.Check
    else if bytes_eq field (codes "relation") then Some word.Relation
    else if bytes_eq field (codes "influenced") then Some word.Influenced
    else if bytes_eq field (codes "drift") then Some word.Drift
    else if bytes_eq field (codes "claimed") then Some word.Claimed
    else if bytes_eq field (codes "event") then Some word.Event
    else if bytes_eq field (codes "why") then Some word.Why
    else if bytes_eq field (codes "tainted") then Some word.Tainted
    else if bytes_eq field (codes "first") then Some word.First
    else None

-- whether a question of a word may have so many fields, the word among them: a list of lines may have any length
abbrev pub takes_fields : QuestionWord → ℕ → Bool
takes_fields word.Explain fields = fields == 2
takes_fields word.Check fields = nat_le 2 fields
takes_fields word.Relation fields = fields == 3
takes_fields word.Influenced fields = fields == 2
takes_fields word.Drift fields = fields == 2
takes_fields word.Claimed fields = fields == 2
takes_fields word.Event fields = fields == 2
takes_fields word.Why fields = fields == 3
takes_fields word.Tainted fields = fields == 2
takes_fields word.First fields = fields == 3

-- the line of this number in a file, or in none
abbrev pub numbered : (file : Option (List ℕ)) → Option ℕ → Option Location
numbered file number = option_map (λ line. record { file = file; line = line }) number

-- what a field names, by the last colon in it, if it has one: NAME:LINE, if that may be a name, or LINE
abbrev pub location_by : (field : List ℕ) → (colon : Option ℕ) → Option Location
location_by field None = numbered None (number_of field)
location_by field (Some at) =
    if is_name (take at field) then numbered (Some (take at field)) (number_of (drop (at + 1) field)) else None

abbrev pub location_of_field : List ℕ → Option Location
location_of_field field = location_by field (last_of (places (is_byte 58) field))

-- what the field at a place names
abbrev pub location_in : Fields → ℕ → Option Location
location_in fields place = location_of_field (field_of fields place)

-- a location before others, if all are there
abbrev pub location_before : Option Location → Option (List Location) → Option (List Location)
location_before (Some location) (Some locations) = Some (location ∷ locations)
location_before (Some location) None = None
location_before None locations = None

-- what fields name, if each names a location
abbrev pub locations_in : Fields → Option (List Location)
locations_in [] = Some []
locations_in (field ∷ fields) = location_before (location_of_field field) (locations_in fields)

-- whether events explain the stamp of one, where the locations of all are there
abbrev pub check_of : Option Location → Option (List Location) → Option Asked
check_of (Some event) (Some chain) = Some (Check event chain)
check_of (Some event) None = None
check_of None chain = None

abbrev pub check_asked : Fields → Option Asked
check_asked fields = check_of (location_in fields 1) (locations_in (drop 2 fields))

-- how two events stand in happened-before, where the locations of both are there
abbrev pub relation_of : Option Location → Option Location → Option Asked
relation_of (Some first) (Some second) = Some (Relation first second)
relation_of (Some first) None = None
relation_of None second = None

abbrev pub relation_asked : Fields → Option Asked
relation_asked fields = relation_of (location_in fields 1) (location_in fields 2)

-- how one event came to know of another, where the locations of both are there
abbrev pub why_of : Option Location → Option Location → Option Asked
why_of (Some first) (Some second) = Some (Why first second)
why_of (Some first) None = None
why_of None second = None

abbrev pub why_asked : Fields → Option Asked
why_asked fields = why_of (location_in fields 1) (location_in fields 2)

-- the same where the location of the first event is there
abbrev pub check_from : Location → Fields → Result Asked BadLog
check_from event fields = ok_or (check_of (Some event) (locations_in (drop 2 fields))) bad.Line

abbrev pub relation_from : Location → Fields → Result Asked BadLog
relation_from first fields = ok_or (relation_of (Some first) (location_in fields 2)) bad.Line

abbrev pub why_from : Location → Fields → Result Asked BadLog
why_from first fields = ok_or (why_of (Some first) (location_in fields 2)) bad.Line

-- how far the stamps of the node of a name ran ahead, if it may be a name
abbrev pub drift_asked : List ℕ → Result Asked BadLog
drift_asked name = if is_name name then Ok (Drift name) else Err (bad.Name column.Node)

-- which event of the node of a name is the first to break the rule of a word, if it may be a name, and if a rule has the word
abbrev pub first_asked : (name rule : List ℕ) → Result Asked BadLog
first_asked name rule =
    if is_name name then ok_or (option_map (λ broken. First name broken) (cause_word_of rule)) bad.Fields else Err (bad.Name column.Node)

-- what a record of a word and as many fields as it has asks
abbrev pub asked_by_word : QuestionWord → Fields → Result Asked BadLog
asked_by_word word.Explain fields = ok_or (option_map (λ event. Explain event) (location_in fields 1)) bad.Line
asked_by_word word.Check fields = ok_or (check_asked fields) bad.Line
asked_by_word word.Relation fields = ok_or (relation_asked fields) bad.Line
asked_by_word word.Influenced fields = ok_or (option_map (λ event. Influenced event) (location_in fields 1)) bad.Line
asked_by_word word.Drift fields = drift_asked (field_of fields 1)
asked_by_word word.Claimed fields = ok_or (option_map (λ event. Claimed event) (location_in fields 1)) bad.Line
asked_by_word word.Event fields = ok_or (option_map (λ event. Event event) (location_in fields 1)) bad.Line
asked_by_word word.Why fields = ok_or (why_asked fields) bad.Line
asked_by_word word.Tainted fields = ok_or (option_map (λ event. Tainted event) (location_in fields 1)) bad.Line
asked_by_word word.First fields = first_asked (field_of fields 1) (field_of fields 2)

-- the word is known: then the number of fields is right, and then the numbers or the name
abbrev pub asked_after_word : Option QuestionWord → Fields → Result Asked BadLog
asked_after_word None fields = Err bad.Word
asked_after_word (Some w) fields = if takes_fields w (length fields) then asked_by_word w fields else Err bad.Fields

-- what a record asks, or the first reason for which it asks nothing
abbrev pub asked_of : Fields → Result Asked BadLog
asked_of fields = asked_after_word (question_word_of (field_of fields 0)) fields

-- the answer says whether a text is one record, whose quotation marks are closed: if so, it is this one
abbrev pub IsOneIf : (text : List ℕ) → Fields → (answer : Bool) → Type 0
IsOneIf text fields true = AreAllOf (Some text) (fields ∷ []) × IsClosed (Some text)
IsOneIf text fields false = (other : Fields) → AreAllOf (Some text) (other ∷ []) → IsClosed (Some text) → ⊥

-- a text is one record, which asks this, and its quotation marks are closed
abbrev pub IsQuestionText : List ℕ → Asked → Type 0
IsQuestionText text asked = (fields : Fields) × AreAllOf (Some text) (fields ∷ []) × (asked_of fields ≡ Ok asked) × IsClosed (Some text)

-- what was found in a text is what the text asks: nothing was found if it asks nothing
abbrev pub FindsQuestion : List ℕ → Option LogQuestion → Type 0
FindsQuestion text found = (asked : Asked) → (option_map plain_asked found ≡ Some asked) ↔ IsQuestionText text asked
