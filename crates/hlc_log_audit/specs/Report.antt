-- The rows of the report on a log.
use Rattle.std.specs.Prelude.{◌≡◌, ◌==◌, ◌-ℤ◌, ℕ, ◌<◌, Bool, List, [], ◌∷◌, ◌++◌, IfSome, Option, Some, None, codes, count_by, decimal, if◌then◌else◌, length, map, option_map, pos, slice_index_or}
use Rattle.std.specs.Bool.{then_some}
use Rattle.std.specs.Fmt.{signed_decimal}
use Rattle.std.specs.List.{flat_map}
use Rattle.hlc_causality.specs.Places.{places_below}
use Rattle.hlc_causes.specs.Causes.{no_causes}
use Rattle.hlc_causes.specs.declared.answers.Cause.{Cause}
use Rattle.hlc_causes.specs.declared.answers.Cause.TheVariants as cause
use Rattle.hlc_causes.specs.declared.answers.Causes.{Causes}
use Rattle.hlc_csv.specs.Rows.{Fields, field_of}
use Rattle.hlc_log.specs.Events.{event_at}
use Rattle.hlc_log.specs.declared.log_event.LogEvent.{LogEvent}
use Rattle.hlc_log_text.specs.Files.{line_text}
use Rattle.hlc_log_text.specs.LogText.{name_of}
use Rattle.hlc_log_text.specs.declared.file_mark.FileMark.{FileMark}
use Rattle.hlc_log_audit.specs.Answers.{claimed_fields, drift_fields, drift_in, if_event, told_in}
use Rattle.hlc_log_audit.specs.Lines.{position_on}
use Rattle.hlc_log_audit.specs.OverLimit.{AreOvers}
use Rattle.hlc_log_audit.specs.declared.over.Over.{Over}
use Rattle.hlc_ordered_log.specs.Counts.{AreCounted, are_all_ahead}
use Rattle.hlc_ordered_log.specs.Found.{AreCauses, swapped_at, wrong_at}
use Rattle.hlc_ordered_log.specs.InOrder.{LogInOrder, reading_told, skeleton_of}
use Rattle.hlc_ordered_log.specs.Messages.{message_counts}
use Rattle.hlc_ordered_log.specs.Skew.{AreSkews, Skews}
use Rattle.hlc_ordered_log.specs.UnitFactor.{unit_factor}
use Rattle.hlc_ordered_log.specs.declared.counts.Counts.{Counts}
use Rattle.hlc_ordered_log.specs.declared.messages.MessageCounts.{MessageCounts}
use Rattle.hlc_ordered_log.specs.declared.skew.Skew.{Skew}
use Rattle.hlc_ordered_log.specs.declared.skew_nodes.SkewNodes.{SkewNodes}

-- the row of a verdict's count, if there are some
abbrev pub count_row : (word : List ℕ) → ℕ → List Fields
count_row word n = if n == 0 then [] else (codes "count" ∷ word ∷ decimal n ∷ []) ∷ []

-- the counts of all verdicts
abbrev pub count_rows : Counts → List Fields
count_rows counts =
    count_row (codes "behind") counts.behind ++ (count_row (codes "not-above") counts.not_above ++ (count_row (codes "low") counts.low
    ++ (count_row (codes "least") counts.least ++ (count_row (codes "ahead") counts.ahead ++ count_row (codes "carried") counts.rolled_over))))

-- the word that is said of an event that stands swapped with its node's event before it
abbrev pub swapped_fields : Bool → Fields
swapped_fields swapped = if swapped then codes "swapped" ∷ [] else []

-- the rule that was broken, at an event that stands swapped so or doesn't
abbrev pub cause_fields : List FileMark → LogInOrder → (swapped : Bool) → Cause → Fields
cause_fields files log swapped cause.Behind = codes "behind" ∷ []
cause_fields files log swapped (cause.NotAbovePrevious d) = codes "not-above" ∷ told_in files log d.0 ∷ swapped_fields swapped
cause_fields files log swapped (cause.NotAboveSend d) = codes "not-above" ∷ told_in files log d.0 ∷ []
cause_fields files log swapped (cause.Ahead p) = codes "ahead" ∷ decimal p.l ∷ decimal p.c ∷ []

-- the direct predecessor that a cause names, if it names one, is an event
abbrev pub NamesEvent : LogInOrder → Cause → Type 0
NamesEvent log (cause.NotAbovePrevious d) = d.0 < length log.events
NamesEvent log (cause.NotAboveSend d) = d.0 < length log.events
NamesEvent log _ = Unit {0}

-- the row of a rule that the event at a place breaks, which stands swapped or doesn't
abbrev pub cause_fields_at : List FileMark → (nodes : List (List ℕ)) → LogInOrder → (swapped : Bool) → ℕ → Cause → Fields
cause_fields_at files nodes log swapped e found =
    codes "cause" ∷ line_text files (event_at log.events e).line ∷ name_of nodes (event_at log.events e).node.0 ∷ cause_fields files log swapped found

-- the row of a rule, if the event at a place breaks it
abbrev pub cause_row : List FileMark → (nodes : List (List ℕ)) → LogInOrder → (full e : ℕ) → Option Cause → List Fields
cause_row files nodes log full e None = []
cause_row files nodes log full e (Some found) = cause_fields_at files nodes log (swapped_at log full e) e found ∷ []

-- the row of the event at a place whose message carried another stamp than such a send, if there is one
abbrev pub wrong_row : List FileMark → (nodes : List (List ℕ)) → LogInOrder → ℕ → Option ℕ → List Fields
wrong_row files nodes log e None = []
wrong_row files nodes log e (Some d) =
    (codes "cause" ∷ line_text files (event_at log.events e).line ∷ name_of nodes (event_at log.events e).node.0 ∷ codes "carried"
    ∷ told_in files log d ∷ []) ∷ []

-- the rows of the event at a place: one for each rule that it breaks, and one if its message carried another stamp than its send
abbrev pub cause_rows_at : List FileMark → (nodes : List (List ℕ)) → LogInOrder → (full e : ℕ) → Causes → List Fields
cause_rows_at files nodes log full e causes =
    cause_row files nodes log full e (then_some causes.behind cause.Behind)
    ++ (cause_row files nodes log full e (option_map (λ d. cause.NotAbovePrevious d) causes.not_above_previous)
    ++ (cause_row files nodes log full e (option_map (λ d. cause.NotAboveSend d) causes.not_above_send)
    ++ (cause_row files nodes log full e (option_map (λ p. cause.Ahead p) causes.ahead)
    ++ wrong_row files nodes log e (wrong_at log e))))

-- the causes, in the order of the lines
abbrev pub cause_rows : List FileMark → (nodes : List (List ℕ)) → LogInOrder → (full : ℕ) → List Causes → List Fields
cause_rows files nodes log full causes =
    flat_map (λ e. cause_rows_at files nodes log full e (slice_index_or causes e no_causes)) (places_below (length log.events))

-- how many events a node has
abbrev pub events_at : LogInOrder → ℕ → ℕ
events_at log node = count_by (λ event. event.node == node) (skeleton_of log)

-- the row of a node
abbrev pub node_row : List FileMark → (nodes : List (List ℕ)) → LogInOrder → ℕ → Fields
node_row files nodes log node =
    codes "node" ∷ name_of nodes node ∷ decimal (events_at log node) ∷ drift_fields files log (drift_in log node)

-- the nodes, in the order in which the log first names them
abbrev pub node_rows : List FileMark → (nodes : List (List ℕ)) → LogInOrder → List Fields
node_rows files nodes log = map (node_row files nodes log) (places_below (length nodes))

-- the row of the messages
abbrev pub message_row : MessageCounts → Fields
message_row counts =
    codes "messages" ∷ decimal counts.sent ∷ decimal counts.received ∷ decimal counts.repeated ∷ decimal counts.unreceived ∷ []

-- the row of a skew: how far the first clock is ahead, with its sign, and the lines of the message that shows it
abbrev pub skew_fields : List FileMark → (nodes : List (List ℕ)) → LogInOrder → (from to : ℕ) → Skew → Fields
skew_fields files nodes log from to skew =
    codes "skew" ∷ name_of nodes from ∷ name_of nodes to ∷ signed_decimal (pos skew.sent_at -ℤ pos skew.delivered_at)
    ∷ told_in files log skew.send.0 ∷ told_in files log skew.delivery.0 ∷ []

-- the message that shows a skew has its two events
pub record IsSkewOfEvents (log : LogInOrder) (skew : Skew) : Type 0 where
  pub send : skew.send.0 < length log.events
  pub delivery : skew.delivery.0 < length log.events

-- the row of the skew of two nodes
abbrev pub skew_row : List FileMark → (nodes : List (List ℕ)) → LogInOrder → SkewNodes × Skew → Fields
skew_row files nodes log skew = skew_fields files nodes log skew.0.from.0 skew.0.to.0 skew.1

-- these are the rows of the skews, in the order of the nodes to which messages went, and of those from which they came
abbrev pub AreSkewRows : List FileMark → (nodes : List (List ℕ)) → LogInOrder → List Fields → Type 0
AreSkewRows files nodes log rows = (skews : Skews) × AreSkews (skeleton_of log) (reading_told log) skews × (rows ≡ map (skew_row files nodes log) skews)

-- the line where the l that the event of a line claims came in: the first on the way that answers the question `claimed`
abbrev pub origin_field : List FileMark → LogInOrder → (line : ℕ) → List ℕ
origin_field files log line = field_of (if_event (position_on log line) (claimed_fields files log line)) 4

-- the row of a node whose claims are over a limit: how many, the line of the first, how far the furthest is above its reading, and where its l
-- came in
abbrev pub over_fields : List FileMark → (nodes : List (List ℕ)) → LogInOrder → (node : ℕ) → Over → Fields
over_fields files nodes log node over =
    codes "over" ∷ name_of nodes node ∷ decimal over.claims ∷ line_text files (event_at log.events over.first.0).line ∷ decimal over.ahead
    ∷ origin_field files log (event_at log.events over.furthest.0).line ∷ []

-- the row of a node, if its claims are
abbrev pub over_row : List FileMark → (nodes : List (List ℕ)) → LogInOrder → (node : ℕ) → Option Over → List Fields
over_row files nodes log node None = []
over_row files nodes log node (Some over) = over_fields files nodes log node over ∷ []

-- the places that are told of claims over a limit are those of events
pub record NamesPlaces (log : LogInOrder) (over : Over) : Type 0 where
  pub first : over.first.0 < length log.events
  pub furthest : over.furthest.0 < length log.events

-- the rows of all nodes
abbrev pub over_rows : List FileMark → (nodes : List (List ℕ)) → LogInOrder → List (Option Over) → List Fields
over_rows files nodes log overs = flat_map (λ node. over_row files nodes log node (slice_index_or overs node None)) (places_below (length nodes))

-- these are the rows of the nodes whose claims are over the limit, if there is one
abbrev pub AreOverRows : List FileMark → (nodes : List (List ℕ)) → LogInOrder → (limit : Option ℕ) → List Fields → Type 0
AreOverRows files nodes log None rows = rows ≡ []
AreOverRows files nodes log (Some limit) rows =
    (overs : List (Option Over)) × AreOvers limit (length nodes) log.events overs × (rows ≡ over_rows files nodes log overs)

-- the row of how many units of l make one of the readings, if they look as if they had different units
abbrev pub factor_row : Option ℕ → List Fields
factor_row None = []
factor_row (Some factor) = (codes "units" ∷ decimal factor ∷ []) ∷ []

-- the same where all stamps are ahead
abbrev pub unit_rows : Counts → List LogEvent → List Fields
unit_rows counts events = if are_all_ahead counts then factor_row (unit_factor events) else []

-- the rows of the report: the counts of the verdicts, the causes, the nodes, the messages, the skews, and different units
pub record IsReport (files : List FileMark) (nodes : List (List ℕ)) (log : LogInOrder) (full : ℕ) (rows : List Fields) : Type 0 where
  pub counts : Counts
  pub counted : AreCounted log full counts
  pub causes : List Causes
  pub are_causes : AreCauses log full causes
  pub skews : List Fields
  pub are_skews : AreSkewRows files nodes log skews
  pub rows_are : rows ≡ count_rows counts ++ (cause_rows files nodes log full causes ++ (node_rows files nodes log
      ++ (message_row (message_counts log) ∷ (skews ++ unit_rows counts log.events))))
