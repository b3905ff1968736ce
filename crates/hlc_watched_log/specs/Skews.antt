-- How far one node's clock is ahead of another's, as the messages that were judged show it.
use Rattle.std.specs.Prelude.{ℕ, ◌+◌, Bool, true, List, [], ◌∷◌, Option, Some, None, codes, fold, if◌then◌else◌, map, nat_lt, pos, ◌-ℤ◌}
use Rattle.std.specs.Fmt.{signed_decimal}
use Rattle.std.specs.BTreeMap.{insert_entry, is_at}
use Rattle.std.specs.Map.{lookup}
use Rattle.hlc_csv.specs.Rows.{Fields}
use Rattle.hlc_ordered_log.specs.Skew.{by_nodes}
use Rattle.hlc_ordered_log.specs.declared.skew_nodes.SkewNodes.{SkewNodes}
use Rattle.hlc_log_text.specs.LogText.{name_of}
use Rattle.hlc_watch.specs.declared.records.Claimed.{Claimed}
use Rattle.hlc_watch.specs.declared.records.Records.{Records}
use Rattle.hlc_watch.specs.declared.ruled_event.RuledEvent.{RuledEvent}
use Rattle.hlc_watched_log.specs.Files.{told_line}
use Rattle.hlc_watched_log.specs.declared.log_names.LogNames.{LogNames}
use Rattle.hlc_watched_log.specs.declared.shown_skew.ShownSkew.{ShownSkew}

-- skews by their nodes, in the order of these
abbrev pub ShownSkews : Type 0
ShownSkews = List (SkewNodes × ShownSkew)

-- what a message shows that an event receives from a send, if both their readings are told
abbrev pub shown_by : RuledEvent → Claimed → (received_at sent_at : Option ℕ) → Option (SkewNodes × ShownSkew)
shown_by event send (Some received_at) (Some sent_at) = Some (
  record { to = event.node; from = send.node },
  record { sent_at = sent_at; received_at = received_at; send = send.line; receive = event.line },
)
shown_by event send _ _ = None

abbrev pub shown_from : RuledEvent → (send : Option Claimed) → Option (SkewNodes × ShownSkew)
shown_from event None = None
shown_from event (Some send) = shown_by event send event.reading send.reading

-- what the message of an event shows whose records are there
abbrev pub shown : Records → Option (SkewNodes × ShownSkew)
shown records = shown_from records.event records.send

-- whether a skew is greater than the greatest before it, if there is one
abbrev pub is_greater : ShownSkew → Option ShownSkew → Bool
is_greater skew None = true
is_greater skew (Some first) = nat_lt (first.sent_at + skew.received_at) (skew.sent_at + first.received_at)

-- the greatest from one node to another so far, if there is one
abbrev pub skew_between : ShownSkews → SkewNodes → Option ShownSkew
skew_between skews nodes = lookup (is_at (by_nodes nodes)) skews

-- of two nodes the greater is kept, and the first if they are equal
abbrev pub with_shown : ShownSkews → Option (SkewNodes × ShownSkew) → ShownSkews
with_shown skews None = skews
with_shown skews (Some (nodes, skew)) = if is_greater skew (skew_between skews nodes) then insert_entry by_nodes skews nodes skew else skews

-- with those that some records show, one after another
abbrev pub with_judged : ShownSkews → Records → ShownSkews
with_judged skews records = with_shown skews (shown records)

abbrev pub skews_after : ShownSkews → List Records → ShownSkews
skews_after skews complete = fold with_judged skews complete

-- the row of a skew: how far the first clock is ahead, with its sign, and the lines of the message that shows it
abbrev pub skew_fields : LogNames → SkewNodes → ShownSkew → Fields
skew_fields names nodes skew =
    codes "skew" ∷ name_of names.nodes nodes.from.0 ∷ name_of names.nodes nodes.to.0 ∷ signed_decimal (pos skew.sent_at -ℤ pos skew.received_at)
    ∷ told_line names.files skew.send ∷ told_line names.files skew.receive ∷ []

abbrev pub skew_row : LogNames → SkewNodes × ShownSkew → Fields
skew_row names skew = skew_fields names skew.0 skew.1

abbrev pub skew_rows : LogNames → ShownSkews → List Fields
skew_rows names skews = map (skew_row names) skews
