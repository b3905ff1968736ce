-- What is counted of a watched log, and the rows that tell it.
use Rattle.std.specs.Prelude.{◌+◌, ◌-◌, ◌^◌, ◌||◌, ℕ, Bool, List, [], ◌∷◌, Option, Some, None, codes, decimal, if◌then◌else◌, length, map, min, false, nat_le, slice_index_or, slice_set}
use Rattle.hlc_causality.specs.Places.{places_below}
use Rattle.hlc_csv.specs.Rows.{Fields}
use Rattle.hlc_log.specs.declared.log_event.LogEvent.{LogEvent}
use Rattle.hlc_log.specs.declared.log_event.LogKind.{LogKind}
use Rattle.hlc_log.specs.declared.log_event.LogKind.TheVariants as kind
use Rattle.hlc_log_text.specs.LogText.{name_of}
use Rattle.hlc_watch.specs.declared.file_line.FileLine.{FileLine}
use Rattle.hlc_watched_log.specs.Files.{told_line}
use Rattle.hlc_watched_log.specs.Numbers.{with_number}
use Rattle.hlc_watched_log.specs.declared.log_names.LogNames.{LogNames}
use Rattle.hlc_watched_log.specs.declared.node_tally.FarClaim.{FarClaim}
use Rattle.hlc_watched_log.specs.declared.node_tally.NodeTally.{NodeTally}
use Rattle.hlc_watched_log.specs.declared.watch_counts.WatchCounts.{WatchCounts}

-- one more, or the greatest number, if there are more
abbrev pub one_more : ℕ → ℕ
one_more n = min (n + 1) (2 ^ 64 - 1)

-- how far the l that an event claims is above its reading, if the log tells that
abbrev pub claimed_ahead : LogEvent → Option ℕ
claimed_ahead event = if event.has_reading then Some (event.stamp.l - event.reading) else None

-- of two claims the one that is further above its reading, or the first if none is
abbrev pub further : Option FarClaim → FarClaim → FarClaim
further None claim = claim
further (Some far) claim = if nat_le claim.ahead far.ahead then far else claim

-- the furthest claim of a node, once an event on a line claims to be so far ahead
abbrev pub furthest_with : Option FarClaim → FileLine → Option ℕ → Option FarClaim
furthest_with furthest line None = furthest
furthest_with furthest line (Some ahead) = Some (further furthest (record { ahead = ahead; line = line }))

-- what is counted of a node: nothing; and with one event more, on a line
abbrev pub no_tally : NodeTally
no_tally = record { events = 0; furthest = None }

abbrev pub with_event : NodeTally → FileLine → LogEvent → NodeTally
with_event tally line event = record { events = one_more tally.events; furthest = furthest_with tally.furthest line (claimed_ahead event) }

-- of all nodes, the last of which may be new
abbrev pub with_node : List NodeTally → (node : ℕ) → List NodeTally
with_node tallies node = with_number no_tally tallies node

abbrev pub tallies_after : List NodeTally → FileLine → LogEvent → List NodeTally
tallies_after tallies line event =
    let all = with_node tallies event.node.0 in slice_set all event.node.0 (with_event (slice_index_or all event.node.0 no_tally) line event)

-- the row of a node: how many events, how far the furthest claim is above its reading, and on which line
abbrev pub furthest_fields : (files : List (List ℕ)) → Option FarClaim → Fields
furthest_fields files None = codes "none" ∷ []
furthest_fields files (Some far) = decimal far.ahead ∷ told_line files far.line ∷ []

abbrev pub tally_row : LogNames → (node : ℕ) → NodeTally → Fields
tally_row names node tally = codes "node" ∷ name_of names.nodes node ∷ decimal tally.events ∷ furthest_fields names.files tally.furthest

abbrev pub node_row : LogNames → List NodeTally → (node : ℕ) → Fields
node_row names tallies node = tally_row names node (slice_index_or tallies node no_tally)

abbrev pub node_rows : LogNames → List NodeTally → List Fields
node_rows names tallies = map (node_row names tallies) (places_below (length tallies))

-- nothing is counted of messages
abbrev pub no_counts : WatchCounts
no_counts = record { sent = 0; received = 0; left_out = 0; broken = false; over_limit = false }

-- the messages with an event more
abbrev pub with_kind : WatchCounts → LogKind → WatchCounts
with_kind counts (kind.Send m) = record counts { sent = one_more counts.sent }
with_kind counts (kind.Receive m) = record counts { received = one_more counts.received }
with_kind counts _ = counts

-- and what was found with it
abbrev pub with_found : WatchCounts → (broken over_limit : Bool) → WatchCounts
with_found counts broken over_limit =
    record counts { broken = counts.broken || broken; over_limit = counts.over_limit || over_limit }

-- the rows of the messages, of how many receives wait and how many were forgotten, and of how many records were left out
abbrev pub count_rows : WatchCounts → (waiting forgotten : ℕ) → List Fields
count_rows counts waiting forgotten =
    (codes "messages" ∷ decimal counts.sent ∷ decimal counts.received ∷ []) ∷ (codes "waiting" ∷ decimal waiting ∷ [])
    ∷ (codes "forgotten" ∷ decimal forgotten ∷ []) ∷ (codes "left-out" ∷ decimal counts.left_out ∷ []) ∷ []
