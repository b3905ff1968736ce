-- The rows of the causes that records tell, worded as an audit words them.
use Rattle.std.specs.Prelude.{◌==◌, ◌&&◌, ◌||◌, Bool, ℕ, List, [], ◌∷◌, ◌++◌, Option, Some, None, codes, decimal, if◌then◌else◌, is_some}
use Rattle.hlc_stamp.specs.Order.{Pair}
use Rattle.hlc_csv.specs.Rows.{Fields}
use Rattle.hlc_log_text.specs.LogText.{name_of}
use Rattle.hlc_watch.specs.Records.{line_causes}
use Rattle.hlc_watch.specs.declared.file_line.FileLine.{FileLine}
use Rattle.hlc_watch.specs.declared.records.Claimed.{Claimed}
use Rattle.hlc_watch.specs.declared.records.LineCauses.{LineCauses}
use Rattle.hlc_watch.specs.declared.records.Records.{Records}
use Rattle.hlc_watched_log.specs.Files.{told_line}
use Rattle.hlc_watched_log.specs.declared.log_names.LogNames.{LogNames}

-- the row of a rule that an event breaks
abbrev pub cause_row : LogNames → Records → (rule : Fields) → Fields
cause_row names records rule =
    codes "cause" ∷ told_line names.files records.event.line ∷ name_of names.nodes records.event.node.0 ∷ rule

-- a row, if something holds, or if something is there
abbrev pub row_if : Bool → Fields → List Fields
row_if holds row = if holds then row ∷ [] else []

abbrev pub row_of : {A : Type 0} → (A → Fields) → Option A → List Fields
row_of row None = []
row_of row (Some x) = row x ∷ []

-- the line of the send of what an event receives, if the message carried another stamp than that line claims
abbrev pub wrong_by : (carried : Option Pair) → (send : Option Claimed) → Option FileLine
wrong_by (Some p) (Some send) = if (p.l == send.stamp.l) && (p.c == send.stamp.c) then None else Some send.line
wrong_by _ _ = None

abbrev pub wrong_line : Records → Option FileLine
wrong_line records = wrong_by records.event.carried records.send

-- the row of a rule that is broken by what a line claims
abbrev pub line_row : LogNames → Records → (rule : List ℕ) → FileLine → Fields
line_row names records rule line = cause_row names records (rule ∷ told_line names.files line ∷ [])

-- the row of a stamp that is behind, and of one that is ahead of this one
abbrev pub behind_row : LogNames → Records → Fields
behind_row names records = cause_row names records (codes "behind" ∷ [])

abbrev pub ahead_row : LogNames → Records → Pair → Fields
ahead_row names records p = cause_row names records (codes "ahead" ∷ decimal p.l ∷ decimal p.c ∷ [])

-- one row for each of these rules that the event breaks, and one if its message carried another stamp than its send claims
abbrev pub rows_of : LogNames → Records → LineCauses → List Fields
rows_of names records causes =
    row_if causes.behind (behind_row names records)
    ++ (row_of (line_row names records (codes "not-above")) causes.not_above_previous
    ++ (row_of (line_row names records (codes "not-above")) causes.not_above_send
    ++ (row_of (ahead_row names records) causes.ahead
    ++ row_of (line_row names records (codes "carried")) (wrong_line records))))

-- so of the rules that the records tell to be broken
abbrev pub cause_rows : LogNames → (full : ℕ) → Records → List Fields
cause_rows names full records = rows_of names records (line_causes full records)

-- whether the stamp is behind or not above another one, or the message carried another stamp than its send claims
abbrev pub breaks_by : LineCauses → (wrong : Option FileLine) → Bool
breaks_by causes wrong = causes.behind || (is_some causes.not_above_previous || (is_some causes.not_above_send || is_some wrong))

abbrev pub is_broken : (full : ℕ) → Records → Bool
is_broken full records = breaks_by (line_causes full records) (wrong_line records)

-- whether any rule is broken, also one that is about least stamps, so that there is a row of it
abbrev pub tells_by : LineCauses → (wrong : Option FileLine) → Bool
tells_by causes wrong = breaks_by causes wrong || is_some causes.ahead

abbrev pub has_cause : (full : ℕ) → Records → Bool
has_cause full records = tells_by (line_causes full records) (wrong_line records)
