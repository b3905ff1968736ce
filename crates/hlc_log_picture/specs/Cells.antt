-- What the rows of a log's picture say.
use Rattle.std.specs.Prelude.{ℕ, ◌+◌, ◌-◌, ◌==◌, ◌++◌, List, [], Option, Some, None, codes, decimal, if◌then◌else◌, max, nat_lt, unwrap_or}
use Rattle.hlc_causes.specs.declared.answers.Finding.{Finding}
use Rattle.hlc_causes.specs.declared.answers.Finding.TheVariants.{Judged}
use Rattle.hlc_diagram.specs.Label.{label_text, label_width}
use Rattle.hlc_diagram.specs.Numbers.{digits_of, first_text, first_width, no_digits, row_number, row_number_width, stamp_text, stamp_width}
use Rattle.hlc_svg.specs.declared.numbers.FirstDigits.{FirstDigits}
use Rattle.hlc_log.specs.declared.log_event.LogEvent.{LogEvent}
use Rattle.hlc_causes.specs.Words.{finding_word}
use Rattle.hlc_verdict.specs.declared.verdict.Verdict.TheVariants as verdict
use Rattle.hlc_log_picture.specs.declared.cells.TheConstants.{LABEL_ROOM, VERDICT_WIDTH}

-- how far l is ahead of what the clock read, with a minus sign if it is behind, and how many characters that has
abbrev pub ahead_text : (l reading : ℕ) → List ℕ
ahead_text l reading = if nat_lt l reading then codes "-" ++ decimal (reading - l) else decimal (l - reading)

abbrev pub ahead_width : (l reading : ℕ) → ℕ
ahead_width l reading = if nat_lt l reading then digits_of (reading - l) + 1 else digits_of (l - reading)

-- what the clock read at an event, and how far l is ahead of that, if it is told
abbrev pub clock_text : FirstDigits → LogEvent → List ℕ
clock_text first event = if event.has_reading then row_number first event.reading else []

abbrev pub lead_text : LogEvent → List ℕ
lead_text event = if event.has_reading then ahead_text event.stamp.l event.reading else []

-- the word of a verdict, unless it is least; or that the log tells no stamp
abbrev pub verdict_text : Option Finding → List ℕ
verdict_text None = codes "unstamped"
verdict_text (Some (Judged verdict.Least)) = []
verdict_text (Some found) = finding_word found

-- a label, if there is one
abbrev pub label_of : Option (List ℕ) → List ℕ
label_of label = unwrap_or label []

-- the columns: the claimed stamp, what the clock read, how far the one is ahead of the other, the verdict, and the label. The first two have the digits
-- with which all their numbers begin.
abbrev pub heading_at : FirstDigits → (column : ℕ) → List ℕ
heading_at first column =
    if column == 0 then codes "claimed" ++ first_text first else if column == 1 then codes "clock" ++ first_text first
    else if column == 2 then codes "ahead" else if column == 3 then codes "verdict" else codes "label"

-- the cell of an event in a column, and how many characters it or the heading has, or may have at most
abbrev pub cell_text : FirstDigits → LogEvent → Option Finding → Option (List ℕ) → (column : ℕ) → List ℕ
cell_text first event found label column =
    if column == 0 then stamp_text first event.stamp else if column == 1 then clock_text first event
    else if column == 2 then lead_text event else if column == 3 then verdict_text found
    else label_text LABEL_ROOM (label_of label)

abbrev pub cell_width : FirstDigits → LogEvent → Option (List ℕ) → (column : ℕ) → ℕ
cell_width first event label column =
    if column == 0 then max (stamp_width first event.stamp) (first_width first + 7)
    else if column == 1 then max (row_number_width first event.reading) (first_width first + 5)
    else if column == 2 then ahead_width event.stamp.l event.reading else if column == 3 then VERDICT_WIDTH
    else label_width LABEL_ROOM (label_of label)

-- what the title of its dot tells of a column, with all digits
abbrev pub fact_text : LogEvent → Option Finding → Option (List ℕ) → (column : ℕ) → List ℕ
fact_text event found label column = heading_at no_digits column ++ (codes ": " ++ cell_text no_digits event found label column)
