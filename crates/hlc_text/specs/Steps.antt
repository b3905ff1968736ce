-- Lists of steps, one for each node, as a script.
use Rattle.std.specs.Prelude.{ℕ, List, [], ◌∷◌, Option, filter_map, flat_map, length, option_map, slice_get}
use Rattle.std.specs.List.{enumerate_from, range_with_len}
use Rattle.hlc_core.specs.Timed.{TimedRequest}
use Rattle.hlc_csv.specs.Rows.{Fields, text_of}
use Rattle.hlc_text.specs.RequestRow.{request_row}

-- the record that makes a node's request at its reading
abbrev pub step_row : ℕ → TimedRequest → Fields
step_row node step = request_row node step.reading step.request

-- the record of the step of this number of a node's list, if it has one
abbrev pub row_in_round : ℕ → ℕ × List TimedRequest → Option Fields
row_in_round round numbered = option_map (step_row numbered.0) (slice_get numbered.1 round)

-- the records of a round: the step of this number of each node, by node
abbrev pub round_of : List (List TimedRequest) → ℕ → List Fields
round_of lists round = filter_map (row_in_round round) (enumerate_from 0 lists)

-- how many steps each list has, if all have the same number
abbrev pub rounds_in : List (List TimedRequest) → ℕ
rounds_in [] = 0
rounds_in (list ∷ lists) = length list

-- the script of lists of one length: round by round
abbrev pub printed_text : List (List TimedRequest) → List ℕ
printed_text lists = text_of (flat_map (round_of lists) (range_with_len 0 (rounds_in lists)))
