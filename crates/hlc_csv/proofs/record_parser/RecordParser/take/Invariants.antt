use Rattle.std.proofs.Common.{◌≡◌, ◌≤◌, ◌-◌, [], length, take}
use Rattle.csv.specs.Records.{fields_of, partial_of}
use Rattle.hlc_csv.specs.RecordParser.{GoesOn}
use Rattle.hlc_csv.proofs.record_parser.RecordParser.take.Given as goal

abbrev pub invariant-loop-place : goal.invariant-loop-place
invariant-loop-place l =
    GoesOn l.initial.self l.self (fields_of l.initial.fields) (fields_of l.fields) (take l.place l.bytes) × (partial_of l.fields ≡ [])
    × (l.place ≤ length l.bytes)

abbrev pub decreases-loop-place : goal.decreases-loop-place
decreases-loop-place l = length l.bytes - l.place
