use Rattle.std.proofs.Common.{◌≡◌, []}
use Rattle.csv.specs.Records.{fields_of, partial_of}
use Rattle.hlc_csv.specs.RecordParser.{Moves, OfKnown}
use Rattle.hlc_csv.specs.RecordReader.{left_of}
use Rattle.hlc_csv.proofs.record_reader.RecordReader.read_record.Given as goal

abbrev pub invariant-loop-turn : goal.invariant-loop-turn
invariant-loop-turn g l =
    OfKnown (Moves l.initial.self.parser l.self.parser [] (fields_of l.fields)) (left_of g.R.Read.remaining l.initial.self) (left_of g.R.Read.remaining l.self)
    × (partial_of l.fields ≡ [])
