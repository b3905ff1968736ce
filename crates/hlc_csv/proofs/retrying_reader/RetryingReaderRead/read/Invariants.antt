use Rattle.std.specs.Io.KnownBytes.{Keeps}
use Rattle.hlc_csv.proofs.retrying_reader.RetryingReaderRead.read.Given as goal

abbrev pub invariant-loop : goal.invariant-loop
invariant-loop g l = Keeps (g.R.Read.remaining l.fn.self.reader) (g.R.Read.remaining l.self.reader)
