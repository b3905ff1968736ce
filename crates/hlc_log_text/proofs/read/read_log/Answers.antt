use Rattle.std.proofs.Common.{[]}
use Rattle.hlc_csv.specs.RecordReader.{HasReadTo}
use Rattle.hlc_log_text.proofs.ReadingFacts.{fault_of_read, whole_of_read}
use Rattle.hlc_log_text.proofs.read.read_log.Goals as goal

pub read_text-requires-clause-begun : goal.read_text-requires-clause-begun
read_text-requires-clause-begun g c = (g.R.Read.remaining c.args.reader, c.in_ok-input.ensures)

pub returns-clause-log : goal.returns-clause-log
returns-clause-log g c =
    whole_of_read c.args.rules c.args.most (g.R.Read.remaining c.args.reader) (λ bytes. HasReadTo g.R.Read.remaining c.in_ok-input.input bytes [] [])
    c.in_ok-input.ensures c.read_text.result c.read_text.ensures

pub returns-clause-fault : goal.returns-clause-fault
returns-clause-fault g c =
    fault_of_read c.args.rules c.args.most (g.R.Read.remaining c.args.reader) (λ bytes. HasReadTo g.R.Read.remaining c.in_ok-input.input bytes [] [])
    c.in_ok-input.ensures c.read_text.result c.read_text.ensures
