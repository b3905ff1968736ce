use Rattle.std.proofs.Common.{subst}
use Rattle.std.specs.Prelude.{option_map}
use Rattle.std.specs.Io.KnownBytes.{Keeps}
use Rattle.csv.specs.Reading.{strip_bom}
use Rattle.hlc_csv.specs.Retrying.{retrying_remaining}
use Rattle.hlc_csv.specs.TextReader.{text_remaining}
use Rattle.hlc_csv.proofs.ReaderFacts.{buffered_none, has_read_to-start}
use Rattle.hlc_csv.proofs.record_reader.RecordReader.new.Goals as goal

pub returns : goal.returns
returns g c =
    let rem = text_remaining (retrying_remaining g.R.Read.remaining) in
    has_read_to-start g.R.Read.remaining (record { input = c.in-Ok.input; parser = c.new-4.result }) (g.R.Read.remaining c.args.reader) (rem c.in_ok-text.text)
    (buffered_none rem c.in-Ok.input c.in_ok-text.text c.in-Ok.ensures.capacity c.in-Ok.ensures.empty c.in-Ok.ensures.inner)
    (subst (λ o. Keeps (option_map strip_bom o) (rem c.in_ok-text.text)) c.new.ensures c.in_ok-text.ensures) c.new-4.ensures
