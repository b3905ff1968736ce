use Rattle.std.proofs.Common.{Some, ◌∙◌, drop, sym, subst}
use Rattle.std.specs.Prelude.{option_map}
use Rattle.std.specs.Fmt.{option_append}
use Rattle.std.specs.Io.KnownBytes.{Keeps}
use Rattle.csv.specs.Reading.{strip_bom}
use Rattle.hlc_csv.proofs.TextFacts.{keeps_text}
use Rattle.hlc_csv.proofs.text_reader.TextReader.new.Goals as goal

pub returns : goal.returns
returns g c =
    let rem = g.R.Read.remaining in
    let is =
    c.chain.ensures.bytes
    ∙ (λ i. option_append (Some (drop (c.new.ensures.position i) (c.new.ensures.inner i).items)) (rem c.read_head.new.reader)) in
    subst (Keeps (option_map strip_bom (rem c.args.reader))) (sym is)
    (keeps_text (rem c.args.reader) (rem c.read_head.new.reader) c.in_ok-head.head.items c.drop_mark.new.head.items c.in_ok-head.ensures c.drop_mark.ensures)
