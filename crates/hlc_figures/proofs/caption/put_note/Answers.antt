use Rattle.std.proofs.Common.{arith}
use Rattle.hlc_figures.proofs.Links.{origin_exists}
use Rattle.hlc_figures.proofs.caption.put_note.Goals as goal

pub put_chain-requires-clause-origin : goal.put_chain-requires-clause-origin
put_chain-requires-clause-origin g c =
    origin_exists (g.S.Subject.content c.args.subject.now) c.args.explained c.args.list.now c.requires
    (omega (arith, c.in-len1-up.len_at_least))
