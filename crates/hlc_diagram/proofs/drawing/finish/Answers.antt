use Rattle.std.proofs.Common.{ℕ, List, string_bytes, subst}
use Rattle.std.specs.Io.KnownBytes.{Appends}
use Rattle.std.proofs.KnownBytes.{Appends-kept}
use Rattle.hlc_diagram.proofs.drawing.finish.Goals as goal

pub returns-clause-text : goal.returns-clause-text
returns-clause-text g c =
    let bytes = g.W.Write.contents in
    let w0 = bytes c.args.writer.now in
    let w1 = bytes c.hand_over.new.writer in
    let w2 = bytes c.flush.new.self in
    let text = string_bytes c.put_foot.new.text in
    let sent : Appends w0 w2 text = Appends-kept w0 w1 w2 text c.in_ok-hand_over.ensures.all c.flush.ensures.bytes in
    subst (λ (t : List ℕ). Appends w0 w2 t) c.in_ok-put_foot.ensures sent
