use Rattle.std.specs.Prelude.{Some}
use Rattle.std.proofs.lemmas.Result.{on_ok_weaker}
use Rattle.hlc_log_picture.proofs.Pictured.{missing_in_diagram, missing_in_log}
use Rattle.hlc_log_picture.proofs.drawing.draw_chain.Goals as goal

pub returns-clause-no_event : goal.returns-clause-no_event
returns-clause-no_event g c =
    λ is. missing_in_log c.args.log.now.log (Some c.args.row) c.len-ordered.ensures.ordered (c.draw_chain.ensures.no_event is)

pub returns-clause-event : goal.returns-clause-event
returns-clause-event g c =
    on_ok_weaker c.draw_chain.result
    (λ there missing. there (missing_in_diagram c.args.log.now.log (Some c.args.row) c.len-ordered.ensures.ordered missing)) c.draw_chain.ensures.event
