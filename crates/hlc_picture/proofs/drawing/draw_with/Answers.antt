use Rattle.std.proofs.lemmas.Result.{on_ok_weaker}
use Rattle.hlc_arena.specs.Arena.{history_of}
use Rattle.hlc_picture.proofs.Histories.{least_as_shown, missing_in_diagram, missing_in_history}
use Rattle.hlc_picture.proofs.drawing.draw_with.Goals as goal

pub draw_with-requires : goal.draw_with-requires
draw_with-requires g c = least_as_shown (history_of c.args.history.now) c.requires

pub returns-clause-no_event : goal.returns-clause-no_event
returns-clause-no_event g c = λ is. missing_in_history c.args.history.now.events c.args.view.explained (c.draw_with.ensures.no_event is)

pub returns-clause-event : goal.returns-clause-event
returns-clause-event g c =
    on_ok_weaker c.draw_with.result
    (λ there. λ missing. there (missing_in_diagram c.args.history.now.events c.args.view.explained missing)) c.draw_with.ensures.event
