use Rattle.std.specs.Prelude.{Some}
use Rattle.std.proofs.lemmas.Result.{on_ok_weaker}
use Rattle.hlc_arena.specs.Arena.{history_of}
use Rattle.hlc_picture.proofs.Histories.{least_as_shown, missing_in_diagram, missing_in_history}
use Rattle.hlc_picture.proofs.drawing.draw_chain.Goals as goal

pub draw_chain-requires : goal.draw_chain-requires
draw_chain-requires g c = least_as_shown (history_of c.args.history.now) c.requires

pub returns-clause-no_event : goal.returns-clause-no_event
returns-clause-no_event g c = λ is. missing_in_history c.args.history.now.events (Some c.args.event) (c.draw_chain.ensures.no_event is)

pub returns-clause-event : goal.returns-clause-event
returns-clause-event g c =
    on_ok_weaker c.draw_chain.result
    (λ there. λ missing. there (missing_in_diagram c.args.history.now.events (Some c.args.event) missing)) c.draw_chain.ensures.event
