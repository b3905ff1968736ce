use Rattle.std.proofs.Common.{◌≤◌, arith, length, refl}
use Rattle.std.proofs.lemmas.Result.{on_ok_weaker}
use Rattle.hlc_log_commands.proofs.drawn_log.draw_chain_of.Goals as goal

pub returns-in-Some-clause-done : goal.returns-in-Some-clause-done
returns-in-Some-clause-done g c =
    let on = c.in-Some.ensures.found in
    on_ok_weaker c.draw_chain.result (λ picture. ((c.in-Some.row, on, picture), (λ none. none c.in-Some.row.0 on))) c.draw_chain.ensures.drawn

pub returns-in-Some-clause-without : goal.returns-in-Some-clause-without
returns-in-Some-clause-without g c =
    λ is.
    let exists = c.in-Some.ensures.found.exists in
    let beyond : length c.args.log.now.log.events ≤ c.in-Some.row.0 = c.draw_chain.ensures.no_event is in
    absurd (omega arith)

pub returns-in-None-clause-without : goal.returns-in-None-clause-without
returns-in-None-clause-without g c = λ _. (c.in-None.ensures.none, refl)
