use Rattle.std.proofs.Common.{sym, ◌∙◌}
use Rattle.std.proofs.lemmas.List.{length-map}
use Rattle.hlc_stamp.specs.declared.id.EventId.{EventId}
use Rattle.hlc_stamp.specs.Ids.{places_of}
use Rattle.hlc_causality.proofs.TickingReceives.{all_among_tick}
use Rattle.hlc_explain.proofs.chain_check.ticks_among.Goals as goal

pub returns-then-all_tick : goal.returns-then-all_tick
returns-then-all_tick c =
    let x = c.args.execution.now in
    let list = c.args.list.now in
    let ticks = c.all_tick.ensures.0 c.if-all_tick.true in
    sym (all_among_tick x.rules x.events ticks (places_of list) ∙ length-map list (λ (id : EventId). id.0))
