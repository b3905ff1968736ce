use Rattle.std.proofs.Common.{◌∙◌, sym, ap, subst, rules}
use Rattle.hlc_arena.specs.Arena.{history_of}
use Rattle.hlc_arena.specs.History.{IsWrite, StampedEvent}
use Rattle.hlc_arena.specs.Kinds.{event_kind_of}
use Rattle.hlc_arena.proofs.Following.{sent_is_write}
use Rattle.hlc_text.proofs.history.action_again.Goals as goal

pub unwrap-requires-in-Send-2 : goal.unwrap-requires-in-Send-2
unwrap-requires-in-Send-2 c =
    let sends = sym (ap (λ (x : StampedEvent). x.event.kind) (rw c.unwrap.ensures at c.get.ensures.event)) ∙ ap event_kind_of c.in-Send.is in
    let sent = sent_is_write (history_of c.args.history.now) c.requires.well_formed c.args.event.0 _ c.in-Send.write.0 c.requires.exists sends in
    let is_sent = rw c.unwrap-in-Send.ensures at c.get-in-Send.ensures.event in
    c.key.ensures.written.1 (subst (λ (x : StampedEvent). IsWrite x.event.kind) (sym is_sent) sent)

pub returns-in-Erase : goal.returns-in-Erase
returns-in-Erase c = search rules
