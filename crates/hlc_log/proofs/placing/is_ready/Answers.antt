use Rattle.std.proofs.Common.{sym, ◌∙◌}
use Rattle.hlc_log.specs.Messages.{Receives}
use Rattle.hlc_log.proofs.Placements.{ready_by_send}
use Rattle.hlc_log.proofs.SentMessages.{link_read, only_send}
use Rattle.hlc_log.proofs.placing.is_ready.Goals as goal

pub returns-in-Some : goal.returns-in-Some
returns-in-Some c =
    let events = c.args.log.now.events in
    let links = c.args.sends.now in
    let f = c.args.event.0 in
    let m = c.in-Receive.message.0 in
    let receives : Receives events f m =
    record { exists = c.requires.exists; kind = sym c.kind_at.ensures ∙ c.in-Receive.is } in
    let read = link_read events links c.requires.numbered c.requires.links f m receives c.index-sends-message.result c.index-sends-message.is in
    let only = only_send events links c.requires.numbered c.requires.links f m receives c.in-Some.send
    (read ∙ sym c.event.ensures ∙ c.in-Some.is) in
    ready_by_send events c.args.fronts.now f m receives c.in-Some.send.0 only c.is_passed.result c.is_passed.ensures
