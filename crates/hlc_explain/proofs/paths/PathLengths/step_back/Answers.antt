use Rattle.std.proofs.Common.{sym}
use Rattle.hlc_explain.proofs.PathLengths.{back_by_less, back_by_more, back_by_previous, back_by_send}
use Rattle.hlc_explain.proofs.paths.PathLengths.step_back.Goals as goal

pub returns-in_default-clause-path : goal.returns-in_default-clause-path
returns-in_default-clause-path c =
    let s = c.args.execution.now.events in
    back_by_send s c.args.self.now.first.0 c.args.event.0 c.requires.exists c.previous-previous.result c.send-send.result
    c.previous-previous.ensures c.send-send.ensures (sym (c.in_default.ensures s c.requires.known))

pub returns-in_default-length-clause-path : goal.returns-in_default-length-clause-path
returns-in_default-length-clause-path c =
    let s = c.args.execution.now.events in
    back_by_previous s c.args.self.now.first.0 c.args.event.0 c.requires.exists c.previous-previous.result c.send-send.result
    c.previous-previous.ensures c.send-send.ensures (sym (c.in_default-length.ensures s c.requires.known))

pub returns-then-by_previous-by_send-clause-path : goal.returns-then-by_previous-by_send-clause-path
returns-then-by_previous-by_send-clause-path c =
    let s = c.args.execution.now.events in
    back_by_less s c.args.self.now.first.0 c.args.event.0 c.requires.exists c.previous-previous.result c.send-send.result
    c.previous-previous.ensures c.send-send.ensures c.in-Some.by_previous c.in-Some-length.by_send
    (sym (c.in-Some.ensures s c.requires.known)) (sym (c.in-Some-length.ensures s c.requires.known)) c.if-by_previous-by_send.true

pub returns-else-by_previous-by_send-clause-path : goal.returns-else-by_previous-by_send-clause-path
returns-else-by_previous-by_send-clause-path c =
    let s = c.args.execution.now.events in
    back_by_more s c.args.self.now.first.0 c.args.event.0 c.requires.exists c.previous-previous.result c.send-send.result
    c.previous-previous.ensures c.send-send.ensures c.in-Some.by_previous c.in-Some-length.by_send
    (sym (c.in-Some.ensures s c.requires.known)) (sym (c.in-Some-length.ensures s c.requires.known)) c.if-by_previous-by_send.false
