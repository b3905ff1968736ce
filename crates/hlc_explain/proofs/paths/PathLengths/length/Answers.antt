use Rattle.std.proofs.Common.{◌<◌, ◌+◌, length}
use Rattle.hlc_explain.proofs.PathLengths.{known_length, no_length}
use Rattle.hlc_explain.proofs.paths.PathLengths.length.Goals as goal

pub returns-then-event-self : goal.returns-then-event-self
returns-then-event-self c = λ s known.
    no_length s c.args.self.now.first.0 c.args.event c.in-Some.event c.in-Some.is known.exists c.if-event-self.true

pub returns : goal.returns
returns c = λ s known.
    let within : c.in-Some.event.0 < c.args.self.now.first.0 + length c.args.self.now.lengths.items = rw c.in-Some.is at c.requires in
    known_length s c.args.self.now.first.0 c.args.self.now.lengths.items c.args.event c.in-Some.event c.index.result.now known c.in-Some.is
    c.if-event-self.false within c.index.ensures
