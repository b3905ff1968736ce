use Rattle.std.proofs.Common.{refl}
use Rattle.hlc_log.proofs.GivenTurns.{no_turn_left, turn_taken}
use Rattle.hlc_log.proofs.placing.Placing.place_some.Goals as goal

pub go_on-requires-clause-node : goal.go_on-requires-clause-node
go_on-requires-clause-node c =
    let self = c.loop-node.self in
    (turn_taken c.args.log.now.events self.fronts.items self.turns c.take.new.self c.loop-node.invariant.turns c.in-Some.node c.in-Some.ensures.taken).0

pub go_on-requires-clause-others : goal.go_on-requires-clause-others
go_on-requires-clause-others c =
    let self = c.loop-node.self in
    (turn_taken c.args.log.now.events self.fronts.items self.turns c.take.new.self c.loop-node.invariant.turns c.in-Some.node c.in-Some.ensures.taken).1

pub returns-clause-stuck : goal.returns-clause-stuck
returns-clause-stuck c none =
    let self = c.loop-node.self in
    no_turn_left c.args.log.now.events self.fronts.items self.turns c.loop-node.invariant.turns (c.in_default.ensures.none refl)
