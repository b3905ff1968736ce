use Rattle.std.proofs.Common.{length}
use Rattle.hlc_explain.proofs.Asked.{one_asked, two_asked}
use Rattle.hlc_explain.proofs.answering.answer_to.Goals as goal

pub returns-in-Explain-clause-no_event : goal.returns-in-Explain-clause-no_event
returns-in-Explain-clause-no_event c =
    rw c.in-Explain.is (one_asked (length c.args.execution.now.events) c.in-Explain.event.0 _ c.explained.ensures.no_event)

pub returns-in-Relation-clause-no_event : goal.returns-in-Relation-clause-no_event
returns-in-Relation-clause-no_event c =
    rw c.in-Relation.is
    (two_asked (length c.args.execution.now.events) c.in-Relation.first.0 c.in-Relation.second.0 _ c.related.ensures.no_event)

pub returns-in-Influenced-clause-no_event : goal.returns-in-Influenced-clause-no_event
returns-in-Influenced-clause-no_event c =
    rw c.in-Influenced.is (one_asked (length c.args.execution.now.events) c.in-Influenced.event.0 _ c.reached.ensures.no_event)

pub returns-in-Why-clause-no_event : goal.returns-in-Why-clause-no_event
returns-in-Why-clause-no_event c =
    rw c.in-Why.is (two_asked (length c.args.execution.now.events) c.in-Why.first.0 c.in-Why.second.0 _ c.led.ensures.no_event)

pub returns-in-Tainted-clause-no_event : goal.returns-in-Tainted-clause-no_event
returns-in-Tainted-clause-no_event c =
    rw c.in-Tainted.is (one_asked (length c.args.execution.now.events) c.in-Tainted.event.0 _ c.raised.ensures.no_event)
