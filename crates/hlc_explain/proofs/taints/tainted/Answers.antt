use Rattle.std.proofs.Common.{◌∙◌, ◌<◌, ℕ, List, length, arith, ap, subst}
use Rattle.std.specs.Prelude.{Contains}
use Rattle.hlc_stamp.specs.declared.id.EventId.{EventId}
use Rattle.hlc_execution.specs.Execution.{clock_of}
use Rattle.hlc_explain.specs.Taints.{tainted_by}
use Rattle.hlc_explain.proofs.LeastWithout.{tainted_past}
use Rattle.hlc_explain.proofs.taints.tainted.Goals as goal

pub returns-clause-tainted : goal.returns-clause-tainted
returns-clause-tainted c =
    let x = c.args.execution.now in
    c.in_ok-tainted.ensures ∙ ap (λ (e : EventId). tainted_by (clock_of x) x.stamps e.0) c.in_ok-without.ensures.event

pub returns-clause-past : goal.returns-clause-past
returns-clause-past c = λ f among.
    let x = c.args.execution.now in
    let here : c.args.event.0 < length x.events = omega (arith, c.if-event-len.false, c.len.ensures.value) in
    tainted_past x c.len.ensures.execution c.args.event.0 here c.requires f
    (subst (λ (xs : List ℕ). Contains xs f) (returns-clause-tainted c) among)
