use Rattle.std.proofs.Common.{◌≢◌, arith, length}
use Rattle.hlc_causality.specs.Causality.{HappenedBefore}
use Rattle.hlc_explain.specs.declared.answers.Relation.TheVariants.{After, Concurrent, Same}
use Rattle.hlc_explain.proofs.Findings.{stand_after, stand_apart, stand_same}
use Rattle.hlc_explain.proofs.Relations.{no_fault, same_event}
use Rattle.hlc_explain.proofs.causality.relation_with_ends.Goals as goal

-- Where the first event comes first, the search answers: an edit that has to fail there changes the test, and with it the goals' names.

pub returns-then-happened_before-2 : goal.returns-then-happened_before-2
returns-then-happened_before-2 c =
    let e = c.args.e in
    let f = c.args.f in
    let s = c.args.execution.now.events in
    let size = c.len-len.ensures.value in
    let stands = stand_after s e.0 f.0 (c.happened_before-then-f-e.ensures.before.0 c.if-happened_before-2.true) in
    record {
      before = stands.before;
      after = stands.after;
      same = same_event e f stands.same;
      no_event = no_fault (length s) e.0 f.0 After (omega (arith, c.if-e-len.false)) (omega (arith, c.if-f-len.false));
      no_other_fault = tt;
    }

pub returns-else-happened_before-2 : goal.returns-else-happened_before-2
returns-else-happened_before-2 c =
    let e = c.args.e in
    let f = c.args.f in
    let s = c.args.execution.now.events in
    let size = c.len-len.ensures.value in
    let differ : e.0 ≢ f.0 = λ same. omega (arith, c.if-f-e.true) in
    let none : ¬ HappenedBefore s f.0 e.0 = λ h. let told = c.happened_before-then-f-e.ensures.before.1 h in cc (told, c.if-happened_before-2.false) in
    let stands = stand_apart s e.0 f.0 differ c.happened_before-then-f-e.ensures.not_after none in
    record {
      before = stands.before;
      after = stands.after;
      same = same_event e f stands.same;
      no_event = no_fault (length s) e.0 f.0 Concurrent (omega (arith, c.if-e-len.false)) (omega (arith, c.if-f-len.false));
      no_other_fault = tt;
    }

pub returns-else-f-e : goal.returns-else-f-e
returns-else-f-e c =
    let e = c.args.e in
    let f = c.args.f in
    let s = c.args.execution.now.events in
    let size = c.len-len.ensures.value in
    let stands = stand_same s e.0 f.0 (omega (arith, c.if-e-f.false, c.if-f-e.false)) in
    record {
      before = stands.before;
      after = stands.after;
      same = same_event e f stands.same;
      no_event = no_fault (length s) e.0 f.0 Same (omega (arith, c.if-e-len.false)) (omega (arith, c.if-f-len.false));
      no_other_fault = tt;
    }
