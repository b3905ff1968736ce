use Rattle.std.proofs.Common.{◌∙◌}
use Rattle.hlc_watch.specs.Records.{with_send}
use Rattle.hlc_watch.proofs.Given.{all_given, one_given}
use Rattle.hlc_watch.proofs.records.give_send.Goals as goal

pub loop-records-preserved : goal.loop-records-preserved
loop-records-preserved c =
    let i = c.loop-records.records-index in
    let less = c.loop-records-test.true in
    rw c.loop-records.invariant (one_given (with_send c.args.send) c.args.waited.now i _ less)

pub returns : goal.returns
returns c =
    let i = c.loop-records.records-index in
    let all = c.loop-records-test.false in
    c.loop-records.invariant ∙ all_given (with_send c.args.send) c.args.waited.now i all
