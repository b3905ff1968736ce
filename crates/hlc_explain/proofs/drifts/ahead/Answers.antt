use Rattle.std.proofs.Common.{◌∙◌}
use Rattle.hlc_explain.proofs.KeptEvents.{drift_kept}
use Rattle.hlc_explain.proofs.drifts.ahead.Goals as goal

pub returns : goal.returns
returns c =
    let s = c.args.execution.now.events in
    let pairs = c.args.execution.now.stamps in
    let get = c.get.ensures in
    c.drift.ensures ∙ drift_kept s c.args.event.0 c.get.result c.unwrap.result c.unwrap.ensures get.event pairs get.stamp
