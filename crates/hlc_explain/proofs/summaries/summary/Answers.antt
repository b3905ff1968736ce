use Rattle.std.proofs.Common.{◌≡◌, ◌∙◌}
use Rattle.hlc_causality.specs.Assignment.{pair_at}
use Rattle.hlc_explain.proofs.KeptEvents.{drift_kept, of_found}
use Rattle.hlc_explain.proofs.summaries.summary.Goals as goal

pub returns : goal.returns
returns c =
    let s = c.args.execution.now.events in
    let pairs = c.args.execution.now.stamps in
    let event = c.args.event.0 in
    let get = c.get.ensures in
    let is = c.unwrap-record.ensures in
    let found = c.unwrap-record.result in
    let stamp : found.stamp ≡ pair_at pairs event = of_found (λ x. x.stamp ≡ pair_at pairs event) found is get.stamp in
    let ahead = c.drift.ensures ∙ drift_kept s event c.get.result found is get.event pairs get.stamp in
    λ i. record { origin = record { 0 = c.requires.origin i }; stamp = stamp i; ahead = ahead i }
