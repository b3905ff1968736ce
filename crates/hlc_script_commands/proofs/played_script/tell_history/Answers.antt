use Rattle.std.proofs.Common.{◌≡◌, ◌∙◌, ap, arith, length}
use Rattle.hlc_causality.specs.Causality.{Skeleton}
use Rattle.hlc_arena.proofs.Histories.{length_skeleton}
use Rattle.hlc_script_commands.proofs.PlayedScripts.{length_summaries}
use Rattle.hlc_script_commands.proofs.played_script.tell_history.Goals as goal

pub returns : goal.returns
returns g c =
    let events = c.args.history.now.events in
    let x = c.execution.result.now in
    let summed : length c.in-Ok.summaries.items ≡ length events =
    length_summaries x.events x.stamps c.in-Ok.summaries.items c.in-Ok.ensures.summaries
    ∙ ap (λ (s : Skeleton). length s) c.execution.ensures.events
    ∙ length_skeleton events in
    let explained : c.len-2.result ≡ length events = omega (arith, summed, c.len-2.ensures, c.in-Ok.summaries.ok) in
    let counted = rw c.len.ensures.value at c.tell_counts.ensures in
    rw explained at counted
