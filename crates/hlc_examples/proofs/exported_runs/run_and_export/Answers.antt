use Rattle.std.proofs.Common.{◌≡◌, None, rules}
use Rattle.hlc_stamp.specs.declared.limits.TheConstants.{MAX_RECORDS}
use Rattle.hlc_core.specs.State.{new_refusal}
use Rattle.hlc_examples.proofs.exported_runs.run_and_export.Goals as goal

pub returns-clause-replays : goal.returns-clause-replays
returns-clause-replays c =
    let passes : new_refusal c.args.settings.nodes c.args.settings.capacity ≡ None = search rules in
    c.exports_run_to_equal_histories.ensures.runs MAX_RECORDS c.args.settings _ _ _ c.in_ok-ran.ran passes c.in_ok-ran.ensures.ok
