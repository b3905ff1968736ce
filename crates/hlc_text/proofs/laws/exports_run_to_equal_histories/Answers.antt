use Rattle.hlc_text.proofs.ExportRecords.{exports_read_back}
use Rattle.hlc_text.proofs.ExportedRuns.{exports_ask_again, exports_run_to_equal_histories, runs_replay}
use Rattle.hlc_text.proofs.laws.exports_run_to_equal_histories.Goals as goal

pub returns-clause-reads_back : goal.returns-clause-reads_back
returns-clause-reads_back c = exports_read_back

pub returns-clause-asks_again : goal.returns-clause-asks_again
returns-clause-asks_again c = exports_ask_again

pub returns-clause-equal : goal.returns-clause-equal
returns-clause-equal c = exports_run_to_equal_histories

pub returns-clause-runs : goal.returns-clause-runs
returns-clause-runs c = runs_replay
