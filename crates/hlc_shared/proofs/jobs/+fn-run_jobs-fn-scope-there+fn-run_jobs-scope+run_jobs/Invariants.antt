use Rattle.std.proofs.Common.{◌+◌, ◌-◌, ◌*◌, vec_len}
use Rattle.hlc_shared.proofs.jobs.+fn-run_jobs-fn-scope-there+fn-run_jobs-scope+run_jobs.Given as goal

abbrev pub decreases-scope-there : goal.decreases-scope-there
decreases-scope-there g l = 2 * vec_len l.back

abbrev pub decreases-scope : goal.decreases-scope
decreases-scope g l = 2 * (vec_len l.front + vec_len l.back) - 1

abbrev pub decreases-run_jobs : goal.decreases-run_jobs
decreases-run_jobs g l = 2 * vec_len l.jobs
