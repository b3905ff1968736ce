use Rattle.hlc_core.proofs.Promise.{every_schedule_keeps_the_promise}
use Rattle.hlc_core.proofs.laws.every_schedule.Goals as goal

pub returns : goal.returns
returns c = every_schedule_keeps_the_promise
