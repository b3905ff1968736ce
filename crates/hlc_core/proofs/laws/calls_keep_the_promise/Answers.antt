use Rattle.hlc_core.proofs.Calling.{calls_are_steps, calls_keep_the_promise, losses_are_steps, new_is_first}
use Rattle.hlc_core.proofs.Promise.{sound_keeps_the_promise}
use Rattle.hlc_core.proofs.laws.calls_keep_the_promise.Goals as goal

pub returns-clause-losses : goal.returns-clause-losses
returns-clause-losses c = losses_are_steps

pub returns-clause-new : goal.returns-clause-new
returns-clause-new c = new_is_first

pub returns-clause-steps : goal.returns-clause-steps
returns-clause-steps c = calls_are_steps

pub returns-clause-promise : goal.returns-clause-promise
returns-clause-promise c = calls_keep_the_promise

pub returns-clause-sound : goal.returns-clause-sound
returns-clause-sound c = sound_keeps_the_promise
