use Rattle.hlc_core.proofs.AskedSteps.{answers_step, new_is_sound, one_state_follows, some_state_follows, stays_sound}
use Rattle.hlc_core.proofs.laws.state_after_requests.Goals as goal

pub returns-clause-answers : goal.returns-clause-answers
returns-clause-answers c = answers_step

pub returns-clause-new : goal.returns-clause-new
returns-clause-new c = new_is_sound

pub returns-clause-sound : goal.returns-clause-sound
returns-clause-sound c = stays_sound

pub returns-clause-exists : goal.returns-clause-exists
returns-clause-exists c = some_state_follows

pub returns-clause-one : goal.returns-clause-one
returns-clause-one c = one_state_follows
