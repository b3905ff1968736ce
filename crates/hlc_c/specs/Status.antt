-- The statuses of packed clocks.
use Rattle.std.specs.Prelude.{ℕ}
use Rattle.hlc_packed.specs.declared.step_fault.StepFault.{StepFault}
use Rattle.hlc_packed.specs.declared.step_fault.StepFault.TheVariants as fault
use Rattle.hlc_c.specs.declared.status.TheConstants.{HLC_MESSAGE_TOO_FAR, HLC_NO_ROOM, HLC_READING, HLC_TOO_FAR}

-- the status that says why there is no next number
abbrev pub status_of : StepFault → ℕ
status_of fault.Reading = HLC_READING
status_of fault.ClockTooFar = HLC_TOO_FAR
status_of fault.MessageTooFar = HLC_MESSAGE_TOO_FAR
status_of fault.NoRoom = HLC_NO_ROOM
