-- What a fault isn't.
use Rattle.std.specs.Prelude.{Err, IsErrOf}
use Rattle.hlc_diagram.specs.Fault.{IsOfOutput}
use Rattle.hlc_diagram.specs.declared.draw_fault.DrawFault.{DrawFault}
use Rattle.hlc_diagram.specs.declared.draw_fault.DrawFault.TheVariants.{Memory, NoEvent, Write}

-- if the output failed, or memory was refused, the fault isn't that there is no such event
pub other_fault : {T P : Type 0} (fault : DrawFault) → IsOfOutput fault → IsErrOf {T = T} (Err fault) NoEvent → P
other_fault NoEvent of is = absurd of
other_fault Write of is = absurd (cc)
other_fault Memory of is = absurd (cc)
