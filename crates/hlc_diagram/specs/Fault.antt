-- Faults.
use Rattle.hlc_diagram.specs.declared.draw_fault.DrawFault.{DrawFault}
use Rattle.hlc_diagram.specs.declared.draw_fault.DrawFault.TheVariants.{Memory, NoEvent, Write}

-- the output failed, or memory was refused
abbrev pub IsOfOutput : DrawFault → Type 0
IsOfOutput NoEvent = ⊥
IsOfOutput Write = Unit {0}
IsOfOutput Memory = Unit {0}
