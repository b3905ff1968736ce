-- Refusals that come from the layers below.
use Rattle.hlc_arena.specs.declared.reserve_fault.ReserveFault.{ReserveFault}
use Rattle.hlc_arena.specs.declared.reserve_fault.ReserveFault.TheVariants as reserve
use Rattle.hlc_core.specs.declared.refusal.Refusal.{Refusal}
use Rattle.hlc_core.specs.declared.refusal.Refusal.TheVariants.{Full, Memory}

-- the refusal if there is no room for an event
abbrev pub refusal_of_reserve : ReserveFault → Refusal
refusal_of_reserve reserve.Full = Full
refusal_of_reserve reserve.Memory = Memory
