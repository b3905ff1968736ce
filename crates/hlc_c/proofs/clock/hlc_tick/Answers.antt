use Rattle.std.proofs.Common.{◌≡◌, ℕ, sym}
use Rattle.hlc_stamp.specs.Order.{Pair}
use Rattle.hlc_c.specs.Clock.{IsTick}
use Rattle.hlc_c.proofs.clock.hlc_tick.Goals as goal

-- a tick of equal stamps
tick_of_equals : (old from new to : Pair) (reading : ℕ) → from ≡ old → new ≡ to → IsTick from reading to → IsTick old reading new
tick_of_equals old from new to reading from_is new_is tick = rw (sym from_is) (rw new_is tick)

pub returns-clause-least : goal.returns-clause-least
returns-clause-least c = λ _. tick_of_equals _ _ _ _ _ c.from.ensures c.into.ensures
    (record { above = c.tick.ensures.above; not_behind = c.tick.ensures.not_behind; least = c.tick.ensures.least })
