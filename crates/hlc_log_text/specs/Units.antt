-- The units in which a log counts time.
use Rattle.std.specs.Prelude.{ℕ, ◌-◌, ◌*◌, ◌/◌, ◌^◌, Option, Some, None, max}
use Rattle.hlc_log_text.specs.StampForms.{packed_bits}
use Rattle.hlc_log_text.specs.declared.stamp_form.StampForm.{StampForm}
use Rattle.hlc_log_text.specs.declared.time_unit.TimeUnit.{TimeUnit}
use Rattle.hlc_log_text.specs.declared.time_unit.TimeUnit.TheVariants.{Microseconds, Milliseconds, Nanoseconds, Ntp64, Seconds}
use Rattle.hlc_log_text.specs.declared.units.Units.{Units}

-- how many of a unit a second has, where so many low bits of NTP's format are left to c
abbrev pub per_second : (packed : ℕ) → TimeUnit → ℕ
per_second packed Seconds = 1
per_second packed Milliseconds = 1000
per_second packed Microseconds = 1000000
per_second packed Nanoseconds = 1000000000
per_second packed Ntp64 = 2 ^ (32 - packed)

-- a reading in the unit of l: as many whole units as its time has, and one at least
abbrev pub converted : StampForm → Units → (reading : ℕ) → ℕ
converted form units reading = max 1 (reading * per_second (packed_bits form) units.l / per_second 0 units.reading)

-- the same where readings may have the unit of l
abbrev pub in_unit_of_l : StampForm → Option Units → (reading : ℕ) → ℕ
in_unit_of_l form None reading = reading
in_unit_of_l form (Some units) reading = converted form units reading
