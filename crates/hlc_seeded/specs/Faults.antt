-- Why there are no seeded scripts.
use Rattle.std.specs.Prelude.{◌≡◌, ◌⊎◌, ℕ, true, false}
use Rattle.hlc_seeded.specs.declared.storm_fault.StormFault.{StormFault}
use Rattle.hlc_seeded.specs.declared.storm_fault.StormFault.TheVariants.{BadSettings, Memory}
use Rattle.hlc_seeded.specs.Storm.{are_settings}

-- there are none of the settings, or else it was out of memory
abbrev pub IsFaultOfStorm : (nodes steps : ℕ) → StormFault → Type 0
IsFaultOfStorm nodes steps fault =
    ((fault ≡ BadSettings) × (are_settings nodes steps ≡ false)) ⊎ ((fault ≡ Memory) × (are_settings nodes steps ≡ true))
