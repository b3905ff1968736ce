-- What is told of input that is no log.
use Rattle.std.specs.Prelude.{ℕ, List, Option}
use Rattle.std.specs.Io.KnownBytes.{Appends}
use Rattle.hlc_log_text.specs.declared.log_rules.LogRules.{LogRules}
use Rattle.hlc_open_log.specs.Unopened.{ExplainsOpenFault, bad_text}
use Rattle.hlc_open_log.specs.declared.bad_input.BadInput.{BadInput}
use Rattle.hlc_open_log.specs.declared.fault.OpenFault.TheVariants as fault
use Rattle.hlc_command_line.specs.declared.command_fault.CommandFault.{CommandFault}
use Rattle.hlc_command_line.specs.declared.command_fault.CommandFault.TheVariants as stop

-- the input is no log of at most so many records, and the output got the row by which an audit says why
abbrev pub IsToldBad : (most : ℕ) → LogRules → (input before after : Option (List ℕ)) → Type 0
IsToldBad most rules input before after =
    (bad : BadInput) × ExplainsOpenFault rules most input (fault.Bad bad) × Appends before after (bad_text bad)

-- the log wasn't opened for this fault, of which the answer tells
abbrev pub IsUnopened : (most : ℕ) → CommandFault → LogRules → (input before after : Option (List ℕ)) → Type 0
IsUnopened most stop.BadLog rules input before after = IsToldBad most rules input before after
IsUnopened most _ rules input before after = ⊥
