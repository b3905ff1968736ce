-- How the records of a log are read.
use Rattle.std.specs.Prelude.{None, false}
use Rattle.hlc_causality.specs.declared.receives.Receives.TheVariants.{Tick}
use Rattle.hlc_log_text.specs.declared.fault_rule.FaultRule.TheVariants.{First}
use Rattle.hlc_log_text.specs.declared.log_rules.LogRules.{LogRules}
use Rattle.hlc_log_text.specs.declared.record_syntax.RecordSyntax.TheVariants.{Csv}
use Rattle.hlc_log_text.specs.declared.stamp_form.StampForm.{StampForm}

-- records of CSV, stamps in this form, exact readings in the unit of l, receives that tick, none of a message that nobody sends, none that is sent
-- again, and no bad record
abbrev pub exact_rules : StampForm → LogRules
exact_rules form =
    record { syntax = Csv; form = form; units = None; tolerance = 0; receives = Tick; unsent_local = false; resent = None; faults = First }
