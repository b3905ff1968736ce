-- What an audit that stops tells.
use Rattle.std.proofs.Common.{◌≡◌, ℕ, Err, List, Option, Result, subst}
use Rattle.std.specs.Prelude.{IfErr, IsErrOf}
use Rattle.hlc_stamp.specs.declared.limits.TheConstants.{MAX_CAPACITY}
use Rattle.hlc_csv.specs.declared.records_fault.RecordsFault.{RecordsFault}
use Rattle.hlc_csv.specs.declared.records_fault.RecordsFault.TheVariants.{Read, TooLong}
use Rattle.hlc_log_text.specs.ReadLog.{HasTooMany}
use Rattle.hlc_log_text.specs.declared.log_rules.LogRules.{LogRules}
use Rattle.hlc_log_audit.specs.Audit.{StopsAudit}

module _ {W T : Type 0} (rules : LogRules) (bytes : Option (List ℕ)) (old new : W) (r : Result T RecordsFault)
    (stops : IfErr r (StopsAudit rules MAX_CAPACITY bytes old new)) where
  tells : (fault : RecordsFault) → r ≡ Err fault → StopsAudit rules MAX_CAPACITY bytes old new fault
  tells fault is = subst (λ (q : Result T RecordsFault). IfErr q (StopsAudit rules MAX_CAPACITY bytes old new)) is stops

  pub stopped_read : IsErrOf r Read → new ≡ old
  stopped_read is = tells Read is

  pub stopped_long : IsErrOf r TooLong → HasTooMany rules MAX_CAPACITY bytes
  stopped_long is = (tells TooLong is).0

  pub stopped_empty : IsErrOf r TooLong → new ≡ old
  stopped_empty is = (tells TooLong is).1
