-- What an audit leaves that tells the groups of causes, too.
use Rattle.std.specs.Prelude.{◌≡◌, ℕ, List, [], Option}
use Rattle.std.specs.Io.KnownBytes.{Appends}
use Rattle.hlc_stamp.specs.declared.limits.TheConstants.{MAX_CAPACITY}
use Rattle.hlc_csv.specs.Rows.{Fields, text_of}
use Rattle.hlc_log_text.specs.declared.log_rules.LogRules.{LogRules}
use Rattle.hlc_log_text.specs.declared.question.LogQuestion.{LogQuestion}
use Rattle.hlc_open_log.specs.Opened.{IsOpened, OpenedLog}
use Rattle.hlc_log_audit.specs.Audit.{IsAudited, TellsEvents}
use Rattle.hlc_log_audit.specs.declared.audited.Audited.{Audited}
use Rattle.hlc_log_audit.specs.declared.outcome.Outcome.{Outcome}
use Rattle.hlc_log_audit.specs.declared.outcome.Outcome.TheVariants as outcome
use Rattle.hlc_log_audit.specs.declared.rules.AuditRules.{AuditRules}
use Rattle.hlc_log_groups.specs.GroupRows.{AreGroupRowsIf}
use Rattle.hlc_log_groups.specs.declared.group_detail.GroupDetail.{GroupDetail}

-- these are the rows of what is to be told of groups, of a log that the bytes are
abbrev pub TellGroupsOf : LogRules → GroupDetail → (bytes : Option (List ℕ)) → List Fields → Type 0
TellGroupsOf rules told bytes rows = (opened : OpenedLog) × IsOpened rules MAX_CAPACITY bytes opened × AreGroupRowsIf told opened rows

-- what the audit of some bytes left, with this outcome: what an audit leaves, and then what is to be told of the groups, if the bytes are a log
pub record IsGroupedAudit (rules : AuditRules) (told : GroupDetail) (asked : List LogQuestion) (bytes before after : Option (List ℕ)) (result : Outcome) : Type 0 where
  pub between : Option (List ℕ)
  pub audited : IsAudited rules MAX_CAPACITY asked bytes before between result
  pub groups : List Fields
  pub are_groups : ¬ (result ≡ outcome.BadLog) → TellGroupsOf rules.records told bytes groups
  pub none : result ≡ outcome.BadLog → groups ≡ []
  pub written : Appends between after (text_of groups)

-- how such an audit ends: it left this, with its outcome, and tells how many events the bytes have, if they are a log
abbrev pub EndsGroupedAudit : AuditRules → GroupDetail → List LogQuestion → (bytes before after : Option (List ℕ)) → Audited → Type 0
EndsGroupedAudit rules told asked bytes before after audited =
    IsGroupedAudit rules told asked bytes before after audited.outcome × TellsEvents rules.records MAX_CAPACITY bytes audited
