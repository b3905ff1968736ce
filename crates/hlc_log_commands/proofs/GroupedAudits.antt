-- How an audit with groups ends.
use Rattle.std.proofs.Common.{◌≡◌, ℕ, List, [], Option, length, refl, subst}
use Rattle.std.specs.Io.KnownBytes.{Appends}
use Rattle.hlc_stamp.specs.declared.limits.TheConstants.{MAX_CAPACITY}
use Rattle.hlc_csv.specs.Rows.{Fields, text_of}
use Rattle.hlc_log_text.specs.declared.question.LogQuestion.{LogQuestion}
use Rattle.hlc_open_log.specs.Opened.{IsOpened, OpenedLog}
use Rattle.hlc_open_log.specs.Unopened.{ExplainsOpenFault}
use Rattle.hlc_open_log.specs.declared.fault.OpenFault.{OpenFault}
use Rattle.hlc_log_audit.specs.Audit.{AreRowsTold, IsBadTold, IsOutcome, all_asked}
use Rattle.hlc_log_audit.specs.declared.audited.Audited.{Audited}
use Rattle.hlc_log_audit.specs.declared.rules.AuditRules.{AuditRules}
use Rattle.hlc_log_audit.proofs.Telling.{bad_ends, opened_ends}
use Rattle.hlc_log_groups.specs.GroupRows.{AreGroupRowsIf}
use Rattle.hlc_log_commands.specs.GroupedAudit.{EndsGroupedAudit}
use Rattle.hlc_log_groups.specs.declared.group_detail.GroupDetail.{GroupDetail}
use Rattle.hlc_log_groups.proofs.GroupSteps.{appends_none}

module _ (rules : AuditRules) (told : GroupDetail) (asked : List LogQuestion) (bytes before after : Option (List ℕ)) where
  -- so ends the audit of a log that was opened, of which rows were told, and then groups
  pub opened_ends_grouped : (opened : OpenedLog) (audited : Audited) → IsOpened rules.records MAX_CAPACITY bytes opened
      → ((between : Option (List ℕ)) × (rows : List Fields) × (groups : List Fields) × AreRowsTold opened rules (all_asked opened.questions asked) rows
      × Appends before between (text_of rows) × IsOutcome rules opened.log audited.outcome × AreGroupRowsIf told opened groups
      × Appends between after (text_of groups)) → audited.events ≡ length opened.log.events → EndsGroupedAudit rules told asked bytes before after audited
  opened_ends_grouped opened audited is rows counted =
      let ends = opened_ends rules MAX_CAPACITY asked bytes before rows.0 opened audited is (rows.1, rows.3, rows.4, rows.5) counted in (
        record {
          between = rows.0;
          audited = ends.0;
          groups = rows.2;
          are_groups = λ _. (opened, is, rows.6);
          none = λ bad. absurd (subst (IsOutcome rules opened.log) bad rows.5);
          written = rows.7;
        },
        ends.1,
      )

  -- and so that of bad input, of which no groups are told
  pub bad_ends_grouped : (fault : OpenFault) (audited : Audited) → ExplainsOpenFault rules.records MAX_CAPACITY bytes fault
      → IsBadTold fault before after audited → EndsGroupedAudit rules told asked bytes before after audited
  bad_ends_grouped fault audited explained bad =
      let ends = bad_ends rules MAX_CAPACITY asked bytes before after fault audited explained bad in (
        record {
          between = after;
          audited = ends.0;
          groups = [];
          are_groups = λ good. absurd (good bad.3);
          none = λ _. refl;
          written = appends_none after;
        },
        ends.1,
      )
