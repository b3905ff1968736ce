-- What the audit of a history's own log leaves.
use Rattle.std.specs.Prelude.{◌≡◌, Bool, ℕ, List, [], Option, Some, None, length}
use Rattle.std.specs.Io.KnownBytes.{Appends}
use Rattle.hlc_stamp.specs.declared.limits.TheConstants.{MAX_CAPACITY}
use Rattle.hlc_causality.specs.declared.receives.Receives.TheVariants.{Tick}
use Rattle.hlc_arena.specs.History.{History}
use Rattle.hlc_csv.specs.Rows.{Fields, text_of}
use Rattle.hlc_log_text.specs.LogRules.{exact_rules}
use Rattle.hlc_log_text.specs.ReadText.{ReadText}
use Rattle.hlc_log_text.specs.declared.stamp_form.StampForm.TheVariants.{Pair}
use Rattle.hlc_ordered_log.specs.Counts.{told_count}
use Rattle.hlc_ordered_log.specs.InOrder.{IsInOrder, LogInOrder}
use Rattle.hlc_log_audit.specs.Audit.{IsWholeAudited}
use Rattle.hlc_log_audit.specs.Laws.{IsCleanReport}
use Rattle.hlc_log_audit.specs.declared.outcome.Outcome.{Outcome}
use Rattle.hlc_log_audit.specs.declared.outcome.Outcome.TheVariants.{Sound}
use Rattle.hlc_log_audit.specs.declared.rules.AuditRules.{AuditRules}
use Rattle.hlc_history_log.specs.Laws.{IsClocked, IsLogRead}
use Rattle.hlc_history_log.specs.LogRows.{log_text}

-- an audit of stamps of two numbers, in which no drift is too great
abbrev pub plain_rules : (report : Bool) → AuditRules
plain_rules report = record { records = exact_rules Pair; limit = None; report = report }

-- the audit found nothing wrong with a history, and the writer got the report on its log that says so: the count of its events, all of them
-- told and least, its nodes, its messages and its skews
pub record IsFoundSound (h : History) (before after : Option (List ℕ)) (result : Outcome) : Type 0 where
  pub sound : result ≡ Sound
  pub text : ReadText
  pub read : IsLogRead h text
  pub log : LogInOrder
  pub receives : log.receives ≡ Tick
  pub events : log.events ≡ text.log.events
  pub in_order : IsInOrder log
  pub one_each : length log.events ≡ length h.events
  pub all_told : told_count log ≡ length log.events
  pub rows : List Fields
  pub clean : IsCleanReport text.details.files text.details.nodes log rows
  pub written : Appends before after (text_of rows)

-- so it is whenever the log of a history is read whole and audited
abbrev pub HistoriesAuditSound : Type 0
HistoriesAuditSound = (h : History) (report : Bool) (before after : Option (List ℕ)) (result : Outcome) → IsClocked h →
    IsWholeAudited (plain_rules report) MAX_CAPACITY [] (Some (log_text h.events)) before after result → IsFoundSound h before after result
