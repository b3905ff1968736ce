-- The answers to a log, by what a page gives of it.
use Rattle.std.proofs.Common.{◌≡◌, ℕ, Bool, List, Option, Some, [], subst}
use Rattle.hlc_stamp.specs.declared.limits.TheConstants.{MAX_CAPACITY}
use Rattle.hlc_json_lines.specs.Rules.{Rules}
use Rattle.hlc_log_text.specs.ReadLog.{HasTooMany}
use Rattle.hlc_log_text.specs.declared.log_rules.LogRules.{LogRules}
use Rattle.hlc_log_text.specs.declared.question.LogQuestion.{LogQuestion}
use Rattle.hlc_log_audit.specs.declared.outcome.Outcome.{Outcome}
use Rattle.hlc_command_line.specs.Asked.{AreAsked}
use Rattle.hlc_command_line.specs.declared.drawn_part.DrawnPart.{DrawnPart}
use Rattle.hlc_command_line.specs.declared.line_order.AuditOptions.{AuditOptions}
use Rattle.hlc_command_line.specs.declared.line_order.DrawLogOptions.{DrawLogOptions}
use Rattle.hlc_command_line.specs.declared.line_order.LogLine.{LogLine}
use Rattle.hlc_log_commands.specs.Audited.{IsAuditedBy}
use Rattle.hlc_log_commands.specs.LogVectors.{HasVectors}
use Rattle.hlc_log_commands.specs.Unopened.{IsToldBad}
use Rattle.hlc_page.specs.declared.page_log.PageLog.{PageLog}
use Rattle.hlc_page.specs.Answer.{AreAuditOptionsOf, AreDrawingOf, AreVectors, Command, IsAuditOf, IsDrawing, IsLogTooLong, IsToldNoLog, records_of}
use Rattle.hlc_page.specs.Given.{AreRecordsOf, IsJsonOf}

module _ (log : PageLog) (json : Option Rules) (is_json : IsJsonOf log json) (before answer : List ℕ) (empty : before ≡ []) where
  pub audit_is : (asked : List (List ℕ)) (limit : ℕ) (report grouped : Bool) (output : ℕ) (found : Outcome) (options : AuditOptions)
      (questions : List LogQuestion) → AreAuditOptionsOf log limit report grouped output options → AreAsked asked questions
      → IsAuditedBy options questions (records_of log json) (Some before) (Some answer) found
      → IsAuditOf log asked limit report grouped output found answer
  audit_is asked limit report grouped output found options questions are_options are_asked audited = record {
    options = options;
    are_options = are_options;
    json = json;
    is_json = is_json;
    questions = questions;
    are_asked = are_asked;
    audited = subst (λ (b : List ℕ). IsAuditedBy options questions (records_of log json) (Some b) (Some answer) found) empty audited;
  }

  pub drawing_is : (IsDone : DrawLogOptions → Command) (part : DrawnPart LogLine) (options : DrawLogOptions) → AreDrawingOf log part options
      → IsDone options (records_of log json) (Some before) (Some answer) → IsDrawing IsDone log part answer
  drawing_is IsDone part options are_options done = record {
    options = options;
    are_options = are_options;
    json = json;
    is_json = is_json;
    done = subst (λ (b : List ℕ). IsDone options (records_of log json) (Some b) (Some answer)) empty done;
  }

  pub vectors_are : (records : LogRules) → AreRecordsOf log records → HasVectors records (records_of log json) (Some before) (Some answer) → AreVectors log answer
  vectors_are records are_records written = record {
    records = records;
    are_records = are_records;
    json = json;
    is_json = is_json;
    written = subst (λ (b : List ℕ). HasVectors records (records_of log json) (Some b) (Some answer)) empty written;
  }

  pub no_log_is_told : (records : LogRules) → AreRecordsOf log records → IsToldBad MAX_CAPACITY records (records_of log json) (Some before) (Some answer)
      → IsToldNoLog log answer
  no_log_is_told records are_records told = record {
    records = records;
    are_records = are_records;
    json = json;
    is_json = is_json;
    told = subst (λ (b : List ℕ). IsToldBad MAX_CAPACITY records (records_of log json) (Some b) (Some answer)) empty told;
  }

pub too_long_is : (log : PageLog) (json : Option Rules) (records : LogRules) → IsJsonOf log json → AreRecordsOf log records
    → HasTooMany records MAX_CAPACITY (records_of log json) → IsLogTooLong log
too_long_is log json records is_json are_records many = record { records = records; are_records = are_records; json = json; is_json = is_json; many = many }
