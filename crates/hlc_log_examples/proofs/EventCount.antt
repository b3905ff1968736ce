-- How many events a log has that was read.
use Rattle.std.proofs.Common.{◌≡◌, ℕ, List, Option, Some, Result, Ok, Err, length, subst}
use Rattle.std.specs.Prelude.{IfOk}
use Rattle.std.specs.Result.{result_ok}
use Rattle.hlc_csv.specs.Records.{AreAllOf}
use Rattle.hlc_csv.specs.Rows.{Fields}
use Rattle.hlc_log_text.specs.declared.log_rules.LogRules.{LogRules}
use Rattle.hlc_log_text.specs.declared.fault.LogTextFault.{LogTextFault}
use Rattle.hlc_log_text.specs.ReadText.{ReadText}
use Rattle.hlc_log_text.specs.LogItem.{LogItem, events_in}
use Rattle.hlc_log_text.specs.ReadLog.{IsReadWhole, SayItems}
use Rattle.hlc_log_text.proofs.ApartTexts.{length-told}

-- one for each record that tells of one
pub one_event_each : (rules : LogRules) (most : ℕ) (bytes : Option (List ℕ)) (text : ReadText) → IsReadWhole rules most bytes text
    → (records : List Fields) × (items : List LogItem) × AreAllOf bytes records × SayItems rules records items
    × (length text.log.events ≡ length (events_in items))
one_event_each rules most bytes text h = (h.records, h.items, h.all, h.make, length-told (events_in h.items) text h.held.log)

-- what holds of a log if it is read holds of the one that was
pub holds_of_read : (P : ReadText → Type 0) (answer : Result ReadText LogTextFault) (text : ReadText) → Some text ≡ result_ok answer
    → IfOk answer P → P text
holds_of_read P (Ok read) text same holds = let is : read ≡ text = cc same in subst P is holds
holds_of_read P (Err fault) text same holds = absurd (cc same)
