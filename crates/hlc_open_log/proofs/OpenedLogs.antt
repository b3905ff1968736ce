-- What is so of a log that is opened.
use Rattle.std.proofs.Common.{◌≡◌, ◌∙◌, ◌<◌, ℕ, List, Option, ap, length, subst, sym}
use Rattle.std.specs.List.{filter_map}
use Rattle.hlc_log.specs.declared.log_event.LogEvent.{LogEvent}
use Rattle.hlc_log.specs.declared.order_fault.OrderFault.{OrderFault}
use Rattle.hlc_log_text.specs.ReadLog.{IsReadWhole}
use Rattle.hlc_log_text.specs.declared.fault_rule.FaultRule.{FaultRule}
use Rattle.hlc_log_text.specs.declared.file_mark.FileMark.{FileMark}
use Rattle.hlc_log_text.specs.declared.log_rules.LogRules.{LogRules}
use Rattle.hlc_log_text.specs.ReadText.{HaveNames, IsSoundText, ReadText}
use Rattle.hlc_open_log.specs.Opened.{IsOpen, IsOpenedOf, OpenedLog, opened_events, resent_apart}
use Rattle.hlc_open_log.specs.Unopened.{ExplainsOpenFault, HasNoOrder, TellsDisorder, bad_event, events_text, told_faults}
use Rattle.hlc_open_log.specs.declared.bad_event.BadEvent.{BadEvent}
use Rattle.hlc_open_log.specs.declared.bad_input.BadInput.TheVariants.{Events, Records}
use Rattle.hlc_open_log.specs.declared.fault.OpenFault.{OpenFault}
use Rattle.hlc_open_log.specs.declared.fault.OpenFault.TheVariants as fault
use Rattle.hlc_csv.specs.declared.records_fault.RecordsFault.TheVariants as ended
use Rattle.hlc_open_log.proofs.LinesKept.{rise_apart, rise_filled, rise_kept}
use Rattle.hlc_open_log.proofs.NamesKept.{names_apart, names_filled, names_kept}
use Rattle.hlc_open_log.proofs.PartsOpened.{part_all, part_rises}

-- a log that was read is open once it is opened
pub is_open : (rules : LogRules) (text : ReadText) (opened : OpenedLog) → IsSoundText text → IsOpenedOf rules text opened
    → opened.log.nodes ≡ length opened.nodes → IsOpen opened
is_open rules text opened sound is nodes =
    let events = resent_apart rules.resent text.messages text.log.events in
    let rise = rise_apart rules.resent text.messages text.log.events sound.rise in
    let named = names_apart rules.resent text.messages text.log.events text.details.nodes sound.named in
    let filled = is.ordered.filled in
    let part = is.ordered.part in
    let names = λ (nodes : List (List ℕ)). HaveNames opened.log.events nodes in
    record {
      ordered = is.ordered.in_order;
      nodes_are = nodes;
      rise = rise_filled _ opened.log.events filled (part_rises _ _ _ _ _ part (rise_kept rules.unsent_local events rise));
      few = rw is.nodes sound.few;
      named = subst names (sym is.nodes) (names_filled _ opened.log.events text.details.nodes filled
          (part_all (λ event. event.node.0 < length text.details.nodes) _ _ _ _ _ part (names_kept rules.unsent_local events text.details.nodes named)));
    }

-- a fault of its order explains why a log that was read isn't opened
pub explained : (rules : LogRules) (most : ℕ) (bytes : Option (List ℕ)) (text : ReadText) → IsReadWhole rules most bytes text → (f : OpenFault)
    → TellsDisorder rules.faults text.details.files text.message_names (opened_events rules text.messages text.log.events) f
    → ExplainsOpenFault rules most bytes f
explained rules most bytes text read (fault.Bad (Records records)) none = absurd none
explained rules most bytes text read (fault.Bad (Events events)) none = (text, read, none)
explained rules most bytes text read (fault.Records ended.Read) none = absurd none
explained rules most bytes text read (fault.Records ended.Write) none = absurd none
explained rules most bytes text read (fault.Records ended.TooLong) none = absurd none
explained rules most bytes text read (fault.Records ended.Memory) none = tt

-- one fault is told in one way
pub one_text : (rule : FaultRule) (files : List FileMark) (names : List (List ℕ)) (events : List LogEvent) (told other : List BadEvent)
    (none : HasNoOrder rule files names events told) (other_none : HasNoOrder rule files names events other) → other_none.fault ≡ none.fault
    → events_text other ≡ events_text told
one_text rule files names events told other none other_none same =
    ap events_text
    (other_none.told_are ∙ ap (λ (f : OrderFault). filter_map (bad_event files names events) (told_faults rule events f)) same ∙ sym none.told_are)
