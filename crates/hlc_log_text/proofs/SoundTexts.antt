-- What is so of each log that was read.
use Rattle.std.proofs.Common.{◌*◌, ◌≤◌, ℕ, List, Option, arith, length, subst, sym}
use Rattle.std.specs.Prelude.{All}
use Rattle.hlc_stamp.specs.declared.limits.TheConstants.{MAX_CAPACITY}
use Rattle.hlc_log.specs.Events.{IsNumbered}
use Rattle.hlc_log_text.specs.declared.log_rules.LogRules.{LogRules}
use Rattle.hlc_log_text.specs.LogItem.{events_in}
use Rattle.hlc_log_text.specs.LogText.{IsLogOf, apart_count, message_names, senders_of, unnamed_in}
use Rattle.hlc_log_text.specs.NamedEvent.{NamedEvent}
use Rattle.hlc_log_text.specs.ReadLog.{IsReadWhole}
use Rattle.hlc_log_text.specs.ReadText.{IsSoundText, ReadText}
use Rattle.hlc_log_text.proofs.ApartTexts.{length-told, numbered_apart_if}
use Rattle.hlc_log_text.proofs.LogFacts.{length-items, numbered_of}
use Rattle.hlc_log_text.proofs.NamedNodes.{read_names}
use Rattle.hlc_log_text.proofs.ReadFacts.{length-said}
use Rattle.hlc_log_text.proofs.ReadingFacts.{in_range_of_whole}

-- it mentions no more messages than twice as many as there may be records
few_messages : (rules : LogRules) (most : ℕ) (bytes : Option (List ℕ)) (text : ReadText) → IsReadWhole rules most bytes text → text.messages ≤ 2 * most
few_messages rules most bytes text read =
    let few = read.held.log.few_messages in
    let events = length-told (events_in read.items) text read.held.log in
    let items = length-items read.items in
    let said = length-said rules read.records read.items read.make in
    let within = read.within in
    omega arith

-- its messages have numbers below that
numbered_as_read : (events : List NamedEvent) (text : ReadText) → IsLogOf events text → All (IsNumbered text.messages) text.log.events
numbered_as_read events text log =
    let names = message_names events in
    let raw = numbered_of text.details.nodes names log.raw log.few_nodes log.named in
    subst (λ (messages : ℕ). All (IsNumbered messages) text.log.events) (sym log.messages)
    (subst (All (IsNumbered (apart_count (unnamed_in names) (length names) (length log.raw)))) (sym log.apart)
    (numbered_apart_if (length names) (senders_of text.details.nodes events) log.raw (unnamed_in names) raw))

pub sound_text : (rules : LogRules) (most : ℕ) (bytes : Option (List ℕ)) (text : ReadText) → most ≤ MAX_CAPACITY → IsReadWhole rules most bytes text
    → IsSoundText text
sound_text rules most bytes text few read = record {
  numbered = numbered_as_read (events_in read.items) text read.held.log;
  in_range = in_range_of_whole rules most bytes text read;
  messages = let messages = few_messages rules most bytes text read in omega (arith, messages, few);
  rise = read.held.log.lines_rise;
  few = read.held.log.few_nodes;
  named = read_names (events_in read.items) text read.held.log;
}
