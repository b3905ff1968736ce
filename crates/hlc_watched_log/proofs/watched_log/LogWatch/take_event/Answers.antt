use Rattle.std.proofs.Common.{◌≡◌, ◌∙◌, None, Option, ap, refl, subst, sym}
use Rattle.csv.specs.Records.{fields_of}
use Rattle.hlc_log_text.specs.NamedEvent.{NamedEvent}
use Rattle.hlc_log_text.specs.declared.bad_log.BadLog.{BadLog}
use Rattle.hlc_watched_log.specs.Files.{line_here}
use Rattle.hlc_watched_log.specs.Numbers.{name_number}
use Rattle.hlc_watched_log.specs.Taken.{TakesOr}
use Rattle.hlc_watched_log.specs.Watched.{WatchedLog, complete_as, event_by, unwatched, unwatched_by, with_event}
use Rattle.hlc_watched_log.proofs.EventsTaken.{event_taken, message, node}
use Rattle.hlc_watched_log.proofs.watched_log.LogWatch.take_event.Goals as goal

pub returns-clause-taken : goal.returns-clause-taken
returns-clause-taken g c named is =
    let rules = c.args.rules.now in
    let old = c.args.self.now in
    let head = c.args.head.now in
    let extras = c.args.extras.now in
    let placed = fields_of c.args.placed.now in
    let at = g.W.Write.contents in
    let node_is = c.field-node.ensures in
    let message_is = c.message_name-message.ensures in
    let number = c.number_node-number.ensures.number in
    let same = c.number_node-number.ensures.same in
    let good : None ≡ unwatched_by rules.records.form head.word head.has_stamp (message rules old head extras placed is.0 is.1) (name_number old.names.nodes (node rules old head extras placed is.0 is.1)) =
    sym c.in_default.is ∙ c.unwatched.ensures
    ∙ (λ i. unwatched_by rules.records.form head.word head.has_stamp (message_is i) ((number ∙ ap (name_number old.names.nodes) node_is) i)) in
    let added = c.in_ok-add.field-0 in
    let event = c.in_ok-add.ensures.event ∙ (λ i. event_by (same i) head extras (node_is i)) in
    let complete =
    ap (λ (l : WatchedLog). complete_as rules l.kept l.files.current added c.message_name-message.result.now) same
    ∙ ap (complete_as rules old.kept old.files.current added) message_is in
    let kept = c.in_ok-add.ensures.kept ∙ (λ i. with_event rules (same i) (node_is i) (message_is i) added) in
    let line = ap (λ (l : WatchedLog). line_here l.files) same ∙ sym (ap (λ (l : WatchedLog). line_here l.files) kept) in
    subst (λ (n : NamedEvent). (let o : Option BadLog = None in o ≡ unwatched rules.records.form old.names.nodes n) × TakesOr rules old (Option.Some n) (at c.args.writer.now) (at c.sum_up_if_due.new.writer) c.add.new.self None)
    (sym is.2)
    (event_taken rules old head extras placed is.0 is.1 added _ c.add.new.self c.add.new.self.names _ (at c.args.writer.now) (at c.add.new.writer)
    (at c.sum_up_if_due.new.writer) good event complete kept refl line c.in_ok-add.ensures.told c.in_ok-sum_up_if_due.ensures)
