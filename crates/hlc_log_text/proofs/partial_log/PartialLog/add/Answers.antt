use Rattle.std.proofs.Common.{◌≡◌, ◌∙◌, ◌<◌, Bor, List, ℕ, [], ◌∷◌, ◌++◌, Option, None, Some, ap, length, refl, subst, sym}
use Rattle.std.specs.Prelude.{option_map}
use Rattle.std.proofs.lemmas.Option.{get_or_from_slice_get, slice_get_within}
use Rattle.hlc_log.specs.declared.log_event.TheConstants.{MAX_LOG_NODES}
use Rattle.hlc_log.specs.declared.log_event.LogEvent.{LogEvent}
use Rattle.hlc_log_text.specs.Labels.{GivesLabel}
use Rattle.hlc_log_text.specs.LogItem.{events_in}
use Rattle.hlc_log_text.specs.LogText.{name_of, node_names, with_names}
use Rattle.hlc_log_text.specs.Names.{with_name}
use Rattle.hlc_log_text.specs.PartialLog.{IsPartialLog, NumbersNode}
use Rattle.hlc_log_text.specs.NamedEvent.{NamedEvent, told_by, with_extras, without_asides}
use Rattle.hlc_log_text.specs.declared.partial_log.PartialLog.{PartialLog}
use Rattle.hlc_log_text.proofs.LogFacts.{is_reading-more, node_names-push}
use Rattle.hlc_log_text.proofs.partial_log.PartialLog.add.Goals as goal

pub returns-in_default-clause-added : goal.returns-in_default-clause-added
returns-in_default-clause-added c items lines h =
    let label = option_map (λ (l : Bor (List ℕ)). l.now) c.args.names.label in
    let from = option_map (λ (l : Bor (List ℕ)). l.now) c.args.names.from in
    let r = with_extras c.args.extras (told_by c.args.head c.args.names.node.now c.args.names.message.now from label) in
    let old = c.args.self.now in
    let over : NumbersNode old.nodes c.number_node.new.nodes c.args.names.node.now None = rw c.in_default.is at c.in_ok-node.ensures in
    let names : with_name c.args.self.now.nodes c.args.names.node.now ≡ node_names (events_in items ++ r ∷ []) =
    ap (λ (names : List (List ℕ)). with_name names c.args.names.node.now) h.held.log.nodes ∙ sym (node_names-push (events_in items) r) in
    let now : List (List ℕ) → PartialLog = λ nodes. record {
      log = old.log;
      nodes = nodes;
      messages = old.messages;
      labels = old.labels;
      senders = old.senders;
      questions = old.questions;
      line = old.line;
      header = old.header;
      skipped = old.skipped;
      left_out = old.left_out;
      sent = old.sent;
      files = old.files;
    } in (
      subst (λ (names : List (List ℕ)). MAX_LOG_NODES < length names) names over.0,
      subst (λ (nodes : List (List ℕ)). IsPartialLog items lines (now nodes)) (sym over.1) (record {
        held = h.held;
        messages = h.messages;
        on_lines = h.on_lines;
        one_each = h.one_each;
        ends = h.ends;
        before = h.before;
        low = h.low;
        header = h.header;
        last = h.last;
        senders = h.senders;
        skipped = h.skipped;
        left_out = h.left_out;
        sent = h.sent;
        files = h.files;
        marks = h.marks;
      }),
    )

module _ (c : goal.After-pass) where
  abbrev event : LogEvent
  event = record {
    node = c.in-Some.node;
    reading = c.args.head.reading;
    has_reading = c.args.head.has_reading;
    kind = c.in_ok-kind.kind;
    stamp = c.args.head.stamp;
    has_stamp = c.args.head.has_stamp;
    carried = c.args.extras.carried;
    seq = c.args.extras.seq;
    line = c.args.line;
  }

  numbered : NumbersNode c.args.self.now.nodes c.number_node.new.nodes c.args.names.node.now (Some c.in-Some.node)
  numbered = rw c.in-Some.is at c.in_ok-node.ensures

  node_is : name_of c.number_node.new.nodes c.in-Some.node.0 ≡ c.args.names.node.now
  node_is = get_or_from_slice_get c.number_node.new.nodes c.in-Some.node.0 c.args.names.node.now [] numbered.1

  abbrev named : NamedEvent
  named =
      with_extras c.args.extras (told_by c.args.head c.args.names.node.now c.args.names.message.now
      (option_map (λ (l : Bor (List ℕ)). l.now) c.args.names.from) (option_map (λ (l : Bor (List ℕ)). l.now) c.args.names.label))

  told : with_names c.number_node.new.nodes c.number_message.new.messages event ≡ without_asides named
  told = λ i. record {
    head = record { word = c.in_ok-kind.ensures.is_word i; reading = c.args.head.reading; has_reading = c.args.head.has_reading; stamp = c.args.head.stamp; has_stamp = c.args.head.has_stamp };
    node = node_is i;
    message = c.in_ok-kind.ensures.message i;
    from = None;
    carried = c.args.extras.carried;
    seq = c.args.extras.seq;
    label = None;
  }

  -- its label stands at its place
  place : c.len.result ≡ length c.args.self.now.log.events
  place = c.len.ensures.value

pub returns-clause-added : goal.returns-clause-added
returns-clause-added c items lines h =
    let new : PartialLog = record {
      log = c.push.new.self;
      nodes = c.number_node.new.nodes;
      messages = c.number_message.new.messages;
      labels = c.give.new.self;
      senders = c.give-2.new.self;
      questions = c.args.self.now.questions;
      line = c.args.line;
      header = c.pass.new.self;
      skipped = c.args.self.now.skipped;
      left_out = c.args.self.now.left_out;
      sent = c.mark.new.self;
      files = c.args.self.now.files;
    } in
    is_reading-more items lines c.args.self.now new (named c) (event c) h record {
      pushed = c.in_ok-push.ensures.events;
      nodes = (numbered c).0;
      messages = c.in_ok-kind.ensures.names;
      labels = subst (λ (place : ℕ). GivesLabel c.args.self.now.labels c.give.new.self place (named c).label) (place c) c.in_ok-give.ensures;
      senders = subst (λ (place : ℕ). GivesLabel c.args.self.now.senders c.give-2.new.self place (named c).from) (place c)
          (subst (λ (sender : Option (List ℕ)). GivesLabel c.args.self.now.senders c.give-2.new.self c.len.result sender) c.sender.ensures
          c.in_ok-give-2.ensures);
      questions = refl;
      told = told c;
      named = (slice_get_within c.number_node.new.nodes c.in-Some.node.0 c.args.names.node.now (numbered c).1, c.in_ok-kind.ensures.below);
      few_nodes = (numbered c).2;
      line = refl;
      next = c.requires.line;
      header = c.pass.ensures;
      skipped = refl;
      left_out = refl;
      kept = c.mark.ensures.kept;
      marks = c.in_ok-mark.ensures.marks;
      files = refl;
    }
