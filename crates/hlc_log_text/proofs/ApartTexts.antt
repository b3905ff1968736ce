-- Texts of logs whose messages were told apart.
use Rattle.std.proofs.Common.{◌≡◌, ◌∙◌, ℕ, ◌*◌, ◌<◌, ◌≤◌, zero, suc, List, [], ◌∷◌, Option, Some, None, ap, arith, get_or, length, map, refl, subst, sym}
use Rattle.std.specs.Prelude.{All, AllPairs}
use Rattle.std.specs.List.{range_with_len}
use Rattle.std.proofs.lemmas.List.{ext_get_or, get_or-map, length-map}
use Rattle.std.proofs.lemmas.List.FromFn.{get_or-map-range_with_len, length-range_with_len}
use Rattle.hlc_stamp.specs.declared.id.NodeId.{NodeId}
use Rattle.hlc_log.specs.declared.log_event.LogEvent.{LogEvent}
use Rattle.hlc_log.specs.Events.{IsInRange, IsNumbered, no_event}
use Rattle.hlc_log.proofs.ToldApart.{in_range_apart, length-apart, lines_apart, numbered_apart}
use Rattle.hlc_log_text.specs.declared.log_rules.LogRules.{LogRules}
use Rattle.hlc_log_text.specs.declared.partial_log.PartialLog.{PartialLog}
use Rattle.hlc_log_text.specs.Labels.{label_at}
use Rattle.hlc_log_text.specs.LogItem.{LogItem, events_in}
use Rattle.hlc_log_text.specs.LogText.{IsLogOf, IsTextOf, apart_count, apart_if, message_names, node_of, sender_of_event, senders_of, unnamed_in, with_names}
use Rattle.hlc_log_text.specs.ReadText.{ReadText}
use Rattle.hlc_log_text.specs.NamedEvent.{NamedEvent, without_asides}
use Rattle.hlc_log_text.specs.PartialLog.{HasFewNames, IsFinished, IsPartialLog, apart_log, apart_text, nodes_named, text_of, text_with}
use Rattle.hlc_log_text.specs.ReadLog.{AreOnLines, IsReadInto, IsReadWhole, IsTextRead}
use Rattle.hlc_log_text.proofs.LogFacts.{length-log}

-- what is true of a log whose messages are told apart, if some have no name
module _ (messages : ℕ) (senders : List (Option NodeId)) (raw : List LogEvent) where
  length-apart_if : (unnamed : Option ℕ) → length (apart_if unnamed messages senders raw) ≡ length raw
  length-apart_if None = refl
  length-apart_if (Some n) = length-apart (record { 0 = n }) messages senders raw 0 raw

  pub lines_apart_if : (unnamed : Option ℕ)
      → map (λ (e : LogEvent). e.line) (apart_if unnamed messages senders raw) ≡ map (λ (e : LogEvent). e.line) raw
  lines_apart_if None = refl
  lines_apart_if (Some n) = lines_apart (record { 0 = n }) messages senders raw 0 raw

  pub in_range_apart_if : (unnamed : Option ℕ) → All IsInRange raw → All IsInRange (apart_if unnamed messages senders raw)
  in_range_apart_if None in_range = in_range
  in_range_apart_if (Some n) in_range = in_range_apart (record { 0 = n }) messages senders raw 0 raw in_range

  pub numbered_apart_if : (unnamed : Option ℕ) → All (IsNumbered messages) raw
      → All (IsNumbered (apart_count unnamed messages (length raw))) (apart_if unnamed messages senders raw)
  numbered_apart_if None numbered = numbered
  numbered_apart_if (Some n) numbered = numbered_apart (record { 0 = n }) messages senders raw numbered

  few_apart_if : (unnamed : Option ℕ) → messages ≤ length raw → apart_count unnamed messages (length raw) ≤ 2 * length (apart_if unnamed messages senders raw)
  few_apart_if None few = omega arith
  few_apart_if (Some n) few = let size = length-apart_if (Some n) in omega (arith, size, few)

pub length-told : (events : List NamedEvent) (text : ReadText) → IsLogOf events text → length text.log.events ≡ length events
length-told events text h =
    let names = message_names events in
    ap length h.apart ∙ length-apart_if (length names) (senders_of text.details.nodes events) h.raw (unnamed_in names)
    ∙ sym (length-map h.raw (with_names text.details.nodes names)) ∙ ap length h.told ∙ length-map events without_asides

-- events on the same lines stand on rising ones together
rising_same : (events others : List LogEvent) → map (λ (e : LogEvent). e.line) events ≡ map (λ (e : LogEvent). e.line) others
    → AllPairs (λ d e. d.line < e.line) others → AllPairs (λ d e. d.line < e.line) events
rising_same events others same rising i j d before within =
    let size : length events ≡ length others =
    sym (length-map events (λ (e : LogEvent). e.line)) ∙ ap length same ∙ length-map others (λ (e : LogEvent). e.line) in
    let line : (k : ℕ) → k < length events → (get_or events k d).line ≡ (get_or others k d).line =
    λ k lt. sym (get_or-map (λ (e : LogEvent). e.line) events k d d.line lt) ∙ ap (λ (lines : List ℕ). get_or lines k d.line) same
    ∙ get_or-map (λ (e : LogEvent). e.line) others k d d.line (omega (arith, size, lt)) in
    let first = line i (omega (arith, before, within)) in
    let second = line j within in
    let rises = rising i j d before (omega (arith, size, within)) in
    omega (arith, first, second, rises)

-- the nodes that events name as senders
sender_is : (events : List NamedEvent) (place : ℕ) (d : NamedEvent) → place < length events → sender_of_event events place ≡ (get_or events place d).from
sender_is [] place d lt = absurd (omega (arith, lt))
sender_is (e ∷ events) zero d lt = refl
sender_is (e ∷ events) (suc place) d lt = sender_is events place d (omega (arith, lt))

module _ (items : List LogItem) (lines : List ℕ) (partial : PartialLog) (h : IsPartialLog items lines partial) where
  abbrev events : List NamedEvent
  events = events_in items

  abbrev raw : List LogEvent
  raw = partial.log.events

  senders_are : nodes_named partial.nodes partial.senders (length raw) ≡ senders_of partial.nodes events
  senders_are =
      let none = with_names [] [] no_event in
      let named = λ (place : ℕ). node_of partial.nodes (label_at partial.senders place) in
      let of_event = λ (e : NamedEvent). node_of partial.nodes e.from in
      let size = length-log events (text_of partial) h.held.log in
      let counted : length (nodes_named partial.nodes partial.senders (length raw)) ≡ length raw =
      length-map (range_with_len 0 (length raw)) named ∙ length-range_with_len 0 (length raw) in
      ext_get_or None (nodes_named partial.nodes partial.senders (length raw)) (senders_of partial.nodes events)
      (counted ∙ size ∙ sym (length-map events of_event))
      (λ i lt.
      let within : i < length raw = omega (arith, counted, lt) in
      get_or-map-range_with_len named 0 (length raw) i i None within (omega arith) ∙ ap (node_of partial.nodes) (h.senders i)
      ∙ ap (node_of partial.nodes) (sender_is events i none (omega (arith, size, within)))
      ∙ sym (get_or-map of_event events i none None (omega (arith, size, within))))

  apart_is : (apart_text partial).log.events ≡ apart_if (unnamed_in (message_names events)) (length (message_names events)) (senders_of partial.nodes events) raw
  apart_is = λ i. apart_if (unnamed_in (h.messages i)) (length (h.messages i)) (senders_are i) raw

  pub is_text : IsTextOf items (apart_text partial)
  is_text = record {
    log = record {
      raw = raw;
      told = h.held.log.told;
      named = h.held.log.named;
      apart = apart_is;
      nodes = h.held.log.nodes;
      names = h.messages;
      messages = λ i. apart_count (unnamed_in (h.messages i)) (length (h.messages i)) (length raw);
      few_nodes = h.held.log.few_nodes;
      few_messages = few_apart_if (length partial.messages) (nodes_named partial.nodes partial.senders (length raw)) raw (unnamed_in partial.messages) h.held.log.few_messages;
      labels = h.held.log.labels;
      lines_rise = rising_same (apart_text partial).log.events raw (lines_apart_if (length partial.messages) (nodes_named partial.nodes partial.senders (length raw)) raw (unnamed_in partial.messages)) h.held.log.lines_rise;
    };
    questions = h.held.questions;
    skipped = h.held.skipped;
    left_out = h.held.left_out;
    files = h.held.files;
  }

on_lines_same : (bytes : Option (List ℕ)) (items : List LogItem) (these others : List LogEvent)
    → map (λ (e : LogEvent). e.line) these ≡ map (λ (e : LogEvent). e.line) others → AreOnLines bytes items others → AreOnLines bytes items these
on_lines_same None items these others same on_lines = on_lines
on_lines_same (Some text) items these others same on_lines = same ∙ on_lines

pub is_whole : (rules : LogRules) (most : ℕ) (bytes : Option (List ℕ)) (partial : PartialLog) → IsReadInto rules most bytes partial
    → IsReadWhole rules most bytes (apart_text partial)
is_whole rules most bytes partial h = record {
  records = h.records;
  items = h.items;
  all = h.all;
  only = h.only;
  closed = h.closed;
  within = h.within;
  make = h.make;
  held = is_text h.items h.lines partial h.held;
  on_lines = on_lines_same bytes h.items (apart_text partial).log.events partial.log.events
      (lines_apart_if (length partial.messages) (nodes_named partial.nodes partial.senders (length partial.log.events)) partial.log.events (unnamed_in partial.messages))
      h.on_lines;
  skipped = h.skipped;
  left_out = h.left_out;
  files = h.files;
  taken = h.taken;
}

pub is_text_read : (rules : LogRules) (most : ℕ) (bytes : Option (List ℕ)) (old new : PartialLog) (nodes : List (List ℕ)) → IsFinished old new nodes
    → IsReadInto rules most bytes old → IsTextRead rules most bytes new nodes
is_text_read rules most bytes old new nodes finished h =
    subst (IsReadWhole rules most bytes) (sym finished.text) (is_whole rules most bytes old h)

-- once messages are told apart, the names of nodes can be handed out
module _ (old told : PartialLog) (few : HasFewNames old) (is : told ≡ record old { log = apart_log old }) where
  abbrev messages : ℕ
  messages = length old.messages

  size : length (apart_log old).events ≡ length old.log.events
  size = length-apart_if messages (nodes_named old.nodes old.senders (length old.log.events)) old.log.events (unnamed_in old.messages)

  pub is_finished : (taken left : List (List ℕ)) → taken ≡ told.nodes → left ≡ [] → (names : List (List ℕ)) → names ≡ taken
      → IsFinished old (record told { nodes = left }) names
  is_finished taken left take none names same =
      let empty = ap length none in
      let few_messages = few.few_messages in
      let counted = size in
      let mentioned = ap (λ (p : PartialLog). length p.messages) is in
      let happened = ap (λ (p : PartialLog). length p.log.events) is in
      record {
        text = ap (text_with names) is ∙ ap (λ (n : List (List ℕ)). text_with n (record old { log = apart_log old })) (same ∙ take ∙ ap (λ (p : PartialLog). p.nodes) is)
            ∙ ap (λ (count : ℕ). record (apart_text old) { messages = apart_count (unnamed_in old.messages) messages count }) size;
        few = record { few_nodes = omega (arith, empty); few_messages = omega (arith, counted, few_messages, mentioned, happened) };
      }
