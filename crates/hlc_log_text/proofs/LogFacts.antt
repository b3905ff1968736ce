-- One more record of a log, and its event.
use Rattle.std.proofs.Common.{◌≡◌, ◌∙◌, ℕ, zero, suc, ◌+◌, ◌<◌, ◌≤◌, All, AllPairs, Bool, true, false, List, [], ◌∷◌, ◌++◌, Option, Some, None, ap, arith, cond, filter, length, length-append, map, refl, sym, subst}
use Rattle.std.specs.Prelude.{◌==◌, ◌||◌, IsTrue, slice_get}
use Rattle.std.specs.Option.{option_and_then}
use Rattle.std.specs.List.{cons_option, filter_map}
use Rattle.std.proofs.lemmas.List.{append-nil, length-map, map_push}
use Rattle.std.proofs.lemmas.List.Elements.{All-head, All-push, All-tail, All-weaker, filter_map-append}
use Rattle.std.proofs.lemmas.List.Quantifiers.{all_pairs_push}
use Rattle.hlc_log_text.specs.declared.file_mark.FileMark.{FileMark}
use Rattle.hlc_log.specs.declared.log_event.LogEvent.{LogEvent}
use Rattle.hlc_log.specs.declared.log_event.LogKind.{LogKind}
use Rattle.hlc_log.specs.declared.log_event.LogKind.TheVariants.{Local, Outside, Receive, Restart, Send}
use Rattle.hlc_log.specs.declared.log_event.TheConstants.{MAX_LOG_NODES}
use Rattle.hlc_log.specs.Events.{IsMessageBelow, IsNumbered}
use Rattle.hlc_log.specs.Unsent.{is_send}
use Rattle.hlc_log_text.specs.Names.{first_mentions, with_name}
use Rattle.hlc_log_text.specs.declared.bad_log.BadLine.{BadLine}
use Rattle.hlc_log_text.specs.declared.bad_log.BadLog.{BadLog}
use Rattle.hlc_log_text.specs.declared.columns.Columns.{Columns}
use Rattle.hlc_log_text.specs.FileMarks.{file_mark}
use Rattle.hlc_log_text.specs.Labels.{GivesLabel, label_at}
use Rattle.hlc_log_text.specs.LogItem.{Asks, Begins, Fails, LogItem, Names, Skips, Tells, bad_line, bad_lines_in, event_lines, events_in, file_names_in, if_asked, if_event, if_file, if_reason, is_telling, lines_where, marks_in, picked_in, questions_in, reasons_in}
use Rattle.hlc_log_text.specs.LogText.{IsNamed, IsRawLogOf, IsRawTextOf, kind_message, message_names, node_names, record_count, sender_of_event, with_names}
use Rattle.hlc_log_text.specs.ReadText.{ReadText}
use Rattle.hlc_log_text.specs.LogHeader.{IsHeaderAfter, PassesNext}
use Rattle.hlc_log_text.specs.PartialLog.{AreMarked, IsNextLine, IsPartialLog, details_with, last_of, mark_at, text_of, with_message}
use Rattle.hlc_log_text.specs.NamedEvent.{NamedEvent, without_asides}
use Rattle.hlc_log_text.specs.Question.{Asked, plain_asked}
use Rattle.hlc_log_text.specs.Skipped.{is_skip, skip_count, skipped_count, skipped_in, skipped_on, with_skip}
use Rattle.hlc_log_text.specs.declared.log_header.LogHeader.{LogHeader}
use Rattle.hlc_log_text.specs.declared.question.LogQuestion.{LogQuestion}
use Rattle.hlc_log_text.specs.declared.partial_log.PartialLog.{PartialLog}
use Rattle.hlc_log_text.specs.declared.sent_marks.SentMarks.{SentMarks}
use Rattle.hlc_log_text.specs.declared.skipped.Skipped.{Skipped}
use Rattle.hlc_log_text.proofs.NameFacts.{first_mentions-push, length-with_name, name_of-with_name}
use Rattle.hlc_log_text.proofs.SentNames.{marked-more}

-- the names that one more record mentions
pub node_names-push : (events : List NamedEvent) (r : NamedEvent) → node_names (events ++ r ∷ []) ≡ with_name (node_names events) r.node
node_names-push events r =
    ap first_mentions (map_push (λ (r : NamedEvent). r.node) events r) ∙ first_mentions-push (map (λ (r : NamedEvent). r.node) events) r.node

pub message_names-push : (events : List NamedEvent) (r : NamedEvent)
    → message_names (events ++ r ∷ []) ≡ with_message (message_names events) r.message
message_names-push events r =
    ap first_mentions (filter_map-append (λ (r : NamedEvent). r.message) events (r ∷ [])) ∙ by r.message where
      by : (m : Option (List ℕ))
          → first_mentions (filter_map (λ (r : NamedEvent). r.message) events ++ filter_map (λ (m : Option (List ℕ)). m) (m ∷ []))
          ≡ with_message (message_names events) m
      by None = ap first_mentions (append-nil (filter_map (λ (r : NamedEvent). r.message) events))
      by (Some name) = first_mentions-push (filter_map (λ (r : NamedEvent). r.message) events) name

-- one message more
pub length-with_message : (messages : List (List ℕ)) (m : Option (List ℕ))
    → (length messages ≤ length (with_message messages m)) × (length (with_message messages m) ≤ length messages + 1)
length-with_message messages None = (omega arith, omega arith)
length-with_message messages (Some name) = length-with_name messages name

kind_message-more : (messages : List (List ℕ)) (m : Option (List ℕ)) (kind : LogKind) → IsMessageBelow (length messages) kind
    → kind_message (with_message messages m) kind ≡ kind_message messages kind
kind_message-more messages None kind below = refl
kind_message-more messages (Some name) Local below = refl
kind_message-more messages (Some name) Restart below = refl
kind_message-more messages (Some name) Outside below = refl
kind_message-more messages (Some name) (Send m) below = ap (λ (n : List ℕ). Some n) (name_of-with_name messages name m.0 below)
kind_message-more messages (Some name) (Receive m) below = ap (λ (n : List ℕ). Some n) (name_of-with_name messages name m.0 below)

message_below-more : (a b : ℕ) (kind : LogKind) → a ≤ b → IsMessageBelow a kind → IsMessageBelow b kind
message_below-more a b Local more below = tt
message_below-more a b Restart more below = tt
message_below-more a b Outside more below = tt
message_below-more a b (Send m) more below = omega arith
message_below-more a b (Receive m) more below = omega arith

-- the events that were told of before keep their names
module _ (nodes messages : List (List ℕ)) (node : List ℕ) (m : Option (List ℕ)) where
  abbrev nodes' : List (List ℕ)
  nodes' = with_name nodes node

  abbrev messages' : List (List ℕ)
  messages' = with_message messages m

  same_names : (e : LogEvent) → IsNamed nodes messages e → with_names nodes' messages' e ≡ with_names nodes messages e
  same_names e named =
      let node_is = name_of-with_name nodes node e.node.0 named.0 in
      let message_is = kind_message-more messages m e.kind named.1 in
      λ i. record { head = (with_names nodes messages e).head; node = node_is i; message = message_is i; from = None; carried = e.carried; seq = e.seq; label = None }

  pub map-with_names : (log_events : List LogEvent) → All (IsNamed nodes messages) log_events
      → map (with_names nodes' messages') log_events ≡ map (with_names nodes messages) log_events
  map-with_names [] named = refl
  map-with_names (e ∷ log_events) named =
      let here = same_names e (All-head (IsNamed nodes messages) e log_events named) in
      let there = map-with_names log_events (All-tail (IsNamed nodes messages) e log_events named) in
      λ i. here i ∷ there i

  pub named-more : (log_events : List LogEvent) → All (IsNamed nodes messages) log_events → All (IsNamed nodes' messages') log_events
  named-more log_events named =
      let more_nodes = (length-with_name nodes node).0 in
      let more_messages = (length-with_message messages m).0 in
      All-weaker (IsNamed nodes messages) (IsNamed nodes' messages')
      (λ e is. (let below = is.0 in omega arith, message_below-more (length messages) (length messages') e.kind more_messages is.1)) log_events named

-- what one more record says
pub events_in-tells : (items : List LogItem) (event : NamedEvent) → events_in (items ++ Tells event ∷ []) ≡ events_in items ++ event ∷ []
events_in-tells items event = filter_map-append if_event items (Tells event ∷ [])

pub questions_in-tells : (items : List LogItem) (event : NamedEvent) → questions_in (items ++ Tells event ∷ []) ≡ questions_in items
questions_in-tells items event = filter_map-append if_asked items (Tells event ∷ []) ∙ append-nil (questions_in items)

pub questions_in-asks : (items : List LogItem) (asked : Asked) → questions_in (items ++ Asks asked ∷ []) ≡ questions_in items ++ asked ∷ []
questions_in-asks items asked = filter_map-append if_asked items (Asks asked ∷ [])

-- the line of one more record
lines_where-more : (is_so : LogItem → Bool) (items : List LogItem) (lines : List ℕ) (item : LogItem) (line : ℕ) → length lines ≡ length items
    → lines_where is_so (items ++ item ∷ []) (lines ++ line ∷ []) ≡ lines_where is_so items lines ++ cond (is_so item) (line ∷ []) []
lines_where-more is_so [] [] item line each = refl
lines_where-more is_so [] (l ∷ lines) item line each = absurd (omega (arith, each))
lines_where-more is_so (i ∷ items) [] item line each = absurd (omega (arith, each))
lines_where-more is_so (i ∷ items) (l ∷ lines) item line each = by (is_so i) (lines_where-more is_so items lines item line (omega (arith, each))) where
  by : (here : Bool) → lines_where is_so (items ++ item ∷ []) (lines ++ line ∷ []) ≡ lines_where is_so items lines ++ cond (is_so item) (line ∷ []) []
      → cond here (l ∷ lines_where is_so (items ++ item ∷ []) (lines ++ line ∷ [])) (lines_where is_so (items ++ item ∷ []) (lines ++ line ∷ []))
      ≡ cond here (l ∷ lines_where is_so items lines) (lines_where is_so items lines) ++ cond (is_so item) (line ∷ []) []
  by true rest = ap (λ (ls : List ℕ). l ∷ ls) rest
  by false rest = rest

lines_where-same : (is_so : LogItem → Bool) (items : List LogItem) (lines : List ℕ) (item : LogItem) (line : ℕ) → is_so item ≡ false → length lines ≡ length items
    → lines_where is_so (items ++ item ∷ []) (lines ++ line ∷ []) ≡ lines_where is_so items lines
lines_where-same is_so items lines item line other each =
    lines_where-more is_so items lines item line each
    ∙ ap (λ (test : Bool). lines_where is_so items lines ++ cond test (line ∷ []) []) other ∙ append-nil (lines_where is_so items lines)

-- what was left out is as many records as say so
length-lines_where : (is_so : LogItem → Bool) (items : List LogItem) (lines : List ℕ) → length lines ≡ length items
    → length (lines_where is_so items lines) ≡ length (filter is_so items)
length-lines_where is_so [] lines each = refl
length-lines_where is_so (item ∷ items) [] each = absurd (omega (arith, each))
length-lines_where is_so (item ∷ items) (line ∷ lines) each = by (is_so item) (length-lines_where is_so items lines (omega (arith, each))) where
  by : (here : Bool) → length (lines_where is_so items lines) ≡ length (filter is_so items)
      → length (cond here (line ∷ lines_where is_so items lines) (lines_where is_so items lines)) ≡ length (cond here (item ∷ filter is_so items) (filter is_so items))
  by true rest = ap suc rest
  by false rest = rest

count_on : (lines : List ℕ) → skipped_count (skipped_on lines) ≡ length lines
count_on [] = refl
count_on (line ∷ lines) = omega arith

pub count_in : (items : List LogItem) (lines : List ℕ) → length lines ≡ length items → skipped_count (skipped_in items lines) ≡ skip_count items
count_in items lines each = count_on (lines_where is_skip items lines) ∙ length-lines_where is_skip items lines each

-- one more line of a record that was left out
pub skipped_on-push : (lines : List ℕ) (line : ℕ) → skipped_on (lines ++ line ∷ []) ≡ Some (with_skip (skipped_on lines) line)
skipped_on-push [] line = refl
skipped_on-push (l ∷ lines) line =
    ap (λ (n : ℕ). (let o : Option Skipped = Some (record { count = n + 1; line = l }) in o)) (length-append lines (line ∷ []))

pub last_of-push : (before : ℕ) (lines : List ℕ) (line : ℕ) → last_of before (lines ++ line ∷ []) ≡ line
last_of-push before [] line = refl
last_of-push before (l ∷ lines) line = last_of-push l lines line

one_each-more : (items : List LogItem) (lines : List ℕ) (item : LogItem) (line : ℕ) → length lines ≡ length items
    → length (lines ++ line ∷ []) ≡ length (items ++ item ∷ [])
one_each-more items lines item line each =
    length-append lines (line ∷ []) ∙ ap (λ n. n + 1) each ∙ sym (length-append items (item ∷ []))

-- no record tells of more than one event, asks more than one question, says more than once that it was left out or is left out more than once, or does
-- two of these
pub length-items : (items : List LogItem) → length (events_in items) + length (questions_in items) + skip_count items + length (reasons_in items) ≤ length items
length-items [] = omega arith
length-items (Tells event ∷ items) = let rest = length-items items in omega arith
length-items (Asks asked ∷ items) = let rest = length-items items in omega arith
length-items (Names columns ∷ items) = let rest = length-items items in omega arith
length-items (Skips ∷ items) = let rest = length-items items in omega arith
length-items (Begins name ∷ items) = let rest = length-items items in omega arith
length-items (Fails why ∷ items) = let rest = length-items items in omega arith

pub length-log : (events : List NamedEvent) (text : ReadText) → IsRawLogOf events text → length text.log.events ≡ length events
length-log events text h =
    sym (length-map text.log.events (with_names text.details.nodes (message_names events))) ∙ ap length h.told ∙ length-map events without_asides

pub record_count-items : (items : List LogItem) (text : ReadText) → IsRawTextOf items text → record_count text ≤ length items
record_count-items items text h =
    let events = length-log (events_in items) text h.log in
    let questions : length text.details.questions ≡ length (questions_in items) = sym (length-map text.details.questions plain_asked) ∙ ap length h.questions in
    let skipped = h.skipped in
    let left_out : length text.details.left_out ≡ length (reasons_in items) =
    sym (length-map text.details.left_out (λ (b : BadLine). b.why)) ∙ ap length h.left_out in
    let all = length-items items in
    omega arith

-- what is picked of one more record
cons_option-append : {A : Type 0} (o : Option A) (xs ys : List A) → cons_option o (xs ++ ys) ≡ cons_option o xs ++ ys
cons_option-append None xs ys = refl
cons_option-append (Some x) xs ys = refl

module _ {A : Type 0} (pick : ℕ → LogItem → Option A) where
  picked-more : (items : List LogItem) (lines : List ℕ) (item : LogItem) (line : ℕ) → length lines ≡ length items
      → picked_in pick (items ++ item ∷ []) (lines ++ line ∷ []) ≡ picked_in pick items lines ++ cons_option (pick line item) []
  picked-more [] [] item line each = refl
  picked-more [] (l ∷ lines) item line each = absurd (omega (arith, each))
  picked-more (i ∷ items) [] item line each = absurd (omega (arith, each))
  picked-more (i ∷ items) (l ∷ lines) item line each =
      ap (cons_option (pick l i)) (picked-more items lines item line (omega (arith, each)))
      ∙ cons_option-append (pick l i) (picked_in pick items lines) (cons_option (pick line item) [])

  picked-same : (items : List LogItem) (lines : List ℕ) (item : LogItem) (line : ℕ) → pick line item ≡ None → length lines ≡ length items
      → picked_in pick (items ++ item ∷ []) (lines ++ line ∷ []) ≡ picked_in pick items lines
  picked-same items lines item line other each =
      picked-more items lines item line each
      ∙ ap (λ (o : Option A). picked_in pick items lines ++ cons_option o []) other ∙ append-nil (picked_in pick items lines)

-- one more record that is left out, or isn't
bad_lines-more : (items : List LogItem) (lines : List ℕ) (item : LogItem) (line : ℕ) → length lines ≡ length items
    → bad_lines_in (items ++ item ∷ []) (lines ++ line ∷ []) ≡ bad_lines_in items lines ++ cons_option (bad_line line (if_reason item)) []
bad_lines-more = picked-more (λ line item. bad_line line (if_reason item))

bad_lines-same : (items : List LogItem) (lines : List ℕ) (item : LogItem) (line : ℕ) → if_reason item ≡ None → length lines ≡ length items
    → bad_lines_in (items ++ item ∷ []) (lines ++ line ∷ []) ≡ bad_lines_in items lines
bad_lines-same items lines item line other each =
    picked-same (λ line item. bad_line line (if_reason item)) items lines item line (ap (bad_line line) other) each

-- one more record that begins a file, or doesn't
pub marks-more : (items : List LogItem) (lines : List ℕ) (item : LogItem) (line : ℕ) → length lines ≡ length items
    → marks_in (items ++ item ∷ []) (lines ++ line ∷ []) ≡ marks_in items lines ++ cons_option (file_mark line (if_file item)) []
marks-more = picked-more (λ line item. file_mark line (if_file item))

pub marks-same : (items : List LogItem) (lines : List ℕ) (item : LogItem) (line : ℕ) → if_file item ≡ None → length lines ≡ length items
    → marks_in (items ++ item ∷ []) (lines ++ line ∷ []) ≡ marks_in items lines
marks-same items lines item line other each =
    picked-same (λ line item. file_mark line (if_file item)) items lines item line (ap (file_mark line) other) each

-- the names of the files
names_of_marks : (items : List LogItem) (lines : List ℕ) → length lines ≡ length items → map (λ (mark : FileMark). mark.name) (marks_in items lines) ≡ file_names_in items
names_of_marks [] lines each = refl
names_of_marks (item ∷ items) [] each = absurd (omega (arith, each))
names_of_marks (item ∷ items) (line ∷ lines) each = by (if_file item) (names_of_marks items lines (omega (arith, each))) where
  by : (name : Option (List ℕ)) → map (λ (mark : FileMark). mark.name) (marks_in items lines) ≡ file_names_in items
      → map (λ (mark : FileMark). mark.name) (cons_option (file_mark line name) (marks_in items lines)) ≡ cons_option name (file_names_in items)
  by None rest = rest
  by (Some name) rest = ap (λ (names : List (List ℕ)). name ∷ names) rest

-- why they are bad
reasons_of : (items : List LogItem) (lines : List ℕ) → length lines ≡ length items → map (λ (b : BadLine). b.why) (bad_lines_in items lines) ≡ reasons_in items
reasons_of [] lines each = refl
reasons_of (item ∷ items) [] each = absurd (omega (arith, each))
reasons_of (item ∷ items) (line ∷ lines) each = by (if_reason item) (reasons_of items lines (omega (arith, each))) where
  by : (why : Option BadLog) → map (λ (b : BadLine). b.why) (bad_lines_in items lines) ≡ reasons_in items
      → map (λ (b : BadLine). b.why) (cons_option (bad_line line why) (bad_lines_in items lines)) ≡ cons_option why (reasons_in items)
  by None rest = rest
  by (Some why) rest = ap (λ (reasons : List BadLog). why ∷ reasons) rest

-- what is kept aside of one more event
module _ (f : NamedEvent → Option (List ℕ)) where
  abbrev aside_of : List NamedEvent → ℕ → Option (List ℕ)
  aside_of events place = option_and_then f (slice_get events place)

  aside_of-push : (events : List NamedEvent) (r : NamedEvent) (place : ℕ)
      → aside_of (events ++ r ∷ []) place ≡ cond (place == length events) (f r) (aside_of events place)
  aside_of-push [] r zero = refl
  aside_of-push [] r (suc place) = grind arith
  aside_of-push (e ∷ events) r zero = grind arith
  aside_of-push (e ∷ events) r (suc place) = grind (arith, aside_of-push events r place)

  no_aside_past : (events : List NamedEvent) (place : ℕ) → aside_of events place ≡ cond (place == length events) None (aside_of events place)
  no_aside_past [] zero = refl
  no_aside_past [] (suc place) = grind arith
  no_aside_past (e ∷ events) zero = grind arith
  no_aside_past (e ∷ events) (suc place) = grind (arith, no_aside_past events place)

  pub asides-more : (events : List NamedEvent) (r : NamedEvent) (old new : List (ℕ × List ℕ))
      → ((place : ℕ) → label_at old place ≡ aside_of events place) → GivesLabel old new (length events) (f r)
      → (place : ℕ) → label_at new place ≡ aside_of (events ++ r ∷ []) place
  asides-more events r old new before gives place = by (f r) gives ∙ sym (aside_of-push events r place) where
    by : (label : Option (List ℕ)) → GivesLabel old new (length events) label
        → label_at new place ≡ cond (place == length events) label (aside_of events place)
    by None same = same place ∙ before place ∙ no_aside_past events place
    by (Some label) given = given place ∙ ap (λ (o : Option (List ℕ)). cond (place == length events) (Some label) o) (before place)

-- the event of one more record
pub record Continues (old new : PartialLog) (r : NamedEvent) (e : LogEvent) : Type 0 where
  pub pushed : new.log.events ≡ old.log.events ++ e ∷ []
  pub nodes : new.nodes ≡ with_name old.nodes r.node
  pub messages : new.messages ≡ with_message old.messages r.message
  pub labels : GivesLabel old.labels new.labels (length old.log.events) r.label
  pub senders : GivesLabel old.senders new.senders (length old.log.events) r.from
  pub questions : new.questions ≡ old.questions
  pub told : with_names new.nodes new.messages e ≡ without_asides r
  pub named : IsNamed new.nodes new.messages e
  pub few_nodes : length new.nodes ≤ MAX_LOG_NODES
  pub line : new.line ≡ e.line
  pub next : IsNextLine old e.line
  pub header : PassesNext old.header new.header
  pub skipped : new.skipped ≡ old.skipped
  pub left_out : new.left_out ≡ old.left_out
  pub kept : new.sent.is_kept ≡ old.sent.is_kept
  pub marks : IsTrue old.sent.is_kept → (m : ℕ) → mark_at new.sent m ≡ (mark_at old.sent m || is_send m e.kind)
  pub files : new.files ≡ old.files

module _ (items : List LogItem) (lines : List ℕ) (old new : PartialLog) (r : NamedEvent) (e : LogEvent) (h : IsPartialLog items lines old) (n : Continues old new r e) where
  abbrev events : List NamedEvent
  events = events_in items

  abbrev log_events : List LogEvent
  log_events = old.log.events

  abbrev told : LogEvent → NamedEvent
  told = with_names new.nodes new.messages

  log : IsRawLogOf events (text_of old)
  log = h.held.log

  messages_now : new.messages ≡ message_names (events ++ r ∷ [])
  messages_now =
      n.messages ∙ ap (λ (names : List (List ℕ)). with_message names r.message) h.messages ∙ sym (message_names-push events r)

  named_by : All (IsNamed old.nodes old.messages) log_events
  named_by = subst (λ (names : List (List ℕ)). All (IsNamed old.nodes names) log_events) (sym h.messages) log.named

  told_by : map (with_names old.nodes old.messages) log_events ≡ map without_asides events
  told_by =
      subst (λ (names : List (List ℕ)). map (with_names old.nodes names) log_events ≡ map without_asides events) (sym h.messages) log.told

  told_before : map told log_events ≡ map without_asides events
  told_before = (rw (n.nodes, n.messages) (map-with_names old.nodes old.messages r.node r.message log_events named_by)) ∙ told_by

  told_all : map told new.log.events ≡ map without_asides (events ++ r ∷ [])
  told_all =
      ap (map told) n.pushed ∙ map_push told log_events e ∙ ap (λ (rs : List NamedEvent). rs ++ told e ∷ []) told_before
      ∙ ap (λ (last : NamedEvent). map without_asides events ++ last ∷ []) n.told ∙ sym (map_push without_asides events r)

  named_before : All (IsNamed new.nodes new.messages) log_events
  named_before = rw (n.nodes, n.messages) (named-more old.nodes old.messages r.node r.message log_events named_by)

  all_of : (P : LogEvent → Type 0) → All P log_events → P e → All P new.log.events
  all_of P before here = subst (All P) (sym n.pushed) (All-push P log_events e before here)

  rising : AllPairs (λ d e. d.line < e.line) new.log.events
  rising =
      let Rises : LogEvent → LogEvent → Type 0 = λ d e. d.line < e.line in
      let rises = n.next.rises in
      let pairs = all_pairs_push Rises log_events e log.lines_rise (λ k d within. let at = h.before k d within in omega arith) in
      subst (AllPairs Rises) (sym n.pushed) pairs

  log-more : IsRawLogOf (events ++ r ∷ []) (text_of new)
  log-more =
      let few = log.few_messages in
      let size : length new.log.events ≡ length log_events + 1 = ap length n.pushed ∙ length-append log_events (e ∷ []) in
      let messages : length new.messages ≤ length old.messages + 1 =
      rw n.messages ((length-with_message old.messages r.message).1) in
      let place = length-log events (text_of old) log in
      record {
        told = subst (λ (names : List (List ℕ)). map (with_names new.nodes names) new.log.events ≡ map without_asides (events ++ r ∷ [])) messages_now
            told_all;
        named = subst (λ (names : List (List ℕ)). All (IsNamed new.nodes names) new.log.events) messages_now
            (all_of (IsNamed new.nodes new.messages) named_before n.named);
        nodes = n.nodes ∙ ap (λ (names : List (List ℕ)). with_name names r.node) log.nodes ∙ sym (node_names-push events r);
        messages = ap length messages_now;
        few_nodes = n.few_nodes;
        few_messages = omega arith;
        labels = asides-more (λ r. r.label) events r old.labels new.labels log.labels
            (subst (λ (place : ℕ). GivesLabel old.labels new.labels place r.label) place n.labels);
        lines_rise = rising;
      }

  lines_told : map (λ e. e.line) new.log.events ≡ event_lines (items ++ Tells r ∷ []) (lines ++ e.line ∷ [])
  lines_told =
      ap (map (λ (e : LogEvent). e.line)) n.pushed ∙ map_push (λ (e : LogEvent). e.line) log_events e
      ∙ ap (λ (before : List ℕ). before ++ e.line ∷ []) h.on_lines ∙ sym (lines_where-more is_telling items lines (Tells r) e.line h.one_each)

  skipped_told : new.skipped ≡ skipped_in (items ++ Tells r ∷ []) (lines ++ e.line ∷ [])
  skipped_told = n.skipped ∙ h.skipped ∙ ap skipped_on (sym (lines_where-same is_skip items lines (Tells r) e.line refl h.one_each))

  left_out_told : new.left_out.items ≡ bad_lines_in (items ++ Tells r ∷ []) (lines ++ e.line ∷ [])
  left_out_told = rw n.left_out (h.left_out ∙ sym (bad_lines-same items lines (Tells r) e.line refl h.one_each))

  files_told : new.files ≡ marks_in (items ++ Tells r ∷ []) (lines ++ e.line ∷ [])
  files_told = n.files ∙ h.files ∙ sym (marks-same items lines (Tells r) e.line refl h.one_each)

  pub is_reading-more : IsPartialLog (items ++ Tells r ∷ []) (lines ++ e.line ∷ []) new
  is_reading-more =
      let line = n.line in
      let rises = n.next.rises in
      let last = n.next.last in
      let low = h.low in
      let before = h.last in
      let size = length-append items (Tells r ∷ []) in
      let each = one_each-more items lines (Tells r) e.line h.one_each in
      record {
        held = record {
          log = subst (λ (events : List NamedEvent). IsRawLogOf events (text_of new)) (sym (events_in-tells items r)) log-more;
          questions = rw n.questions (h.held.questions ∙ sym (questions_in-tells items r));
          skipped = ap skipped_count skipped_told ∙ count_in (items ++ Tells r ∷ []) (lines ++ e.line ∷ []) each;
          left_out = ap (map (λ (b : BadLine). b.why)) left_out_told ∙ reasons_of (items ++ Tells r ∷ []) (lines ++ e.line ∷ []) each;
          files = ap (map (λ (mark : FileMark). mark.name)) files_told ∙ names_of_marks (items ++ Tells r ∷ []) (lines ++ e.line ∷ []) each;
        };
        messages = messages_now ∙ ap message_names (sym (events_in-tells items r));
        on_lines = lines_told;
        one_each = each;
        ends = n.line ∙ sym (last_of-push 0 lines e.line);
        before = all_of (λ d. d.line ≤ new.line)
            (All-weaker (λ d. d.line ≤ old.line) (λ d. d.line ≤ new.line) (λ d at. omega arith) log_events h.before) (omega arith);
        low = omega arith;
        header = n.header items (Tells r) (refl, λ columns. refl) h.header;
        last = omega arith;
        senders = λ place.
            asides-more (λ r. r.from) events r old.senders new.senders h.senders
            (subst (λ (place : ℕ). GivesLabel old.senders new.senders place r.from) (length-log events (text_of old) log) n.senders) place
            ∙ ap (λ (events : List NamedEvent). sender_of_event events place) (sym (events_in-tells items r));
        skipped = skipped_told;
        left_out = left_out_told;
        sent = subst (AreMarked new.sent) (sym n.pushed) (marked-more old.sent new.sent log_events e n.kept n.marks h.sent);
        files = files_told;
        marks = subst (All (λ (mark : FileMark). mark.line ≤ new.line)) (sym n.files)
            (All-weaker (λ (mark : FileMark). mark.line ≤ old.line) (λ (mark : FileMark). mark.line ≤ new.line) (λ mark at. omega arith) old.files h.marks);
      }

-- one more record that tells of no event, with the columns that it names, what it asks, the file that it begins or that it was or is left out,
-- and nothing else
pub record AddsAside (items : List LogItem) (lines : List ℕ) (old new : PartialLog) (item : LogItem) : Type 0 where
  pub log : new.log ≡ old.log
  pub nodes : new.nodes ≡ old.nodes
  pub messages : new.messages ≡ old.messages
  pub labels : new.labels ≡ old.labels
  pub senders : new.senders ≡ old.senders
  pub sent : new.sent ≡ old.sent
  pub questions : map plain_asked new.questions.items ≡ questions_in (items ++ item ∷ [])
  pub next : IsNextLine old new.line
  pub header : IsHeaderAfter (items ++ item ∷ []) new.header
  pub skipped : new.skipped ≡ skipped_in (items ++ item ∷ []) (lines ++ new.line ∷ [])
  pub left_out : new.left_out.items ≡ bad_lines_in (items ++ item ∷ []) (lines ++ new.line ∷ [])
  pub files : new.files ≡ marks_in (items ++ item ∷ []) (lines ++ new.line ∷ [])
  pub marks : All (λ mark. mark.line ≤ new.line) new.files
  pub no_event : events_in (item ∷ []) ≡ []
  pub tells_nothing : is_telling item ≡ false

module _ (items : List LogItem) (lines : List ℕ) (old new : PartialLog) (item : LogItem) (h : IsPartialLog items lines old) (n : AddsAside items lines old new item) where
  -- the log with other questions, and other records left out
  abbrev other : ReadText
  other = record {
    log = old.log;
    message_names = old.messages;
    messages = length old.messages;
    details = record (details_with old.nodes new) { labels = old.labels };
  }

  is_other : text_of new ≡ other
  is_other =
      λ i. record {
        log = n.log i;
        message_names = n.messages i;
        messages = length (n.messages i);
        details = record (details_with (n.nodes i) new) { labels = n.labels i };
      }

  log-other : IsRawLogOf (events_in items) other
  log-other = record {
    told = h.held.log.told;
    named = h.held.log.named;
    nodes = h.held.log.nodes;
    messages = h.held.log.messages;
    few_nodes = h.held.log.few_nodes;
    few_messages = h.held.log.few_messages;
    labels = h.held.log.labels;
    lines_rise = h.held.log.lines_rise;
  }

  same_events : events_in (items ++ item ∷ []) ≡ events_in items
  same_events =
      filter_map-append if_event items (item ∷ []) ∙ ap (λ (es : List NamedEvent). events_in items ++ es) n.no_event ∙ append-nil (events_in items)

  before_all : All (λ e. e.line ≤ new.line) other.log.events
  before_all =
      let rises = n.next.rises in
      All-weaker (λ e. e.line ≤ old.line) (λ e. e.line ≤ new.line) (λ e at. omega arith) old.log.events h.before

  lines_kept : map (λ e. e.line) other.log.events ≡ event_lines (items ++ item ∷ []) (lines ++ new.line ∷ [])
  lines_kept = h.on_lines ∙ sym (lines_where-same is_telling items lines item new.line n.tells_nothing h.one_each)

  pub is_aside-more : IsPartialLog (items ++ item ∷ []) (lines ++ new.line ∷ []) new
  is_aside-more =
      let rises = n.next.rises in
      let last = n.next.last in
      let low = h.low in
      let before = h.last in
      let size = length-append items (item ∷ []) in
      let each = one_each-more items lines item new.line h.one_each in
      record {
        held = record {
          log = subst (λ (text : ReadText). IsRawLogOf (events_in (items ++ item ∷ [])) text) (sym is_other)
              (subst (λ (events : List NamedEvent). IsRawLogOf events other) (sym same_events) log-other);
          questions = n.questions;
          skipped = ap skipped_count n.skipped ∙ count_in (items ++ item ∷ []) (lines ++ new.line ∷ []) each;
          left_out = ap (map (λ (b : BadLine). b.why)) n.left_out ∙ reasons_of (items ++ item ∷ []) (lines ++ new.line ∷ []) each;
          files = ap (map (λ (mark : FileMark). mark.name)) n.files ∙ names_of_marks (items ++ item ∷ []) (lines ++ new.line ∷ []) each;
        };
        messages = n.messages ∙ h.messages ∙ ap message_names (sym same_events);
        on_lines = subst (λ (text : ReadText). map (λ e. e.line) text.log.events ≡ event_lines (items ++ item ∷ []) (lines ++ new.line ∷ [])) (sym is_other) lines_kept;
        one_each = each;
        ends = sym (last_of-push 0 lines new.line);
        before = subst (λ (text : ReadText). All (λ e. e.line ≤ new.line) text.log.events) (sym is_other) before_all;
        low = omega arith;
        header = n.header;
        last = omega arith;
        senders = λ place.
            ap (λ senders. label_at senders place) n.senders ∙ h.senders place
            ∙ ap (λ (events : List NamedEvent). sender_of_event events place) (sym same_events);
        skipped = n.skipped;
        left_out = n.left_out;
        sent = subst (λ (sent : SentMarks). AreMarked sent new.log.events) (sym n.sent)
            (subst (λ (text : ReadText). AreMarked old.sent text.log.events) (sym is_other) h.sent);
        files = n.files;
        marks = n.marks;
      }

-- one more record that begins no file
module _ (items : List LogItem) (lines : List ℕ) (old : PartialLog) (item : LogItem) (line : ℕ) (h : IsPartialLog items lines old) where
  pub files_kept : if_file item ≡ None → old.files ≡ marks_in (items ++ item ∷ []) (lines ++ line ∷ [])
  files_kept other = h.files ∙ sym (marks-same items lines item line other h.one_each)

  pub marks_kept : IsNextLine old line → All (λ (mark : FileMark). mark.line ≤ line) old.files
  marks_kept next =
      let rises = next.rises in
      All-weaker (λ (mark : FileMark). mark.line ≤ old.line) (λ (mark : FileMark). mark.line ≤ line) (λ mark at. omega arith) old.files h.marks

-- one more question
module _ (items : List LogItem) (lines : List ℕ) (old new : PartialLog) (question : LogQuestion) (h : IsPartialLog items lines old) where
  pub asked_all : new.questions.items ≡ old.questions.items ++ question ∷ []
      → map plain_asked new.questions.items ≡ questions_in (items ++ Asks (plain_asked question) ∷ [])
  asked_all pushed =
      ap (map plain_asked) pushed ∙ map_push plain_asked old.questions.items question
      ∙ ap (λ (qs : List Asked). qs ++ plain_asked question ∷ []) h.held.questions ∙ sym (questions_in-asks items (plain_asked question))

  pub skipped_kept : (line : ℕ) → old.skipped ≡ skipped_in (items ++ Asks (plain_asked question) ∷ []) (lines ++ line ∷ [])
  skipped_kept line = h.skipped ∙ ap skipped_on (sym (lines_where-same is_skip items lines (Asks (plain_asked question)) line refl h.one_each))

  pub left_out_kept : (line : ℕ) → old.left_out.items ≡ bad_lines_in (items ++ Asks (plain_asked question) ∷ []) (lines ++ line ∷ [])
  left_out_kept line = h.left_out ∙ sym (bad_lines-same items lines (Asks (plain_asked question)) line refl h.one_each)

-- one more record that was left out
module _ (items : List LogItem) (lines : List ℕ) (old : PartialLog) (line : ℕ) (header : LogHeader)
    (h : IsPartialLog items lines old) (next : IsNextLine old line) where
  abbrev more : PartialLog
  more = record old { skipped = Some (with_skip old.skipped line); line = line; header = header }

  skipped_all : more.skipped ≡ skipped_in (items ++ Skips ∷ []) (lines ++ line ∷ [])
  skipped_all =
      ap (λ (o : Option Skipped). (let m : Option Skipped = Some (with_skip o line) in m)) h.skipped ∙ sym (skipped_on-push (lines_where is_skip items lines) line)
      ∙ ap skipped_on (sym (lines_where-more is_skip items lines Skips line h.one_each))

  asked_as_before : map plain_asked old.questions.items ≡ questions_in (items ++ Skips ∷ [])
  asked_as_before = h.held.questions ∙ sym (filter_map-append if_asked items (Skips ∷ []) ∙ append-nil (questions_in items))

  pub is_skipping-more : PassesNext old.header header → IsPartialLog (items ++ Skips ∷ []) (lines ++ line ∷ []) more
  is_skipping-more passes = is_aside-more items lines old more Skips h record {
    log = refl;
    nodes = refl;
    messages = refl;
    labels = refl;
    senders = refl;
    sent = refl;
    questions = asked_as_before;
    next = next;
    header = passes items Skips (refl, λ columns. refl) h.header;
    skipped = skipped_all;
    left_out = h.left_out ∙ sym (bad_lines-same items lines Skips line refl h.one_each);
    files = files_kept items lines old Skips line h refl;
    marks = marks_kept items lines old Skips line h next;
    no_event = refl;
    tells_nothing = refl;
  }

-- one more record that is bad, and left out
module _ (items : List LogItem) (lines : List ℕ) (old : PartialLog) (b : BadLine) (h : IsPartialLog items lines old) where
  pub failed_questions : map plain_asked old.questions.items ≡ questions_in (items ++ Fails b.why ∷ [])
  failed_questions = h.held.questions ∙ sym (filter_map-append if_asked items (Fails b.why ∷ []) ∙ append-nil (questions_in items))

  pub failed_skipped : old.skipped ≡ skipped_in (items ++ Fails b.why ∷ []) (lines ++ b.line ∷ [])
  failed_skipped = h.skipped ∙ ap skipped_on (sym (lines_where-same is_skip items lines (Fails b.why) b.line refl h.one_each))

  pub failed_left_out : (left_out : List BadLine) → left_out ≡ old.left_out.items ++ b ∷ []
      → left_out ≡ bad_lines_in (items ++ Fails b.why ∷ []) (lines ++ b.line ∷ [])
  failed_left_out left_out pushed =
      pushed ∙ ap (λ (bs : List BadLine). bs ++ b ∷ []) h.left_out ∙ sym (bad_lines-more items lines (Fails b.why) b.line h.one_each)

-- a record that asks nothing and isn't left out
module _ (items : List LogItem) (lines : List ℕ) (old : PartialLog) (item : LogItem) (line : ℕ) (h : IsPartialLog items lines old) where
  plain_questions : if_asked item ≡ None → map plain_asked old.questions.items ≡ questions_in (items ++ item ∷ [])
  plain_questions none =
      h.held.questions ∙ sym (filter_map-append if_asked items (item ∷ []) ∙ ap (λ (o : Option Asked). questions_in items ++ cons_option o []) none
      ∙ append-nil (questions_in items))

  plain_skipped : is_skip item ≡ false → old.skipped ≡ skipped_in (items ++ item ∷ []) (lines ++ line ∷ [])
  plain_skipped other = h.skipped ∙ ap skipped_on (sym (lines_where-same is_skip items lines item line other h.one_each))

  plain_left_out : if_reason item ≡ None → old.left_out.items ≡ bad_lines_in (items ++ item ∷ []) (lines ++ line ∷ [])
  plain_left_out none = h.left_out ∙ sym (bad_lines-same items lines item line none h.one_each)

-- a header, and nothing else
module _ (items : List LogItem) (lines : List ℕ) (old : PartialLog) (columns : Columns) (line : ℕ) (header : LogHeader)
    (h : IsPartialLog items lines old) (next : IsNextLine old line) where
  abbrev headed : PartialLog
  headed = record old { line = line; header = header }

  pub is_headed : IsHeaderAfter (items ++ Names columns ∷ []) header → IsPartialLog (items ++ Names columns ∷ []) (lines ++ line ∷ []) headed
  is_headed after = is_aside-more items lines old headed (Names columns) h record {
    log = refl;
    nodes = refl;
    messages = refl;
    labels = refl;
    senders = refl;
    sent = refl;
    questions = plain_questions items lines old (Names columns) line h refl;
    next = next;
    header = after;
    skipped = plain_skipped items lines old (Names columns) line h refl;
    left_out = plain_left_out items lines old (Names columns) line h refl;
    files = files_kept items lines old (Names columns) line h refl;
    marks = marks_kept items lines old (Names columns) line h next;
    no_event = refl;
    tells_nothing = refl;
  }

-- a file mark, and nothing else
module _ (items : List LogItem) (lines : List ℕ) (old : PartialLog) (name : List ℕ) (line : ℕ) (header : LogHeader)
    (h : IsPartialLog items lines old) (next : IsNextLine old line) where
  abbrev mark : FileMark
  mark = record { name = name; line = line }

  abbrev begun : List FileMark → PartialLog
  begun files = record old { line = line; header = header; files = files }

  pub is_begun : (files : List FileMark) → files ≡ old.files ++ mark ∷ [] → IsHeaderAfter (items ++ Begins name ∷ []) header
      → IsPartialLog (items ++ Begins name ∷ []) (lines ++ line ∷ []) (begun files)
  is_begun files pushed after = is_aside-more items lines old (begun files) (Begins name) h record {
    log = refl;
    nodes = refl;
    messages = refl;
    labels = refl;
    senders = refl;
    sent = refl;
    questions = plain_questions items lines old (Begins name) line h refl;
    next = next;
    header = after;
    skipped = plain_skipped items lines old (Begins name) line h refl;
    left_out = plain_left_out items lines old (Begins name) line h refl;
    files = pushed ∙ ap (λ (marks : List FileMark). marks ++ mark ∷ []) h.files ∙ sym (marks-more items lines (Begins name) line h.one_each);
    marks = subst (All (λ (mark : FileMark). mark.line ≤ line)) (sym pushed)
        (All-push (λ (mark : FileMark). mark.line ≤ line) old.files mark (marks_kept items lines old (Begins name) line h next) (omega arith));
    no_event = refl;
    tells_nothing = refl;
  }

-- named events are numbered
pub numbered_of : (nodes messages : List (List ℕ)) (log_events : List LogEvent) → length nodes ≤ MAX_LOG_NODES
    → All (IsNamed nodes messages) log_events → All (IsNumbered (length messages)) log_events
numbered_of nodes messages log_events few named =
    All-weaker (IsNamed nodes messages) (IsNumbered (length messages))
    (λ e is. record { node = (let below = is.0 in omega arith); message = is.1 }) log_events named
