-- The readings of a log's events are such as its records may write, and the stamps of restarts leave room above them.
use Rattle.std.proofs.Common.{◌≡◌, ◌≤◌, ◌*◌, ◌/◌, ℕ, Bool, true, false, List, [], ◌∷◌, ◌++◌, Option, Some, None, Ok, Err, Result, ap, arith, cond, inl, inr, length, map, refl, subst, sym}
use Rattle.std.specs.Prelude.{◌==◌, ◌&&◌, All, IfErr, IfOk, MatchResult, is_some, max, nat_le, nat_lt, not, option_map}
use Rattle.std.specs.Option.{option_and_then}
use Rattle.std.proofs.lemmas.Bool.{and_parts, leb-true, ltb-true}
use Rattle.std.proofs.lemmas.List.Elements.{All-cons, All-head, All-map, All-nil, All-tail, All-weaker}
use Rattle.hlc_stamp.specs.declared.limits.TheConstants.{MAX_READING}
use Rattle.hlc_stamp.specs.declared.stamp.Stamp.{Stamp}
use Rattle.hlc_stamp.specs.Order.{Pair}
use Rattle.hlc_csv.specs.Number.{number_of}
use Rattle.hlc_csv.specs.Rows.{Fields, field_of}
use Rattle.hlc_log_text.specs.StampForms.{fields_stamp, packed_bits}
use Rattle.hlc_log_text.specs.Units.{in_unit_of_l, per_second}
use Rattle.hlc_log_text.specs.declared.log_rules.LogRules.{LogRules}
use Rattle.hlc_log_text.specs.declared.stamp_form.StampForm.{StampForm}
use Rattle.hlc_log_text.specs.declared.units.Units.{Units}
use Rattle.hlc_log.specs.declared.log_event.LogEvent.{LogEvent}
use Rattle.hlc_log.specs.declared.log_event.LogKind.{LogKind}
use Rattle.hlc_log.specs.declared.log_event.LogKind.TheVariants.{Local, Outside, Receive, Restart, Send}
use Rattle.hlc_causality.specs.declared.event_rule.TheConstants.{MAX_FLOOR_C}
use Rattle.hlc_log.specs.Events.{IsInRange, IsSmallCarried}
use Rattle.hlc_log_text.specs.BadColumn.{bad_of_carried}
use Rattle.hlc_log_text.specs.Columns.{arranged_in, carried_first, carried_for, carried_second, columns_of, extras_after_word, extras_in, extras_with, from_in, if_small, is_complete, names_sender, seq_in}
use Rattle.hlc_log_text.specs.declared.columns.Columns.{Columns}
use Rattle.hlc_log_text.specs.declared.extras.Extras.{Extras}
use Rattle.hlc_log_text.specs.declared.bad_log.BadLog.{BadLog}
use Rattle.hlc_log_text.specs.declared.bad_log.BadLog.TheVariants as bad
use Rattle.hlc_log_text.specs.declared.fault.LogTextFault.{LogTextFault}
use Rattle.hlc_log_text.specs.declared.log_column.LogColumn.{LogColumn}
use Rattle.hlc_log_text.specs.declared.log_word.LogWord.{LogWord}
use Rattle.hlc_log_text.specs.declared.log_word.LogWord.TheVariants as word
use Rattle.hlc_log_text.specs.declared.record_head.RecordHead.{RecordHead}
use Rattle.hlc_log_text.specs.LogItem.{Asks, Begins, Fails, LogItem, Names, Skips, Tells, asks, begins_as_skip, columns_after, events_in, extend, header_item, is_header, item_after, item_after_word, item_by_file, item_from, item_in, other_item, skip_item, tells, unless_missing, unless_sent}
use Rattle.hlc_log_text.specs.LogText.{kind_word, message_names, senders_of, unnamed_in, with_names}
use Rattle.hlc_log_text.specs.ReadText.{ReadText}
use Rattle.hlc_log_text.specs.FileMarks.{begun_file}
use Rattle.hlc_log_text.specs.Missing.{missing_by}
use Rattle.hlc_log_text.specs.LogWord.{has_fields_of, log_word_of}
use Rattle.hlc_log_text.specs.NamedEvent.{NamedEvent, assumed_reading, has_good_names, head_by, head_from, head_of, head_or_bad, head_with, if_reading, label_of, message_place, named_event_from, named_event_of, reading_of, reading_with, restart_head, stamp_or_zero, stamp_told, told_by, tolerated, without_asides, with_extras, sends_again}
use Rattle.hlc_log_text.specs.FaultRule.{leaves_sent}
use Rattle.hlc_log_text.specs.PartialLog.{SaysAfter}
use Rattle.hlc_log_text.specs.Question.{Asked, asked_of}
use Rattle.hlc_log_text.specs.ReadLog.{ExplainsFault, IsReadWhole, SayAfter, SayItems}
use Rattle.hlc_log_text.proofs.ApartTexts.{in_range_apart_if}

-- a number that a clock may read
abbrev IsReading : ℕ → Type 0
IsReading n = (1 ≤ n) × (n ≤ MAX_READING)

-- a positive number is positive in the unit of l too
one_at_least : (n : ℕ) → 1 ≤ max 1 n
one_at_least n = omega arith

positive_in_l : (form : StampForm) (units : Option Units) (number : ℕ) → 1 ≤ number → 1 ≤ in_unit_of_l form units number
positive_in_l form None number positive = positive
positive_in_l form (Some units) number positive =
    one_at_least (number * per_second (packed_bits form) units.l / per_second 0 units.reading)

if_is_reading : (number n reading : ℕ) → (1 ≤ number → 1 ≤ n) → if_reading number n ≡ Some reading → IsReading reading
if_is_reading number n reading positive is = by_test (nat_le 1 number && nat_le n MAX_READING) refl is where
  by_test : (test : Bool) → (nat_le 1 number && nat_le n MAX_READING) ≡ test → cond test (Some n) None ≡ Some reading → IsReading reading
  by_test true passes is =
      let parts = and_parts (nat_le 1 number) (nat_le n MAX_READING) passes in
      let same : n ≡ reading = cc in
      subst IsReading same (positive (leb-true 1 number parts.0), leb-true n MAX_READING parts.1)
  by_test false fails is = absurd (cc)

number_is_reading : (rules : LogRules) (number : Option ℕ) (reading : ℕ)
    → option_and_then (λ (number : ℕ). if_reading number (in_unit_of_l rules.form rules.units number)) number ≡ Some reading → IsReading reading
number_is_reading rules None reading is = absurd (cc)
number_is_reading rules (Some number) reading is =
    if_is_reading number (in_unit_of_l rules.form rules.units number) reading (positive_in_l rules.form rules.units number) is

assumed_is_reading : (stamp : Pair) → IsReading (assumed_reading stamp)
assumed_is_reading stamp = (omega arith, omega arith)

tolerated_is_reading : (tolerance reading l : ℕ) → IsReading reading → IsReading (tolerated tolerance reading l)
tolerated_is_reading tolerance reading l is = let low = is.0 in let high = is.1 in (omega arith, omega arith)

with_is_reading : (rules : LogRules) (field : List ℕ) (stamp : Pair) (reading : ℕ) → reading_with rules field stamp ≡ Some reading → IsReading reading
with_is_reading rules field stamp reading is = by_length (length field == 0) is where
  by_told : (told : Option ℕ) → reading_of rules field ≡ told
      → (let o : Option ℕ = option_map (λ (n : ℕ). tolerated rules.tolerance n stamp.l) told in o) ≡ Some reading → IsReading reading
  by_told None same is = absurd (cc)
  by_told (Some n) same is =
      let taken : tolerated rules.tolerance n stamp.l ≡ reading = cc in
      subst IsReading taken (tolerated_is_reading rules.tolerance n stamp.l (number_is_reading rules (number_of field) n same))

  by_length : (test : Bool)
      → cond test (Some (assumed_reading stamp)) (option_map (λ (n : ℕ). tolerated rules.tolerance n stamp.l) (reading_of rules field)) ≡ Some reading
      → IsReading reading
  by_length true is = let same : assumed_reading stamp ≡ reading = cc in subst IsReading same (assumed_is_reading stamp)
  by_length false is = by_told (reading_of rules field) refl is

-- the stamp of a restart leaves room above it, and is told
HasRoom : LogWord → Stamp → (has_stamp : Bool) → Type 0
HasRoom word.Local stamp has_stamp = Unit {0}
HasRoom word.Send stamp has_stamp = Unit {0}
HasRoom word.Receive stamp has_stamp = Unit {0}
HasRoom word.Restart stamp has_stamp = (stamp.c ≤ MAX_FLOOR_C) × (has_stamp ≡ true)

abbrev IsHeadInRange : RecordHead → Type 0
IsHeadInRange head = IsReading head.reading × HasRoom head.word head.stamp head.has_stamp

-- what a record says, part by part
abbrev told_restart : Stamp → RecordHead
told_restart stamp = record { word = word.Restart; reading = assumed_reading stamp; has_reading = false; stamp = stamp; has_stamp = true }

abbrev told_head : LogWord → (reading : ℕ) → (has_reading : Bool) → Option Stamp → RecordHead
told_head w reading has_reading told =
    record { word = w; reading = reading; has_reading = has_reading; stamp = stamp_or_zero told; has_stamp = is_some told }

restart_in_range : (stamp : Stamp) (head : RecordHead) → restart_head stamp ≡ Some head → IsHeadInRange head
unfolding HasRoom
restart_in_range stamp head is = by_fits (nat_le stamp.c MAX_FLOOR_C) refl is where
  by_fits : (test : Bool) → nat_le stamp.c MAX_FLOOR_C ≡ test
      → (let o : Option RecordHead = cond test (Some (told_restart stamp)) None in o) ≡ Some head → IsHeadInRange head
  by_fits false fits is = absurd (cc)
  by_fits true fits is = let same : told_restart stamp ≡ head = cc in subst IsHeadInRange same (assumed_is_reading stamp, (leb-true stamp.c MAX_FLOOR_C fits, refl))

head_by_in_range : (w : LogWord) (reading : ℕ) (has_reading : Bool) (told : Option Stamp) (head : RecordHead) → IsReading reading
    → head_by w reading has_reading told ≡ Some head → IsHeadInRange head
unfolding HasRoom
head_by_in_range word.Restart reading has_reading told head in_range is = restart_in_range (stamp_or_zero told) head is
head_by_in_range word.Local reading has_reading told head in_range is =
    let whole : RecordHead = told_head word.Local reading has_reading told in
    let same : whole ≡ head = cc in subst IsHeadInRange same (in_range, tt)
head_by_in_range word.Send reading has_reading told head in_range is =
    let whole : RecordHead = told_head word.Send reading has_reading told in
    let same : whole ≡ head = cc in subst IsHeadInRange same (in_range, tt)
head_by_in_range word.Receive reading has_reading told head in_range is =
    let whole : RecordHead = told_head word.Receive reading has_reading told in
    let same : whole ≡ head = cc in subst IsHeadInRange same (in_range, tt)

head_from_in_range : (rules : LogRules) (w : LogWord) (field : List ℕ) (told : Option (Option Stamp)) (head : RecordHead)
    → head_from rules w field told ≡ Some head → IsHeadInRange head
head_from_in_range rules w field None head is = absurd (cc)
head_from_in_range rules w field (Some told) head is = by_reading (reading_with rules field (stamp_or_zero told)) refl is where
  by_reading : (reading : Option ℕ) → reading_with rules field (stamp_or_zero told) ≡ reading
      → option_and_then (λ (reading : ℕ). head_by w reading (not (length field == 0)) told) reading ≡ Some head → IsHeadInRange head
  by_reading None found is = absurd (cc)
  by_reading (Some reading) found is =
      head_by_in_range w reading (not (length field == 0)) told head (with_is_reading rules field (stamp_or_zero told) reading found) is

head_is_there : (rules : LogRules) (from : Option (List ℕ)) (fields : Fields) (o : Option RecordHead) (good : Bool) (head : RecordHead)
    → head_or_bad rules from fields o good ≡ Ok head → o ≡ Some head
head_is_there rules from fields None good head is = absurd (cc)
head_is_there rules from fields (Some h) false head is = absurd (cc)
head_is_there rules from fields (Some h) true head is = let same : h ≡ head = cc in ap (λ (h : RecordHead). (let o : Option RecordHead = Some h in o)) same

head_is_in_range : (rules : LogRules) (w : LogWord) (from : Option (List ℕ)) (fields : Fields) (head : RecordHead) → head_of rules w from fields ≡ Ok head → IsHeadInRange head
head_is_in_range rules w from fields head is = by_count (has_fields_of rules.form w (length fields)) is where
  by_count : (test : Bool)
      → (let r : Result RecordHead BadLog = cond test (head_or_bad rules from fields (head_with rules w fields) (has_good_names rules.form w from fields)) (Err bad.Fields) in r) ≡ Ok head
      → IsHeadInRange head
  by_count false is = absurd (cc)
  by_count true is =
      let there = head_is_there rules from fields (head_with rules w fields) (has_good_names rules.form w from fields) head is in
      head_from_in_range rules w (field_of fields 2) (stamp_told rules.form w fields) head there

event_head : (form : StampForm) (w : LogWord) (from : Option (List ℕ)) (fields : Fields) (head : Result RecordHead BadLog) (event : NamedEvent)
    → named_event_from form w from fields head ≡ Ok event → (head ≡ Ok event.head) × (event.carried ≡ None)
event_head form w from fields (Err why) event is = absurd (cc)
event_head form w from fields (Ok head) event is =
    let made : NamedEvent = told_by head (field_of fields 1) (field_of fields (message_place form)) from (label_of form w fields) in
    let same : made ≡ event = cc in (
      ap (λ (e : NamedEvent). (let r : Result RecordHead BadLog = Ok e.head in r)) same,
      ap (λ (e : NamedEvent). e.carried) (sym same),
    )

-- what a record tells of by the places of its fields is in range, and it tells of nothing carried
abbrev IsPlainInRange : NamedEvent → Type 0
IsPlainInRange event = IsHeadInRange event.head × (event.carried ≡ None)

-- what a record tells of is in range
IsNamedInRange : NamedEvent → Type 0
IsNamedInRange event = IsHeadInRange event.head × IsSmallCarried event.carried

tells_event : (r : Result NamedEvent BadLog) (event : NamedEvent) → tells r ≡ Ok (Tells event) → r ≡ Ok event
tells_event (Err why) event is = absurd (cc)
tells_event (Ok told) event is = cc

asks_no_event : (r : Result Asked BadLog) (event : NamedEvent) → asks r ≡ Ok (Tells event) → ⊥
asks_no_event (Err why) event is = cc
asks_no_event (Ok asked) event is = cc

other_no_event : (fields : Fields) (event : NamedEvent) → other_item fields ≡ Ok (Tells event) → ⊥
other_no_event fields event is = by_file (begun_file fields) is where
  by_count : (test : Bool) → (let r : Result LogItem BadLog = cond test (Ok Skips) (Err bad.Fields) in r) ≡ Ok (Tells event) → ⊥
  by_count true is = cc
  by_count false is = cc

  by_word : (test : Bool) → cond test (skip_item fields) (asks (asked_of fields)) ≡ Ok (Tells event) → ⊥
  by_word true is = by_count (length fields == 1) is
  by_word false is = asks_no_event (asked_of fields) event is

  by_file : (file : Option (List ℕ)) → item_by_file file fields ≡ Ok (Tells event) → ⊥
  by_file None is = by_word (begins_as_skip fields) is
  by_file (Some name) is = cc

event_in_range : (rules : LogRules) (from : Option (List ℕ)) (word : Option LogWord) (fields : Fields) (event : NamedEvent) → item_after_word rules from word fields ≡ Ok (Tells event)
    → IsPlainInRange event
event_in_range rules from None fields event is = absurd (other_no_event fields event is)
event_in_range rules from (Some w) fields event is =
    let told = tells_event (named_event_of rules w from fields) event is in
    let made = event_head rules.form w from fields (head_of rules w from fields) event told in
    (head_is_in_range rules w from fields event.head made.0, made.1)

-- what is told of a carried stamp leaves room above it, whatever the seq
abbrev pub AreSmallExtras : Result Extras LogColumn → Type 0
AreSmallExtras told = IfOk told (λ extras. IsSmallCarried extras.carried)

abbrev pub IsSmallTold : Result (Option Pair) LogColumn → Type 0
IsSmallTold told = IfOk told IsSmallCarried

if_small_told : (column : LogColumn) (stamp : Option Stamp) → IsSmallTold (if_small column stamp)
if_small_told column None = tt
if_small_told column (Some stamp) = by_test (nat_lt stamp.c MAX_FLOOR_C) refl where
  by_test : (test : Bool) → nat_lt stamp.c MAX_FLOOR_C ≡ test
      → IsSmallTold (let r : Result (Option Stamp) LogColumn = cond test (Ok (Some stamp)) (Err column) in r)
  by_test true small = ltb-true stamp.c MAX_FLOOR_C small
  by_test false small = tt

pub carried_for_small : (form : StampForm) (columns : Columns) (w : LogWord) (fields : Fields) → IsSmallTold (carried_for form columns w fields)
carried_for_small form columns word.Local fields = tt
carried_for_small form columns word.Send fields = tt
carried_for_small form columns word.Restart fields = tt
carried_for_small form columns word.Receive fields =
    by_test (bad_of_carried form (carried_first form columns fields))
    ((length (carried_first form columns fields) == 0) && (length (carried_second form columns fields) == 0))
    (names_sender (from_in columns fields) (field_of fields columns.message))
    (fields_stamp form (carried_first form columns fields) (carried_second form columns fields)) where
      by_test : (column : LogColumn) (test is_needed : Bool) (stamp : Option Stamp)
          → IsSmallTold (let r : Result (Option Stamp) LogColumn = cond test (cond is_needed (Err column) (Ok None)) (if_small column stamp) in r)
      by_test column true true stamp = tt
      by_test column true false stamp = tt
      by_test column false is_needed stamp = if_small_told column stamp

pub extras_with_small : (carried : Result (Option Stamp) LogColumn) (seq : Option ℕ) → IsSmallTold carried → AreSmallExtras (extras_with carried seq)
extras_with_small (Err column) seq small = tt
extras_with_small (Ok carried) None small = tt
extras_with_small (Ok carried) (Some seq) small = small

extras_in_small : (form : StampForm) (columns : Columns) (fields : Fields) → AreSmallExtras (extras_in form columns fields)
extras_in_small form columns fields = by_word (log_word_of (field_of fields 0)) where
  by_word : (w : Option LogWord) → AreSmallExtras (extras_after_word form columns w fields)
  by_word None = tt
  by_word (Some w) = extras_with_small (carried_for form columns w fields) (seq_in columns fields) (carried_for_small form columns w fields)

plain_in_range : (event : NamedEvent) → IsPlainInRange event → IsNamedInRange event
unfolding IsNamedInRange
plain_in_range event h = (h.0, subst IsSmallCarried (sym h.1) tt)

extend_in_range : (extras : Result Extras LogColumn) (said : Result LogItem BadLog) → AreSmallExtras extras
    → ((event : NamedEvent) → said ≡ Ok (Tells event) → IsPlainInRange event) → (event : NamedEvent) → extend extras said ≡ Ok (Tells event)
    → IsNamedInRange event
unfolding IsNamedInRange
extend_in_range (Err column) said small plain event is = absurd (cc)
extend_in_range (Ok extras) (Err why) small plain event is = absurd (cc)
extend_in_range (Ok extras) (Ok (Asks asked)) small plain event is = absurd (cc)
extend_in_range (Ok extras) (Ok (Names columns)) small plain event is = absurd (cc)
extend_in_range (Ok extras) (Ok Skips) small plain event is = absurd (cc)
extend_in_range (Ok extras) (Ok (Begins name)) small plain event is = absurd (cc)
extend_in_range (Ok extras) (Ok (Fails why)) small plain event is = absurd (cc)
extend_in_range (Ok extras) (Ok (Tells inner)) small plain event is =
    let same : with_extras extras inner ≡ event = cc in
    subst (λ (e : NamedEvent). IsHeadInRange e.head × IsSmallCarried e.carried) same ((plain inner refl).0, small)

-- a header tells of no event
header_no_event : (form : StampForm) (columns : Columns) (event : NamedEvent) → header_item form columns ≡ Ok (Tells event) → ⊥
header_no_event form columns event is = by_test (is_complete form columns) is where
  by_test : (test : Bool) → (let r : Result LogItem BadLog = cond test (Ok (Names columns)) (Err bad.Header) in r) ≡ Ok (Tells event) → ⊥
  by_test false is = cc
  by_test true is = cc

-- a record that tells of an event, and of no message that is sent already, tells of it in any case
said_anyway : (is_bad : Bool) (events : List NamedEvent) (said : Result LogItem BadLog) (event : NamedEvent) → unless_sent is_bad events said ≡ Ok (Tells event)
    → said ≡ Ok (Tells event)
said_anyway false events said event is = is
said_anyway true events (Err why) event is = is
said_anyway true events (Ok (Asks asked)) event is = is
said_anyway true events (Ok (Names columns)) event is = is
said_anyway true events (Ok Skips) event is = is
said_anyway true events (Ok (Begins name)) event is = is
said_anyway true events (Ok (Fails why)) event is = is
said_anyway true events (Ok (Tells told)) event is = by_test (sends_again events told) is where
  by_test : (test : Bool) → (let r : Result LogItem BadLog = cond test (Err bad.SentTwice) (Ok (Tells told)) in r) ≡ Ok (Tells event)
      → (let r : Result LogItem BadLog = Ok (Tells told) in r) ≡ Ok (Tells event)
  by_test true is = absurd (cc)
  by_test false is = is

after_in_range : (rules : LogRules) (before : List LogItem) (fields : Fields) (event : NamedEvent) → item_after rules before fields ≡ Ok (Tells event)
    → IsNamedInRange event
after_in_range rules before fields event is =
    by_header (is_header rules.syntax before fields) (missing_by rules.syntax rules.form fields) (columns_after rules before) is where
      is_bad : Bool
      is_bad = leaves_sent rules.faults rules.resent

      by_missing : (missing : Option LogColumn) (columns : Option Columns)
          → unless_missing missing (unless_sent is_bad (events_in before) (item_in rules columns fields)) ≡ Ok (Tells event)
          → IsNamedInRange event
      by_missing (Some column) columns is = absurd (cc)
      by_missing None None is =
          plain_in_range event (event_in_range rules None (log_word_of (field_of fields 0)) fields event
          (said_anyway is_bad (events_in before) (item_in rules None fields) event is))
      by_missing None (Some columns) is =
          let from = from_in columns fields in
          let placed = arranged_in rules.form columns fields in
          extend_in_range (extras_in rules.form columns fields) (item_from rules from placed) (extras_in_small rules.form columns fields)
          (event_in_range rules from (log_word_of (field_of placed 0)) placed) event
          (said_anyway is_bad (events_in before) (item_in rules (Some columns) fields) event is)

      by_header : (test : Bool) (missing : Option LogColumn) (columns : Option Columns)
          → cond test (header_item rules.form (columns_of fields))
          (unless_missing missing (unless_sent is_bad (events_in before) (item_in rules columns fields))) ≡ Ok (Tells event)
          → IsNamedInRange event
      by_header true missing columns is = absurd (header_no_event rules.form (columns_of fields) event is)
      by_header false missing columns is = by_missing missing columns is

said_in_range : (rules : LogRules) (before : List LogItem) (fields : Fields) (event : NamedEvent) → SaysAfter rules before fields (Tells event)
    → IsNamedInRange event
said_in_range rules before fields event (inl is) = after_in_range rules before fields event is
said_in_range rules before fields event (inr left) = let same = left.2 in absurd (cc)

-- so have the events among what records say
all_after : (rules : LogRules) (before : List LogItem) (records : List Fields) (items : List LogItem) → SayAfter rules before records items
    → All IsNamedInRange (events_in items)
all_after rules before [] [] say = All-nil IsNamedInRange
all_after rules before [] (item ∷ items) say = absurd say
all_after rules before (fields ∷ records) [] say = absurd say
all_after rules before (fields ∷ records) (Asks asked ∷ items) say = all_after rules (before ++ Asks asked ∷ []) records items say.1
all_after rules before (fields ∷ records) (Skips ∷ items) say = all_after rules (before ++ Skips ∷ []) records items say.1
all_after rules before (fields ∷ records) (Begins name ∷ items) say = all_after rules (before ++ Begins name ∷ []) records items say.1
all_after rules before (fields ∷ records) (Names columns ∷ items) say = all_after rules (before ++ Names columns ∷ []) records items say.1
all_after rules before (fields ∷ records) (Fails why ∷ items) say = all_after rules (before ++ Fails why ∷ []) records items say.1
all_after rules before (fields ∷ records) (Tells event ∷ items) say =
    All-cons IsNamedInRange event (events_in items) (said_in_range rules before fields event say.0)
    (all_after rules (before ++ Tells event ∷ []) records items say.1)

all_in_range : (rules : LogRules) (records : List Fields) (items : List LogItem) → SayItems rules records items → All IsNamedInRange (events_in items)
all_in_range rules records items say = all_after rules [] records items say

-- what holds of what a list's items give
each_from_map : {X Y : Type 0} (P : Y → Type 0) (f : X → Y) (xs : List X) → All P (map f xs) → All (λ x. P (f x)) xs
each_from_map P f [] all = All-nil (λ x. P (f x))
each_from_map P f (x ∷ xs) all =
    All-cons (λ x. P (f x)) x xs (All-head P (f x) (map f xs) all) (each_from_map P f xs (All-tail P (f x) (map f xs) all))

-- the stamp of a restart has room above it, and is told
room_above : (kind : LogKind) (stamp : Pair) (has_stamp : Bool) → HasRoom (kind_word kind) stamp has_stamp → kind ≡ Restart
    → (stamp.c ≤ MAX_FLOOR_C) × (has_stamp ≡ true)
unfolding HasRoom
room_above Local stamp has_stamp room is = absurd (cc)
room_above (Send m) stamp has_stamp room is = absurd (cc)
room_above (Receive m) stamp has_stamp room is = absurd (cc)
room_above Restart stamp has_stamp room is = room
room_above Outside stamp has_stamp room is = absurd (cc)

-- the events of a log that was read whole are in range
pub in_range_of_whole : (rules : LogRules) (most : ℕ) (bytes : Option (List ℕ)) (text : ReadText) → IsReadWhole rules most bytes text
    → All IsInRange text.log.events
unfolding IsNamedInRange
in_range_of_whole rules most bytes text whole =
    let log = whole.held.log in
    let names = message_names (events_in whole.items) in
    let in_range = all_in_range rules whole.records whole.items whole.make in
    let plain = All-map IsNamedInRange without_asides (events_in whole.items) in_range in
    let named = with_names text.details.nodes names in
    let told = subst (All IsNamedInRange) (sym log.told) plain in
    let each = each_from_map IsNamedInRange named log.raw told in
    let raw : All IsInRange log.raw =
    All-weaker (λ (e : LogEvent). IsNamedInRange (named e)) IsInRange
    (λ e in_range. record {
      positive = in_range.0.0.0;
      in_range = in_range.0.0.1;
      floor = λ is. (room_above e.kind e.stamp e.has_stamp in_range.0.1 is).0;
      carried = in_range.1;
      told = λ is. (room_above e.kind e.stamp e.has_stamp in_range.0.1 is).1;
    }) log.raw each in
    subst (All IsInRange) (sym log.apart)
    (in_range_apart_if (length names) (senders_of text.details.nodes (events_in whole.items)) log.raw (unnamed_in names) raw)

-- what a log was read to, or why none was: it is so of whichever bytes the reader began with, so of these
module _ (rules : LogRules) (most : ℕ) (bytes : Option (List ℕ)) (IsBegun : Option (List ℕ) → Type 0) (begun : IsBegun bytes) where
  abbrev ReadsOrTells : Result ReadText LogTextFault → Type 0
  ReadsOrTells read = (bytes : Option (List ℕ)) → IsBegun bytes → MatchResult read (IsReadWhole rules most bytes) (ExplainsFault rules most bytes)

  pub whole_of_read : (read : Result ReadText LogTextFault) → ReadsOrTells read → IfOk read (IsReadWhole rules most bytes)
  whole_of_read (Ok text) reads = reads bytes begun
  whole_of_read (Err fault) reads = tt

  pub fault_of_read : (read : Result ReadText LogTextFault) → ReadsOrTells read → IfErr read (ExplainsFault rules most bytes)
  fault_of_read (Ok text) reads = tt
  fault_of_read (Err fault) reads = reads bytes begun
