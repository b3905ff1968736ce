-- A log is read, one record after the other.
use Rattle.std.proofs.Common.{◌≡◌, ◌∙◌, ℕ, ◌+◌, ◌<◌, ◌≤◌, Bool, true, false, List, [], ◌∷◌, ◌++◌, Option, Some, None, ap, append_assoc, arith, inl, inr, length, length-append, map, refl, suc, sym, subst}
use Rattle.std.specs.Prelude.{◌≢◌, MatchResult, Result, Ok, Err, max, slice_index_or}
use Rattle.std.specs.List.{cons_option}
use Rattle.std.proofs.lemmas.List.{append-nil}
use Rattle.hlc_stamp.specs.declared.limits.TheConstants.{MAX_CAPACITY}
use Rattle.hlc_log.specs.declared.log_event.TheConstants.{MAX_LOG_NODES}
use Rattle.hlc_csv.specs.Records.{BeginsWith}
use Rattle.hlc_csv.specs.Rows.{Fields}
use Rattle.hlc_csv.proofs.RecordFacts.{are_all-only}
use Rattle.hlc_log_text.specs.declared.file_mark.FileMark.{FileMark}
use Rattle.hlc_log.specs.declared.log_event.LogEvent.{LogEvent}
use Rattle.hlc_csv.specs.RecordLines.{record_lines, rising}
use Rattle.hlc_csv.specs.RecordReader.{AreAll, BeginOnLines, FirstBeginOnLines, HasReadTo, ReadsOne, ReadsRecord}
use Rattle.hlc_csv.specs.TextEnd.{EndOpen}
use Rattle.hlc_csv.specs.declared.found_record.FoundRecord.{FoundRecord}
use Rattle.hlc_csv.specs.declared.record_reader.RecordReader.{RecordReader}
use Rattle.hlc_log_text.specs.declared.log_rules.LogRules.{LogRules}
use Rattle.hlc_log_text.specs.declared.bad_log.BadLine.{BadLine}
use Rattle.hlc_log_text.specs.declared.bad_log.BadLog.{BadLog}
use Rattle.hlc_log_text.specs.declared.bad_log.BadRecord.{BadRecord}
use Rattle.hlc_log_text.specs.declared.fault.LogTextFault.{LogTextFault}
use Rattle.hlc_log_text.specs.declared.fault.LogTextFault.TheVariants as fault
use Rattle.hlc_csv.specs.declared.records_fault.RecordsFault.TheVariants as ended
use Rattle.hlc_log_text.specs.declared.fault_rule.FaultRule.TheVariants.{TellEach}
use Rattle.hlc_log_text.specs.BadRecords.{MayBeLeftOut, bad_records_on, told_before}
use Rattle.hlc_log_text.specs.FileMarks.{file_mark}
use Rattle.hlc_log_text.specs.declared.partial_log.PartialLog.{PartialLog}
use Rattle.hlc_log_text.specs.LogItem.{LogItem, bad_line, bad_lines_in, event_lines, events_in, if_file, if_reason, marks_in, picked_in}
use Rattle.hlc_log_text.specs.Skipped.{skipped_in}
use Rattle.hlc_log_text.specs.declared.skipped.Skipped.{Skipped}
use Rattle.hlc_log_text.specs.LogText.{IsRawLogOf, node_names}
use Rattle.hlc_log_text.specs.ReadLog.{AreLeftOutOnLines, AreMarksOnLines, AreOnLines, AreSkippedOnLines, ExplainsFault, HasTooMany, IsBadNext, IsOnLine, IsReadInto, IsReadUpToBad, IsReadWithBad, SayAfter, SayItems}
use Rattle.hlc_log_text.specs.PartialLog.{HasPlace, IsBadFound, IsPartialLog, KeepsMarksBy, SaysAfter, Takes, TellsLeftOut, last_of, text_of, told_line}
use Rattle.hlc_log_text.proofs.LogFacts.{record_count-items}

-- what was read so far
pub record LogSoFar {R : Type 0} (rules : LogRules) (rem : R → Option (List ℕ)) (initial input : RecordReader R) (now : PartialLog) (count : ℕ) : Type 0 where
  pub records : List Fields
  pub items : List LogItem
  pub counted : List ℕ
  pub read : (bytes : Option (List ℕ)) → HasReadTo rem initial bytes [] [] → HasReadTo rem input bytes records counted
  pub make : SayItems rules records items
  pub one_each : length records ≡ count
  pub line_each : length counted ≡ count
  pub reading : IsPartialLog items (rising 0 counted) now
  pub marks : KeepsMarksBy rules now

-- as much is said as there are records
length-said_after : (rules : LogRules) (before : List LogItem) (records : List Fields) (items : List LogItem) → SayAfter rules before records items
    → length items ≡ length records
length-said_after rules before [] [] say = refl
length-said_after rules before [] (item ∷ items) say = absurd say
length-said_after rules before (fields ∷ records) [] say = absurd say
length-said_after rules before (fields ∷ records) (item ∷ items) say =
    ap suc (length-said_after rules (before ++ item ∷ []) records items say.1)

pub length-said : (rules : LogRules) (records : List Fields) (items : List LogItem) → SayItems rules records items → length items ≡ length records
length-said rules records items say = length-said_after rules [] records items say

-- one more record says something
said-push : (rules : LogRules) (before : List LogItem) (records : List Fields) (items : List LogItem) (fields : Fields) (item : LogItem)
    → SayAfter rules before records items → SaysAfter rules (before ++ items) fields item
    → SayAfter rules before (records ++ fields ∷ []) (items ++ item ∷ [])
said-push rules before [] [] fields item say is =
    (subst (λ (before : List LogItem). SaysAfter rules before fields item) (append-nil before) is, tt)
said-push rules before [] (i ∷ items) fields item say is = absurd say
said-push rules before (f ∷ records) [] fields item say is = absurd say
said-push rules before (f ∷ records) (i ∷ items) fields item say is = (
  say.0,
  said-push rules (before ++ i ∷ []) records items fields item say.1
      (subst (λ (before : List LogItem). SaysAfter rules before fields item) (sym (append_assoc before (i ∷ []) items)) is),
)

-- the line that is told of one more record
rising-push : (before : ℕ) (lines : List ℕ) (line : ℕ)
    → rising before (lines ++ line ∷ []) ≡ rising before lines ++ max line (last_of before (rising before lines) + 1) ∷ []
rising-push before [] line = refl
rising-push before (l ∷ lines) line = ap (λ (ls : List ℕ). max l (before + 1) ∷ ls) (rising-push (max l (before + 1)) lines line)

rising-at : (before : ℕ) (lines : List ℕ) (line : ℕ) (more : List ℕ)
    → slice_index_or (rising before (lines ++ line ∷ more)) (length lines) 0 ≡ max line (last_of before (rising before lines) + 1)
rising-at before [] line more = refl
rising-at before (l ∷ lines) line more = rising-at (max l (before + 1)) lines line more

on_line-first : (bytes : Option (List ℕ)) (counted : List ℕ) (line : ℕ) → FirstBeginOnLines bytes (counted ++ line ∷ [])
    → IsOnLine bytes (length counted) (max line (last_of 0 (rising 0 counted) + 1))
on_line-first None counted line h = tt
on_line-first (Some text) counted line h =
    sym (ap (λ (lines : List ℕ). slice_index_or (rising 0 lines) (length counted) 0) (h.1 ∙ append_assoc counted (line ∷ []) h.0) ∙ rising-at 0 counted line h.0)

on_line-last : (bytes : Option (List ℕ)) (counted : List ℕ) (line : ℕ) → BeginOnLines bytes (counted ++ line ∷ [])
    → IsOnLine bytes (length counted) (max line (last_of 0 (rising 0 counted) + 1))
on_line-last None counted line h = tt
on_line-last (Some text) counted line h =
    sym (ap (λ (lines : List ℕ). slice_index_or (rising 0 lines) (length counted) 0) h ∙ rising-at 0 counted line [])

are_on_lines : (bytes : Option (List ℕ)) (items : List LogItem) (counted : List ℕ) (events : List LogEvent) → BeginOnLines bytes counted
    → map (λ e. e.line) events ≡ event_lines items (rising 0 counted) → AreOnLines bytes items events
are_on_lines None items counted events h on_lines = tt
are_on_lines (Some text) items counted events h on_lines =
    on_lines ∙ ap (λ (lines : List ℕ). event_lines items (rising 0 lines)) (sym h)

are_skipped_on_lines : (bytes : Option (List ℕ)) (items : List LogItem) (counted : List ℕ) (skipped : Option Skipped) → BeginOnLines bytes counted
    → skipped ≡ skipped_in items (rising 0 counted) → AreSkippedOnLines bytes items skipped
are_skipped_on_lines None items counted skipped h is = tt
are_skipped_on_lines (Some text) items counted skipped h is = is ∙ ap (λ (lines : List ℕ). skipped_in items (rising 0 lines)) (sym h)

are_left_out_on_lines : (bytes : Option (List ℕ)) (items : List LogItem) (counted : List ℕ) (left_out : List BadLine) → BeginOnLines bytes counted
    → left_out ≡ bad_lines_in items (rising 0 counted) → AreLeftOutOnLines bytes items left_out
are_left_out_on_lines None items counted left_out h is = tt
are_left_out_on_lines (Some text) items counted left_out h is = is ∙ ap (λ (lines : List ℕ). bad_lines_in items (rising 0 lines)) (sym h)

are_marks_on_lines : (bytes : Option (List ℕ)) (items : List LogItem) (counted : List ℕ) (files : List FileMark) → BeginOnLines bytes counted
    → files ≡ marks_in items (rising 0 counted) → AreMarksOnLines bytes items files
are_marks_on_lines None items counted files h is = tt
are_marks_on_lines (Some text) items counted files h is = is ∙ ap (λ (lines : List ℕ). marks_in items (rising 0 lines)) (sym h)

-- the lines of more records come after
rising-append : (before : ℕ) (lines more : List ℕ) → rising before (lines ++ more) ≡ rising before lines ++ rising (last_of before (rising before lines)) more
rising-append before [] more = refl
rising-append before (l ∷ lines) more = ap (λ (ls : List ℕ). max l (before + 1) ∷ ls) (rising-append (max l (before + 1)) lines more)

-- and nothing is picked with them
picked-append : {A : Type 0} (pick : ℕ → LogItem → Option A) (items : List LogItem) (lines more : List ℕ) → length lines ≡ length items
    → picked_in pick items (lines ++ more) ≡ picked_in pick items lines
picked-append pick [] lines more same = refl
picked-append pick (item ∷ items) [] more same = absurd (cc)
picked-append pick (item ∷ items) (line ∷ lines) more same =
    ap (cons_option (pick line item)) (picked-append pick items lines more (let same = same in omega arith))

picked-first : {A : Type 0} (pick : ℕ → LogItem → Option A) (items : List LogItem) (counted told : List ℕ) (picked : List A)
    → ((more : List ℕ) × (told ≡ counted ++ more)) → length (rising 0 counted) ≡ length items → picked ≡ picked_in pick items (rising 0 counted)
    → picked ≡ picked_in pick items (rising 0 told)
picked-first pick items counted told picked first one_each is =
    is ∙ sym (picked-append pick items (rising 0 counted) (rising (last_of 0 (rising 0 counted)) first.0) one_each)
    ∙ ap (picked_in pick items) (sym (rising-append 0 counted first.0)) ∙ ap (λ (lines : List ℕ). picked_in pick items (rising 0 lines)) (sym first.1)

first_marks : (bytes : Option (List ℕ)) (items : List LogItem) (counted : List ℕ) (files : List FileMark) → FirstBeginOnLines bytes counted
    → length (rising 0 counted) ≡ length items → files ≡ marks_in items (rising 0 counted) → AreMarksOnLines bytes items files
first_marks None items counted files first one_each is = tt
first_marks (Some text) items counted files first one_each is =
    picked-first (λ line item. file_mark line (if_file item)) items counted (record_lines text) files first one_each is

first_left_out : (bytes : Option (List ℕ)) (items : List LogItem) (counted : List ℕ) (left_out : List BadLine) → FirstBeginOnLines bytes counted
    → length (rising 0 counted) ≡ length items → left_out ≡ bad_lines_in items (rising 0 counted) → AreLeftOutOnLines bytes items left_out
first_left_out None items counted left_out first one_each is = tt
first_left_out (Some text) items counted left_out first one_each is =
    picked-first (λ line item. bad_line line (if_reason item)) items counted (record_lines text) left_out first one_each is

-- the lines before one more record are the first ones
first_of : {R : Type 0} (rem : R → Option (List ℕ)) (next : RecordReader R) (bytes : Option (List ℕ)) (records : List Fields) (counted : List ℕ) (line : ℕ)
    (is_open : Bool) → ReadsOne rem next bytes records (counted ++ line ∷ []) is_open → FirstBeginOnLines bytes counted
first_of rem next None records counted line is_open reads = tt
first_of rem next (Some text) records counted line true reads = (line ∷ [], reads.on_lines)
first_of rem next (Some text) records counted line false reads =
    let first = reads.1.on_lines in
    (line ∷ first.0, first.1 ∙ append_assoc counted (line ∷ []) first.0)

-- the records that end open are the first ones
pub open_begins : (bytes : Option (List ℕ)) (records : List Fields) → EndOpen bytes records → BeginsWith bytes records
open_begins None records h = tt
open_begins (Some bytes) records h = (h.0.0, h.0.1, h.0.2)

module _ {R : Type 0} (rules : LogRules) (rem : R → Option (List ℕ)) (initial : RecordReader R) where
  -- nothing was read
  pub log_so_far-none : (reading : PartialLog) → IsPartialLog [] [] reading → KeepsMarksBy rules reading → LogSoFar rules rem initial initial reading 0
  log_so_far-none reading h marks = record {
    records = [];
    items = [];
    counted = [];
    read = λ bytes start. start;
    make = tt;
    one_each = refl;
    line_each = refl;
    reading = h;
    marks = marks;
  }

  module _ (input : RecordReader R) (reading : PartialLog) (count : ℕ) (h : LogSoFar rules rem initial input reading count) where
    log : IsRawLogOf (events_in h.items) (text_of reading)
    log = h.reading.held.log

    few_nodes : length (node_names (events_in h.items)) ≤ MAX_LOG_NODES
    few_nodes = subst (λ (names : List (List ℕ)). length names ≤ MAX_LOG_NODES) log.nodes log.few_nodes

    -- one more record has its place
    pub has_place : count < MAX_CAPACITY → HasPlace reading
    has_place below =
        let records = record_count-items h.items (text_of reading) h.reading.held in
        let said = length-said rules h.records h.items h.make in
        let one_each = h.one_each in
        let last = h.reading.last in
        record {
          few_records = omega arith;
          few_nodes = log.few_nodes;
          few_messages = log.few_messages;
          last = omega arith;
          marks = h.reading.marks;
        }

    -- there is no other
    pub is_read_into : (next : RecordReader R) (fields : Fields) (most : ℕ) (bytes : Option (List ℕ)) → count ≤ most
        → HasReadTo rem initial bytes [] [] → ReadsRecord rem input next fields None → MayBeLeftOut rules.faults reading.left_out.items
        → IsReadInto rules most bytes reading
    is_read_into next fields most bytes within start read taken =
        let all : AreAll bytes h.records h.counted = read bytes h.records h.counted (h.read bytes start) in
        let one_each = h.one_each in
        record {
          records = h.records;
          items = h.items;
          lines = rising 0 h.counted;
          all = all.all;
          only = are_all-only bytes h.records all.all;
          closed = all.closed;
          within = omega arith;
          make = h.make;
          held = h.reading;
          on_lines = are_on_lines bytes h.items h.counted reading.log.events all.on_lines h.reading.on_lines;
          skipped = are_skipped_on_lines bytes h.items h.counted reading.skipped all.on_lines h.reading.skipped;
          left_out = are_left_out_on_lines bytes h.items h.counted reading.left_out.items all.on_lines h.reading.left_out;
          files = are_marks_on_lines bytes h.items h.counted reading.files all.on_lines h.reading.files;
          taken = taken;
        }

    -- there is no other, and each that is bad is told
    is_read_with_bad : (next : RecordReader R) (fields : Fields) (most : ℕ) (bytes : Option (List ℕ)) (told : List BadRecord) → count ≤ most
        → HasReadTo rem initial bytes [] [] → ReadsRecord rem input next fields None
        → (rules.faults ≡ TellEach) × (told ≢ []) × (told ≡ bad_records_on reading.files reading.left_out.items) → IsReadWithBad rules most bytes told
    is_read_with_bad next fields most bytes told within start read tells =
        let all : AreAll bytes h.records h.counted = read bytes h.records h.counted (h.read bytes start) in
        let one_each = h.one_each in
        record {
          records = h.records;
          items = h.items;
          files = reading.files;
          bad = reading.left_out.items;
          all = all.all;
          only = are_all-only bytes h.records all.all;
          closed = all.closed;
          within = omega arith;
          make = h.make;
          marks = are_marks_on_lines bytes h.items h.counted reading.files all.on_lines h.reading.files;
          left_out = are_left_out_on_lines bytes h.items h.counted reading.left_out.items all.on_lines h.reading.left_out;
          each = tells.0;
          some = tells.1;
          told_are = tells.2;
        }

    -- so the reading ends
    module _ (next : RecordReader R) (fields : Fields) (most : ℕ) (bytes : Option (List ℕ)) (within : count ≤ most)
        (start : HasReadTo rem initial bytes [] []) (read : ReadsRecord rem input next fields None) where
      explains_end : (fault : LogTextFault) → TellsLeftOut rules.faults reading fault → ExplainsFault rules most bytes fault
      explains_end (fault.Bad told) tells = inr (is_read_with_bad next fields most bytes told.items within start read tells)
      explains_end (fault.Records ended.Read) tells = absurd tells
      explains_end (fault.Records ended.Write) tells = absurd tells
      explains_end (fault.Records ended.TooLong) tells = absurd tells
      explains_end (fault.Records ended.Memory) tells = tt

      pub is_read_to_end : {U : Type 0} (ended : Result U LogTextFault)
          → MatchResult ended (λ _. MayBeLeftOut rules.faults reading.left_out.items) (TellsLeftOut rules.faults reading)
          → MatchResult ended (λ _. IsReadInto rules most bytes reading) (ExplainsFault rules most bytes)
      is_read_to_end (Ok done) taken = is_read_into next fields most bytes within start read taken
      is_read_to_end (Err fault) tells = explains_end fault tells

    module _ (next : RecordReader R) (fields : Fields) (found : FoundRecord) (read : ReadsRecord rem input next fields (Some found)) where
      abbrev line : ℕ
      line = told_line reading found.line

      line_is : line ≡ max found.line (last_of 0 (rising 0 h.counted) + 1)
      line_is = ap (λ n. max found.line (n + 1)) h.reading.ends

      one : (bytes : Option (List ℕ)) → HasReadTo rem initial bytes [] []
          → ReadsOne rem next bytes (h.records ++ fields ∷ []) (h.counted ++ found.line ∷ []) found.is_open
      one bytes start = read bytes h.records h.counted (h.read bytes start)

      -- it is taken in
      pub log_so_far-more : (new : PartialLog) → Takes rules h.items (rising 0 h.counted) fields found.is_open line new None
          → KeepsMarksBy rules new → LogSoFar rules rem initial next new (count + 1)
      log_so_far-more new takes marks = record {
        records = h.records ++ fields ∷ [];
        items = h.items ++ takes.1 ∷ [];
        counted = h.counted ++ found.line ∷ [];
        read = λ bytes start.
            (subst (ReadsOne rem next bytes (h.records ++ fields ∷ []) (h.counted ++ found.line ∷ [])) takes.0 (one bytes start)).0;
        make = said-push rules [] h.records h.items fields takes.1 h.make takes.2;
        one_each = length-append h.records (fields ∷ []) ∙ ap (λ n. n + 1) h.one_each;
        line_each = length-append h.counted (found.line ∷ []) ∙ ap (λ n. n + 1) h.line_each;
        reading = subst (λ (lines : List ℕ). IsPartialLog (h.items ++ takes.1 ∷ []) lines new)
            (ap (λ n. rising 0 h.counted ++ n ∷ []) line_is ∙ sym (rising-push 0 h.counted found.line)) takes.3;
        marks = marks;
      }

      -- it is bad
      bad_next : (bytes : Option (List ℕ)) (is_open : Bool) (why : BadLog) → ReadsOne rem next bytes (h.records ++ fields ∷ []) (h.counted ++ found.line ∷ []) is_open
          → IsBadFound rules h.items fields is_open why
          → IsBadNext rules bytes h.records h.items fields why × BeginsWith bytes (h.records ++ fields ∷ []) × IsOnLine bytes (length h.counted) line
      bad_next bytes true why reads is = (
        inl (reads.ends, is),
        open_begins bytes (h.records ++ fields ∷ []) reads.ends,
        subst (IsOnLine bytes (length h.counted)) (sym line_is) (on_line-last bytes h.counted found.line reads.on_lines),
      )
      bad_next bytes false why reads is = (
        inr (reads.1.closed, is.0, is.1),
        reads.1.begins,
        subst (IsOnLine bytes (length h.counted)) (sym line_is) (on_line-first bytes h.counted found.line reads.1.on_lines),
      )

      pub is_read_up_to_bad : (most : ℕ) (bytes : Option (List ℕ)) (new : PartialLog) (b : BadLine) (told : List BadRecord) → count < most
          → HasReadTo rem initial bytes [] [] → Takes rules h.items (rising 0 h.counted) fields found.is_open line new (Some b)
          → told ≡ bad_records_on new.files (told_before rules.faults new.left_out.items ++ b ∷ []) → IsReadUpToBad rules most bytes told
      is_read_up_to_bad most bytes new b told below start takes told_are =
          let is = bad_next bytes found.is_open b.why (one bytes start) takes.0 in
          let lines : FirstBeginOnLines bytes h.counted = first_of rem next bytes (h.records ++ fields ∷ []) h.counted found.line found.is_open (one bytes start) in
          let said = length-said rules h.records h.items h.make in
          let late = takes.2 in
          let one_each = h.one_each in
          record {
            records = h.records;
            items = h.items;
            next = fields;
            files = new.files;
            before = new.left_out.items;
            last = b;
            begins = is.1;
            within = omega arith;
            make = (h.make, few_nodes);
            is_bad = is.0;
            on_line = subst (IsOnLine bytes (length h.records)) (sym takes.1)
                (subst (λ (place : ℕ). IsOnLine bytes place line) (h.line_each ∙ sym h.one_each) is.2);
            late = omega arith;
            marks = first_marks bytes h.items h.counted new.files lines takes.3.one_each takes.3.files;
            left_out = first_left_out bytes h.items h.counted new.left_out.items lines takes.3.one_each takes.3.left_out;
            told_are = told_are;
          }

      -- it is one too many
      too_many : (bytes : Option (List ℕ)) (is_open : Bool) → ReadsOne rem next bytes (h.records ++ fields ∷ []) (h.counted ++ found.line ∷ []) is_open
          → BeginsWith bytes (h.records ++ fields ∷ [])
      too_many bytes true reads = open_begins bytes (h.records ++ fields ∷ []) reads.ends
      too_many bytes false reads = reads.1.begins

      pub has_too_many : (most : ℕ) (bytes : Option (List ℕ)) → count ≡ most → HasReadTo rem initial bytes [] [] → HasTooMany rules most bytes
      has_too_many most bytes full start = record {
        records = h.records;
        items = h.items;
        next = fields;
        begins = too_many bytes found.is_open (one bytes start);
        full = h.one_each ∙ full;
        make = (h.make, few_nodes);
      }
