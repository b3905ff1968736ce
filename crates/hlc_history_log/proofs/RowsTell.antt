-- The rows of a history tell of its events.
use Rattle.std.proofs.Common.{◌≡◌, ◌∙◌, ℕ, ◌^◌, ◌<◌, ◌≤◌, Bool, true, false, cond, List, Option, Some, None, Ok, Err, arith, decimal, length, refl, ap}
use Rattle.std.specs.Prelude.{◌==◌, nat_le, not, option_and_then, option_map}
use Rattle.std.proofs.lemmas.Bool.Decides.{nat_tests}
use Rattle.std.proofs.lemmas.Fmt.{decimal_nonempty, length-decimal-le}
use Rattle.hlc_stamp.specs.declared.limits.TheConstants.{MAX_READING}
use Rattle.hlc_stamp.specs.declared.stamp.Stamp.{Stamp}
use Rattle.hlc_arena.specs.History.{Delivered, Erased, EventKind, Sent, StampedEvent, Synced, Written}
use Rattle.hlc_csv.specs.Rows.{Fields, field_of}
use Rattle.hlc_csv.proofs.DecimalFacts.{number_of-decimal}
use Rattle.hlc_log_text.specs.StampForms.{form_stamp, pair_stamp}
use Rattle.hlc_log_text.specs.declared.stamp_form.StampForm.TheVariants.{Pair}
use Rattle.hlc_log.specs.declared.log_event.LogKind.{LogKind}
use Rattle.hlc_log.specs.declared.log_event.LogKind.TheVariants as kind
use Rattle.hlc_log.specs.declared.message_id.MessageId.{MessageId}
use Rattle.hlc_log_text.specs.LogRules.{exact_rules}
use Rattle.hlc_log_text.specs.LogItem.{Tells, item_after_word, item_of, tells}
use Rattle.hlc_log_text.specs.LogText.{kind_word}
use Rattle.hlc_log_text.specs.LogWord.{has_fields_of, log_word_of}
use Rattle.hlc_log_text.specs.NamedEvent.{NamedEvent, assumed_reading, has_good_names, head_by, head_from, head_or_bad, head_with, is_name, label_of, named_event_from, reading_of, stamp_told, told_by, tolerated}
use Rattle.hlc_log_text.specs.declared.bad_log.BadLog.TheVariants as bad
use Rattle.hlc_history_log.specs.Laws.{log_kind}
use Rattle.hlc_history_log.specs.LogRows.{message_of, row_with}

-- what a reader makes of the numbers
reading_is : (n : ℕ) → 1 ≤ n → n ≤ MAX_READING → reading_of (exact_rules Pair) (decimal n) ≡ Some n
reading_is n positive in_range =
    let low : nat_le 1 n ≡ true = grind (arith, nat_tests, positive) in
    let high : nat_le n MAX_READING ≡ true = grind (arith, nat_tests, in_range) in
    rw (number_of-decimal n (omega arith), low, high) refl

stamp_is : (l c : ℕ) → l < 2 ^ 64 → c ≤ 4294967295 → pair_stamp (decimal l) (decimal c) ≡ Some (record { l = l; c = c })
stamp_is l c l_fits c_fits =
    let few : nat_le c 4294967295 ≡ true = grind (arith, nat_tests, c_fits) in
    rw (number_of-decimal l l_fits, number_of-decimal c (omega arith), few) refl

-- a receive tells its stamp
received_stamp : (fields : Fields) (message : MessageId) (stamp : Stamp) → (length (field_of fields 3) == 0) ≡ false → form_stamp Pair fields 3 ≡ Some stamp
    → stamp_told Pair (kind_word (kind.Receive message)) fields ≡ Some (Some stamp)
received_stamp fields message stamp told is = rw (told, is) refl

number_is_name : (n : ℕ) → n < 2 ^ 64 → is_name (decimal n) ≡ true
number_is_name n small =
    let some = decimal_nonempty n small in
    let few = length-decimal-le 20 n (omega arith) (omega arith) small in
    let a : nat_le 1 (length (decimal n)) ≡ true = grind (arith, nat_tests, some) in
    let b : nat_le (length (decimal n)) 256 ≡ true = grind (arith, nat_tests, few) in
    rw (a, b) refl

-- it isn't empty
number_is_told : (n : ℕ) → n < 2 ^ 64 → (length (decimal n) == 0) ≡ false
number_is_told n small =
    let some = decimal_nonempty n small in
    grind (arith, nat_tests, some)

-- a reading that is exact stays as it is
exact_reading : (reading l : ℕ) → 1 ≤ reading → tolerated 0 reading l ≡ reading
exact_reading reading l positive = omega arith

-- a record that has all that its word asks for tells of an event
tells_of_parts : (fields : Fields) (k : LogKind) (reading : ℕ) (stamp : Stamp) → 1 ≤ reading → log_word_of (field_of fields 0) ≡ Some (kind_word k)
    → has_fields_of Pair (kind_word k) (length fields) ≡ true → (length (field_of fields 2) == 0) ≡ false → reading_of (exact_rules Pair) (field_of fields 2) ≡ Some reading
    → stamp_told Pair (kind_word k) fields ≡ Some (Some stamp)
    → head_by (kind_word k) reading true (Some stamp) ≡ Some (record { word = kind_word k; reading = reading; has_reading = true; stamp = stamp; has_stamp = true })
    → has_good_names Pair (kind_word k) None fields ≡ true → (label : Option (List ℕ)) → label_of Pair (kind_word k) fields ≡ label
    → item_of (exact_rules Pair) fields ≡ Ok (Tells (told_by (record { word = kind_word k; reading = reading; has_reading = true; stamp = stamp; has_stamp = true }) (field_of fields 1) (field_of fields 5) None label))
tells_of_parts fields k reading stamp positive is_word count is_told is_reading is_stamp is_head names label is_label =
    let w = kind_word k in
    let good = has_good_names Pair w None fields in
    ap (λ o. item_after_word (exact_rules Pair) None o fields) is_word
    ∙ ap (λ (b : Bool). tells (named_event_from Pair w None fields (cond b (head_or_bad (exact_rules Pair) None fields (head_with (exact_rules Pair) w fields) good) (Err bad.Fields)))) count
    ∙ ap (λ (o : Option (Option Stamp)). tells (named_event_from Pair w None fields (head_or_bad (exact_rules Pair) None fields (head_from (exact_rules Pair) w (field_of fields 2) o) good))) is_stamp
    ∙ ap (λ (b : Bool). tells (named_event_from Pair w None fields (head_or_bad (exact_rules Pair) None fields
    (option_and_then (λ (n : ℕ). head_by w n (not b) (Some stamp))
    (cond b (Some (assumed_reading stamp)) (option_map (λ (n : ℕ). tolerated 0 n stamp.l) (reading_of (exact_rules Pair) (field_of fields 2))))) good))) is_told
    ∙ ap (λ (o : Option ℕ). tells (named_event_from Pair w None fields (head_or_bad (exact_rules Pair) None fields
    (option_and_then (λ (n : ℕ). head_by w n true (Some stamp)) (option_map (λ (n : ℕ). tolerated 0 n stamp.l) o)) good))) is_reading
    ∙ ap (λ (n : ℕ). tells (named_event_from Pair w None fields (head_or_bad (exact_rules Pair) None fields (head_by w n true (Some stamp)) good))) (exact_reading reading stamp.l positive)
    ∙ ap (λ h. tells (named_event_from Pair w None fields (head_or_bad (exact_rules Pair) None fields h good))) is_head
    ∙ ap (λ (b : Bool). tells (named_event_from Pair w None fields (head_or_bad (exact_rules Pair) None fields (Some (record { word = w; reading = reading; has_reading = true; stamp = stamp; has_stamp = true })) b))) names
    ∙ ap (λ (l : Option (List ℕ)). Ok (Tells (told_by (record { word = w; reading = reading; has_reading = true; stamp = stamp; has_stamp = true }) (field_of fields 1) (field_of fields 5) None l))) is_label

-- an event, as it is told with a label
abbrev pub told_event : ℕ → StampedEvent → List ℕ → NamedEvent
told_event e x label = record {
  head = record { word = kind_word (log_kind e x.event.kind); reading = x.event.reading; has_reading = true; stamp = x.stamp; has_stamp = true };
  node = decimal x.event.node;
  message = option_map decimal (message_of e x.event.kind);
  from = None;
  carried = None;
  seq = 0;
  label = Some label;
}

-- the numbers of an event can be written and read
pub record IsInRange (e : ℕ) (x : StampedEvent) : Type 0 where
  pub node : x.event.node < 2 ^ 64
  pub positive : 1 ≤ x.event.reading
  pub reading : x.event.reading ≤ MAX_READING
  pub l : x.stamp.l < 2 ^ 64
  pub c : x.stamp.c ≤ 4294967295
  pub message : (m : ℕ) → message_of e x.event.kind ≡ Some m → m < 2 ^ 64

module _ (e : ℕ) (node reading : ℕ) (stamp : Stamp) (label : List ℕ) where
  abbrev with_kind : EventKind → StampedEvent
  with_kind k = record { event = record { node = node; reading = reading; kind = k }; stamp = stamp }

  abbrev row : EventKind → Fields
  row k = row_with e (with_kind k) (Some label)

  told : (k : EventKind) → IsInRange e (with_kind k) → (length (decimal reading) == 0) ≡ false
  told k h = number_is_told reading (let most = h.reading in omega arith)

  good : (k : EventKind) → IsInRange e (with_kind k) → reading_of (exact_rules Pair) (decimal reading) ≡ Some reading
  good k h = reading_is reading h.positive h.reading

  whole : (k : EventKind) → IsInRange e (with_kind k) → pair_stamp (decimal stamp.l) (decimal stamp.c) ≡ Some stamp
  whole k h = stamp_is stamp.l stamp.c h.l h.c

  tells_stamp : (k : EventKind) → IsInRange e (with_kind k)
      → ◌≡◌ {A = Option (Option Stamp)} (option_map (λ s. Some s) (pair_stamp (decimal stamp.l) (decimal stamp.c))) (Some (Some stamp))
  tells_stamp k h = ap (option_map (λ (s : Stamp). Some s)) (whole k h)

  by_kind : (k : EventKind) → IsInRange e (with_kind k) → item_of (exact_rules Pair) (row k) ≡ Ok (Tells (told_event e (with_kind k) label))
  by_kind (Written key value) h =
      tells_of_parts (row (Written key value)) kind.Local reading stamp h.positive refl refl (told (Written key value) h) (good (Written key value) h)
      (tells_stamp (Written key value) h) refl (number_is_name node h.node) (Some label) refl
  by_kind (Erased key) h =
      tells_of_parts (row (Erased key)) kind.Local reading stamp h.positive refl refl (told (Erased key) h) (good (Erased key) h)
      (tells_stamp (Erased key) h) refl (number_is_name node h.node) (Some label) refl
  by_kind (Sent to write) h =
      tells_of_parts (row (Sent to write)) (kind.Send (record { 0 = e })) reading stamp h.positive refl refl (told (Sent to write) h) (good (Sent to write) h)
      (tells_stamp (Sent to write) h) refl (rw (number_is_name node h.node, number_is_name e (h.message e refl)) refl) (Some label) refl
  by_kind (Synced to writes) h =
      tells_of_parts (row (Synced to writes)) (kind.Send (record { 0 = e })) reading stamp h.positive refl refl (told (Synced to writes) h) (good (Synced to writes) h)
      (tells_stamp (Synced to writes) h) refl (rw (number_is_name node h.node, number_is_name e (h.message e refl)) refl) (Some label) refl
  by_kind (Delivered sent) h =
      tells_of_parts (row (Delivered sent)) (kind.Receive (record { 0 = sent })) reading stamp h.positive refl refl (told (Delivered sent) h) (good (Delivered sent) h)
      (received_stamp (row (Delivered sent)) (record { 0 = sent }) stamp (number_is_told stamp.l h.l) (whole (Delivered sent) h)) refl (rw (number_is_name node h.node, number_is_name sent (h.message sent refl)) refl) (Some label) refl

-- a row tells of its event
pub row_tells : (e : ℕ) (x : StampedEvent) (label : List ℕ) → IsInRange e x → item_of (exact_rules Pair) (row_with e x (Some label)) ≡ Ok (Tells (told_event e x label))
row_tells e x label h = by_kind e x.event.node x.event.reading x.stamp label x.event.kind h
