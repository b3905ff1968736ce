-- The parts of an input: a log, and questions that follow it.
use Rattle.std.proofs.Common.{◌≡◌, ◌∙◌, ◌==◌, ◌<◌, ◌+◌, ◌++◌, ◌∷◌, ℕ, Bool, true, false, List, [], None, Option, Some, Result, Ok, Err, ap, append-nil, append_assoc, arith, drop, length, not, refl, subst, suc, sym, take}
use Rattle.std.specs.Prelude.{IfOk, IfSome, OnOk, if◌then◌else◌, slice_get}
use Rattle.std.specs.List.{concat, position_or_len}
use Rattle.std.specs.Io.BufRead.{drop_through, take_through}
use Rattle.std.proofs.lemmas.List.Elements.{filter-append}
use Rattle.memchr.specs.Find.{IsFirstByte, is_byte}
use Rattle.hlc_json_lines.specs.EventRow.{is_blank}
use Rattle.hlc_json_lines.specs.Lines.{lines_of, onto_line}
use Rattle.hlc_json_lines.proofs.PartFacts.{first-place, no-place}
use Rattle.hlc_log_text.specs.Question.{IsQuestionText, plain_asked}
use Rattle.hlc_log_text.specs.declared.question.LogQuestion.{LogQuestion}
use Rattle.hlc_command_line.specs.Asked.{AreAsked}
use Rattle.hlc_csv.specs.declared.records_fault.RecordsFault.TheVariants as records
use Rattle.hlc_command_line.specs.declared.command_fault.CommandFault.{CommandFault}
use Rattle.hlc_command_line.specs.declared.command_fault.CommandFault.TheVariants as stop
use Rattle.hlc_log_commands.specs.Following.{AreAdded, AreParts, HoldFor, HoldsOf, IsAddFault, asking_lines, is_marker, lines_above, lines_below, log_part, marker_in, questions_part}

-- the first line of a text and the others, by whether the first byte ends the line
lines-by : (ends : Bool) (byte : ℕ) (bytes : List ℕ)
    → onto_line byte (lines_of bytes) ≡ (byte ∷ take_through 10 bytes) ∷ lines_of (drop_through 10 bytes)
    → (if ends then (byte ∷ []) ∷ lines_of bytes else onto_line byte (lines_of bytes))
    ≡ (if ends then byte ∷ [] else byte ∷ take_through 10 bytes) ∷ lines_of (if ends then bytes else drop_through 10 bytes)
lines-by true byte bytes on = refl
lines-by false byte bytes on = on

lines-onto : (byte : ℕ) (bytes : List ℕ) → onto_line byte (lines_of bytes) ≡ (byte ∷ take_through 10 bytes) ∷ lines_of (drop_through 10 bytes)
lines-onto byte [] = refl
lines-onto byte (next ∷ bytes) = ap (onto_line byte) (lines-by (next == 10) next bytes (lines-onto next bytes))

lines-first : (text : List ℕ) → 0 < length text → lines_of text ≡ take_through 10 text ∷ lines_of (drop_through 10 text)
lines-first [] some = absurd (omega (arith, some))
lines-first (byte ∷ bytes) some = lines-by (byte == 10) byte bytes (lines-onto byte bytes)

-- where the first line feed stands, there the first line ends
take-by : (ends : Bool) (byte : ℕ) (bytes : List ℕ) (place : ℕ) → take (place + 1) bytes ≡ take_through 10 bytes
    → take ((if not ends then 1 + place else 0) + 1) (byte ∷ bytes) ≡ (if ends then byte ∷ [] else byte ∷ take_through 10 bytes)
take-by true byte bytes place same = refl
take-by false byte bytes place same =
    let more : 1 + place + 1 ≡ suc (place + 1) = omega arith in
    ap (λ (n : ℕ). take n (byte ∷ bytes)) more ∙ ap (λ (line : List ℕ). byte ∷ line) same

take-through : (text : List ℕ) → take (position_or_len (is_byte 10) text + 1) text ≡ take_through 10 text
take-through [] = refl
take-through (byte ∷ bytes) = take-by (byte == 10) byte bytes (position_or_len (is_byte 10) bytes) (take-through bytes)

drop-by : (ends : Bool) (byte : ℕ) (bytes : List ℕ) (place : ℕ) → drop (place + 1) bytes ≡ drop_through 10 bytes
    → drop ((if not ends then 1 + place else 0) + 1) (byte ∷ bytes) ≡ (if ends then bytes else drop_through 10 bytes)
drop-by true byte bytes place same = refl
drop-by false byte bytes place same =
    let more : 1 + place + 1 ≡ suc (place + 1) = omega arith in
    ap (λ (n : ℕ). drop n (byte ∷ bytes)) more ∙ same

drop-through : (text : List ℕ) → drop (position_or_len (is_byte 10) text + 1) text ≡ drop_through 10 text
drop-through [] = refl
drop-through (byte ∷ bytes) = drop-by (byte == 10) byte bytes (position_or_len (is_byte 10) bytes) (drop-through bytes)

pub lines-at : (text : List ℕ) (at : ℕ) (line below : List ℕ) → IsFirstByte (is_byte 10) text (Some at) → line ≡ take (at + 1) text → below ≡ drop (at + 1) text
    → 0 < length text → lines_of text ≡ line ∷ lines_of below
lines-at text at line below found front back some =
    let place : position_or_len (is_byte 10) text ≡ at = first-place (is_byte 10) text at found in
    let first : line ≡ take_through 10 text = front ∙ ap (λ (n : ℕ). take (n + 1) text) (sym place) ∙ take-through text in
    let rest : below ≡ drop_through 10 text = back ∙ ap (λ (n : ℕ). drop (n + 1) text) (sym place) ∙ drop-through text in
    rw (first, rest) (lines-first text some)

-- without one all of the text is its line
take-over : (text : List ℕ) → take (length text + 1) text ≡ take (length text) text
take-over [] = refl
take-over (byte ∷ bytes) =
    let more : length (byte ∷ bytes) + 1 ≡ suc (length bytes + 1) = omega arith in
    ap (λ (n : ℕ). take n (byte ∷ bytes)) more ∙ ap (λ (line : List ℕ). byte ∷ line) (take-over bytes)

drop-over : (text : List ℕ) → drop (length text + 1) text ≡ drop (length text) text
drop-over [] = refl
drop-over (byte ∷ bytes) =
    let more : length (byte ∷ bytes) + 1 ≡ suc (length bytes + 1) = omega arith in
    ap (λ (n : ℕ). drop n (byte ∷ bytes)) more ∙ drop-over bytes

pub lines-one : (text line below : List ℕ) → IsFirstByte (is_byte 10) text None → line ≡ take (length text) text → below ≡ drop (length text) text
    → 0 < length text → lines_of text ≡ line ∷ lines_of below
lines-one text line below none front back some =
    let place : position_or_len (is_byte 10) text ≡ length text = no-place (is_byte 10) text none in
    let first : line ≡ take_through 10 text =
    front ∙ sym (take-over text) ∙ ap (λ (n : ℕ). take (n + 1) text) (sym place) ∙ take-through text in
    let rest : below ≡ drop_through 10 text =
    back ∙ sym (drop-over text) ∙ ap (λ (n : ℕ). drop (n + 1) text) (sym place) ∙ drop-through text in
    rw (first, rest) (lines-first text some)

-- the lines of a text make it
concat-onto : (byte : ℕ) (lines : List (List ℕ)) → concat (onto_line byte lines) ≡ byte ∷ concat lines
concat-onto byte [] = refl
concat-onto byte (line ∷ lines) = refl

concat-by : (ends : Bool) (byte : ℕ) (lines : List (List ℕ)) → concat (if ends then (byte ∷ []) ∷ lines else onto_line byte lines) ≡ byte ∷ concat lines
concat-by true byte lines = refl
concat-by false byte lines = concat-onto byte lines

pub concat-lines : (text : List ℕ) → concat (lines_of text) ≡ text
concat-lines [] = refl
concat-lines (byte ∷ bytes) = concat-by (byte == 10) byte (lines_of bytes) ∙ ap (λ (rest : List ℕ). byte ∷ rest) (concat-lines bytes)

-- the parts of a text whose first line says that questions follow, or doesn't
pub questions-below : (text line below : List ℕ) → lines_of text ≡ line ∷ lines_of below → is_marker line ≡ true → questions_part text ≡ below
questions-below text line below lines is = rw (lines, is) (concat-lines below)

pub log-above : (text line below : List ℕ) → lines_of text ≡ line ∷ lines_of below → is_marker line ≡ true → log_part text ≡ []
log-above text line below lines is = rw (lines, is) refl

pub questions-past : (text line below : List ℕ) → lines_of text ≡ line ∷ lines_of below → is_marker line ≡ false → questions_part text ≡ questions_part below
questions-past text line below lines is = rw (lines, is) refl

pub log-past : (text line below : List ℕ) → lines_of text ≡ line ∷ lines_of below → is_marker line ≡ false → log_part text ≡ line ++ log_part below
log-past text line below lines is = rw (lines, is) refl

-- lines above the one that says so, that one, and those below it are all
whole-by : (b : Bool) (line : List ℕ) (lines : List (List ℕ))
    → concat (lines_above lines) ++ (marker_in lines ++ concat (lines_below lines)) ≡ concat lines
    → concat (if b then [] else line ∷ lines_above lines)
    ++ ((if b then line else marker_in lines) ++ concat (if b then lines else lines_below lines)) ≡ line ++ concat lines
whole-by true line lines same = refl
whole-by false line lines same =
    append_assoc line (concat (lines_above lines)) (marker_in lines ++ concat (lines_below lines)) ∙ ap (λ (rest : List ℕ). line ++ rest) same

whole : (lines : List (List ℕ)) → concat (lines_above lines) ++ (marker_in lines ++ concat (lines_below lines)) ≡ concat lines
whole [] = refl
whole (line ∷ lines) = whole-by (is_marker line) line lines (whole lines)

-- where no line says so, all are above
alone-by : (b : Bool) (line : List ℕ) (lines : List (List ℕ)) → is_marker line ≡ b
    → (marker_in lines ≡ [] → (concat (lines_above lines) ≡ concat lines) × (concat (lines_below lines) ≡ []))
    → (if b then line else marker_in lines) ≡ []
    → (concat (if b then [] else line ∷ lines_above lines) ≡ line ++ concat lines) × (concat (if b then lines else lines_below lines) ≡ [])
alone-by true line lines is same none = let no : is_marker [] ≡ true = subst (λ (l : List ℕ). is_marker l ≡ true) none is in absurd (cc)
alone-by false line lines is same none =
    let rest = same none in (ap (λ (text : List ℕ). line ++ text) rest.0, rest.1)

alone : (lines : List (List ℕ)) → marker_in lines ≡ [] → (concat (lines_above lines) ≡ concat lines) × (concat (lines_below lines) ≡ [])
alone [] none = (refl, refl)
alone (line ∷ lines) none = alone-by (is_marker line) line lines refl (alone lines) none

pub parts_are : AreParts
parts_are = record {
  whole = λ input. whole (lines_of input) ∙ concat-lines input;
  alone = λ input none. let parts = alone (lines_of input) none in (parts.0 ∙ concat-lines input, parts.1);
}

-- what texts ask one after the other
asked-both : (xs ys : List (List ℕ)) (first second : List LogQuestion) → AreAsked xs first → AreAsked ys second → AreAsked (xs ++ ys) (first ++ second)
asked-both [] ys [] second one two = two
asked-both [] ys (q ∷ first) second one two = absurd one
asked-both (x ∷ xs) ys [] second one two = absurd one
asked-both (x ∷ xs) ys (q ∷ first) second one two = (one.0, asked-both xs ys first second one.1 two)

-- a line that is to ask something adds what it asks
asking-one : (line : List ℕ) → is_blank line ≡ false → asking_lines (line ∷ []) ≡ line ∷ []
asking-one line asks = rw asks refl

pub added-one : (line : List ℕ) (before after : List LogQuestion) (question : LogQuestion) → is_blank line ≡ false → after ≡ before ++ question ∷ []
    → IsQuestionText line (plain_asked question) → AreAdded (line ∷ []) before after
added-one line before after question asks same is =
    (question ∷ [], same, subst (λ (lines : List (List ℕ)). AreAsked lines (question ∷ [])) (sym (asking-one line asks)) (is, tt))

-- lines add what they ask one after the other
pub added-both : (xs ys : List (List ℕ)) (before between after : List LogQuestion) → AreAdded xs before between → AreAdded ys between after
    → AreAdded (xs ++ ys) before after
added-both xs ys before between after one two = (
  one.0 ++ two.0,
  two.1 ∙ ap (λ (qs : List LogQuestion). qs ++ two.0) one.1 ∙ append_assoc before one.0 two.0,
  subst (λ (lines : List (List ℕ)). AreAsked lines (one.0 ++ two.0)) (sym (filter-append (λ (line : List ℕ). not (is_blank line)) xs ys))
      (asked-both (asking_lines xs) (asking_lines ys) one.0 two.0 one.2 two.2),
)

-- none are added by no lines
pub added-none : (before : List LogQuestion) → AreAdded [] before before
added-none before = ([], sym (append-nil before), tt)

-- the line after some lines
pub line-after : (above : List (List ℕ)) (line : List ℕ) (lines : List (List ℕ)) → slice_get (above ++ line ∷ lines) (length above) ≡ Some line
line-after [] line lines = refl
line-after (l ∷ above) line lines = line-after above line lines

-- a fault that tells something of a line tells what follows from that
pub add-fault : (IsTold IsToldToo : ℕ → Type 0) → ((number : ℕ) → IsTold number → IsToldToo number) → (fault : CommandFault) → IsAddFault IsTold fault
    → IsAddFault IsToldToo fault
add-fault IsTold IsToldToo step (stop.NoQuestion line) is = step line is
add-fault IsTold IsToldToo step (stop.Records records.Memory) is = tt
add-fault IsTold IsToldToo step (stop.Records records.Read) is = is
add-fault IsTold IsToldToo step (stop.Records records.Write) is = is
add-fault IsTold IsToldToo step (stop.Records records.TooLong) is = is
add-fault IsTold IsToldToo step stop.NoEvent is = is
add-fault IsTold IsToldToo step stop.BadLog is = is
add-fault IsTold IsToldToo step stop.EmptyLog is = is
add-fault IsTold IsToldToo step stop.BrokenStamps is = is
add-fault IsTold IsToldToo step stop.OverLimit is = is
add-fault IsTold IsToldToo step stop.Settings is = is
add-fault IsTold IsToldToo step (stop.Mismatch node) is = is
add-fault IsTold IsToldToo step (stop.GateShut node) is = is
add-fault IsTold IsToldToo step (stop.LogTooLong most) is = is

-- what holds of the log in an input that was read whole, and of all that is asked
module _ (input : Option (List ℕ)) (bytes all log : List ℕ) (same : bytes ≡ all) (read : IfSome input (λ known. all ≡ known)) (is_log : log ≡ log_part bytes) where
  pub holds_read : (Holds : Option (List ℕ) → Type 0) → Holds (Some log) → HoldsOf true input Holds
  holds_read Holds holds = by input read where
    by : (input : Option (List ℕ)) → IfSome input (λ known. all ≡ known) → HoldsOf true input Holds
    by None read = record { log = Some log; is_log = tt; holds = holds }
    by (Some known) read = record { log = Some log; is_log = ap (λ (text : List ℕ). Some text) (is_log ∙ ap log_part (same ∙ read)); holds = holds }

  pub hold_read : (part : List ℕ) (questions asked added : List LogQuestion) (Hold : List LogQuestion → Option (List ℕ) → Type 0) → part ≡ questions_part bytes
      → asked ≡ added → AreAdded (lines_of part) questions added → Hold asked (Some log) → HoldFor questions true input Hold
  hold_read part questions asked added Hold is_part same_asked are hold = by input read where
    all_asked : Hold (questions ++ are.0) (Some log)
    all_asked = subst (λ (qs : List LogQuestion). Hold qs (Some log)) (same_asked ∙ are.1) hold

    by : (input : Option (List ℕ)) → IfSome input (λ known. all ≡ known) → HoldFor questions true input Hold
    by None read = record { further = are.0; log = Some log; is_log = tt; are_further = tt; hold = all_asked }
    by (Some known) read = record {
      further = are.0;
      log = Some log;
      is_log = ap (λ (text : List ℕ). Some text) (is_log ∙ ap log_part (same ∙ read));
      are_further =
          subst (λ (text : List ℕ). AreAsked (asking_lines (lines_of text)) are.0) (is_part ∙ ap questions_part (same ∙ read)) are.2;
      hold = all_asked;
    }

-- what holds of an input that is all log, and of what is asked of it
pub holds_alone : (input : Option (List ℕ)) (Holds : Option (List ℕ) → Type 0) → Holds input → HoldsOf false input Holds
holds_alone input Holds holds = record { log = input; is_log = refl; holds = holds }

pub hold_alone : (input : Option (List ℕ)) (questions asked : List LogQuestion) (Hold : List LogQuestion → Option (List ℕ) → Type 0) → asked ≡ questions
    → Hold asked input → HoldFor questions false input Hold
hold_alone input questions asked Hold same hold = record {
  further = [];
  log = input;
  is_log = refl;
  are_further = refl;
  hold = subst (λ (qs : List LogQuestion). Hold qs input) (same ∙ sym (append-nil questions)) hold;
}

-- what holds of what was done says what else does
pub on_done : {T E P Q : Type 0} (r : Result T E) → (P → Q) → OnOk r P → OnOk r Q
on_done (Ok v) step holds = step holds
on_done (Err e) step holds = tt

pub if_done : {T E : Type 0} (r : Result T E) (P Q : T → Type 0) → ((v : T) → P v → Q v) → IfOk r P → IfOk r Q
if_done (Ok v) P Q step holds = step v holds
if_done (Err e) P Q step holds = tt
