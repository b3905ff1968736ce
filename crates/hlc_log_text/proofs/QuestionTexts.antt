-- The question that a text of one record asks.
use Rattle.std.proofs.Common.{◌≡◌, ◌∙◌, ◌≤◌, ℕ, Bool, true, false, List, [], ◌∷◌, Option, Some, None, Ok, Err, Result, ap, arith, length, sym}
use Rattle.std.specs.Prelude.{IfOk, is_some, not}
use Rattle.std.specs.Result.{result_ok}
use Rattle.csv.specs.Machine.{Read, next_record}
use Rattle.csv.specs.Reading.{Reached, default_config, strip_bom}
use Rattle.csv.specs.declared.parser.Config.{Config}
use Rattle.csv.specs.declared.parser.State.{State}
use Rattle.csv.specs.declared.parser.State.TheVariants as st
use Rattle.hlc_csv.specs.Records.{AreAllOf, BeginsWith}
use Rattle.hlc_csv.specs.Rows.{Fields}
use Rattle.hlc_csv.proofs.RecordFacts.{are_all-only}
use Rattle.hlc_csv.specs.TextEnd.{IsClosed, IsOpen}
use Rattle.hlc_csv.specs.RecordReader.{HasReadTo, ReadsOne, ReadsRecord}
use Rattle.hlc_csv.specs.declared.found_record.FoundRecord.{FoundRecord}
use Rattle.hlc_csv.specs.declared.record_reader.RecordReader.{RecordReader}
use Rattle.hlc_log_text.proofs.ReadFacts.{open_begins}
use Rattle.hlc_log_text.specs.Question.{Asked, FindsQuestion, IsOneIf, IsQuestionText, asked_of, plain_asked, plain_read}
use Rattle.hlc_log_text.specs.declared.bad_log.BadLog.{BadLog}
use Rattle.hlc_log_text.specs.declared.question.LogQuestion.{LogQuestion}

-- what a text begins with is no longer than all of it
reached-within : (cfg : Config) (s : State) (xs : List ℕ) (r1 r2 : List Fields) (s1 s2 : State) (y1 y2 : List ℕ)
    → Reached cfg s xs r1 s1 y1 → Reached cfg s xs r2 s2 y2 → next_record cfg s2 [] [] y2 ≡ None → length r1 ≤ length r2
unfolding Reached
reached-within cfg s xs [] r2 s1 s2 y1 y2 a b bn = omega arith
reached-within cfg s xs (r ∷ rs) [] s1 s2 y1 y2 a b bn =
    let none : next_record cfg s [] [] xs ≡ None = rw (b.0, b.1) bn in
    let bad : ◌≡◌ {A = Option Read} (Some a.0) None = sym a.1 ∙ none in absurd (cc bad)
reached-within cfg s xs (r ∷ rs) (t ∷ ts) s1 s2 y1 y2 a b bn =
    let both : ◌≡◌ {A = Option Read} (Some a.0) (Some b.0) = sym a.1 ∙ b.1 in
    let same : a.0 ≡ b.0 = cc both in
    let there : Reached cfg a.0.1 a.0.2 ts s2 y2 = rw same b.3 in
    let rest = reached-within cfg a.0.1 a.0.2 rs ts s1 s2 y1 y2 a.3 there bn in
    omega arith

-- the first records are what a text begins with, whether the last of them is open or not
begins_by : {R : Type 0} (rem : R → Option (List ℕ)) (new : RecordReader R) (text : List ℕ) (records : List Fields) (lines : List ℕ) (is_open : Bool)
    → ReadsOne rem new (Some text) records lines is_open → BeginsWith (Some text) records
begins_by rem new text records lines false reads = reads.1.begins
begins_by rem new text records lines true reads = open_begins (Some text) records reads.ends

module _ (text : List ℕ) where
  -- what is found in whichever text a reader begins with is found in this one, if the reader begins with it
  pub finds-if_ok : {E : Type 0} (IsBegun : List ℕ → Type 0) (found : Result (Option LogQuestion) E) → IsBegun text
      → IfOk found (λ question. (t : List ℕ) → IsBegun t → FindsQuestion t question) → IfOk found (FindsQuestion text)
  finds-if_ok IsBegun (Ok question) begun found = found text begun
  finds-if_ok IsBegun (Err fault) begun found = found

  -- a text that isn't one record asks nothing
  pub finds_none : (fields : Fields) → IsOneIf text fields false → FindsQuestion text None
  finds_none fields never asked = ((λ is. absurd (cc is)), (λ h. absurd (never h.0 h.1 h.3)))

  -- there is no record
  pub not_one-empty : (fields : Fields) → AreAllOf (Some text) [] → IsOneIf text fields false
  not_one-empty fields all other one closed = let same : other ∷ [] ≡ [] = are_all-only (Some text) [] all (other ∷ []) one in cc same

  -- there are two
  not_one-more : (fields first second : Fields) → BeginsWith (Some text) (first ∷ second ∷ []) → IsOneIf text fields false
  not_one-more fields first second two other one closed =
      let within = reached-within default_config st.StartRecord (strip_bom text) (first ∷ second ∷ []) (other ∷ []) two.0 one.0 two.1 one.1 two.2 one.2 one.3 in
      omega arith

  -- it is open
  pub not_one-open : (fields : Fields) → IsOpen text → IsOneIf text fields false
  not_one-open fields is_open other one closed = closed is_open

  -- there is one if none is found beyond it
  pub is_one-if : {R : Type 0} (rem : R → Option (List ℕ)) (old new : RecordReader R) (fields beyond : Fields) (line : ℕ) (found : Option FoundRecord)
      (answer : Bool) → is_some found ≡ not answer → ReadsRecord rem old new beyond found → HasReadTo rem old (Some text) (fields ∷ []) (line ∷ [])
      → IsOneIf text fields answer
  is_one-if rem old new fields beyond line None true is none read =
      let all = none (Some text) (fields ∷ []) (line ∷ []) read in (all.all, all.closed)
  is_one-if rem old new fields beyond line None false is none read = let both : false ≡ true = is in absurd (cc both)
  is_one-if rem old new fields beyond line (Some next) true is more read = let both : true ≡ false = is in absurd (cc both)
  is_one-if rem old new fields beyond line (Some next) false is more read =
      not_one-more fields fields beyond (begins_by rem new text (fields ∷ beyond ∷ []) (line ∷ next.line ∷ []) next.is_open
      (more (Some text) (fields ∷ []) (line ∷ []) read))

  -- it asks what its record asks
  module _ (fields : Fields) (all : AreAllOf (Some text) (fields ∷ [])) (closed : IsClosed (Some text)) where
    only : (other : Fields) → AreAllOf (Some text) (other ∷ []) → other ≡ fields
    only other one = let same : other ∷ [] ≡ fields ∷ [] = are_all-only (Some text) (fields ∷ []) all (other ∷ []) one in cc same

    asked_by : (asked : Asked) → IsQuestionText text asked → asked_of fields ≡ Ok asked
    asked_by asked h = ap asked_of (sym (only h.0 h.1)) ∙ h.2

    ok : Asked → Result Asked BadLog
    ok asked = Ok asked

    pub finds_read : (read : Result LogQuestion BadLog) → plain_read read ≡ asked_of fields → FindsQuestion text (result_ok read)
    unfolding ok
    finds_read (Ok question) is asked = (
      (λ found. (let same : plain_asked question ≡ asked = cc found in (fields, all, sym is ∙ ap ok same, closed))),
      (λ h.
          (let both : plain_read (Ok question) ≡ Ok asked = is ∙ asked_by asked h in
          let same : plain_asked question ≡ asked = cc both in
          ap (λ (a : Asked). Some a) same)),
    )
    finds_read (Err why) is asked = (
      (λ found. absurd (cc found)),
      (λ h. (let both : plain_read (Err why) ≡ Ok asked = is ∙ asked_by asked h in absurd (cc both))),
    )
