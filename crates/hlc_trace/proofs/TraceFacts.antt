-- A trace is read, one claim after the other, and its verdicts are written, one row after the other.
use Rattle.std.proofs.Common.{◌≡◌, ◌∙◌, ℕ, inl, inr, suc, ◌+◌, ◌<◌, ◌≤◌, List, [], ◌∷◌, ◌++◌, Option, Some, None, Ok, Err, refl, sym, ap, subst}
use Rattle.std.proofs.Common.{add-one, arith, codes, decimal, drop, drop-cons, get_or, length, length-append, length-drop, map}
use Rattle.std.specs.Prelude.{unwrap_or}
use Rattle.std.proofs.lemmas.Bool.{cases_lt}
use Rattle.std.proofs.lemmas.List.{length-map, map_push}
use Rattle.std.specs.Io.KnownBytes.{Appends, append_known}
use Rattle.csv.specs.declared.reader.Reader.{Reader}
use Rattle.hlc_causality.specs.Places.{places_below}
use Rattle.hlc_stamp.specs.declared.limits.TheConstants.{MAX_RECORDS}
use Rattle.hlc_verdict.specs.Trace.{IsSoundTrace}
use Rattle.hlc_verdict.specs.Verdict.{AreVerdicts}
use Rattle.hlc_verdict.specs.declared.claim.Claim.{Claim}
use Rattle.hlc_verdict.specs.declared.verdict.Verdict.{Verdict}
use Rattle.hlc_verdict.specs.declared.verdict.Verdict.TheVariants.{Least}
use Rattle.hlc_csv.specs.Records.{BeginsWith, HasRead, IsScript, ReadsNext}
use Rattle.hlc_csv.specs.Rows.{AddsText, Fields, text_of, text_of_row}
use Rattle.hlc_csv.specs.BadRecord.{bad_record_word}
use Rattle.hlc_csv.specs.declared.bad_record.BadRecord.{BadRecord}
use Rattle.hlc_csv.specs.declared.end.End.{End}
use Rattle.hlc_csv.specs.declared.end.End.TheVariants.{NoRecordLeft, PastLimit, ReadFailed}
use Rattle.hlc_trace.specs.Trace.{AnswersClaims, IsJudgedBad, IsJudgedWhole, MakeClaims, ReadsClaims, TraceEndsAt}
use Rattle.hlc_trace.specs.Trace.{bad_row, verdict_fields, verdict_row, verdict_rows}
use Rattle.hlc_trace.specs.Claim.{claim_of}
use Rattle.hlc_trace.specs.declared.trace_end.TraceEnd.{TraceEnd}
use Rattle.hlc_trace.specs.declared.trace_end.TraceEnd.TheVariants.{NoClaim, Reading}
use Rattle.hlc_verdict.proofs.Honesty.{length_verdicts}
use Rattle.hlc_csv.proofs.RecordFacts.{are_all-only, has_read-begins}
use Rattle.hlc_csv.proofs.RowFacts.{adds_text-more, appends-handed_out, appends-none, text_of-append, text_of-one}

-- a trace that may be judged has few verdicts
pub few_verdicts : (claims : List Claim) (verdicts : List Verdict) → IsSoundTrace claims → AreVerdicts claims verdicts
    → length verdicts ≤ MAX_RECORDS
few_verdicts claims verdicts sound are =
    let size = length_verdicts claims verdicts are in
    elim (cases_lt MAX_RECORDS (length claims)) [
      | inl many ↦
          let few : MAX_RECORDS < MAX_RECORDS = (sound MAX_RECORDS many).few in
          absurd (omega arith)
      | inr few ↦ omega arith
    ]

-- the next of what is left of a list is the one at its place
left_next : {A : Type 0} (xs rest : List A) (n : ℕ) (x d : A) → drop n xs ≡ x ∷ rest →
    (n < length xs) × (get_or xs n d ≡ x) × (drop (n + 1) xs ≡ rest)
left_next xs rest n x d left =
    let size = length-drop n xs in
    let some = ap length left in
    let exists : n < length xs = omega arith in
    let both : get_or xs n d ∷ drop (suc n) xs ≡ x ∷ rest = sym (drop-cons xs n d exists) ∙ left in
    (exists, cc both, ap (λ (k : ℕ). drop k xs) (add-one n) ∙ cc both)

module _ (verdicts : List Verdict) where
  -- the rows of the first n verdicts
  abbrev pub first_rows : ℕ → List Fields
  first_rows n = map (verdict_row verdicts) (places_below n)

  -- the first n verdicts were told, whether the writer got the rows or they wait, and the others are left
  pub record HasTold (n : ℕ) (left : List Verdict) (before now : Option (List ℕ)) (waiting : List ℕ) : Type 0 where
    pub within : n ≤ length verdicts
    pub others : drop n verdicts ≡ left
    pub told : Appends before (append_known now waiting) (text_of (first_rows n))

  pub has_told-none : (before : Option (List ℕ)) → HasTold 0 verdicts before before []
  has_told-none before = record { within = omega arith; others = refl; told = appends-none before }

  -- one more is told
  pub has_told-more :
      (n more place : ℕ) (left rest : List Verdict) (verdict : Verdict) (before now then : Option (List ℕ)) (old new : List ℕ) →
      HasTold n left before now old → left ≡ verdict ∷ rest → place ≡ n → more ≡ n + 1 →
      AddsText now then old new (text_of_row (codes "verdict" ∷ decimal place ∷ verdict_fields verdict)) → HasTold more rest before then new
  has_told-more n more place left rest verdict before now then old new h first here next adds =
      let is = left_next verdicts rest n verdict Least (h.others ∙ first) in
      let row : Fields = verdict_row verdicts n in
      let row_is : codes "verdict" ∷ decimal place ∷ verdict_fields verdict ≡ row =
      ap (λ (k : ℕ). codes "verdict" ∷ decimal k ∷ verdict_fields verdict) here
      ∙ ap (λ (v : Verdict). codes "verdict" ∷ decimal n ∷ verdict_fields v) (sym is.1) in
      let adds_row : AddsText now then old new (text_of_row row) =
      subst (λ (r : Fields). AddsText now then old new (text_of_row r)) row_is adds in
      let rows : first_rows more ≡ first_rows n ++ row ∷ [] =
      ap first_rows (next ∙ add-one n) ∙ map_push (verdict_row verdicts) (places_below n) n in
      let text : text_of (first_rows more) ≡ text_of (first_rows n) ++ text_of_row row =
      ap text_of rows ∙ text_of-append (first_rows n) (row ∷ []) ∙ ap (λ (t : List ℕ). text_of (first_rows n) ++ t) (text_of-one row) in
      let told = adds_text-more before now then old new (text_of (first_rows n)) (text_of_row row) h.told adds_row in
      record {
        within = let exists = is.0 in omega arith;
        others = ap (λ (k : ℕ). drop k verdicts) next ∙ is.2;
        told = subst (Appends before (append_known then new)) (sym text) told;
      }

  -- if no verdict is left, and what waits is handed out, the rows are those of all verdicts
  pub has_told-all : (n : ℕ) (left : List Verdict) (before now after : Option (List ℕ)) (waiting : List ℕ)
      → HasTold n left before now waiting →
      left ≡ [] → Appends now after waiting → Appends before after (text_of (verdict_rows verdicts))
  has_told-all n left before now after waiting h none handed =
      let size = length-drop n verdicts in
      let past = ap length (h.others ∙ none) in
      let within = h.within in
      let all : n ≡ length verdicts = omega arith in
      subst (λ (k : ℕ). Appends before after (text_of (first_rows k))) all
      (appends-handed_out before now after waiting (text_of (first_rows n)) h.told handed)

module _ {R : Type 0} (rem : R → Option (List ℕ)) (bytes : Option (List ℕ)) where
  -- what was read so far makes these claims
  pub record ClaimsSoFar (input : Reader R) (claims : List Claim) (count : ℕ) : Type 0 where
    pub records : List Fields
    pub script : IsScript input
    pub read : HasRead rem input bytes records
    pub make : MakeClaims records claims
    pub counted : length records ≡ count

  -- the next record is read, or there is none
  module _ (a b : Reader R) (claims : List Claim) (count : ℕ) (fields : Fields) (h : ClaimsSoFar a claims count) where
    begins_with_next : ReadsNext rem a b fields None → BeginsWith bytes (h.records ++ fields ∷ [])
    begins_with_next read = has_read-begins rem b bytes (h.records ++ fields ∷ []) (read.1 bytes h.records h.read)

    reads_claims : (most : ℕ) (end : TraceEnd) → count ≤ most → TraceEndsAt most bytes h.records end → ReadsClaims most bytes claims end
    reads_claims most end within ends =
        let size = h.counted in record { records = h.records; make = h.make; within = omega arith; ends = ends }

    -- it makes a claim
    pub claims_so_far-more : (claim : Claim) (more : List Claim) → ReadsNext rem a b fields None → claim_of fields ≡ Ok claim →
        more ≡ claims ++ claim ∷ [] → ClaimsSoFar b more (count + 1)
    claims_so_far-more claim more read makes pushed = record {
      records = h.records ++ fields ∷ [];
      script = read.0;
      read = read.1 bytes h.records h.read;
      make =
          map_push claim_of h.records fields ∙ ap (λ rs. rs ++ claim_of fields ∷ []) h.make
          ∙ ap (λ r. map (λ (c : Claim). Ok c) claims ++ r ∷ []) makes
          ∙ sym (map_push (λ (c : Claim). Ok c) claims claim) ∙ ap (λ (cs : List Claim). map (λ (c : Claim). Ok c) cs) (sym pushed);
      counted = length-append h.records (fields ∷ []) ∙ ap (λ n. n + 1) h.counted;
    }

    -- it makes no claim
    pub claims_so_far-bad : (most : ℕ) (why : BadRecord) → count < most → ReadsNext rem a b fields None → claim_of fields ≡ Err why →
        ReadsClaims most bytes claims (NoClaim why)
    claims_so_far-bad most why below read bad =
        let size = h.counted in
        reads_claims most (NoClaim why) (omega arith) (omega arith, fields, bad, begins_with_next read)

    -- the reading ends before the most records, or there
    pub claims_so_far-stopped : (most : ℕ) (end : End) → count ≤ most → ReadsNext rem a b fields (Some end) →
        ReadsClaims most bytes claims (Reading end)
    claims_so_far-stopped most NoRecordLeft within read = reads_claims most (Reading NoRecordLeft) within (read bytes h.records h.read)
    claims_so_far-stopped most (ReadFailed fault) within read =
        reads_claims most (Reading (ReadFailed fault)) within (has_read-begins rem a bytes h.records h.read)
    claims_so_far-stopped most PastLimit within read = absurd read

    -- the reading ends at the most records, or past them
    pub claims_so_far-ended : (most : ℕ) (o : Option End) → count ≡ most → ReadsNext rem a b fields o →
        ReadsClaims most bytes claims (Reading (unwrap_or o PastLimit))
    claims_so_far-ended most None full read =
        reads_claims most (Reading PastLimit) (omega arith) (h.counted ∙ full, fields, begins_with_next read)
    claims_so_far-ended most (Some end) full read = claims_so_far-stopped most end (omega arith) read

-- the reading ended with the last record, and the writer got the answer to the claims
pub is_judged-whole :
    (most : ℕ) (bytes before after : Option (List ℕ)) (claims : List Claim) (rows : List Fields)
    → ReadsClaims most bytes claims (Reading NoRecordLeft) →
    AnswersClaims claims rows → Appends before after (text_of rows) → IsJudgedWhole most bytes before after
is_judged-whole most bytes before after claims rows h answer text = record {
  records = h.records;
  claims = claims;
  rows = rows;
  all = h.ends;
  only = are_all-only bytes h.records h.ends;
  within = h.within;
  make = h.make;
  answer = answer;
  text = text;
}

-- as many claims as records
count_of_claims : (records : List Fields) (claims : List Claim) → MakeClaims records claims → length claims ≡ length records
count_of_claims records claims make = sym (length-map claims (λ (c : Claim). Ok c)) ∙ ap length (sym make) ∙ length-map records claim_of

-- a record that makes no claim was read, and the writer got the row on it
pub is_judged-bad :
    (most : ℕ) (bytes before after : Option (List ℕ)) (claims : List Claim) (why : BadRecord)
    → ReadsClaims most bytes claims (NoClaim why) →
    Appends before after (text_of_row (bad_row (length claims) (bad_record_word why))) → IsJudgedBad most bytes before after
is_judged-bad most bytes before after claims why h text = record {
  records = h.records;
  claims = claims;
  next = h.ends.1;
  why = why;
  begins = h.ends.3;
  within = h.ends.0;
  make = h.make;
  no_claim = h.ends.2;
  text =
      subst (λ (n : ℕ). Appends before after (text_of_row (bad_row n (bad_record_word why)))) (count_of_claims h.records claims h.make) text;
}
