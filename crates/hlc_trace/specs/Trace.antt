-- What the judging of a trace leaves.
use Rattle.std.specs.Prelude.{◌≡◌, ℕ, ◌<◌, ◌≤◌, ◌⊎◌, List, [], ◌∷◌, ◌++◌, Option, Ok, Err, codes, decimal, length, map}
use Rattle.std.specs.Io.KnownBytes.{Appends}
use Rattle.hlc_stamp.specs.Order.{Pair}
use Rattle.hlc_causality.specs.Places.{places_below}
use Rattle.hlc_verdict.specs.Trace.{IsFirstBad, IsSoundTrace}
use Rattle.hlc_verdict.specs.Verdict.{AreVerdicts}
use Rattle.hlc_verdict.specs.VerdictLaws.{verdict_at}
use Rattle.hlc_verdict.specs.declared.claim.Claim.{Claim}
use Rattle.hlc_verdict.specs.declared.verdict.Verdict.{Verdict}
use Rattle.hlc_verdict.specs.declared.verdict.Verdict.TheVariants as verdict
use Rattle.hlc_csv.specs.Records.{AreAllOf, BeginsWith, EndsAt, IsOnly}
use Rattle.hlc_csv.specs.Rows.{Fields, text_of, text_of_row}
use Rattle.hlc_csv.specs.BadRecord.{bad_record_word}
use Rattle.hlc_csv.specs.declared.bad_record.BadRecord.{BadRecord}
use Rattle.hlc_trace.specs.Claim.{claim_of}
use Rattle.hlc_trace.specs.declared.trace_end.TraceEnd.{TraceEnd}
use Rattle.hlc_trace.specs.declared.trace_end.TraceEnd.TheVariants.{NoClaim, Reading}

-- the row of a record that is no claim, or of the first bad place of a trace
abbrev pub bad_row : ℕ → List ℕ → Fields
bad_row place word = codes "bad" ∷ decimal place ∷ word ∷ []

-- the row of a verdict that names a stamp, after its place and its word
abbrev pub stamp_row : (place word : List ℕ) → Pair → Fields
stamp_row place word stamp = codes "verdict" ∷ place ∷ word ∷ decimal stamp.l ∷ decimal stamp.c ∷ []

-- what a row says of a verdict
abbrev pub verdict_fields : Verdict → Fields
verdict_fields verdict.Behind = codes "behind" ∷ []
verdict_fields (verdict.NotAbove d) = codes "not-above" ∷ decimal d.0 ∷ []
verdict_fields (verdict.Low least) = codes "low" ∷ decimal least.l ∷ decimal least.c ∷ []
verdict_fields verdict.Least = codes "least" ∷ []
verdict_fields (verdict.Ahead least) = codes "ahead" ∷ decimal least.l ∷ decimal least.c ∷ []

-- the row of the verdict at a place
abbrev pub verdict_row : List Verdict → ℕ → Fields
verdict_row verdicts f = codes "verdict" ∷ decimal f ∷ verdict_fields (verdict_at verdicts f)

-- a row for each verdict, in order
abbrev pub verdict_rows : List Verdict → List Fields
verdict_rows verdicts = map (verdict_row verdicts) (places_below (length verdicts))

-- rows answer claims: one row names the first bad place, or there is one for the verdict on each claim
abbrev pub AnswersClaims : List Claim → List Fields → Type 0
AnswersClaims claims rows =
    ((place : ℕ) × IsFirstBad claims place × (rows ≡ bad_row place (codes "trace") ∷ []))
    ⊎ ((verdicts : List Verdict) × IsSoundTrace claims × AreVerdicts claims verdicts × (rows ≡ verdict_rows verdicts))

-- each of some records makes the claim at its place
abbrev pub MakeClaims : List Fields → List Claim → Type 0
MakeClaims records claims = map claim_of records ≡ map (λ claim. Ok claim) claims

-- these bytes are records that each make a claim, so many at most, and the writer got the answer to the claims
pub record IsJudgedWhole (most : ℕ) (bytes before after : Option (List ℕ)) : Type 0 where
  pub records : List Fields
  pub claims : List Claim
  pub rows : List Fields
  pub all : AreAllOf bytes records
  pub only : IsOnly bytes records
  pub within : length records ≤ most
  pub make : MakeClaims records claims
  pub answer : AnswersClaims claims rows
  pub text : Appends before after (text_of rows)

-- the bytes begin with records that each make a claim, fewer than the most, and then one that doesn't, and the writer got one row on that
pub record IsJudgedBad (most : ℕ) (bytes before after : Option (List ℕ)) : Type 0 where
  pub records : List Fields
  pub claims : List Claim
  pub next : Fields
  pub why : BadRecord
  pub begins : BeginsWith bytes (records ++ next ∷ [])
  pub within : length records < most
  pub make : MakeClaims records claims
  pub no_claim : claim_of next ≡ Err why
  pub text : Appends before after (text_of_row (bad_row (length records) (bad_record_word why)))

-- a trace was judged: its claims, or its first record that makes none
abbrev pub IsJudged : (most : ℕ) → (bytes before after : Option (List ℕ)) → Type 0
IsJudged most bytes before after = IsJudgedWhole most bytes before after ⊎ IsJudgedBad most bytes before after

-- the bytes begin with the most records, which each make a claim, and one more
pub record HasTooMany (most : ℕ) (bytes : Option (List ℕ)) : Type 0 where
  pub records : List Fields
  pub claims : List Claim
  pub next : Fields
  pub begins : BeginsWith bytes (records ++ next ∷ [])
  pub full : length records ≡ most
  pub make : MakeClaims records claims

-- where the reading of a trace's records ended
abbrev pub TraceEndsAt : (most : ℕ) → (bytes : Option (List ℕ)) → List Fields → TraceEnd → Type 0
TraceEndsAt most bytes records (Reading end) = EndsAt most bytes records end
TraceEndsAt most bytes records (NoClaim why) = (length records < most) × (next : Fields) × (claim_of next ≡ Err why) × BeginsWith bytes (records ++ next ∷ [])

-- the claims that were read up to that end
pub record ReadsClaims (most : ℕ) (bytes : Option (List ℕ)) (claims : List Claim) (end : TraceEnd) : Type 0 where
  pub records : List Fields
  pub make : MakeClaims records claims
  pub within : length records ≤ most
  pub ends : TraceEndsAt most bytes records end
