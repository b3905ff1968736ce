-- Where a clock rule was broken, and where a full counter rolled over.
use Rattle.std.specs.Prelude.{◌≡◌, ◌↔◌, ℕ, ◌<◌, ◌≤◌, IsTrue, Option, Some, None, List, false, max}
use Rattle.hlc_stamp.specs.Order.{IsAtMost, IsBelow, Pair}
use Rattle.hlc_causality.specs.Assignment.{pair_at}
use Rattle.hlc_causality.specs.ClockEvents.{ClockEvents, clock_event_at, clock_skeleton}
use Rattle.hlc_causality.specs.Feasible.{IsFeasibleAt, IsLeastFeasibleAt}
use Rattle.hlc_causality.specs.Predecessors.{previous_of, send_of}
use Rattle.hlc_verdict.specs.declared.verdict.Verdict.TheVariants.{Ahead as AheadVerdict}
use Rattle.hlc_causes.specs.declared.answers.Cause.{Cause}
use Rattle.hlc_causes.specs.declared.answers.Cause.TheVariants.{Ahead, Behind, NotAbovePrevious, NotAboveSend}
use Rattle.hlc_causes.specs.declared.answers.Causes.{Causes}
use Rattle.hlc_causes.specs.declared.answers.Finding.{Finding}
use Rattle.hlc_causes.specs.declared.answers.Finding.TheVariants.{Judged, RolledOver}
use Rattle.hlc_causes.specs.Rule.{next_l}
use Rattle.hlc_causes.specs.Verdicts.{if_not_above, verdict_on}

-- p is the least pair that is feasible at f, after those claimed at its direct predecessors, of those with a c up to top
pub record IsLeastWritten (t : ClockEvents) (claimed : List Pair) (top f : ℕ) (p : Pair) : Type 0 where
  pub feasible : IsFeasibleAt t claimed f p
  pub written : p.c ≤ top
  pub least : (q : Pair) → IsFeasibleAt t claimed f q → q.c ≤ top → IsAtMost p q

-- the greatest c that can be written at f: full, or the c that was written there, if that is greater
abbrev pub top_at : List Pair → ℕ → ℕ → ℕ
top_at claimed full f = max full (pair_at claimed f).c

-- f keeps the rule: its stamp is the least that can be written after those claimed before
abbrev pub KeepsRule : ClockEvents → List Pair → ℕ → ℕ → Type 0
KeepsRule t claimed full f = IsLeastWritten t claimed (top_at claimed full f) f (pair_at claimed f)

-- the stamp at f is below its floor
abbrev pub IsBehind : ClockEvents → List Pair → ℕ → Type 0
IsBehind t claimed f = IsBelow (pair_at claimed f) (clock_event_at t f).floor

-- d is the previous event of f's node, and the stamp at f may not come directly after the one at d
abbrev pub IsNotAbovePrevious : ClockEvents → List Pair → (f d : ℕ) → Type 0
IsNotAbovePrevious t claimed f d = if_not_above t claimed f (previous_of (clock_skeleton t) f) ≡ Some d

-- d is the send of what f delivers, and the stamp at f may not come directly after the one at d
abbrev pub IsNotAboveSend : ClockEvents → List Pair → (f d : ℕ) → Type 0
IsNotAboveSend t claimed f d = if_not_above t claimed f (send_of (clock_skeleton t) f) ≡ Some d

-- p is the least that can be written at f, and the claimed stamp is greater
pub record IsAheadOf (t : ClockEvents) (claimed : List Pair) (full f : ℕ) (p : Pair) : Type 0 where
  pub least : IsLeastWritten t claimed (top_at claimed full f) f p
  pub ahead : IsBelow p (pair_at claimed f)

-- f breaks this rule
abbrev pub BreaksRule : ClockEvents → List Pair → ℕ → ℕ → Cause → Type 0
BreaksRule t claimed full f Behind = IsBehind t claimed f
BreaksRule t claimed full f (NotAbovePrevious d) = IsNotAbovePrevious t claimed f d.0
BreaksRule t claimed full f (NotAboveSend d) = IsNotAboveSend t claimed f d.0
BreaksRule t claimed full f (Ahead p) = IsAheadOf t claimed full f p

-- a cause is one of these
abbrev pub HasCause : Causes → Cause → Type 0
HasCause causes Behind = IsTrue causes.behind
HasCause causes (NotAbovePrevious d) = causes.not_above_previous ≡ Some d
HasCause causes (NotAboveSend d) = causes.not_above_send ≡ Some d
HasCause causes (Ahead p) = causes.ahead ≡ Some p

-- none
abbrev pub no_causes : Causes
no_causes = record { behind = false; not_above_previous = None; not_above_send = None; ahead = None }

-- these are the causes at f: exactly the rules that it breaks
abbrev pub NamesCauses : ClockEvents → List Pair → ℕ → ℕ → Causes → Type 0
NamesCauses t claimed full f causes = (cause : Cause) → HasCause causes cause ↔ BreaksRule t claimed full f cause

-- the answer is the pair that f is ahead of, or None if f isn't ahead
abbrev pub NamesAhead : ClockEvents → List Pair → ℕ → ℕ → Option Pair → Type 0
NamesAhead t claimed full f answer = (p : Pair) → (answer ≡ Some p) ↔ IsAheadOf t claimed full f p

-- the order of the causes at an event
abbrev pub rank : Cause → ℕ
rank Behind = 0
rank (NotAbovePrevious d) = 1
rank (NotAboveSend d) = 2
rank (Ahead p) = 3

-- it is the first of some causes
pub record IsFirstOf (IsOne : Cause → Type 0) (cause : Cause) : Type 0 where
  pub is : IsOne cause
  pub none_before : (other : Cause) → IsOne other → rank cause ≤ rank other

-- the answer is the first of some causes, or None if there is none
abbrev pub NamesFirst : (Cause → Type 0) → Option Cause → Type 0
NamesFirst IsOne None = (cause : Cause) → ¬ IsOne cause
NamesFirst IsOne (Some cause) = IsFirstOf IsOne cause

-- a rule was broken at f
abbrev pub IsCause : ClockEvents → List Pair → ℕ → ℕ → Type 0
IsCause t claimed full f = (cause : Cause) × BreaksRule t claimed full f cause

-- the stamp at f rolls over from p: p is the rule's, but its c is too great to be written, and f has the next l with c 0
pub record RollsOverFrom (t : ClockEvents) (claimed : List Pair) (full f : ℕ) (p : Pair) : Type 0 where
  pub rule : IsLeastFeasibleAt t claimed f p
  pub too_great : full < p.c
  pub next : pair_at claimed f ≡ next_l p

-- the stamp at f rolls over: c was full
abbrev pub RollsOver : ClockEvents → List Pair → ℕ → ℕ → Type 0
RollsOver t claimed full f = (p : Pair) × RollsOverFrom t claimed full f p

-- the stamp at f is ahead of the least one, and rolls over
pub record RollsOverAhead (t : ClockEvents) (claimed least : List Pair) (full f : ℕ) : Type 0 where
  pub rolls_over : RollsOver t claimed full f
  pub ahead : verdict_on t claimed least f ≡ AheadVerdict (pair_at least f)

-- what is found at f: that it rolled over, if it rolls over and is ahead, and else its verdict
abbrev pub NamesFinding : ClockEvents → List Pair → List Pair → ℕ → ℕ → Finding → Type 0
NamesFinding t claimed least full f RolledOver = RollsOverAhead t claimed least full f
NamesFinding t claimed least full f (Judged verdict) = (verdict ≡ verdict_on t claimed least f) × ¬ RollsOverAhead t claimed least full f
