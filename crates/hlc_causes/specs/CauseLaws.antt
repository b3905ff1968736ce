-- The laws of causes, over any events as a clock rule reads them, and any claimed stamps.
use Rattle.std.specs.Prelude.{◌≡◌, ◌≢◌, ◌↔◌, ◌⊎◌, ℕ, ◌^◌, ◌<◌, ◌≤◌, IsTrue, List, [], length}
use Rattle.hlc_stamp.specs.declared.id.EventId.{EventId}
use Rattle.hlc_stamp.specs.Order.{Pair}
use Rattle.hlc_causality.specs.Assignment.{pair_at}
use Rattle.hlc_causality.specs.Causality.{HappenedBefore}
use Rattle.hlc_causality.specs.ClockEvents.{ClockEvents, clock_skeleton, ticking}
use Rattle.hlc_causality.specs.Feasible.{IsFeasibleAt, IsLeastFeasible, IsLeastFeasibleAt}
use Rattle.hlc_causality.specs.Past.{IsInPast}
use Rattle.hlc_causality.specs.Predecessors.{previous_of, send_of}
use Rattle.hlc_verdict.specs.declared.claim.Claim.{Claim}
use Rattle.hlc_verdict.specs.declared.verdict.Verdict.TheVariants.{Behind as BehindVerdict, Least, Low, NotAbove as NotAboveVerdict}
use Rattle.hlc_verdict.specs.Trace.{claimed_stamps, trace_skeleton}
use Rattle.hlc_verdict.specs.Verdict.{verdict_of}
use Rattle.hlc_verdict.specs.VerdictLaws.{IsInOrder}
use Rattle.hlc_causes.specs.declared.answers.Cause.{Cause}
use Rattle.hlc_causes.specs.declared.answers.Cause.TheVariants.{Ahead, Behind, NotAbovePrevious, NotAboveSend}
use Rattle.hlc_causes.specs.declared.answers.Causes.{Causes}
use Rattle.hlc_causes.specs.Causes.{NamesCauses, BreaksRule, IsAheadOf, RollsOver, IsCause, IsFirstOf, KeepsRule, top_at}
use Rattle.hlc_causes.specs.Given.{IsStamp, given_at}
use Rattle.hlc_causes.specs.Local.{local_causes, local_event, placed_causes}
use Rattle.hlc_causes.specs.Rule.{next_l}
use Rattle.hlc_causes.specs.Swapped.{keeps_after}
use Rattle.hlc_causes.specs.Verdicts.{verdict_on}

-- f is a cause or a rollover
abbrev pub IsCauseOrRollover : ClockEvents → List Pair → ℕ → ℕ → Type 0
IsCauseOrRollover t claimed full f = IsCause t claimed full f ⊎ RollsOver t claimed full f

-- each event has an answer
abbrev pub CausesAreNamed : Type 0
CausesAreNamed = (t : ClockEvents) (claimed : List Pair) (full f : ℕ) → f < length t →
    (answer : Causes) × NamesCauses t claimed full f answer

-- and only one
abbrev pub CausesAreUnique : Type 0
CausesAreUnique = (t : ClockEvents) (claimed : List Pair) (full f : ℕ) (answer other : Causes) → f < length t →
    NamesCauses t claimed full f answer → NamesCauses t claimed full f other → answer ≡ other

-- an event breaks no rule exactly if its stamp is the least that can be written
abbrev pub NoCauseKeepsRule : Type 0
NoCauseKeepsRule = (t : ClockEvents) (claimed : List Pair) (full f : ℕ) → f < length t →
    ((cause : Cause) → ¬ BreaksRule t claimed full f cause) ↔ KeepsRule t claimed full f

-- what is ahead breaks no other rule
abbrev pub AheadIsAlone : Type 0
AheadIsAlone = (t : ClockEvents) (claimed : List Pair) (full f : ℕ) (p : Pair) (cause : Cause) → f < length t →
    BreaksRule t claimed full f (Ahead p) → BreaksRule t claimed full f cause → cause ≡ Ahead p

-- the causes are the events whose claimed stamps aren't the least that are feasible there, and don't roll over
abbrev pub CausesBreakTheRule : Type 0
CausesBreakTheRule = (t : ClockEvents) (claimed : List Pair) (full f : ℕ) → f < length t →
    IsCause t claimed full f ↔ ((¬ IsLeastFeasibleAt t claimed f (pair_at claimed f)) × (¬ RollsOver t claimed full f))

-- the pair that Ahead names is the rule's, or, if that one's c is greater than can be written, the one with the next l
abbrev pub AheadNamesTheRulesStamp : Type 0
AheadNamesTheRulesStamp = (t : ClockEvents) (claimed : List Pair) (full f : ℕ) (p rule : Pair) →
    BreaksRule t claimed full f (Ahead p) → IsLeastFeasibleAt t claimed f rule →
    ((rule.c ≤ top_at claimed full f) × (p ≡ rule)) ⊎ ((top_at claimed full f < rule.c) × (p ≡ next_l rule))

-- no event is a cause or a rollover exactly if the claimed stamps are the least feasible assignment
abbrev pub NoCauseIsLeast : Type 0
NoCauseIsLeast = (t : ClockEvents) (claimed : List Pair) (full : ℕ) → length claimed ≡ length t →
    ((f : ℕ) → f < length t → ¬ IsCauseOrRollover t claimed full f) ↔ IsLeastFeasible t claimed

-- if the verdict isn't Least, a cause or a rollover is in the past
abbrev pub CausesExplainVerdicts : Type 0
CausesExplainVerdicts = (t : ClockEvents) (claimed least : List Pair) (full f : ℕ) → f < length t → IsLeastFeasible t least →
    verdict_on t claimed least f ≢ Least → (e : ℕ) × IsInPast (clock_skeleton t) e f × IsCauseOrRollover t claimed full e

-- a verdict is Behind exactly if a cause, the first one, is that the stamp is below its floor
abbrev pub BehindIsCause : Type 0
BehindIsCause = (t : ClockEvents) (claimed least : List Pair) (full f : ℕ) →
    (verdict_on t claimed least f ≡ BehindVerdict) ↔ BreaksRule t claimed full f Behind

-- a verdict is NotAbove an event exactly if that is the first cause
abbrev pub NotAboveIsCause : Type 0
NotAboveIsCause = (t : ClockEvents) (claimed least : List Pair) (full f : ℕ) (d : EventId) →
    (verdict_on t claimed least f ≡ NotAboveVerdict d)
    ↔ (IsFirstOf (BreaksRule t claimed full f) (NotAbovePrevious d) ⊎ IsFirstOf (BreaksRule t claimed full f) (NotAboveSend d))

-- a low stamp is a cause exactly if it is greater than the least that could be written after those claimed before it; then it is ahead of
-- that one, though less than the least stamp
abbrev pub LowIsCauseIfAhead : Type 0
LowIsCauseIfAhead = (t : ClockEvents) (claimed least : List Pair) (full f : ℕ) (low : Pair) → verdict_on t claimed least f ≡ Low low →
    IsCause t claimed full f ↔ ((p : Pair) × IsAheadOf t claimed full f p)

-- what is low heard of a stamp that is below its floor, or not above another one: a low stamp is never the first that is wrong
abbrev pub LowHeardOfDisorder : Type 0
LowHeardOfDisorder = (t : ClockEvents) (claimed least : List Pair) (f : ℕ) (low : Pair) → f < length t → IsLeastFeasible t least →
    verdict_on t claimed least f ≡ Low low → (e : ℕ) × HappenedBefore (clock_skeleton t) e f × (¬ IsInOrder (verdict_on t claimed least e))

-- the verdicts on a trace are those on its claimed stamps and its events, each of which ticks
abbrev pub VerdictsAreThoseOfTraces : Type 0
VerdictsAreThoseOfTraces = (claims : List Claim) (least : List Pair) (f : ℕ) →
    verdict_on (ticking (trace_skeleton claims)) (claimed_stamps claims) least f ≡ verdict_of claims least f

-- if there is no event, the stamps are the least feasible assignment
abbrev pub NoEventsAreLeast : Type 0
NoEventsAreLeast = (t : ClockEvents) (stamps : List Pair) → t ≡ [] → stamps ≡ [] → IsLeastFeasible t stamps

-- a stamp that is given by the clock rule is no cause, if any stamp is feasible there
abbrev pub GivenIsNoCause : Type 0
GivenIsNoCause = (t : ClockEvents) (claimed : List Pair) (full f : ℕ) (any : Pair) → f < length t → full < 2 ^ 32 →
    IsFeasibleAt t claimed f any → IsStamp any → pair_at claimed f ≡ given_at t claimed f → ¬ IsCause t claimed full f

-- an event keeps the rule exactly if it does so after its own previous event
abbrev pub KeptAfterPrevious : Type 0
KeptAfterPrevious = (t : ClockEvents) (claimed : List Pair) (full f : ℕ) → f < length t →
    IsTrue (keeps_after t claimed full f (previous_of (clock_skeleton t) f)) ↔ KeepsRule t claimed full f

-- causes are local: the rules that an event breaks are told by its own stamp, those claimed at its direct predecessors, its floor and whether it
-- ticks
abbrev pub CausesAreLocal : Type 0
CausesAreLocal = (t : ClockEvents) (claimed : List Pair) (full f : ℕ) → f < length t →
    let s = clock_skeleton t in
    NamesCauses t claimed full f (placed_causes (previous_of s f) (send_of s f) (local_causes full (local_event t claimed f)))
