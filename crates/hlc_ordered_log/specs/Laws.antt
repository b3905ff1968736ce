-- The laws of reordered logs: what is answered of an event doesn't depend on the order in which events are listed.
use Rattle.std.specs.Prelude.{◌≡◌, ℕ, Bool, true, ◌<◌, List, Option, length, option_map}
use Rattle.hlc_stamp.specs.Order.{Pair}
use Rattle.hlc_causality.specs.Causality.{Skeleton}
use Rattle.hlc_causality.specs.ClockEvents.{ClockEvents}
use Rattle.hlc_causality.specs.Feasible.{IsLeastFeasible}
use Rattle.hlc_causes.specs.Causes.{NamesCauses, NamesFinding, RollsOver}
use Rattle.hlc_causes.specs.Verdicts.{verdict_on}
use Rattle.hlc_causes.specs.declared.answers.Causes.{Causes}
use Rattle.hlc_causes.specs.declared.answers.Finding.{Finding}
use Rattle.hlc_log.specs.declared.log_event.LogEvent.{LogEvent}
use Rattle.hlc_log.specs.Reordering.{IsReordering, IsSameNode}
use Rattle.hlc_ordered_log.specs.Counts.{AreCounted}
use Rattle.hlc_ordered_log.specs.Found.{FindsAt, IsCauseAt, NamesCausesIn, is_swapped_in}
use Rattle.hlc_ordered_log.specs.InOrder.{AreFilled, IsCarriedRightly, IsInOrder, LogInOrder, claimed_of, clocks_of, seen_of, stamp_told, wrong_of}
use Rattle.hlc_ordered_log.specs.Messages.{message_counts}
use Rattle.hlc_ordered_log.specs.Moved.{moved_causes, moved_finding, moved_skew, moved_verdict}
use Rattle.hlc_ordered_log.specs.Reordered.{IsRearranged, IsReorderedTrace, TellTheSame, moved_position}
use Rattle.hlc_ordered_log.specs.Skew.{NamesSkewBefore}
use Rattle.hlc_ordered_log.specs.UnitFactor.{unit_factor}
use Rattle.hlc_ordered_log.specs.declared.counts.Counts.{Counts}
use Rattle.hlc_ordered_log.specs.declared.skew.Skew.{Skew}

-- the verdict on an event is the same in each order, but for the number of the event that it names
abbrev pub ReorderingKeepsVerdicts : Type 0
ReorderingKeepsVerdicts = (t u : ClockEvents) (claimed others least other_least : List Pair) (to back : ℕ → ℕ) →
    IsReorderedTrace t u claimed others to back → IsLeastFeasible t least → IsLeastFeasible u other_least → (f : ℕ) → f < length t →
    verdict_on u others other_least (to f) ≡ moved_verdict to (verdict_on t claimed least f)

-- so is what is found of it
abbrev pub ReorderingKeepsFindings : Type 0
ReorderingKeepsFindings = (t u : ClockEvents) (claimed others least other_least : List Pair) (to back : ℕ → ℕ) →
    IsReorderedTrace t u claimed others to back → IsLeastFeasible t least → IsLeastFeasible u other_least → (full f : ℕ) (found : Finding) → f < length t →
    NamesFinding t claimed least full f found → NamesFinding u others other_least full (to f) (moved_finding to found)

-- and so are the rules that it breaks
abbrev pub ReorderingKeepsCauses : Type 0
ReorderingKeepsCauses = (t u : ClockEvents) (claimed others : List Pair) (to back : ℕ → ℕ) →
    IsReorderedTrace t u claimed others to back → (full f : ℕ) (answer : Causes) → f < length t →
    NamesCauses t claimed full f answer → NamesCauses u others full (to f) (moved_causes to answer)

-- a map keeps which readings are told
abbrev pub KeepsTold : Skeleton → (to : ℕ → ℕ) → (told other_told : ℕ → Bool) → Type 0
KeepsTold s to told other_told = (e : ℕ) → e < length s → other_told (to e) ≡ told e

-- the skew from node a to b is in the other order that from c to d, if these are the same nodes, and the same message shows it
abbrev pub ReorderingKeepsSkews : Type 0
ReorderingKeepsSkews = (s t : Skeleton) (to back : ℕ → ℕ) → IsReordering s t to back →
    (told other_told : ℕ → Bool) → KeepsTold s to told other_told →
    (a b c d : ℕ) → IsSameNode s t to a c → IsSameNode s t to b d → (answer : Option Skew) →
    NamesSkewBefore s told (length s) a b answer → NamesSkewBefore t other_told (length t) c d (option_map (moved_skew to) answer)

-- logs that tell the same do so in whichever causal orders
abbrev pub LogsAreReorderedTraces : Type 0
LogsAreReorderedTraces = (log other : LogInOrder) (to back : ℕ → ℕ) → TellTheSame log other to back →
    IsReorderedTrace (clocks_of log) (clocks_of other) (claimed_of log) (claimed_of other) (moved_position log other to) (moved_position other log back)

-- logs with the same events tell the same
abbrev pub RearrangedLogsTellTheSame : Type 0
RearrangedLogsTellTheSame = (log other : LogInOrder) (to back : ℕ → ℕ) → IsRearranged log other to back → TellTheSame log other to back

-- they have as many stamps with each verdict
abbrev pub CountsAgree : Type 0
CountsAgree = (log other : LogInOrder) (to back : ℕ → ℕ) → IsRearranged log other to back → (full : ℕ) (counts others : Counts) →
    AreCounted log full counts → AreCounted other full others → others ≡ counts

-- and as many messages of each kind
abbrev pub MessagesAgree : Type 0
MessagesAgree = (log other : LogInOrder) (to back : ℕ → ℕ) → IsRearranged log other to back → message_counts other ≡ message_counts log

-- and their readings look as if they had the same unit
abbrev pub UnitFactorsAgree : Type 0
UnitFactorsAgree = (log other : LogInOrder) (to back : ℕ → ℕ) → IsRearranged log other to back → unit_factor other.events ≡ unit_factor log.events

-- of each event of logs that tell the same, the same is found
abbrev pub FindingsAgree : Type 0
FindingsAgree = (log other : LogInOrder) (to back : ℕ → ℕ) → TellTheSame log other to back → (full k : ℕ) (found : Option Finding) →
    k < length log.order → FindsAt log full k found →
    let moved = moved_position log other to in FindsAt other full (moved k) (option_map (moved_finding moved) found)

-- and each breaks the same rules
abbrev pub CausesAgree : Type 0
CausesAgree = (log other : LogInOrder) (to back : ℕ → ℕ) → TellTheSame log other to back → (full k : ℕ) (answer : Causes) →
    k < length log.order → NamesCausesIn log full k answer →
    let moved = moved_position log other to in NamesCausesIn other full (moved k) (moved_causes moved answer)

-- and the same events stand swapped with those before them
abbrev pub SwapsAgree : Type 0
SwapsAgree = (log other : LogInOrder) (to back : ℕ → ℕ) → TellTheSame log other to back → (full k : ℕ) → k < length log.order →
    is_swapped_in other full (moved_position log other to k) ≡ is_swapped_in log full k

-- and what messages carried wrongly they did in both
abbrev pub WrongAgrees : Type 0
WrongAgrees = (log other : LogInOrder) (to back : ℕ → ℕ) → TellTheSame log other to back → (k : ℕ) → k < length log.order →
    let moved = moved_position log other to in
    wrong_of other (moved k) ≡ option_map moved (wrong_of log k)

-- the stamps that are given don't depend on the order: two logs with the same events, but for stamps that aren't told, have the same ones
abbrev pub GivenStampsAgree : Type 0
GivenStampsAgree = (events : List LogEvent) (log other : LogInOrder) → other.receives ≡ log.receives → IsInOrder log → IsInOrder other →
    AreFilled events log.events → AreFilled events other.events → other.events ≡ log.events

-- where no event is a cause, no told stamp rolls over, and each message carried what its send claims, the log claims the least stamps
abbrev pub NoCausesAreLeast : Type 0
NoCausesAreLeast = (log : LogInOrder) (full : ℕ) → IsInOrder log → IsCarriedRightly log →
    ((k : ℕ) → k < length log.order → ¬ IsCauseAt log full k) →
    ((k : ℕ) → k < length log.order → stamp_told log k ≡ true → ¬ RollsOver (clocks_of log) (seen_of log k) full k) →
    claimed_of log ≡ log.least
