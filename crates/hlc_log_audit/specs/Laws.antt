-- The laws of answers and reports.
use Rattle.hlc_log_text.specs.declared.file_mark.FileMark.{FileMark}
use Rattle.std.specs.List.Sorted.{IsPermutation}
use Rattle.std.specs.Prelude.{◌≡◌, Bool, ℕ, ◌<◌, List, ◌∷◌, ◌++◌, Some, codes, length, map, option_map, true}
use Rattle.hlc_stamp.specs.Order.{Pair}
use Rattle.hlc_causality.specs.Causality.{Skeleton}
use Rattle.hlc_causality.specs.ClockEvents.{ClockEvents, clock_skeleton}
use Rattle.hlc_explain.specs.ClockFindings.{clock_node_drift}
use Rattle.hlc_explain.specs.Paths.{path_of}
use Rattle.hlc_explain.specs.Taints.{is_raised}
use Rattle.hlc_csv.specs.Rows.{Fields}
use Rattle.hlc_log.specs.Reordering.{HaveEqualPairs, IsClockReordering, IsReordering, IsSameNode}
use Rattle.hlc_log_text.specs.Question.{Asked}
use Rattle.hlc_log_text.specs.ReadText.{LinesRise, ReadText}
use Rattle.hlc_log_text.specs.declared.question.LogQuestion.{LogQuestion}
use Rattle.hlc_ordered_log.specs.Counts.{told_count}
use Rattle.hlc_ordered_log.specs.InOrder.{IsCarriedRightly, IsInOrder, LogInOrder, claimed_of, clocks_of, reading_told, skeleton_of}
use Rattle.hlc_ordered_log.specs.Laws.{KeepsTold}
use Rattle.hlc_ordered_log.specs.Messages.{message_counts}
use Rattle.hlc_ordered_log.specs.Reordered.{IsRearranged, TellTheSame, moved_position}
use Rattle.hlc_log_audit.specs.Answers.{IsAnswer, drift_in}
use Rattle.hlc_log_audit.specs.Audit.{ExceedsLimit, IsOutcome, IsTextAudited}
use Rattle.hlc_log_audit.specs.ClaimedWay.{claimed_way}
use Rattle.hlc_log_audit.specs.Moved.{moved_drift}
use Rattle.hlc_log_audit.specs.Report.{AreSkewRows, IsReport, count_row, message_row, node_rows}
use Rattle.hlc_log_audit.specs.ToldDrift.{NamesToldDrift, told_drift}
use Rattle.hlc_log_audit.specs.declared.outcome.Outcome.{Outcome}
use Rattle.hlc_log_audit.specs.declared.outcome.Outcome.TheVariants.{Sound}
use Rattle.hlc_log_audit.specs.declared.rules.AuditRules.{AuditRules}

-- the way on which a claimed l came is the same in each order
abbrev pub ReorderingKeepsWays : Type 0
ReorderingKeepsWays = (s t : Skeleton) (claimed others : List Pair) (to back : ℕ → ℕ) → IsReordering s t to back →
    HaveEqualPairs s to claimed others → (f : ℕ) → f < length s → claimed_way t others (to f) ≡ map to (claimed_way s claimed f)

-- so it is in two logs that tell the same
abbrev pub WaysAgree : Type 0
WaysAgree = (log other : LogInOrder) (to back : ℕ → ℕ) → TellTheSame log other to back → (k : ℕ) → k < length log.order →
    let moved = moved_position log other to in
    claimed_way (skeleton_of other) (claimed_of other) (moved k) ≡ map moved (claimed_way (skeleton_of log) (claimed_of log) k)

-- the shortest path that is found from one event to another is the same in each order
abbrev pub ReorderingKeepsPaths : Type 0
ReorderingKeepsPaths = (s t : Skeleton) (to back : ℕ → ℕ) → IsReordering s t to back → (e f : ℕ) → e < length s → f < length s →
    path_of t (to e) (to f) ≡ option_map (map to) (path_of s e f)

-- and so is whether the floor of an event raised the pair of another, by equal pairs
abbrev pub ReorderingKeepsTaints : Type 0
ReorderingKeepsTaints = (t u : ClockEvents) (pairs others : List Pair) (to back : ℕ → ℕ) → IsClockReordering t u to back →
    HaveEqualPairs (clock_skeleton t) to pairs others → (e f : ℕ) → e < length t → f < length t →
    is_raised u others (to e) (to f) ≡ is_raised t pairs e f

-- the drift that is found is that of the node: its first event of greatest drift among those whose reading is told, if there are some
abbrev pub ToldDriftsAreFound : Type 0
ToldDriftsAreFound = (s : Skeleton) (t : ClockEvents) (told : ℕ → Bool) (pairs : List Pair) (node : ℕ) → length t ≡ length s →
    NamesToldDrift s t told pairs node (told_drift s t told pairs node)

-- of a log that tells each reading it is the drift among all events of the node
abbrev pub DriftsOfToldReadings : Type 0
DriftsOfToldReadings = (log : LogInOrder) (node : ℕ) → ((k : ℕ) → k < length (skeleton_of log) → reading_told log k ≡ true) →
    drift_in log node ≡ clock_node_drift (skeleton_of log) (clocks_of log) log.least node

-- the drift of a node, with its event and the origin of that, is the same in each order, by equal pairs and if the same readings are told
abbrev pub ReorderingKeepsDrifts : Type 0
ReorderingKeepsDrifts = (s r : Skeleton) (t u : ClockEvents) (pairs others : List Pair) (to back : ℕ → ℕ) → IsReordering s r to back →
    IsClockReordering t u to back → length t ≡ length s → length u ≡ length r → HaveEqualPairs s to pairs others →
    (told other_told : ℕ → Bool) → KeepsTold s to told other_told →
    (a b : ℕ) → IsSameNode s r to a b → told_drift r u other_told others b ≡ option_map (moved_drift to) (told_drift s t told pairs a)

-- so it is in two logs that tell the same
abbrev pub DriftsAgree : Type 0
DriftsAgree = (log other : LogInOrder) (to back : ℕ → ℕ) → TellTheSame log other to back →
    let moved = moved_position log other to in
    (a b : ℕ) → IsSameNode (skeleton_of log) (skeleton_of other) moved a b →
    drift_in other b ≡ option_map (moved_drift moved) (drift_in log a)

-- a log has one answer to each question, whichever causal order was found for it
abbrev pub AnswersAgree : Type 0
AnswersAgree = (files : List FileMark) (nodes : List (List ℕ)) (labels : List (ℕ × List ℕ))
    (log other : LogInOrder) (full : ℕ) (question : Asked) (row other_row : Fields) →
    IsInOrder log → IsInOrder other → other.receives ≡ log.receives → other.events ≡ log.events → LinesRise log.events →
    IsAnswer files nodes labels log full question row → IsAnswer files nodes labels other full question other_row → other_row ≡ row

-- rows report that nothing is wrong: all stamps that are told are counted least, and the nodes, messages and skews follow
pub record IsCleanReport (files : List FileMark) (nodes : List (List ℕ)) (log : LogInOrder) (rows : List Fields) : Type 0 where
  pub skews : List Fields
  pub are_skews : AreSkewRows files nodes log skews
  pub rows_are : rows ≡ count_row (codes "least") (told_count log) ++ (node_rows files nodes log ++ (message_row (message_counts log) ∷ skews))

-- so does the report on a log that claims the least stamps, and whose messages carried what it claims
abbrev pub LeastStampsReportClean : Type 0
LeastStampsReportClean = (files : List FileMark) (nodes : List (List ℕ))
    (log : LogInOrder) (full : ℕ) (rows : List Fields) → IsInOrder log → claimed_of log ≡ log.least →
    IsCarriedRightly log → IsReport files nodes log full rows → IsCleanReport files nodes log rows

-- and such a log is sound, unless a drift exceeds the limit
abbrev pub LeastStampsAreSound : Type 0
LeastStampsAreSound = (log : LogInOrder) (rules : AuditRules) (result : Outcome) → IsInOrder log → claimed_of log ≡ log.least → IsCarriedRightly log →
    (¬ ExceedsLimit rules.limit log) → IsOutcome rules log result → result ≡ Sound

-- a log has one report, whichever causal order was found for it
abbrev pub ReportsAgree : Type 0
ReportsAgree = (files : List FileMark) (nodes : List (List ℕ)) (log other : LogInOrder) (full : ℕ) (rows others : List Fields) →
    IsInOrder log → IsInOrder other → other.receives ≡ log.receives → other.events ≡ log.events →
    IsReport files nodes log full rows → IsReport files nodes other full others → others ≡ rows

-- and logs with the same events in different orders have the same rows, up to their order
abbrev pub RearrangedReportsAgree : Type 0
RearrangedReportsAgree = (files : List FileMark) (nodes : List (List ℕ)) (log other : LogInOrder) (to back : ℕ → ℕ) (full : ℕ) (rows others : List Fields) →
    IsRearranged log other to back → IsReport files nodes log full rows → IsReport files nodes other full others →
    IsPermutation rows others

-- logs that tell the same have one outcome
abbrev pub OutcomesAgree : Type 0
OutcomesAgree = (log other : LogInOrder) (to back : ℕ → ℕ) → TellTheSame log other to back → (rules : AuditRules) (result other_result : Outcome) →
    IsOutcome rules log result → IsOutcome rules other other_result → other_result ≡ result

-- an audit is a function of its log: two audits of one text, by the same rules and with the same asked, have one outcome and leave the same bytes
abbrev pub AuditsAgree : Type 0
AuditsAgree = (text : ReadText) (rules : AuditRules) (asked : List LogQuestion) (before after others : List ℕ) (result other_result : Outcome) →
    LinesRise text.log.events →
    IsTextAudited text rules asked (Some before) (Some after) result → IsTextAudited text rules asked (Some before) (Some others) other_result →
    (other_result ≡ result) × (others ≡ after)
