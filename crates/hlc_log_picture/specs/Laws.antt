-- The laws of the pictures of logs.
use Rattle.std.specs.Prelude.{◌≡◌, ◌↔◌, ◌⊎◌, ℕ, ◌<◌, ◌≤◌, Contains, IsTrue, List, Option, length, map, true}
use Rattle.hlc_causality.specs.ClockEvents.{ticking}
use Rattle.hlc_causes.specs.Causes.{RollsOverAhead}
use Rattle.hlc_causes.specs.declared.answers.Finding.{Finding}
use Rattle.hlc_causes.specs.declared.answers.Finding.TheVariants.{Judged}
use Rattle.hlc_diagram.specs.Content.{NodesExist, SendsComeFirst}
use Rattle.hlc_svg.specs.declared.look.Form.{Form}
use Rattle.hlc_svg.specs.declared.look.Form.TheVariants.{Hexagon}
use Rattle.hlc_causes.specs.Words.{finding_word}
use Rattle.hlc_ordered_log.specs.InOrder.{IsInOrder, LogInOrder, clocks_of, seen_of, skeleton_of, stamp_told}
use Rattle.hlc_verdict.specs.declared.claim.Claim.{Claim}
use Rattle.hlc_verdict.specs.declared.verdict.Verdict.{Verdict}
use Rattle.hlc_verdict.specs.Trace.{claimed_stamps, trace_skeleton}
use Rattle.hlc_verdict.specs.Verdict.{AreVerdicts}
use Rattle.hlc_verdict.specs.VerdictLaws.{verdict_at}
use Rattle.hlc_log_picture.specs.Cells.{verdict_text}
use Rattle.hlc_log_picture.specs.Drawn.{DrawnLog, content_of, event_of_row}
use Rattle.hlc_log_picture.specs.Judged.{AreEventFindings, IsCauseIn, event_finding_at}
use Rattle.hlc_log_picture.specs.Legend.{kinds, told_of}
use Rattle.hlc_log_picture.specs.Looks.{form_of, look_of}
use Rattle.hlc_log_picture.specs.SharedDigits.{IsJoined, first_digits_of}
use Rattle.hlc_log_picture.specs.declared.cells.TheConstants.{VERDICT_WIDTH}
use Rattle.hlc_log_picture.specs.declared.event_finding.EventFinding.{EventFinding}

-- some claims are the events of a log, in the order of its rows, with the stamps that the event at k saw claimed
pub record AreClaimsSeen (log : LogInOrder) (k : ℕ) (claims : List Claim) : Type 0 where
  pub events : trace_skeleton claims ≡ skeleton_of log
  pub stamps : claimed_stamps claims ≡ seen_of log k

-- a form tells the verdict at k, or that its stamp rolls over and is ahead
abbrev pub TellsVerdict : LogInOrder → (full k : ℕ) → Verdict → Form → Type 0
TellsVerdict log full k verdict form =
    (form ≡ form_of (Judged verdict)) ⊎ ((form ≡ Hexagon) × RollsOverAhead (clocks_of log) (seen_of log k) log.least full k)

-- the forms of dots are the verdicts, where each event ticks from its reading on and the stamp is told
abbrev pub FormsAreVerdicts : Type 0
FormsAreVerdicts = (log : LogInOrder) (full : ℕ) (findings : List EventFinding) (k : ℕ) (claims : List Claim) (verdicts : List Verdict) →
    clocks_of log ≡ ticking (skeleton_of log) → IsInOrder log → AreEventFindings log full findings → AreClaimsSeen log k claims →
    AreVerdicts claims verdicts → k < length log.events → stamp_told log k ≡ true → TellsVerdict log full k (verdict_at verdicts k) (look_of (event_finding_at findings k)).form

-- findings of which dots have the same form have the same word
abbrev pub FormsTellWords : Type 0
FormsTellWords = (f g : Finding) → form_of f ≡ form_of g → finding_word f ≡ finding_word g

-- of each finding the legend says which form its dot has
abbrev pub LegendTellsForms : Type 0
LegendTellsForms = (found : Finding) → Contains (map told_of kinds) (told_of found)

-- the word of each verdict fits its column
abbrev pub VerdictsFit : Type 0
VerdictsFit = (found : Option Finding) → length (verdict_text found) ≤ VERDICT_WIDTH

-- the rings are the causes
abbrev pub RingsAreCauses : Type 0
RingsAreCauses = (log : LogInOrder) (full : ℕ) (findings : List EventFinding) → AreEventFindings log full findings →
    (k : ℕ) → k < length log.events →
    IsTrue (look_of (event_finding_at findings k)).is_ringed ↔ IsCauseIn log full k

-- the l of each claimed stamp and each reading is what its column's heading and its row say, one after the other
abbrev pub NoDigitIsLost : Type 0
NoDigitIsLost = (drawn : DrawnLog) (k : ℕ) → k < length drawn.log.events →
    IsJoined (first_digits_of drawn.log) (event_of_row drawn k).stamp.l × IsJoined (first_digits_of drawn.log) (event_of_row drawn k).reading

-- in a log in order each send comes before its receives
abbrev pub LogsSendFirst : Type 0
LogsSendFirst = (drawn : DrawnLog) → IsInOrder drawn.log → SendsComeFirst (content_of drawn)

-- and each event happens at a node that has a name
abbrev pub LogsHaveTheirNodes : Type 0
LogsHaveTheirNodes = (drawn : DrawnLog) → IsInOrder drawn.log → drawn.log.nodes ≡ length drawn.nodes → NodesExist (content_of drawn)
