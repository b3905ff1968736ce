-- What is found of the stamps of a log, and where its causes are.
use Rattle.std.specs.Prelude.{◌≡◌, ◌↔◌, ◌⊎◌, ℕ, ◌<◌, IsTrue, List, None, Some, false, length, slice_index_or}
use Rattle.hlc_ordered_log.specs.Found.{FindsAt, IsCauseAt}
use Rattle.hlc_ordered_log.specs.InOrder.{LogInOrder, wrong_of}
use Rattle.hlc_log_picture.specs.declared.event_finding.EventFinding.{EventFinding}

-- what is found of the event at k
abbrev pub event_finding_at : List EventFinding → ℕ → EventFinding
event_finding_at findings k = slice_index_or findings k (record { finding = None; is_cause = false })

-- at k the clock rule was broken, by the stamps that its event saw claimed, or its message carried another stamp than its send claims
abbrev pub IsCauseIn : LogInOrder → (full k : ℕ) → Type 0
IsCauseIn log full k = IsCauseAt log full k ⊎ ((d : ℕ) × (wrong_of log k ≡ Some d))

-- a finding on the event at k: what is found of its stamp, by those that it saw claimed, and whether it is a cause
pub record IsEventFinding (log : LogInOrder) (full k : ℕ) (event_finding : EventFinding) : Type 0 where
  pub finding : FindsAt log full k event_finding.finding
  pub cause : IsTrue event_finding.is_cause ↔ IsCauseIn log full k

-- a finding on each of the first n events
pub record AreEventFindingsBefore (log : LogInOrder) (full n : ℕ) (findings : List EventFinding) : Type 0 where
  pub one_each : length findings ≡ n
  pub each : (k : ℕ) → k < n → IsEventFinding log full k (event_finding_at findings k)

-- and on all
abbrev pub AreEventFindings : LogInOrder → (full : ℕ) → List EventFinding → Type 0
AreEventFindings log full findings = AreEventFindingsBefore log full (length log.events) findings
