-- What is found of the events of a log in order, and the rules that they break: nothing where the log tells no stamp.
use Rattle.std.specs.Prelude.{◌≡◌, ◌↔◌, ◌<◌, ◌&&◌, ℕ, Bool, true, false, IfSome, List, Option, Some, None, length, slice_index_or}
use Rattle.hlc_causality.specs.ClockEvents.{clock_skeleton}
use Rattle.hlc_causality.specs.Predecessors.{previous_of}
use Rattle.hlc_causes.specs.Causes.{BreaksRule, HasCause, NamesFinding, no_causes}
use Rattle.hlc_causes.specs.Swapped.{stand_swapped}
use Rattle.hlc_causes.specs.declared.answers.Cause.{Cause}
use Rattle.hlc_causes.specs.declared.answers.Causes.{Causes}
use Rattle.hlc_causes.specs.declared.answers.Finding.{Finding}
use Rattle.hlc_log.specs.CausalOrder.{place_at}
use Rattle.hlc_log.specs.OrderSkeleton.{index_in}
use Rattle.hlc_ordered_log.specs.InOrder.{LogInOrder, clocks_of, seen_of, stamp_told, wrong_of}

-- this is found of the event at k, by the stamps that it saw claimed: None if the log tells no stamp of it
abbrev pub FindsAt : LogInOrder → (full k : ℕ) → Option Finding → Type 0
FindsAt log full k None = stamp_told log k ≡ false
FindsAt log full k (Some found) = (stamp_told log k ≡ true) × NamesFinding (clocks_of log) (seen_of log k) log.least full k found

-- the event at k has a stamp that the log tells, and breaks this rule, by the stamps that it saw claimed
abbrev pub BreaksAt : LogInOrder → (full k : ℕ) → Cause → Type 0
BreaksAt log full k cause = (stamp_told log k ≡ true) × BreaksRule (clocks_of log) (seen_of log k) full k cause

-- these are the causes at k: exactly the rules that it breaks
abbrev pub NamesCausesIn : LogInOrder → (full k : ℕ) → Causes → Type 0
NamesCausesIn log full k causes = (cause : Cause) → HasCause causes cause ↔ BreaksAt log full k cause

-- a rule was broken at k
abbrev pub IsCauseAt : LogInOrder → (full k : ℕ) → Type 0
IsCauseAt log full k = (cause : Cause) × BreaksAt log full k cause

-- whether the events at k and d, its node's event before k, stand swapped, by the stamps that each saw claimed; not if the log tells no stamp of
-- one of them
abbrev pub swapped_with : LogInOrder → (full k : ℕ) → (previous : Option ℕ) → Bool
swapped_with log full k None = false
swapped_with log full k (Some d) = stamp_told log k && (stamp_told log d && stand_swapped (clocks_of log) (seen_of log) full k d)

-- whether the event at k stands swapped with its node's event before it
abbrev pub is_swapped_in : LogInOrder → (full k : ℕ) → Bool
is_swapped_in log full k = swapped_with log full k (previous_of (clock_skeleton (clocks_of log)) k)

-- these are the rules that the event at a place of the log, wherever it stands in the order, breaks: none if the log tells no stamp of it
abbrev pub NamesCausesAt : LogInOrder → (full e : ℕ) → Causes → Type 0
NamesCausesAt log full e found = (k : ℕ) → k < length log.order → place_at log.order k ≡ e → NamesCausesIn log full k found

-- those of each of the first n events of the log
pub record AreCausesBefore (log : LogInOrder) (full n : ℕ) (causes : List Causes) : Type 0 where
  pub one_each : length causes ≡ n
  pub each : (e : ℕ) → e < n → NamesCausesAt log full e (slice_index_or causes e no_causes)

-- the same of all events
abbrev pub AreCauses : LogInOrder → ℕ → List Causes → Type 0
AreCauses log full causes = AreCausesBefore log full (length log.events) causes

-- the direct predecessors that some causes name are events
pub record NameEvents (log : LogInOrder) (causes : Causes) : Type 0 where
  pub previous : IfSome causes.not_above_previous (λ d. d.0 < length log.events)
  pub send : IfSome causes.not_above_send (λ d. d.0 < length log.events)

-- whether the event at a place stands swapped with its node's event before it
abbrev pub swapped_at : LogInOrder → (full e : ℕ) → Bool
swapped_at log full e = is_swapped_in log full (index_in log.order e)

-- where the send stands of what the event at a place receives, if its message carried another stamp than the log claims there
abbrev pub wrong_at : LogInOrder → ℕ → Option ℕ
wrong_at log e = wrong_of log (index_in log.order e)
