-- How many of the stamps that a log tells have each verdict.
use Rattle.std.specs.Prelude.{◌≡◌, ◌==◌, ◌&&◌, ℕ, ◌+◌, ◌<◌, ◌^◌, Bool, true, false, Option, Some, None, List, length, count_by, nat_lt, slice_index_or}
use Rattle.hlc_causality.specs.Places.{places_below}
use Rattle.hlc_verdict.specs.declared.verdict.Verdict.TheVariants as verdict
use Rattle.hlc_causes.specs.declared.answers.Finding.{Finding}
use Rattle.hlc_causes.specs.declared.answers.Finding.TheVariants.{Judged, RolledOver}
use Rattle.hlc_ordered_log.specs.Found.{FindsAt}
use Rattle.hlc_ordered_log.specs.InOrder.{LogInOrder, stamp_told}
use Rattle.hlc_ordered_log.specs.declared.counts.Counts.{Counts}

-- what is found of an event, as a test for each word that tells it
abbrev pub is_behind : Option Finding → Bool
is_behind (Some (Judged verdict.Behind)) = true
is_behind _ = false

abbrev pub is_not_above : Option Finding → Bool
is_not_above (Some (Judged (verdict.NotAbove d))) = true
is_not_above _ = false

abbrev pub is_low : Option Finding → Bool
is_low (Some (Judged (verdict.Low least))) = true
is_low _ = false

abbrev pub is_least : Option Finding → Bool
is_least (Some (Judged verdict.Least)) = true
is_least _ = false

abbrev pub is_ahead : Option Finding → Bool
is_ahead (Some (Judged (verdict.Ahead least))) = true
is_ahead _ = false

abbrev pub is_rolled_over : Option Finding → Bool
is_rolled_over (Some RolledOver) = true
is_rolled_over _ = false

-- how many there are of each
abbrev pub counts_of : List (Option Finding) → Counts
counts_of findings = record {
  behind = count_by is_behind findings;
  not_above = count_by is_not_above findings;
  low = count_by is_low findings;
  least = count_by is_least findings;
  ahead = count_by is_ahead findings;
  rolled_over = count_by is_rolled_over findings;
}

-- what is found of the first n events, in order
pub record AreFindings (log : LogInOrder) (full n : ℕ) (findings : List (Option Finding)) : Type 0 where
  pub one_each : length findings ≡ n
  pub each : (k : ℕ) → k < n → FindsAt log full k (slice_index_or findings k None)

-- the counts are those of what is found of all events
abbrev pub AreCounted : LogInOrder → ℕ → Counts → Type 0
AreCounted log full counts = (findings : List (Option Finding)) × AreFindings log full (length log.order) findings × (counts ≡ counts_of findings)

-- whether all stamps that the log tells are ahead, and there is one
abbrev pub are_all_ahead : Counts → Bool
are_all_ahead counts =
    nat_lt 0 counts.ahead && (counts.behind == 0) && (counts.not_above == 0) && (counts.low == 0) && (counts.least == 0) && (counts.rolled_over == 0)

-- how many stamps the log tells
abbrev pub told_count : LogInOrder → ℕ
told_count log = count_by (λ k. stamp_told log k) (places_below (length log.order))

-- no finding
abbrev pub no_findings : Counts
no_findings = record { behind = 0; not_above = 0; low = 0; least = 0; ahead = 0; rolled_over = 0 }

-- one finding more may be counted
pub record CanCountFinding (counts : Counts) : Type 0 where
  pub behind : counts.behind + 1 < 2 ^ 32
  pub not_above : counts.not_above + 1 < 2 ^ 32
  pub low : counts.low + 1 < 2 ^ 32
  pub least : counts.least + 1 < 2 ^ 32
  pub ahead : counts.ahead + 1 < 2 ^ 32
  pub rolled_over : counts.rolled_over + 1 < 2 ^ 32

-- the counts with one finding more, if there is one
abbrev pub with_finding : Counts → Option Finding → Counts
with_finding counts None = counts
with_finding counts (Some (Judged verdict.Behind)) = record counts { behind = counts.behind + 1 }
with_finding counts (Some (Judged (verdict.NotAbove d))) = record counts { not_above = counts.not_above + 1 }
with_finding counts (Some (Judged (verdict.Low least))) = record counts { low = counts.low + 1 }
with_finding counts (Some (Judged verdict.Least)) = record counts { least = counts.least + 1 }
with_finding counts (Some (Judged (verdict.Ahead least))) = record counts { ahead = counts.ahead + 1 }
with_finding counts (Some RolledOver) = record counts { rolled_over = counts.rolled_over + 1 }
