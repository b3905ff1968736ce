-- A bad record that is left out, or ends the reading.
use Rattle.std.proofs.Common.{◌≡◌, ◌∙◌, ◌<◌, ◌≤◌, ◌+◌, ℕ, false, List, Option, Some, None, arith, inr, length, max, refl, subst, sym}
use Rattle.hlc_csv.specs.Rows.{Fields}
use Rattle.hlc_csv.specs.declared.found_record.TheConstants.{LAST_LINE}
use Rattle.hlc_log_text.specs.LogItem.{Fails, LogItem, item_after}
use Rattle.hlc_log_text.specs.PartialLog.{IsBadFound, IsNextLine, IsPartialLog, LeavesNext, Takes, TakesOr}
use Rattle.hlc_log_text.specs.declared.bad_log.BadLine.{BadLine}
use Rattle.hlc_log_text.specs.declared.log_rules.LogRules.{LogRules}
use Rattle.hlc_log_text.specs.declared.partial_log.PartialLog.{PartialLog}

module _ (rules : LogRules) (items : List LogItem) (lines : List ℕ) (next : Fields) (b : BadLine) (old bad new : PartialLog) (h : IsPartialLog items lines old)
    (is_next : IsNextLine old b.line) (taken : TakesOr items lines (item_after rules items next) b.line bad (Some b.why)) where
  -- what was read before it stays
  same_line : bad.line ≡ old.line
  same_line = taken.1.ends ∙ sym h.ends

  still_next : IsNextLine bad b.line
  still_next = record {
    rises = subst (λ (n : ℕ). n < b.line) (sym same_line) is_next.rises;
    last = subst (λ (n : ℕ). b.line ≤ max LAST_LINE (n + 1)) (sym same_line) is_next.last;
  }

  late : length items < b.line
  late = let low = h.low in let rises = is_next.rises in omega arith

  pub left_or_kept : (kept : Option BadLine) → LeavesNext rules.faults bad b new kept → Takes rules items lines next false b.line new kept
  left_or_kept None leaves =
      let left = leaves items lines taken.1 still_next in
      (refl, Fails b.why, inr (b.why, (taken.0, left.0), refl), left.1)
  left_or_kept (Some k) leaves =
      let left = leaves items lines taken.1 still_next in
      subst (λ (k : BadLine). IsBadFound rules items next false k.why × (k.line ≡ b.line) × (length items < k.line) × IsPartialLog items lines new) (sym left.1)
      ((taken.0, left.0), refl, late, left.2)
