-- The report on a log that claims the least stamps.
use Rattle.hlc_log_text.specs.declared.file_mark.FileMark.{FileMark}
use Rattle.std.proofs.Common.{◌≡◌, ◌∙◌, ℕ, ◌<◌, inl, inr, List, [], ◌∷◌, ◌++◌, length, Option, Some, None, append-nil, arith, refl, sym, ap}
use Rattle.std.specs.Prelude.{codes, slice_index_or}
use Rattle.hlc_stamp.specs.Order.{Pair}
use Rattle.hlc_causality.specs.Assignment.{pair_at}
use Rattle.hlc_causes.specs.Causes.{no_causes}
use Rattle.hlc_causes.specs.declared.answers.Cause.TheVariants.{Behind, NotAbovePrevious, NotAboveSend}
use Rattle.hlc_causes.specs.declared.answers.Causes.{Causes}
use Rattle.hlc_csv.specs.Rows.{Fields}
use Rattle.hlc_log.specs.Events.{event_at}
use Rattle.hlc_log.proofs.CausalOrders.{place_in_order}
use Rattle.hlc_log.proofs.OrderSkeletons.{length-skeleton_in, place_of_index, reading_in}
use Rattle.hlc_log.specs.OrderSkeleton.{index_in}
use Rattle.hlc_ordered_log.specs.Counts.{AreCounted, no_findings, told_count}
use Rattle.hlc_ordered_log.specs.Found.{AreCauses, NamesCausesIn}
use Rattle.hlc_ordered_log.specs.InOrder.{IsCarriedRightly, IsInOrder, LogInOrder, claimed_of, clocks_of}
use Rattle.hlc_ordered_log.specs.Messages.{message_counts}
use Rattle.hlc_ordered_log.specs.declared.counts.Counts.{Counts}
use Rattle.hlc_ordered_log.proofs.CleanLogs.{all_are_least}
use Rattle.hlc_ordered_log.proofs.EventsInOrder.{length-clocks_of, length-skeleton_of}
use Rattle.hlc_ordered_log.proofs.Ordering.{claimed_at, order_len}
use Rattle.hlc_log_text.specs.StampForms.{greatest_c}
use Rattle.hlc_log_audit.specs.Audit.{BreaksOrder, ClaimsOver, ExceedsLimit, IsBroken, IsOutOfOrder}
use Rattle.hlc_log_audit.specs.Laws.{LeastStampsAreSound, LeastStampsReportClean}
use Rattle.hlc_log_audit.specs.Report.{cause_rows, cause_rows_at, count_row, count_rows, message_row, node_rows, unit_rows, wrong_row}
use Rattle.hlc_log_audit.specs.declared.outcome.Outcome.TheVariants as outcome
use Rattle.hlc_log_audit.proofs.CauseRows.{no_rows}
use Rattle.hlc_log_audit.proofs.EventsInOrder.{same_causes}
use Rattle.hlc_log_audit.proofs.LeastStamps.{none_broken}
use Rattle.hlc_log_audit.proofs.OverLimits.{claim_is_told}

module _ (log : LogInOrder) (ordered : IsInOrder log) (same : claimed_of log ≡ log.least) (right : IsCarriedRightly log) (full : ℕ) where
  kept : (k : ℕ) → k < length log.order → NamesCausesIn log full k no_causes
  kept k within = none_broken log ordered right same full k within

  -- the counts
  counted_least : (counts : Counts) → AreCounted log full counts → counts ≡ record no_findings { least = told_count log }
  counted_least counts are = all_are_least log ordered same right full counts are

  least_rows : (n : ℕ) → count_rows (record no_findings { least = n }) ≡ count_row (codes "least") n
  least_rows n = append-nil (count_row (codes "least") n)

  -- the causes
  none_found : (causes : List Causes) → AreCauses log full causes → (e : ℕ) → e < length log.events → slice_index_or causes e no_causes ≡ no_causes
  none_found causes are e exists =
      let at = place_in_order log.events log.order e (ordered.causal.all e exists) in
      let there : at.0 < length (clocks_of log) = omega (arith, at.1, length-clocks_of log, length-skeleton_in log.events log.order ordered.causal) in
      same_causes log full at.0 there (slice_index_or causes e no_causes) no_causes (are.each e exists at.0 at.1 at.2) (kept at.0 at.1)

  no_cause_is_told : (files : List FileMark) (nodes : List (List ℕ)) (causes : List Causes) → AreCauses log full causes → cause_rows files nodes log full causes ≡ []
  no_cause_is_told files nodes causes are =
      no_rows (λ e. cause_rows_at files nodes log full e (slice_index_or causes e no_causes)) (length log.events)
      (λ e exists.
      let at = place_of_index log.events log.order ordered.causal e exists in
      ap (cause_rows_at files nodes log full e) (none_found causes are e exists) ∙ ap (wrong_row files nodes log e) (right (index_in log.order e) at.0))

  none_out_of_order : (k : ℕ) → k < length log.order → ¬ IsOutOfOrder log full k
  none_out_of_order k exists (inl behind) = let both = (kept k exists Behind).1 behind in cc
  none_out_of_order k exists (inr (d, inl previous)) = let both = (kept k exists (NotAbovePrevious d)).1 previous in cc
  none_out_of_order k exists (inr (d, inr send)) = let both = (kept k exists (NotAboveSend d)).1 send in cc

  pub order_is_kept : ¬ BreaksOrder log full
  order_is_kept (k, within, broken) = none_out_of_order k within broken

  pub nothing_is_broken : ¬ IsBroken log full
  nothing_is_broken (inl order) = order_is_kept order
  nothing_is_broken (inr (k, d, within, wrong)) = let both : ◌≡◌ {A = Option ℕ} None (Some d) = sym (right k within) ∙ wrong in absurd cc

pub least_stamps_report_clean : LeastStampsReportClean
least_stamps_report_clean files nodes log full rows ordered same right report =
    let rest : List Fields → List Fields = λ causes. causes ++ (node_rows files nodes log ++ (message_row (message_counts log) ∷ (report.skews ++ unit_rows report.counts log.events))) in
    record {
      skews = report.skews;
      are_skews = report.are_skews;
      rows_are =
          report.rows_are
          ∙ ap (λ (counts : Counts). count_rows counts ++ rest (cause_rows files nodes log full report.causes))
          (counted_least log ordered same right full report.counts report.counted)
          ∙ ap (λ (counts : List Fields). counts ++ rest (cause_rows files nodes log full report.causes)) (least_rows log ordered same right full (told_count log))
          ∙ ap (λ (causes : List Fields). count_row (codes "least") (told_count log) ++ rest causes)
          (no_cause_is_told log ordered same right full files nodes report.causes report.are_causes)
          ∙ ap (λ (counts : Counts). count_row (codes "least") (told_count log) ++ (node_rows files nodes log ++ (message_row (message_counts log)
          ∷ (report.skews ++ unit_rows counts log.events))))
          (counted_least log ordered same right full report.counts report.counted)
          ∙ ap (λ (skews : List Fields). count_row (codes "least") (told_count log) ++ (node_rows files nodes log ++ (message_row (message_counts log) ∷ skews)))
          (append-nil report.skews);
    }

-- a claim that is the least stamp is over the limit only if the drift exceeds it
claimed_within : (log : LogInOrder) → IsInOrder log → claimed_of log ≡ log.least → (limit : Option ℕ) → ClaimsOver limit log → ExceedsLimit limit log
claimed_within log ordered same None over = over
claimed_within log ordered same (Some limit) (e, over) =
    let at = place_in_order log.events log.order e (ordered.causal.all e over.0) in
    let size = length-skeleton_of log ordered in
    let places = order_len log.events log.order ordered.causal in
    let reading = reading_in log.events log.order ordered.causal at.0 at.1 ∙ ap (λ (place : ℕ). (event_at log.events place).reading) at.2 in
    let l : (pair_at log.least at.0).l ≡ (event_at log.events e).stamp.l =
    ap (λ (pairs : List Pair). (pair_at pairs at.0).l) (sym same)
    ∙ ap (λ (p : Pair). p.l) (claimed_at log.events log.order at.0 at.1)
    ∙ ap (λ (place : ℕ). (event_at log.events place).stamp.l) at.2 in
    let event = event_at log.events e in
    let ahead = claim_is_told event limit over.1 in (
      at.0,
      record {
        exists = omega (arith, at.1);
        is_told = ap (λ (place : ℕ). (event_at log.events place).has_reading) at.2 ∙ ahead.0;
        beyond = omega (arith, ahead.2, reading, l);
      },
    )

pub least_stamps_are_sound : LeastStampsAreSound
least_stamps_are_sound log rules outcome.Sound ordered same right within told = refl
least_stamps_are_sound log rules outcome.OverLimit ordered same right within told =
    absurd (elim told.1 [ inl exceeds ↦ within exceeds | inr over ↦ within (claimed_within log ordered same rules.limit over) ])
least_stamps_are_sound log rules (outcome.Broken over) ordered same right within told =
    absurd (nothing_is_broken log ordered same right (greatest_c rules.records.form) told.0)
least_stamps_are_sound log rules outcome.BadLog ordered same right within told = absurd told
