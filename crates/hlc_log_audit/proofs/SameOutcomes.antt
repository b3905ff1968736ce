-- Logs that tell the same have the same outcome.
use Rattle.std.proofs.Common.{◌≡◌, ◌∙◌, ◌↔◌, Bool, true, false, ℕ, ◌<◌, inl, inr, length, Option, Some, None, ap, arith, refl}
use Rattle.std.specs.Prelude.{IsTrue, option_map}
use Rattle.hlc_stamp.specs.Order.{Pair}
use Rattle.hlc_causality.specs.NodeEvents.{drift_at}
use Rattle.hlc_causes.specs.declared.answers.Cause.TheVariants.{Behind, NotAbovePrevious, NotAboveSend}
use Rattle.hlc_causes.specs.declared.answers.Causes.{Causes}
use Rattle.hlc_log.specs.Events.{event_at}
use Rattle.hlc_log.proofs.Reorderings.{drift_kept}
use Rattle.hlc_log_text.specs.StampForms.{greatest_c}
use Rattle.hlc_ordered_log.specs.Found.{NamesCausesIn}
use Rattle.hlc_ordered_log.specs.InOrder.{LogInOrder, clocks_of, skeleton_of}
use Rattle.hlc_ordered_log.specs.Moved.{moved_causes, moved_event}
use Rattle.hlc_ordered_log.specs.Reordered.{TellTheSame, moved_position}
use Rattle.hlc_ordered_log.proofs.EventsInOrder.{length-clocks_of}
use Rattle.hlc_ordered_log.proofs.ReorderedTraces.{least_moved, moved_there, skeletons_moved, turned_log}
use Rattle.hlc_ordered_log.proofs.SeenTraces.{causes_agree, wrong_agrees}
use Rattle.hlc_log.proofs.OrderSkeletons.{length-skeleton_in}
use Rattle.hlc_log_audit.specs.Audit.{BreaksOrder, CarriesWrongly, ClaimsOver, ExceedsLimit, IsBroken, IsOutOfOrder, IsOutcome, IsOverLimit}
use Rattle.hlc_log_audit.specs.Laws.{OutcomesAgree}
use Rattle.hlc_log_audit.proofs.EventsInOrder.{causes_in}
use Rattle.hlc_log_audit.proofs.OverLimits.{claim_is_told, told_claim}
use Rattle.hlc_log_audit.proofs.ReorderedAnswers.{told_moved}
use Rattle.hlc_log_audit.specs.declared.outcome.Outcome.{Outcome}
use Rattle.hlc_log_audit.specs.declared.outcome.Outcome.TheVariants.{BadLog, Broken, OverLimit, Sound}
use Rattle.hlc_log_audit.specs.declared.rules.AuditRules.{AuditRules}

module _ (log other : LogInOrder) (to back : ℕ → ℕ) (h : TellTheSame log other to back) where
  abbrev to_there : ℕ → ℕ
  to_there = moved_position log other to

  abbrev to_here : ℕ → ℕ
  to_here = moved_position other log back

  -- the causes of an event, as they are named in both orders
  named : (full k : ℕ) → k < length log.order → (causes : Causes) × NamesCausesIn log full k causes
      × NamesCausesIn other full (to_there k) (moved_causes to_there causes)
  named full k lt =
      let exists : k < length (clocks_of log) = omega (arith, lt, length-clocks_of log, length-skeleton_in log.events log.order h.ordered.causal) in
      let answer = causes_in log full k exists in
      (answer.0, answer.1, causes_agree log other to back h full k answer.0 lt answer.1)

  out_of_order_kept : (full k : ℕ) → k < length log.order → IsOutOfOrder log full k → IsOutOfOrder other full (to_there k)
  out_of_order_kept full k lt (inl behind) =
      let answer = named full k lt in inl ((answer.2 Behind).0 ((answer.1 Behind).1 behind))
  out_of_order_kept full k lt (inr (d, inl previous)) =
      let answer = named full k lt in
      let there = moved_event to_there d in
      inr (there, inl ((answer.2 (NotAbovePrevious there)).0 (ap (option_map (moved_event to_there)) ((answer.1 (NotAbovePrevious d)).1 previous))))
  out_of_order_kept full k lt (inr (d, inr send)) =
      let answer = named full k lt in
      let there = moved_event to_there d in
      inr (there, inr ((answer.2 (NotAboveSend there)).0 (ap (option_map (moved_event to_there)) ((answer.1 (NotAboveSend d)).1 send))))

  pub order_broken : (full : ℕ) → BreaksOrder log full → BreaksOrder other full
  order_broken full (k, lt, broken) =
      (to_there k, (moved_there log other to back h k lt).0, out_of_order_kept full k lt broken)

  carried_wrongly : CarriesWrongly log → CarriesWrongly other
  carried_wrongly (k, d, within, wrong) = (
    to_there k,
    to_there d,
    (moved_there log other to back h k within).0,
    wrong_agrees log other to back h k within ∙ ap (option_map to_there) wrong,
  )

  pub still_broken : (full : ℕ) → IsBroken log full → IsBroken other full
  still_broken full (inl order) = inl (order_broken full order)
  still_broken full (inr wrong) = inr (carried_wrongly wrong)

  pub limit_exceeded : (limit : Option ℕ) → ExceedsLimit limit log → ExceedsLimit limit other
  limit_exceeded None beyond = beyond
  limit_exceeded (Some limit) (k, beyond) =
      let kept = skeletons_moved log other to back h in
      let drift : drift_at (skeleton_of log) log.least k ≡ drift_at (skeleton_of other) other.least (to_there k) =
      drift_kept (skeleton_of log) (skeleton_of other) to_there to_here kept log.least other.least
      (least_moved log other to back h) k beyond.exists in (
        to_there k,
        record {
          exists = kept.there.exists k beyond.exists;
          is_told = told_moved log other to back h k beyond.exists ∙ beyond.is_told;
          beyond = omega (arith, beyond.beyond);
        },
      )

  claims_over_kept : (limit : Option ℕ) → ClaimsOver limit log → ClaimsOver limit other
  claims_over_kept None over = over
  claims_over_kept (Some limit) (e, over) =
      let here = event_at log.events e in
      let there = event_at other.events (to e) in
      let keeps = h.events.there in
      let told = claim_is_told here limit over.1 in
      let claim = told_claim there (keeps.has_reading e over.0 ∙ told.0) (keeps.has_stamp e over.0 ∙ told.1) in
      let l = ap (λ (p : Pair). p.l) (h.claims e over.0 told.1) in
      let reading = keeps.reading e over.0 in
      (to e, (keeps.exists e over.0, omega (arith, told.2)))

  pub over_limit : (limit : Option ℕ) → IsOverLimit limit log → IsOverLimit limit other
  over_limit limit (inl exceeds) = inl (limit_exceeded limit exceeds)
  over_limit limit (inr over) = inr (claims_over_kept limit over)

-- where two say whether something holds, they say the same
same_answer : (a b : Bool) (P Q : Type 0) → IsTrue a ↔ P → IsTrue b ↔ Q → (P → Q) → (Q → P) → b ≡ a
same_answer true true P Q tells others there back = refl
same_answer true false P Q tells others there back = absurd (let bad : ◌≡◌ {A = Bool} false true = others.1 (there (tells.0 refl)) in cc)
same_answer false true P Q tells others there back = absurd (let bad : ◌≡◌ {A = Bool} false true = tells.1 (back (others.0 refl)) in cc)
same_answer false false P Q tells others there back = refl

module _ (log other : LogInOrder) (to back : ℕ → ℕ) (h : TellTheSame log other to back) (rules : AuditRules) where
  abbrev full : ℕ
  full = greatest_c rules.records.form

  broken_there : IsBroken log full → IsBroken other full
  broken_there = still_broken log other to back h full

  broken_here : IsBroken other full → IsBroken log full
  broken_here = still_broken other log back to (turned_log log other to back h) full

  over_there : IsOverLimit rules.limit log → IsOverLimit rules.limit other
  over_there = over_limit log other to back h rules.limit

  over_here : IsOverLimit rules.limit other → IsOverLimit rules.limit log
  over_here = over_limit other log back to (turned_log log other to back h) rules.limit

  one_outcome : (result other_result : Outcome) → IsOutcome rules log result → IsOutcome rules other other_result → other_result ≡ result
  one_outcome BadLog b told other_told = absurd told
  one_outcome Sound BadLog told other_told = absurd other_told
  one_outcome Sound Sound told other_told = refl
  one_outcome Sound OverLimit told other_told = absurd (told.1 (over_here other_told.1))
  one_outcome Sound (Broken over) told other_told = absurd (told.0 (broken_here other_told.0))
  one_outcome OverLimit BadLog told other_told = absurd other_told
  one_outcome OverLimit Sound told other_told = absurd (other_told.1 (over_there told.1))
  one_outcome OverLimit OverLimit told other_told = refl
  one_outcome OverLimit (Broken over) told other_told = absurd (told.0 (broken_here other_told.0))
  one_outcome (Broken over) BadLog told other_told = absurd other_told
  one_outcome (Broken over) Sound told other_told = absurd (other_told.0 (broken_there told.0))
  one_outcome (Broken over) OverLimit told other_told = absurd (other_told.0 (broken_there told.0))
  one_outcome (Broken over) (Broken other_over) told other_told =
      ap (λ (o : Bool). Broken o) (same_answer over other_over _ _ told.1 other_told.1 over_there over_here)

pub outcomes_agree : OutcomesAgree
outcomes_agree log other to back h rules result other_result told other_told = one_outcome log other to back h rules result other_result told other_told
