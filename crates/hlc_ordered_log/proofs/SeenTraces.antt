-- What events saw claimed is the same in logs that tell the same.
use Rattle.std.proofs.Common.{◌≡◌, ◌∙◌, Bool, true, false, ℕ, ◌<◌, inl, inr, List, length, Option, Some, None, arith, refl, sym, ap}
use Rattle.std.specs.Prelude.{if◌then◌else◌, option_map}
use Rattle.std.proofs.lemmas.Bool.{cases_Bool}
use Rattle.hlc_stamp.specs.Order.{Pair}
use Rattle.hlc_causality.specs.Assignment.{pair_at}
use Rattle.hlc_causality.specs.ClockEvents.{ClockEvents, clock_skeleton}
use Rattle.hlc_causality.specs.FollowedClockChains.{is_same_pair}
use Rattle.hlc_causality.specs.Predecessors.{send_of}
use Rattle.hlc_causality.proofs.ClockEvents.{skeleton_size}
use Rattle.hlc_causes.specs.Seen.{seen, seen_at, wrong_among, wrongly_carried}
use Rattle.hlc_causes.specs.Causes.{no_causes}
use Rattle.hlc_causes.specs.declared.answers.Causes.{Causes}
use Rattle.hlc_causes.specs.declared.answers.Finding.{Finding}
use Rattle.hlc_ordered_log.specs.Found.{FindsAt, NamesCausesIn}
use Rattle.hlc_ordered_log.specs.Moved.{moved_causes, moved_finding}
use Rattle.hlc_ordered_log.specs.InOrder.{LogInOrder, carried_of, claimed_of, clocks_of, seen_of, stamp_told}
use Rattle.hlc_ordered_log.specs.Laws.{CausesAgree, FindingsAgree, WrongAgrees}
use Rattle.hlc_ordered_log.specs.Reordered.{IsReorderedTrace, TellTheSame, moved_position}
use Rattle.hlc_ordered_log.proofs.Found.{all_if_told, none_if_untold, told_has_all, untold_has_none}
use Rattle.hlc_ordered_log.proofs.ReorderedTraces.{claims_size, logs_are_reordered_traces, other_claims_size, read, reordering_keeps_causes, reordering_keeps_findings, same_carried, same_seen, same_told, send_exists, send_moved}

module _ (t u : ClockEvents) (claimed others : List Pair) (to back : ℕ → ℕ) (h : IsReorderedTrace t u claimed others to back)
    (size : length claimed ≡ length t) (other_size : length others ≡ length u) where
  -- a place among the events
  abbrev IsPlace : ℕ → Type 0
  IsPlace d = d < length (clock_skeleton t)

  same_wrong : (o : Option ℕ) (carried : Option Pair) → ((d : ℕ) → o ≡ Some d → IsPlace d)
      → wrong_among others (option_map to o) carried ≡ option_map to (wrong_among claimed o carried)
  same_wrong None None exist = refl
  same_wrong None (Some p) exist = refl
  same_wrong (Some d) None exist = refl
  same_wrong (Some d) (Some p) exist =
      ap (λ (q : Pair). if is_same_pair p q then None else Some (to d)) (sym (h.claims d (exist d refl))) ∙ by_test (is_same_pair p (pair_at claimed d))
    where
      by_test : (test : Bool) → (if test then None else Some (to d)) ≡ option_map to (if test then None else Some d)
      by_test true = refl
      by_test false = refl

  module _ (carried other_carried : ℕ → Option Pair) (f : ℕ) (exists : f < length t) (same : other_carried (to f) ≡ carried f) where
    shown : IsPlace f
    shown = omega (arith, exists, skeleton_size t)

    sent : send_of (clock_skeleton u) (to f) ≡ option_map to (send_of (clock_skeleton t) f)
    sent = send_moved (clock_skeleton t) (clock_skeleton u) to back h.events.links f shown

    pub seen_moved : IsReorderedTrace t u (seen_at t claimed carried f) (seen_at u others other_carried (to f)) to back
    seen_moved = record {
      events = h.events;
      claims = λ e lt.
          same_seen t u claimed others to back h.events.links size other_size (send_of (clock_skeleton t) f) (carried f)
          (send_exists (clock_skeleton t) (clock_skeleton u) to back h.events.links f shown) e lt (h.claims e lt)
          ∙ ap (λ (o : Option ℕ). pair_at (seen others o (carried f)) (to e)) (sym sent)
          ∙ ap (λ (c : Option Pair). pair_at (seen others (send_of (clock_skeleton u) (to f)) c) (to e)) (sym same);
    }

    pub wrong_moved : wrongly_carried u others other_carried (to f) ≡ option_map to (wrongly_carried t claimed carried f)
    wrong_moved =
        ap (wrong_among others (send_of (clock_skeleton u) (to f))) same
        ∙ ap (λ (o : Option ℕ). wrong_among others o (carried f)) sent
        ∙ same_wrong (send_of (clock_skeleton t) f) (carried f) (send_exists (clock_skeleton t) (clock_skeleton u) to back h.events.links f shown)

-- of logs in order
module _ (log other : LogInOrder) (to back : ℕ → ℕ) (h : TellTheSame log other to back) where
  pub seen_traces : (k : ℕ) → k < length log.order → IsReorderedTrace (clocks_of log) (clocks_of other) (seen_of log k)
      (seen_of other (moved_position log other to k)) (moved_position log other to) (moved_position other log back)
  seen_traces k lt =
      seen_moved (clocks_of log) (clocks_of other) (claimed_of log) (claimed_of other) (moved_position log other to) (moved_position other log back)
      (logs_are_reordered_traces log other to back h) (claims_size log other to back h) (other_claims_size log other to back h) (carried_of log)
      (carried_of other) k (read log other to back h k lt) (same_carried log other to back h k lt)

pub wrong_agrees : WrongAgrees
wrong_agrees log other to back h k lt =
    wrong_moved (clocks_of log) (clocks_of other) (claimed_of log) (claimed_of other) (moved_position log other to) (moved_position other log back)
    (logs_are_reordered_traces log other to back h) (claims_size log other to back h) (other_claims_size log other to back h) (carried_of log)
    (carried_of other) k (read log other to back h k lt) (same_carried log other to back h k lt)

module _ (log other : LogInOrder) (to back : ℕ → ℕ) (h : TellTheSame log other to back) (full k : ℕ) (lt : k < length log.order) where
  abbrev moved : ℕ → ℕ
  moved = moved_position log other to

  found_there : (found : Option Finding) → FindsAt log full k found → FindsAt other full (moved k) (option_map (moved_finding moved) found)
  found_there None untold = same_told log other to back h k lt ∙ untold
  found_there (Some found) (is_told, names) = (
    same_told log other to back h k lt ∙ is_told,
    reordering_keeps_findings (clocks_of log) (clocks_of other) (seen_of log k) (seen_of other (moved k)) log.least other.least
        moved (moved_position other log back) (seen_traces log other to back h k lt) h.ordered.least
        h.other_ordered.least full k found (read log other to back h k lt) names,
  )

  -- an answer that names nothing names nothing there
  none_moved : (causes : Causes) → causes ≡ no_causes → moved_causes moved causes ≡ no_causes
  none_moved causes none = ap (moved_causes moved) none

  causes_there : (answer : Causes) → NamesCausesIn log full k answer → NamesCausesIn other full (moved k) (moved_causes moved answer)
  causes_there answer names = elim (cases_Bool (stamp_told log k)) [
    | inl is_told ↦
        told_has_all other full (moved k) (moved_causes moved answer) (same_told log other to back h k lt ∙ is_told)
        (reordering_keeps_causes (clocks_of log) (clocks_of other) (seen_of log k) (seen_of other (moved k)) moved (moved_position other log back)
        (seen_traces log other to back h k lt) full k answer (read log other to back h k lt) (all_if_told log full k answer is_told names))
    | inr untold ↦
        untold_has_none other full (moved k) (moved_causes moved answer) (none_moved answer (none_if_untold log full k answer untold names))
        (same_told log other to back h k lt ∙ untold)
  ]

pub findings_agree : FindingsAgree
findings_agree log other to back h full k found lt finds = found_there log other to back h full k lt found finds

pub causes_agree : CausesAgree
causes_agree log other to back h full k answer lt names = causes_there log other to back h full k lt answer names
