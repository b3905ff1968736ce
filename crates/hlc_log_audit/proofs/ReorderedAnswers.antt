-- Reordered logs have the same ways and drifts.
use Rattle.std.proofs.Common.{◌≡◌, ◌∙◌, Bool, true, false, cond, ℕ, zero, suc, ◌==◌, ◌<◌, inl, inr, List, [], ◌∷◌, ◌++◌, length, map, Option, Some, None, arith, refl, sym, ap}
use Rattle.std.specs.Prelude.{nat_lt, option_map}
use Rattle.std.proofs.lemmas.List.{map-append}
use Rattle.hlc_stamp.specs.Order.{Pair}
use Rattle.hlc_causality.specs.Assignment.{pair_at}
use Rattle.hlc_causality.specs.Causality.{IsEarlierAtNode, IsPrevious, IsSendOf, Skeleton}
use Rattle.hlc_causality.specs.ClockEvents.{ClockEvents, clock_skeleton}
use Rattle.hlc_causality.specs.NodeEvents.{drift_at}
use Rattle.hlc_causality.specs.Predecessors.{previous_of, send_of}
use Rattle.hlc_causality.proofs.ClockEvents.{skeleton_size}
use Rattle.hlc_causality.proofs.Predecessors.{direct_earlier, previous_is_unique, send_is_unique}
use Rattle.hlc_causality.proofs.PredecessorsFound.{previous_found, send_found}
use Rattle.hlc_explain.specs.declared.answers.Drift.{Drift}
use Rattle.hlc_causes.proofs.Disorder.{some_is_so}
use Rattle.hlc_log.specs.CausalOrder.{place_at}
use Rattle.hlc_log.specs.Events.{event_at}
use Rattle.hlc_log.specs.Reordering.{HaveEqualPairs, IsClockReordering, IsReordering, IsSameNode}
use Rattle.hlc_log.proofs.ClockReorderedChains.{chain_kept}
use Rattle.hlc_log.proofs.OrderSkeletons.{length-skeleton_in, place_exists}
use Rattle.hlc_log.proofs.Reorderings.{drift_kept, earlier_returned, event_returned}
use Rattle.hlc_ordered_log.specs.InOrder.{LogInOrder, claimed_of, clocks_of, reading_told, skeleton_of}
use Rattle.hlc_ordered_log.specs.Laws.{KeepsTold}
use Rattle.hlc_ordered_log.specs.Reordered.{TellTheSame, moved_position}
use Rattle.hlc_ordered_log.proofs.EventsInOrder.{length-clocks_of}
use Rattle.hlc_ordered_log.proofs.ReorderedTraces.{claims_moved, cond_moved, least_moved, logs_are_reordered_traces, moved_there, previous_exists, previous_moved, seen, send_exists, send_moved, skeletons_moved}
use Rattle.hlc_log_audit.specs.ClaimedWay.{claimed_way, greater_c, if_same_l, source_of}
use Rattle.hlc_log_audit.specs.Laws.{DriftsAgree, ReorderingKeepsDrifts, ReorderingKeepsWays, WaysAgree}
use Rattle.hlc_log_audit.specs.Moved.{moved_drift}
use Rattle.hlc_log_audit.specs.ToldDrift.{IsFurthestTold, IsToldOf, NamesToldDrift, told_drift}
use Rattle.hlc_log_audit.proofs.ToldDrifts.{told_drift_found, told_drift_is}
use Rattle.hlc_log_audit.proofs.Ways.{IsSo, so_found, source_earlier, way_end, way_step}

one_moved : (to : ℕ → ℕ) (test : Bool) (d e : ℕ) → cond test (Some (to e)) (Some (to d)) ≡ option_map to (cond test (Some e) (Some d))
one_moved to true d e = refl
one_moved to false d e = refl

module _ (s t : Skeleton) (claimed others : List Pair) (to back : ℕ → ℕ) (h : IsReordering s t to back)
    (claims : HaveEqualPairs s to claimed others) where
  -- the source of a claimed l
  module _ (f : ℕ) (exists : f < length s) where
    if_same_l_moved : (o : Option ℕ) → ((d : ℕ) → o ≡ Some d → d < length s)
        → if_same_l others (to f) (option_map to o) ≡ option_map to (if_same_l claimed f o)
    if_same_l_moved None there = refl
    if_same_l_moved (Some d) there =
        ap (λ (p : Pair). cond (p.l == (pair_at others (to f)).l) (Some (to d)) None) (sym (claims d (there d refl)))
        ∙ ap (λ (p : Pair). cond ((pair_at claimed d).l == p.l) (Some (to d)) None) (sym (claims f exists))
        ∙ cond_moved to ((pair_at claimed d).l == (pair_at claimed f).l) d

    greater_c_moved : (a b : Option ℕ) → ((d : ℕ) → a ≡ Some d → d < length s) → ((d : ℕ) → b ≡ Some d → d < length s)
        → greater_c others (option_map to a) (option_map to b) ≡ option_map to (greater_c claimed a b)
    greater_c_moved None b first second = refl
    greater_c_moved (Some d) None first second = refl
    greater_c_moved (Some d) (Some e) first second =
        ap (λ (p : Pair). cond (nat_lt p.c (pair_at others (to e)).c) (Some (to e)) (Some (to d))) (sym (claims d (first d refl)))
        ∙ ap (λ (p : Pair). cond (nat_lt (pair_at claimed d).c p.c) (Some (to e)) (Some (to d))) (sym (claims e (second e refl)))
        ∙ one_moved to (nat_lt (pair_at claimed d).c (pair_at claimed e).c) d e

    previous_so_exists : (d : ℕ) → if_same_l claimed f (previous_of s f) ≡ Some d → d < length s
    previous_so_exists d is =
        let found = so_found s claimed (λ d. IsPrevious s d f) (λ d e. previous_is_unique s d e f) f (previous_of s f) (previous_found s f exists) in
        let so = some_is_so (IsSo s claimed (λ d. IsPrevious s d f) f) (if_same_l claimed f (previous_of s f)) found d is in
        let earlier = direct_earlier s d f (inl so.0) in
        omega arith

    send_so_exists : (d : ℕ) → if_same_l claimed f (send_of s f) ≡ Some d → d < length s
    send_so_exists d is =
        let found = so_found s claimed (λ d. IsSendOf s d f) (λ d e. send_is_unique s d e f) f (send_of s f) (send_found s f exists) in
        let so = some_is_so (IsSo s claimed (λ d. IsSendOf s d f) f) (if_same_l claimed f (send_of s f)) found d is in
        let earlier = direct_earlier s d f (inr so.0) in
        omega arith

    source_moved : source_of t others (to f) ≡ option_map to (source_of s claimed f)
    source_moved =
        let previous = previous_of s f in
        let send = send_of s f in
        let same = if_same_l others (to f) in
        ap (λ (o : Option ℕ). greater_c others (same o) (same (send_of t (to f)))) (previous_moved s t to back h f exists)
        ∙ ap (λ (o : Option ℕ). greater_c others (same (option_map to previous)) (same o)) (send_moved s t to back h f exists)
        ∙ ap (λ (o : Option ℕ). greater_c others o (same (option_map to send))) (if_same_l_moved previous (previous_exists s t to back h f exists))
        ∙ ap (λ (o : Option ℕ). greater_c others (option_map to (if_same_l claimed f previous)) o)
        (if_same_l_moved send (send_exists s t to back h f exists))
        ∙ greater_c_moved (if_same_l claimed f previous) (if_same_l claimed f send) previous_so_exists send_so_exists

  -- ways, step by step
  way_by : (f : ℕ) → f < length s → (source : Option ℕ) → source_of s claimed f ≡ source
      → ((d : ℕ) → source ≡ Some d → claimed_way t others (to d) ≡ map to (claimed_way s claimed d))
      → claimed_way t others (to f) ≡ map to (claimed_way s claimed f)
  way_by f exists None is before =
      way_end t others (to f) (source_moved f exists ∙ ap (option_map to) is) ∙ ap (map to) (sym (way_end s claimed f is))
  way_by f exists (Some d) is before =
      way_step t others (to d) (to f) (h.there.exists f exists) (source_moved f exists ∙ ap (option_map to) is)
      ∙ ap (λ (way : List ℕ). way ++ to f ∷ []) (before d refl)
      ∙ sym (map-append to (claimed_way s claimed d) (f ∷ []))
      ∙ ap (map to) (sym (way_step s claimed d f exists is))

  way_below : (n f : ℕ) → f < n → f < length s → claimed_way t others (to f) ≡ map to (claimed_way s claimed f)
  way_below zero f lt exists = absurd (omega arith)
  way_below (suc n) f lt exists =
      way_by f exists (source_of s claimed f) refl
      (λ d is. let earlier = source_earlier s claimed f exists d is in way_below n d (omega arith) (omega arith))

pub reordering_keeps_ways : ReorderingKeepsWays
reordering_keeps_ways s t claimed others to back h claims f exists = way_below s t claimed others to back h claims (suc f) f (omega arith) exists

pub ways_agree : WaysAgree
ways_agree log other to back h k lt =
    reordering_keeps_ways (skeleton_of log) (skeleton_of other) (claimed_of log) (claimed_of other) (moved_position log other to)
    (moved_position other log back) (skeletons_moved log other to back h) (claims_moved log other to back h) k (seen log other to back h k lt)

-- drifts
module _ (s r : Skeleton) (t u : ClockEvents) (pairs others : List Pair) (to back : ℕ → ℕ) (h : IsReordering s r to back)
    (clocks : IsClockReordering t u to back) (size : length t ≡ length s) (equal : HaveEqualPairs s to pairs others)
    (told other_told : ℕ → Bool) (keeps : KeepsTold s to told other_told) (a b : ℕ) (same : IsSameNode s r to a b) where
  clock_equal : HaveEqualPairs (clock_skeleton t) to pairs others
  clock_equal e lt = equal e (omega (arith, lt, size, skeleton_size t))

  told_kept : (e : ℕ) → IsToldOf s told a e → IsToldOf r other_told b (to e)
  told_kept e at = record {
    event = record { exists = h.there.exists e at.event.exists; at_node = (same e at.event.exists).0 at.event.at_node };
    is_told = keeps e at.event.exists ∙ at.is_told;
  }

  told_returned : (e : ℕ) → IsToldOf r other_told b e → IsToldOf s told a (back e)
  told_returned e at =
      let event = event_returned s r to back h pairs others equal a b same e at.event in
      record {
        event = event;
        is_told = sym (keeps (back e) event.exists) ∙ ap other_told (h.back_there e at.event.exists) ∙ at.is_told;
      }

  drift_there : (e : ℕ) → e < length r → drift_at s pairs (back e) ≡ drift_at r others e
  drift_there e exists =
      drift_kept s r to back h pairs others equal (back e) (h.here.exists e exists) ∙ ap (drift_at r others) (h.back_there e exists)

  furthest_kept : (e : ℕ) → IsFurthestTold s told pairs a e → IsFurthestTold r other_told others b (to e)
  furthest_kept e furthest =
      let here = furthest.event in
      let own = drift_kept s r to back h pairs others equal e here.event.exists in
      record {
        event = told_kept e here;
        none_greater = λ d at.
            let drift = drift_there d at.event.exists in
            let le = furthest.none_greater (back d) (told_returned d at) in
            omega arith;
        first = λ d at lt.
            let drift = drift_there d at.event.exists in
            let there = told_kept e here in
            let earlier : IsEarlierAtNode r d (to e) =
            record { earlier = lt; exists = there.event.exists; same_node = at.event.at_node ∙ sym there.event.at_node } in
            let before = earlier_returned s r to back h d e here.event.exists earlier in
            let less = furthest.first (back d) (told_returned d at) before.earlier in
            omega arith;
      }

  node_drift_kept : (found : Option Drift) → NamesToldDrift s t told pairs a found
      → NamesToldDrift r u other_told others b (option_map (moved_drift to) found)
  node_drift_kept None none = λ e at. none (back e) (told_returned e at)
  node_drift_kept (Some drift) is =
      let e = drift.event.0 in
      record {
        furthest = furthest_kept e is.furthest;
        ahead = is.ahead ∙ drift_kept s r to back h pairs others equal e is.furthest.event.event.exists;
        origin = (map to is.origin.0, chain_kept t u to back clocks pairs others clock_equal e (drift.origin.0 ∷ is.origin.0) is.origin.1);
      }

pub reordering_keeps_drifts : ReorderingKeepsDrifts
reordering_keeps_drifts s r t u pairs others to back h clocks size other_size equal told other_told keeps a b same =
    sym (told_drift_is r other_told others b u other_size (option_map (moved_drift to) (told_drift s t told pairs a))
    (node_drift_kept s r t u pairs others to back h clocks size equal told other_told keeps a b same (told_drift s t told pairs a)
    (told_drift_found s told pairs a t size)))

-- two logs that tell the same tell the same readings
pub told_moved : (log other : LogInOrder) (to back : ℕ → ℕ) → TellTheSame log other to back
    → KeepsTold (skeleton_of log) (moved_position log other to) (reading_told log) (reading_told other)
told_moved log other to back h k lt =
    let within : k < length log.order = omega (arith, lt, length-skeleton_in log.events log.order h.ordered.causal) in
    let place = place_at log.order k in
    ap (λ (e : ℕ). (event_at other.events e).has_reading) (moved_there log other to back h k within).1
    ∙ h.events.there.has_reading place (place_exists log.events log.order h.ordered.causal k within)

pub drifts_agree : DriftsAgree
drifts_agree log other to back h a b same =
    reordering_keeps_drifts (skeleton_of log) (skeleton_of other) (clocks_of log) (clocks_of other) log.least other.least
    (moved_position log other to) (moved_position other log back) (skeletons_moved log other to back h)
    (logs_are_reordered_traces log other to back h).events (length-clocks_of log) (length-clocks_of other) (least_moved log other to back h)
    (reading_told log) (reading_told other) (told_moved log other to back h) a b same
