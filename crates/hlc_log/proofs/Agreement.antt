-- Causal orders of one log, or of logs that are reorderings of one another, agree on least pairs.
use Rattle.std.proofs.Common.{◌≡◌, ℕ, ◌<◌, List, length, arith, refl, subst, sym, ap, ◌∙◌}
use Rattle.hlc_causality.specs.declared.receives.Receives.{Receives}
use Rattle.hlc_causality.specs.Assignment.{pair_at}
use Rattle.hlc_log.specs.declared.log_event.LogEvent.{LogEvent}
use Rattle.hlc_log.specs.declared.order_fault.OrderFault.TheVariants.{Cycle, Memory, SentTwice, Unsent}
use Rattle.hlc_log.specs.CausalOrder.{IsCausalOrder, IsEarlierOf, place_at}
use Rattle.hlc_log.specs.Events.{event_at, own_rule}
use Rattle.hlc_log.specs.Laws.{CausalOrdersAgree, FaultsLeaveNoOrder, ReorderedLogsAgree}
use Rattle.hlc_log.specs.Messages.{EachIsSentOnce, SendsTo}
use Rattle.hlc_log.specs.OrderSkeleton.{index_in, rules_in, skeleton_in}
use Rattle.hlc_log.specs.Reordering.{IsReorderedLog, IsReordering, KeepsEvents, KeepsLog}
use Rattle.hlc_log.proofs.OrderSkeletons.{earlier_from_order, earlier_in_order, index_of_place, length-skeleton_in, own_in, place_exists, place_of_index, reading_in, send_from_order, send_in_order, sends_are_named}
use Rattle.hlc_causality.specs.ReceiveEvents.{clock_events, own_at}
use Rattle.hlc_causality.proofs.ClockEvents.{skeleton_size}
use Rattle.hlc_causality.proofs.ReceiveEvents.{clock_events_size}
use Rattle.hlc_log.proofs.ClockReorderings.{clock_reordering_keeps_least, rules_are_reordered}

pub faults_leave_no_order : FaultsLeaveNoOrder
faults_leave_no_order events (SentTwice e) h other sound order causal = sound.once e.0 h.has
faults_leave_no_order events (Unsent e) h other sound order causal = sound.sent e.0 h.1.has
faults_leave_no_order events (Cycle e) h other sound order causal =
    let waits = h.1.has in waits.never order causal.causal (causal.all e.0 waits.exists)
faults_leave_no_order events Memory h other sound order causal = other refl

-- a map between logs is one between their skeletons in causal orders
module _ (events others : List LogEvent) (to : ℕ → ℕ) (keeps : KeepsLog events others to) (other_once : EachIsSentOnce others)
    (a b : List ℕ) (a_whole : IsCausalOrder events a) (b_whole : IsCausalOrder others b) where
  -- where the event at a position stands in the other order
  abbrev pub moved : ℕ → ℕ
  moved i = index_in b (to (place_at a i))

  pub moved_place : (i : ℕ) → i < length a → (moved i < length b) × (place_at b (moved i) ≡ to (place_at a i))
  moved_place i lt = place_of_index others b b_whole (to (place_at a i)) (keeps.exists (place_at a i) (place_exists events a a_whole i lt))

  -- it has the rule of its own that it has here
  pub own_kept : (receives : Receives) (i : ℕ) → i < length a → own_at (rules_in receives others b) (moved i) ≡ own_at (rules_in receives events a) i
  own_kept receives i lt =
      let at = moved_place i lt in
      own_in others b b_whole receives (moved i) at.0 ∙ ap (λ (e : ℕ). own_rule receives (event_at others e)) at.1
      ∙ keeps.rule receives (place_at a i) (place_exists events a a_whole i lt) ∙ sym (own_in events a a_whole receives i lt)

  pub skeleton_kept : KeepsEvents (skeleton_in events a) (skeleton_in others b) moved
  skeleton_kept =
      let size = length-skeleton_in events a a_whole in
      let other_size = length-skeleton_in others b b_whole in
      record {
        exists = λ i lt. let within : i < length a = omega arith in let at = moved_place i within in omega (arith, at.0);
        reading = λ i lt.
            let within : i < length a = omega arith in
            let at = moved_place i within in
            reading_in others b b_whole (moved i) at.0 ∙ ap (λ (e : ℕ). (event_at others e).reading) at.1
            ∙ keeps.reading (place_at a i) (place_exists events a a_whole i within) ∙ sym (reading_in events a a_whole i within);
        at_node = λ i j h.
            let earlier = earlier_in_order events a a_whole i j h in
            let first = moved_place i earlier.0 in
            let second = moved_place j earlier.1 in
            let there = keeps.at_node (place_at a i) (place_at a j) earlier.2 in
            earlier_from_order others b b_whole (moved i) (moved j) first.0 second.0
            (subst (λ (e : ℕ). IsEarlierOf others e (place_at b (moved j))) (sym first.1)
            (subst (IsEarlierOf others (to (place_at a i))) (sym second.1) there));
        send = λ i j h.
            let sends = send_in_order events a a_whole i j h in
            let first = moved_place i sends.0 in
            let second = moved_place j sends.1 in
            let there = keeps.sends (place_at a i) (place_at a j) sends.2 in
            send_from_order others b b_whole other_once (moved i) (moved j) first.0 second.0
            (subst (λ (e : ℕ). SendsTo others e (place_at b (moved j))) (sym first.1)
            (subst (SendsTo others (to (place_at a i))) (sym second.1) there));
      }

-- there and back again
moved_back : (events others : List LogEvent) (to back : ℕ → ℕ) → KeepsLog events others to → ((e : ℕ) → e < length events → back (to e) ≡ e)
    → (a b : List ℕ) → IsCausalOrder events a → IsCausalOrder others b
    → (i : ℕ) → i < length a → index_in a (back (place_at b (index_in b (to (place_at a i))))) ≡ i
moved_back events others to back keeps returns a b a_whole b_whole i lt =
    let exists = place_exists events a a_whole i lt in
    let there = place_of_index others b b_whole (to (place_at a i)) (keeps.exists (place_at a i) exists) in
    ap (λ (e : ℕ). index_in a (back e)) there.1 ∙ ap (index_in a) (returns (place_at a i) exists) ∙ index_of_place events a a_whole i lt

pub skeletons_reordered : (events others : List LogEvent) (to back : ℕ → ℕ) → IsReorderedLog events others to back → EachIsSentOnce events → EachIsSentOnce others
    → (a b : List ℕ) → IsCausalOrder events a → IsCausalOrder others b
    → IsReordering (skeleton_in events a) (skeleton_in others b) (λ i. index_in b (to (place_at a i))) (λ j. index_in a (back (place_at b j)))
skeletons_reordered events others to back h once other_once a b a_whole b_whole =
    let size = length-skeleton_in events a a_whole in
    let other_size = length-skeleton_in others b b_whole in
    record {
      there = skeleton_kept events others to h.there other_once a b a_whole b_whole;
      here = skeleton_kept others events back h.here once b a b_whole a_whole;
      back_here = λ i lt. moved_back events others to back h.there h.back_here a b a_whole b_whole i (omega arith);
      back_there = λ j lt. moved_back others events back to h.here h.back_there b a b_whole a_whole j (omega arith);
    }

pub reordered_logs_agree : ReorderedLogsAgree
reordered_logs_agree receives events others to back h once other_once a b a_whole b_whole pairs other_pairs least other_least i j i_lt j_lt same =
    let size = length-skeleton_in events a a_whole in
    let reordered = skeletons_reordered events others to back h once other_once a b a_whole b_whole in
    let rules = rules_in receives events a in
    let other_rules = rules_in receives others b in
    let clocks = rules_are_reordered rules other_rules (skeleton_in events a) (skeleton_in others b) _ _ reordered
    (sends_are_named events a a_whole) (sends_are_named others b b_whole) refl
    (λ e lt. own_kept events others to h.there other_once a b a_whole b_whole receives e (omega (arith, lt, size))) in
    let exists = skeleton_size (clock_events rules (skeleton_in events a)) ∙ clock_events_size rules (skeleton_in events a) in
    clock_reordering_keeps_least (clock_events rules (skeleton_in events a)) (clock_events other_rules (skeleton_in others b)) _ _ clocks
    pairs other_pairs least other_least i (omega (arith, i_lt, size, exists))
    ∙ ap (λ (k : ℕ). pair_at other_pairs k) (ap (index_in b) same ∙ index_of_place others b b_whole j j_lt)

pub log_kept : (events : List LogEvent) → KeepsLog events events (λ e. e)
log_kept events = record {
  exists = λ e lt. lt;
  reading = λ e lt. refl;
  has_reading = λ e lt. refl;
  has_stamp = λ e lt. refl;
  carried = λ e lt. refl;
  rule = λ receives e lt. refl;
  at_node = λ d e h. h;
  sends = λ d e h. h;
}

pub causal_orders_agree : CausalOrdersAgree
causal_orders_agree receives events once a b a_whole b_whole pairs others least other i j i_lt j_lt same =
    let itself : IsReorderedLog events events (λ e. e) (λ e. e) =
    record { there = log_kept events; here = log_kept events; back_here = λ e lt. refl; back_there = λ e lt. refl } in
    reordered_logs_agree receives events events (λ e. e) (λ e. e) itself once once a b a_whole b_whole pairs others least other i j i_lt j_lt same
