-- Logs with the same events in different orders.
use Rattle.std.proofs.Common.{◌≡◌, ◌∙◌, Bool, true, false, ℕ, ◌<◌, ◌&&◌, ◌==◌, inl, inr, List, length, Option, Some, None, arith, refl, subst, sym, ap}
use Rattle.std.specs.Prelude.{All, count_by, if◌then◌else◌, nat_le, nat_lt, option_map, slice_index_or}
use Rattle.std.proofs.lemmas.List.{ext_get_or}
use Rattle.std.proofs.lemmas.List.Elements.{All-get_or}
use Rattle.std.proofs.lemmas.Bool.{eq-eqb, eqb-true}
use Rattle.std.proofs.lemmas.List.Sums.{length-filter}
use Rattle.hlc_stamp.specs.declared.id.EventId.{EventId}
use Rattle.hlc_stamp.specs.Order.{Pair}
use Rattle.hlc_causality.specs.Causality.{IsSendOf, Skeleton, SkeletonEvent, skeleton_at}
use Rattle.hlc_causality.specs.Neighbours.{is_of_send}
use Rattle.hlc_causality.specs.Places.{places_below}
use Rattle.hlc_verdict.specs.declared.verdict.Verdict.TheVariants as verdict
use Rattle.hlc_causes.specs.declared.answers.Finding.{Finding}
use Rattle.hlc_causes.specs.declared.answers.Finding.TheVariants.{Judged, RolledOver}
use Rattle.hlc_log.specs.declared.log_event.LogEvent.{LogEvent}
use Rattle.hlc_log.specs.CausalOrder.{IsEarlierOf, place_at}
use Rattle.hlc_log.specs.Events.{IsInRange, event_at, no_event, own_rule, with_stamp}
use Rattle.hlc_log.specs.Standing.{StandsBefore}
use Rattle.hlc_log.specs.OrderSkeleton.{index_in, send_place}
use Rattle.hlc_log.specs.Reordering.{IsReordering, KeepsLog}
use Rattle.hlc_log.proofs.OrderSkeletons.{place_of_index, skeleton_in_at}
use Rattle.hlc_log.proofs.StandingEvents.{not_before_itself, stands_either_way, stands_one_way}
use Rattle.hlc_log.proofs.Reorderings.{send_returned}
use Rattle.hlc_ordered_log.specs.Counts.{AreFindings, counts_of, is_ahead, is_behind, is_least, is_low, is_not_above, is_rolled_over}
use Rattle.hlc_ordered_log.specs.InOrder.{AreFilled, IsInOrder, LogInOrder, event_in_order, filled_event, skeleton_of}
use Rattle.hlc_ordered_log.specs.Laws.{CountsAgree, GivenStampsAgree, MessagesAgree, RearrangedLogsTellTheSame, UnitFactorsAgree}
use Rattle.hlc_ordered_log.specs.Messages.{is_received, is_sent, kind_in, message_counts, receives_in}
use Rattle.hlc_ordered_log.specs.Moved.{moved_finding}
use Rattle.hlc_ordered_log.specs.Reordered.{IsRearranged, TellTheSame, moved_position}
use Rattle.hlc_ordered_log.specs.UnitFactor.{are_scaled, is_unscaled, tells_both}
use Rattle.hlc_ordered_log.proofs.EventsInOrder.{length-skeleton_of}
use Rattle.hlc_ordered_log.proofs.Filled.{filled_by, filled_if_told, filled_itself, filled_seq, rule_filled, same_stands}
use Rattle.hlc_ordered_log.proofs.Found.{one_found}
use Rattle.hlc_ordered_log.proofs.GivenStamps.{filled_twice}
use Rattle.hlc_ordered_log.proofs.Ordering.{claimed_at, delivers_earlier, order_len}
use Rattle.hlc_ordered_log.proofs.ReorderedTraces.{moved_there, same_claim, skeletons_moved}
use Rattle.hlc_ordered_log.proofs.SeenTraces.{findings_agree}
use Rattle.hlc_ordered_log.proofs.SamePlaces.{count_list_moved, count_moved}

-- a map that keeps each event as it is, but for a stamp that isn't told
module _ (events others : List LogEvent) (to : ℕ → ℕ) (there : (e : ℕ) → e < length events → to e < length others)
    (same : (e : ℕ) → e < length events → event_at others (to e) ≡ filled_event (event_at events e) (event_at others (to e)).stamp) where
  kept : {X : Type 0} (f : LogEvent → X) → ((event : LogEvent) (stamp : Pair) → f (with_stamp stamp event) ≡ f event) → (e : ℕ) → e < length events
      → f (event_at others (to e)) ≡ f (event_at events e)
  kept f blind e lt =
      let event = event_at events e in
      let stamp = (event_at others (to e)).stamp in
      ap f (same e lt) ∙ filled_by f event stamp event.has_stamp (blind event stamp)

  keeps_log : All IsInRange events → ((d e : ℕ) → IsEarlierOf events d e → StandsBefore others (to d) (to e)) → KeepsLog events others to
  keeps_log ranges at_node = record {
    exists = there;
    reading = kept (λ x. x.reading) (λ event stamp. refl);
    has_reading = kept (λ x. x.has_reading) (λ event stamp. refl);
    has_stamp = kept (λ x. x.has_stamp) (λ event stamp. refl);
    carried = kept (λ x. x.carried) (λ event stamp. refl);
    rule = λ receives e lt.
        ap (own_rule receives) (same e lt)
        ∙ rule_filled receives (event_at events e) (event_at others (to e)).stamp (All-get_or IsInRange events e no_event lt ranges).told;
    at_node = λ d e h.
        record {
          before = at_node d e h;
          first_exists = there d h.first_exists;
          exists = there e h.exists;
          same_node =
              kept (λ x. x.node.0) (λ event stamp. refl) d h.first_exists ∙ h.same_node ∙ sym (kept (λ x. x.node.0) (λ event stamp. refl) e h.exists);
        };
    sends = λ d e h. (
      h.0,
      record { exists = there d h.1.exists; kind = kept (λ x. x.kind) (λ event stamp. refl) d h.1.exists ∙ h.1.kind },
      record { exists = there e h.2.exists; kind = kept (λ x. x.kind) (λ event stamp. refl) e h.2.exists ∙ h.2.kind },
    );
  }

-- each of two events is the other one but for a stamp that isn't told
filled_back : (event other : LogEvent) → other ≡ filled_event event other.stamp → event ≡ filled_event other event.stamp
filled_back event other is =
    sym (ap (λ (x : LogEvent). filled_event x event.stamp) is ∙ filled_twice event other.stamp event.stamp ∙ filled_itself event)

module _ (log other : LogInOrder) (to back : ℕ → ℕ) (h : IsRearranged log other to back) where
  same_back : (f : ℕ) → f < length other.events → event_at log.events (back f) ≡ filled_event (event_at other.events f) (event_at log.events (back f)).stamp
  same_back f lt =
      filled_back (event_at log.events (back f)) (event_at other.events f)
      (subst (λ (e : ℕ). event_at other.events e ≡ filled_event (event_at log.events (back f)) (event_at other.events e).stamp) (h.back_there f lt)
      (h.same (back f) (h.here f lt)))

  node_back : (f : ℕ) → f < length other.events → (event_at log.events (back f)).node.0 ≡ (event_at other.events f).node.0
  node_back = kept other.events log.events back h.here same_back (λ x. x.node.0) (λ event stamp. refl)

  earlier_back : (d e : ℕ) → IsEarlierOf other.events d e → StandsBefore log.events (back d) (back e)
  earlier_back d e is =
      let d_lt = is.first_exists in
      let e_lt = is.exists in
      let d_back = h.back_there d d_lt in
      let e_back = h.back_there e e_lt in
      elim (stands_either_way log.events (back d) (back e) (λ same. not_before_itself other.events d e (sym d_back ∙ ap to same ∙ e_back) is.before)) [
        | inl before ↦ before
        | inr after ↦
            let turned : IsEarlierOf log.events (back e) (back d) = record {
              before = after;
              first_exists = h.here e e_lt;
              exists = h.here d d_lt;
              same_node = node_back e e_lt ∙ sym is.same_node ∙ sym (node_back d d_lt);
            } in
            let later = subst (λ (x : ℕ). StandsBefore other.events x d) e_back (subst (StandsBefore other.events (to (back e))) d_back (h.at_node (back e) (back d) turned)) in
            absurd (stands_one_way other.events d e is.before later)
      ]

  pub tell_the_same : TellTheSame log other to back
  tell_the_same = record {
    receives = h.receives;
    ordered = h.ordered;
    other_ordered = h.other_ordered;
    events = record {
      there = keeps_log log.events other.events to h.there h.same h.ordered.in_range h.at_node;
      here = keeps_log other.events log.events back h.here same_back h.other_ordered.in_range earlier_back;
      back_here = h.back_here;
      back_there = h.back_there;
    };
    claims = λ e lt told.
        ap (λ (x : LogEvent). x.stamp) (h.same e lt ∙ filled_if_told (event_at log.events e) (event_at other.events (to e)).stamp told);
  }

  abbrev pub moved : ℕ → ℕ
  moved = moved_position log other to

  abbrev pub moved_back : ℕ → ℕ
  moved_back = moved_position other log back

  pub reordered : IsReordering (skeleton_of log) (skeleton_of other) moved moved_back
  reordered = skeletons_moved log other to back tell_the_same

  abbrev pub seen_size : ℕ
  seen_size = length (skeleton_of log)

  pub same_size : length (skeleton_of other) ≡ seen_size
  same_size = length-skeleton_of other h.other_ordered ∙ h.size ∙ sym (length-skeleton_of log h.ordered)

  pub in_the_order : (k : ℕ) → k < seen_size → k < length log.order
  in_the_order k lt =
      let size = length-skeleton_of log h.ordered in
      let places = order_len log.events log.order h.ordered.causal in
      omega arith

  pub moved_exists : (k : ℕ) → k < seen_size → moved k < seen_size
  moved_exists k lt = let there = reordered.there.exists k lt in let size = same_size in omega arith

  -- so each event has its stamp, too: one that isn't told was given as it is here
  pub event_moved : (k : ℕ) → k < seen_size → event_in_order other.events other.order (moved k) ≡ event_in_order log.events log.order k
  event_moved k lt =
      let within = in_the_order k lt in
      let there = moved_there log other to back tell_the_same k within in
      let event = event_in_order log.events log.order k in
      let stamps : (event_at other.events (to (place_at log.order k))).stamp ≡ event.stamp =
      ap (λ (e : ℕ). (event_at other.events e).stamp) (sym there.1) ∙ sym (claimed_at other.events other.order (moved k) there.0)
      ∙ sym (same_claim log other to back tell_the_same k within) ∙ claimed_at log.events log.order k within in
      ap (event_at other.events) there.1
      ∙ h.same (place_at log.order k) (h.ordered.causal.causal k within).exists
      ∙ ap (filled_event event) stamps ∙ filled_itself event

  pub event_same : (e : ℕ) → e < length log.events → event_at other.events (to e) ≡ event_at log.events e
  event_same e lt =
      let at = place_of_index log.events log.order h.ordered.causal e lt in
      let k = index_in log.order e in
      let size = length-skeleton_of log h.ordered in
      let places = order_len log.events log.order h.ordered.causal in
      let within = at.0 in
      let there = moved_there log other to back tell_the_same k within in
      ap (event_at other.events) (ap to (sym at.1) ∙ sym there.1) ∙ event_moved k (omega arith) ∙ ap (event_at log.events) at.1

pub rearranged_logs_tell_the_same : RearrangedLogsTellTheSame
rearranged_logs_tell_the_same log other to back h = tell_the_same log other to back h

-- two causal orders of one log
pub one_log : (log other : LogInOrder) → other.receives ≡ log.receives → IsInOrder log → IsInOrder other → other.events ≡ log.events → IsRearranged log other (λ e. e) (λ e. e)
one_log log other receives ordered other_ordered same =
    let size : length other.events ≡ length log.events = ap (λ (events : List LogEvent). length events) same in
    record {
      receives = receives;
      ordered = ordered;
      other_ordered = other_ordered;
      size = size;
      there = λ e lt. omega arith;
      here = λ f lt. omega arith;
      back_here = λ e lt. refl;
      back_there = λ f lt. refl;
      same = λ e lt.
          let event = event_at log.events e in
          let here : event_at other.events e ≡ event = ap (λ (events : List LogEvent). event_at events e) same in
          here ∙ sym (ap (λ (x : LogEvent). filled_event event x.stamp) here ∙ filled_itself event);
      at_node = λ d e earlier. subst (λ (events : List LogEvent). StandsBefore events d e) (sym same) earlier.before;
    }

-- two fillings of the same events
pub filled_logs : (events : List LogEvent) (log other : LogInOrder) → other.receives ≡ log.receives → IsInOrder log → IsInOrder other
    → AreFilled events log.events → AreFilled events other.events → IsRearranged log other (λ e. e) (λ e. e)
filled_logs events log other receives ordered other_ordered are others_are =
    let size = are.one_each in
    let other_size = others_are.one_each in
    record {
      receives = receives;
      ordered = ordered;
      other_ordered = other_ordered;
      size = omega arith;
      there = λ e lt. omega arith;
      here = λ f lt. omega arith;
      back_here = λ e lt. refl;
      back_there = λ f lt. refl;
      same = λ e lt.
          let within : e < length events = omega arith in
          let stamp = (event_at other.events e).stamp in
          others_are.each e within
          ∙ sym (ap (λ (x : LogEvent). filled_event x stamp) (are.each e within) ∙ filled_twice (event_at events e) (event_at log.events e).stamp stamp);
      at_node = λ d e earlier. same_stands log.events other.events d e
          (λ k. filled_seq events log.events are k ∙ sym (filled_seq events other.events others_are k)) earlier.before;
    }

pub given_stamps_agree : GivenStampsAgree
given_stamps_agree events log other receives ordered other_ordered are others_are =
    let h = filled_logs events log other receives ordered other_ordered are others_are in
    let size = h.size in
    ext_get_or no_event other.events log.events size (λ e lt. event_same log other (λ e. e) (λ e. e) h e (omega arith))

-- a test that doesn't look at the event that is named
blind : (p : Option Finding → Bool) → ((d e : EventId) → p (Some (Judged (verdict.NotAbove d))) ≡ p (Some (Judged (verdict.NotAbove e)))) → (to : ℕ → ℕ)
    (f : Option Finding) → p (option_map (moved_finding to) f) ≡ p f
blind p same to None = refl
blind p same to (Some RolledOver) = refl
blind p same to (Some (Judged verdict.Behind)) = refl
blind p same to (Some (Judged (verdict.NotAbove d))) = same _ d
blind p same to (Some (Judged (verdict.Low x))) = refl
blind p same to (Some (Judged verdict.Least)) = refl
blind p same to (Some (Judged (verdict.Ahead x))) = refl

module _ (log other : LogInOrder) (to back : ℕ → ℕ) (h : IsRearranged log other to back) (full : ℕ) (findings others : List (Option Finding))
    (are : AreFindings log full (length log.order) findings) (others_are : AreFindings other full (length other.order) others) where
  places_size : length log.order ≡ length (skeleton_of log)
  places_size = order_len log.events log.order h.ordered.causal ∙ sym (length-skeleton_of log h.ordered)

  other_places_size : length other.order ≡ length (skeleton_of other)
  other_places_size = order_len other.events other.order h.other_ordered.causal ∙ sym (length-skeleton_of other h.other_ordered)

  finding_moved : (k : ℕ) → k < length (skeleton_of log)
      → slice_index_or others (moved log other to back h k) None ≡ option_map (moved_finding (moved log other to back h)) (slice_index_or findings k None)
  finding_moved k lt =
      let size = same_size log other to back h in
      let there = moved_exists log other to back h k lt in
      let to_there = moved log other to back h in
      one_found other full (to_there k) (slice_index_or others (to_there k) None) (option_map (moved_finding to_there) (slice_index_or findings k None))
      (others_are.each (to_there k) (omega (arith, size, there, other_places_size)))
      (findings_agree log other to back (tell_the_same log other to back h) full k (slice_index_or findings k None)
      (in_the_order log other to back h k lt) (are.each k (omega (arith, lt, places_size))))

  count_kept : (p : Option Finding → Bool) → ((d e : EventId) → p (Some (Judged (verdict.NotAbove d))) ≡ p (Some (Judged (verdict.NotAbove e))))
      → count_by p others ≡ count_by p findings
  count_kept p same =
      let to_there = moved log other to back h in
      count_list_moved p None (length (skeleton_of log)) to_there (moved_back log other to back h) (moved_exists log other to back h)
      (reordered log other to back h).back_here findings others (are.one_each ∙ places_size)
      (others_are.one_each ∙ other_places_size ∙ same_size log other to back h)
      (λ k lt. ap p (finding_moved k lt) ∙ blind p same to_there (slice_index_or findings k None))

  same_counts : counts_of others ≡ counts_of findings
  same_counts =
      let behind = count_kept is_behind (λ d e. refl) in
      let not_above = count_kept is_not_above (λ d e. refl) in
      let low = count_kept is_low (λ d e. refl) in
      let least = count_kept is_least (λ d e. refl) in
      let ahead = count_kept is_ahead (λ d e. refl) in
      let rolled_over = count_kept is_rolled_over (λ d e. refl) in
      λ i. record { behind = behind i; not_above = not_above i; low = low i; least = least i; ahead = ahead i; rolled_over = rolled_over i }

pub counts_agree : CountsAgree
counts_agree log other to back h full counts others (findings, are, is) (other_findings, others_are, others_is) =
    others_is ∙ same_counts log other to back h full findings other_findings are others_are ∙ sym is

-- messages
pub same_tests : (a b : Bool) → (a ≡ true → b ≡ true) → (b ≡ true → a ≡ true) → b ≡ a
same_tests true b there here = there refl
same_tests false true there here = sym (here refl)
same_tests false false there here = refl

of_send : (k : ℕ) (o : Option ℕ) → is_of_send k o ≡ true → o ≡ Some k
of_send k None is = absurd cc
of_send k (Some e) is = ap (λ (x : ℕ). Some x) (eqb-true e k is)

module _ (log : LogInOrder) (ordered : IsInOrder log) where
  delivers : (k f : ℕ) → f < length (skeleton_of log) → is_of_send k (skeleton_at (skeleton_of log) f).send ≡ true → IsSendOf (skeleton_of log) k f
  delivers k f exists test =
      let size = length-skeleton_of log ordered in
      let places = order_len log.events log.order ordered.causal in
      let within : f < length log.order = omega arith in
      let is = of_send k (skeleton_at (skeleton_of log) f).send test in
      record {
        earlier =
            delivers_earlier log.events log.order ordered.causal k f within (send_place log.events (event_in_order log.events log.order f).kind) refl
            (sym (ap (λ (x : SkeletonEvent). x.send) (skeleton_in_at log.events log.order ordered.causal f within)) ∙ is);
        exists = exists;
        delivers = is;
      }

is_delivered : (s : Skeleton) (k f : ℕ) → IsSendOf s k f → is_of_send k (skeleton_at s f).send ≡ true
is_delivered s k f send = ap (is_of_send k) send.delivers ∙ eq-eqb k k refl

module _ (log other : LogInOrder) (to back : ℕ → ℕ) (h : IsRearranged log other to back) where
  abbrev to_there : ℕ → ℕ
  to_there = moved log other to back h

  abbrev to_here : ℕ → ℕ
  to_here = moved_back log other to back h

  delivery_moved : (k f : ℕ) → k < length (skeleton_of log) → f < length (skeleton_of log)
      → is_of_send (to_there k) (skeleton_at (skeleton_of other) (to_there f)).send ≡ is_of_send k (skeleton_at (skeleton_of log) f).send
  delivery_moved k f k_lt f_lt =
      let s = skeleton_of log in
      let t = skeleton_of other in
      let kept = reordered log other to back h in
      same_tests (is_of_send k (skeleton_at s f).send) (is_of_send (to_there k) (skeleton_at t (to_there f)).send)
      (λ test. is_delivered t (to_there k) (to_there f) (kept.there.send k f (delivers log h.ordered k f f_lt test)))
      (λ test.
      is_delivered s k f (subst (λ (x : ℕ). IsSendOf s x f) (kept.back_here k k_lt)
      (send_returned s t to_there to_here kept f f_lt (to_there k)
      (delivers other h.other_ordered (to_there k) (to_there f) (kept.there.exists f f_lt) test))))

  receives_moved : (k : ℕ) → k < length (skeleton_of log) → receives_in other (to_there k) ≡ receives_in log k
  receives_moved k lt =
      let s = skeleton_of log in
      let t = skeleton_of other in
      let p : ℕ → Bool = λ f. is_of_send k (skeleton_at s f).send in
      let q : ℕ → Bool = λ f. is_of_send (to_there k) (skeleton_at t f).send in
      length-filter q (places_below (length t))
      ∙ ap (λ (n : ℕ). count_by q (places_below n)) (same_size log other to back h)
      ∙ count_moved (length s) to_there to_here (moved_exists log other to back h) (reordered log other to back h).back_here p q
      (λ f f_lt. delivery_moved k f lt f_lt)
      ∙ sym (length-filter p (places_below (length s)))

  count_there : (p q : ℕ → Bool) → ((k : ℕ) → k < length (skeleton_of log) → q (to_there k) ≡ p k)
      → count_by q (places_below (length other.events)) ≡ count_by p (places_below (length log.events))
  count_there p q same =
      let size = length-skeleton_of log h.ordered in
      ap (λ (n : ℕ). count_by q (places_below n)) (h.size ∙ sym size)
      ∙ count_moved (length (skeleton_of log)) to_there to_here (moved_exists log other to back h) (reordered log other to back h).back_here p q same
      ∙ ap (λ (n : ℕ). count_by p (places_below n)) size

  sent_moved : (k : ℕ) → k < length (skeleton_of log) → is_sent (kind_in other (to_there k)) ≡ is_sent (kind_in log k)
  sent_moved k lt = ap (λ (x : LogEvent). is_sent x.kind) (event_moved log other to back h k lt)

  same_messages : message_counts other ≡ message_counts log
  same_messages =
      let sent = count_there (λ k. is_sent (kind_in log k)) (λ k. is_sent (kind_in other k)) sent_moved in
      let received =
      count_there (λ k. is_received (kind_in log k)) (λ k. is_received (kind_in other k))
      (λ k lt. ap (λ (x : LogEvent). is_received x.kind) (event_moved log other to back h k lt)) in
      let repeated =
      count_there (λ k. is_sent (kind_in log k) && nat_le 2 (receives_in log k)) (λ k. is_sent (kind_in other k) && nat_le 2 (receives_in other k))
      (λ k lt. ap (λ (b : Bool). b && nat_le 2 (receives_in other (to_there k))) (sent_moved k lt)
      ∙ ap (λ (n : ℕ). is_sent (kind_in log k) && nat_le 2 n) (receives_moved k lt)) in
      let unreceived =
      count_there (λ k. is_sent (kind_in log k) && (receives_in log k == 0)) (λ k. is_sent (kind_in other k) && (receives_in other k == 0))
      (λ k lt. ap (λ (b : Bool). b && (receives_in other (to_there k) == 0)) (sent_moved k lt)
      ∙ ap (λ (n : ℕ). is_sent (kind_in log k) && (n == 0)) (receives_moved k lt)) in
      λ i. record { sent = sent i; received = received i; repeated = repeated i; unreceived = unreceived i }

pub messages_agree : MessagesAgree
messages_agree log other to back h = same_messages log other to back h

-- units
module _ (log other : LogInOrder) (to back : ℕ → ℕ) (h : IsRearranged log other to back) where
  same_count : (test : LogEvent → Bool) → count_by test other.events ≡ count_by test log.events
  same_count test =
      let size = h.size in
      count_list_moved test no_event (length log.events) to back (λ e lt. let there = h.there e lt in omega arith) h.back_here log.events other.events refl size
      (λ e lt. ap test (event_same log other to back h e lt))

  same_scaled : (factor : ℕ) → are_scaled factor other.events ≡ are_scaled factor log.events
  same_scaled factor =
      let told = same_count tells_both in
      let unscaled = same_count (is_unscaled factor) in
      λ i. nat_lt 0 (told i) && (unscaled i == 0)

pub unit_factors_agree : UnitFactorsAgree
unit_factors_agree log other to back h =
    let thousand = same_scaled log other to back h 1000 in
    let million = same_scaled log other to back h 1000000 in
    let billion = same_scaled log other to back h 1000000000 in
    λ i. if thousand i then Some 1000 else if million i then Some 1000000 else if billion i then Some 1000000000 else None
