-- A log in the order in which its events stand, and its causal orders.
use Rattle.std.proofs.Common.{◌≡◌, ◌≢◌, ℕ, ◌<◌, ◌≤◌, ◌==◌, inl, inr, List, length, map, arith, refl, subst, sym, ap, ◌∙◌}
use Rattle.std.specs.Prelude.{All, Contains}
use Rattle.std.proofs.lemmas.Bool.{cases_order, eq-eqb, ne_eqb}
use Rattle.std.proofs.lemmas.List.{get_or-map, length-map}
use Rattle.std.proofs.lemmas.List.Sums.{position_or_len_is}
use Rattle.hlc_stamp.specs.declared.id.EventId.{EventId}
use Rattle.hlc_log.specs.declared.log_event.LogEvent.{LogEvent}
use Rattle.hlc_log.specs.declared.order_fault.OrderFault.{OrderFault}
use Rattle.hlc_log.specs.declared.order_fault.OrderFault.TheVariants.{Cycle, Memory, SentTwice, Unsent}
use Rattle.hlc_log.specs.CausalOrder.{IsCausalOrder, IsCausalPrefix, IsEarlierOf, Needs, Waits, place_at}
use Rattle.hlc_log.specs.Events.{IsNumbered, event_at, no_event, own_rule}
use Rattle.hlc_log.specs.Faults.{IsFaultOf, StandsFirst}
use Rattle.hlc_log.specs.Messages.{AreMessagesSound, ReceivesUnsent, Sends, SendsAgain, SendsTo}
use Rattle.hlc_log.specs.OrderSkeleton.{index_in}
use Rattle.hlc_log.specs.Parted.{IsGreatestPrefix}
use Rattle.hlc_log.specs.Reordering.{IsReorderedLog, KeepsLog}
use Rattle.hlc_log.specs.Standing.{SeqsRise, StandsBefore, seq_at}
use Rattle.hlc_log.specs.StandingOrder.{IsStandingOrder, arranged}
use Rattle.hlc_log.proofs.CarriedOrders.{CarriesOrders, contained_by_map, prefix_carried}
use Rattle.hlc_log.proofs.CausalOrders.{contained_exists, place_in_order}
use Rattle.hlc_log.proofs.CopiedLogs.{arranged_all}
use Rattle.hlc_log.proofs.StandingEvents.{not_before_itself, place_stands, stands_one_way}

-- the same record, from there to here
pub turned : (events others : List LogEvent) (to back : ℕ → ℕ) → IsReorderedLog events others to back → IsReorderedLog others events back to
turned events others to back h = record { there = h.here; here = h.there; back_here = h.back_there; back_there = h.back_here }

-- causal orders of a log are ones of its reordering
module _ (events others : List LogEvent) (to back : ℕ → ℕ) (h : IsReorderedLog events others to back) where
  needed_there : (f g : ℕ) → f < length events → Needs others (to f) g → (g < length others) × Needs events f (back g)
  needed_there f g lt (inl earlier) =
      (earlier.first_exists, inl (subst (IsEarlierOf events (back g)) (h.back_here f lt) (h.here.at_node g (to f) earlier)))
  needed_there f g lt (inr sends) = (sends.1.exists, inr (subst (SendsTo events (back g)) (h.back_here f lt) (h.here.sends g (to f) sends)))

  carried : CarriesOrders events others to back (λ e. e < length events)
  carried = record {
    exists = h.there.exists;
    returns = h.back_here;
    needed = λ f g lt needs. let here = needed_there f g lt needs in (here.1, h.back_there g here.0);
  }

  pub prefix_moved : (order : List ℕ) → IsCausalPrefix events order → IsCausalPrefix others (map to order)
  prefix_moved order causal = prefix_carried events others to back (λ e. e < length events) carried order (contained_exists events order causal) causal

  pub order_moved : (order : List ℕ) → IsCausalOrder events order → IsCausalOrder others (map to order)
  order_moved order whole = record {
    causal = prefix_moved order whole.causal;
    all = λ g lt.
        subst (Contains (map to order)) (h.back_there g lt) (contained_by_map to order (back g) (whole.all (back g) (h.here.exists g lt)));
  }

pub waits_moved : (events others : List LogEvent) (to back : ℕ → ℕ) → IsReorderedLog events others to back → (e : ℕ) → Waits events e → Waits others (to e)
waits_moved events others to back h e waits = record {
  exists = h.there.exists e waits.exists;
  never = λ order causal inside.
      waits.never (map back order) (prefix_moved others events back to (turned events others to back h) order causal)
      (subst (Contains (map back order)) (h.back_here e waits.exists) (contained_by_map back order (to e) inside));
}

module _ (events : List LogEvent) (places : List ℕ) (h : IsStandingOrder events places) where
  abbrev pub there : List LogEvent
  there = arranged events places

  abbrev pub back : ℕ → ℕ
  back e = index_in places e

  pub arranged_size : length (arranged events places) ≡ length events
  arranged_size = length-map places (event_at events) ∙ h.one_each

  pub event_there : (k : ℕ) → k < length events → event_at (arranged events places) k ≡ event_at events (place_at places k)
  event_there k lt = get_or-map (event_at events) places k 0 no_event (omega (arith, lt, h.one_each))

  listed_exists : (k : ℕ) → k < length events → place_at places k < length events
  listed_exists k lt = h.exist k (omega (arith, lt, h.one_each))

  differ : (j k : ℕ) → j < k → k < length places → place_at places j ≢ place_at places k
  differ j k lt within same = not_before_itself events (place_at places j) (place_at places k) same (h.stand j k lt within)

  pub index_of_listed : (k : ℕ) → k < length events → back (place_at places k) ≡ k
  index_of_listed k lt =
      let within : k < length places = omega (arith, lt, h.one_each) in
      position_or_len_is (λ (place : ℕ). place == place_at places k) places k 0 (omega arith)
      (λ j before. ne_eqb (place_at places j) (place_at places k) (differ j k before within))
      (λ _. eq-eqb (place_at places k) (place_at places k) refl)

  pub listed_of_index : (e : ℕ) → e < length events → (back e < length events) × (place_at places (back e) ≡ e)
  listed_of_index e lt =
      let at = place_in_order events places e (h.all e lt) in
      let within : at.0 < length events = omega (arith, at.1, h.one_each) in
      let index : back e ≡ at.0 = ap back (sym at.2) ∙ index_of_listed at.0 within in
      (omega arith, ap (place_at places) index ∙ at.2)

  event_back : (e : ℕ) → e < length events → event_at (arranged events places) (back e) ≡ event_at events e
  event_back e lt = let at = listed_of_index e lt in event_there (back e) at.0 ∙ ap (event_at events) at.1

  seq_there : (k : ℕ) → k < length events → seq_at (arranged events places) k ≡ seq_at events (place_at places k)
  seq_there k lt = ap (λ (x : LogEvent). x.seq) (event_there k lt)

  pub arranged_rises : SeqsRise (arranged events places)
  arranged_rises e f lt exists =
      let size = arranged_size in
      let first = seq_there e (omega arith) in
      let second = seq_there f (omega arith) in
      let le : seq_at events (place_at places e) ≤ seq_at events (place_at places f) =
      elim (h.stand e f lt (omega (arith, exists, h.one_each))) [ inl below ↦ omega arith | inr level ↦ omega (arith, level.0) ] in
      omega arith

  -- what is before in the one is before in the other
  stands_there : (d e : ℕ) → d < length events → e < length events → StandsBefore (arranged events places) d e
      → StandsBefore events (place_at places d) (place_at places e)
  stands_there d e d_lt e_lt (inl below) = let first = seq_there d d_lt in let second = seq_there e e_lt in inl (omega arith)
  stands_there d e d_lt e_lt (inr level) = h.stand d e level.1 (omega (arith, e_lt, h.one_each))

  stands_back : (d e : ℕ) → d < length events → e < length events → StandsBefore events d e → StandsBefore (arranged events places) (back d) (back e)
  stands_back d e d_lt e_lt before =
      let first = listed_of_index d d_lt in
      let second = listed_of_index e e_lt in
      let size = arranged_size in
      elim (cases_order (back d) (back e)) [
        | inl same ↦ absurd (not_before_itself events d e (sym first.1 ∙ ap (place_at places) same ∙ second.1) before)
        | inr other ↦ elim other [
          | inl lt ↦ place_stands (arranged events places) arranged_rises (back d) (back e) lt (omega (arith, second.0, size))
          | inr gt ↦
              let turned : StandsBefore events (place_at places (back e)) (place_at places (back d)) =
              h.stand (back e) (back d) gt (omega (arith, first.0, h.one_each)) in
              let bad : StandsBefore events e d =
              subst (λ (x : ℕ). StandsBefore events x d) second.1 (subst (StandsBefore events (place_at places (back e))) first.1 turned) in
              absurd (stands_one_way events d e before bad)
        ]
      ]

  -- a map that keeps each event keeps the log
  keeps_by : (from into : List LogEvent) (to : ℕ → ℕ) → ((e : ℕ) → e < length from → to e < length into)
      → ((e : ℕ) → e < length from → event_at into (to e) ≡ event_at from e)
      → ((d e : ℕ) → d < length from → e < length from → StandsBefore from d e → StandsBefore into (to d) (to e)) → KeepsLog from into to
  keeps_by from into to exist same stand = record {
    exists = exist;
    reading = λ e lt. ap (λ (x : LogEvent). x.reading) (same e lt);
    has_reading = λ e lt. ap (λ (x : LogEvent). x.has_reading) (same e lt);
    has_stamp = λ e lt. ap (λ (x : LogEvent). x.has_stamp) (same e lt);
    carried = λ e lt. ap (λ (x : LogEvent). x.carried) (same e lt);
    rule = λ receives e lt. ap (own_rule receives) (same e lt);
    at_node = λ d e earlier. record {
      before = stand d e earlier.first_exists earlier.exists earlier.before;
      first_exists = exist d earlier.first_exists;
      exists = exist e earlier.exists;
      same_node =
          ap (λ (x : LogEvent). x.node.0) (same d earlier.first_exists) ∙ earlier.same_node ∙ sym (ap (λ (x : LogEvent). x.node.0) (same e earlier.exists));
    };
    sends = λ d e (m, sends, receives). (
      m,
      record { exists = exist d sends.exists; kind = ap (λ (x : LogEvent). x.kind) (same d sends.exists) ∙ sends.kind },
      record { exists = exist e receives.exists; kind = ap (λ (x : LogEvent). x.kind) (same e receives.exists) ∙ receives.kind },
    );
  }

  pub arranged_reorders : IsReorderedLog (arranged events places) events (place_at places) back
  arranged_reorders =
      let size = arranged_size in
      record {
        there = keeps_by (arranged events places) events (place_at places)
            (λ k lt. listed_exists k (omega arith))
            (λ k lt. sym (event_there k (omega arith)))
            (λ d e d_lt e_lt. stands_there d e (omega arith) (omega arith));
        here = keeps_by events (arranged events places) back
            (λ e lt. omega (arith, (listed_of_index e lt).0))
            (λ e lt. event_back e lt)
            (λ d e d_lt e_lt. stands_back d e d_lt e_lt);
        back_here = λ k lt. index_of_listed k (omega arith);
        back_there = λ e lt. (listed_of_index e lt).1;
      }

  pub arranged_order : (order : List ℕ) → IsCausalOrder (arranged events places) order → IsCausalOrder events (map (place_at places) order)
  arranged_order = order_moved (arranged events places) events (place_at places) back arranged_reorders

  pub arranged_numbered : (messages : ℕ) → All (IsNumbered messages) events → All (IsNumbered messages) (arranged events places)
  arranged_numbered messages numbered = arranged_all (IsNumbered messages) events places h.exist numbered

  -- messages stay sound
  sends_there : (k m : ℕ) → Sends (arranged events places) k m → (k < length events) × Sends events (place_at places k) m
  sends_there k m sends =
      let size = arranged_size in
      let within : k < length events = omega (arith, sends.exists) in
      (within, record { exists = listed_exists k within; kind = sym (ap (λ (x : LogEvent). x.kind) (event_there k within)) ∙ sends.kind })

  sends_back : (e m : ℕ) → Sends events e m → Sends (arranged events places) (back e) m
  sends_back e m sends =
      let size = arranged_size in
      record { exists = omega (arith, (listed_of_index e sends.exists).0); kind = ap (λ (x : LogEvent). x.kind) (event_back e sends.exists) ∙ sends.kind }

  sent_again : AreMessagesSound events → (e : ℕ) → ¬ SendsAgain (arranged events places) e
  sent_again sound e (d, m, both) =
      let first = sends_there d m both.first in
      let second = sends_there e m both.second in
      elim (cases_order (place_at places d) (place_at places e)) [
        | inl same ↦ absurd (differ d e both.earlier (omega (arith, second.0, h.one_each)) same)
        | inr other ↦ elim other [
          | inl lt ↦ sound.once (place_at places e) (place_at places d, m, record { earlier = lt; first = first.1; second = second.1 })
          | inr gt ↦ sound.once (place_at places d) (place_at places e, m, record { earlier = gt; first = second.1; second = first.1 })
        ]
      ]

  received_unsent : AreMessagesSound events → (f : ℕ) → ¬ ReceivesUnsent (arranged events places) f
  received_unsent sound f (m, receives, none) =
      let size = arranged_size in
      let within : f < length events = omega (arith, receives.exists) in
      sound.sent (place_at places f) (
        m,
        record { exists = listed_exists f within; kind = sym (ap (λ (x : LogEvent). x.kind) (event_there f within)) ∙ receives.kind },
        λ e sends. none (back e) (sends_back e m sends),
      )

  pub arranged_sound : AreMessagesSound events → AreMessagesSound (arranged events places)
  arranged_sound sound = record { once = sent_again sound; sent = received_unsent sound }

  -- an order that has a place there for each event that has one has it here
  pub arranged_greatest : (order : List ℕ) → IsGreatestPrefix (arranged events places) order → IsGreatestPrefix events (map (place_at places) order)
  arranged_greatest order greatest = record {
    causal = prefix_moved (arranged events places) events (place_at places) back arranged_reorders order greatest.causal;
    others = λ e exists none.
        let size = arranged_size in
        let at = listed_of_index e exists in
        let waits = greatest.others (back e) (omega (arith, at.0)) (λ inside.
        none (subst (Contains (map (place_at places) order)) at.1 (contained_by_map (place_at places) order (back e) inside))) in
        subst (Waits events) at.1 (waits_moved (arranged events places) events (place_at places) back arranged_reorders (back e) waits);
  }

  -- the first that waits there is the first that does
  pub arranged_first : (first : ℕ) → StandsFirst (arranged events places) (Waits (arranged events places)) first
      → StandsFirst events (Waits events) (place_at places first)
  arranged_first first is =
      let size = arranged_size in
      let exists : first < length events = omega (arith, is.has.exists) in
      record {
        has = waits_moved (arranged events places) events (place_at places) back arranged_reorders first is.has;
        first = λ d before waits.
            let waits_there = waits_moved events (arranged events places) back (place_at places)
            (turned (arranged events places) events (place_at places) back arranged_reorders) d waits in
            is.first (back d)
            (subst (StandsBefore (arranged events places) (back d)) (index_of_listed first exists)
            (stands_back d (place_at places first) waits.exists (listed_exists first exists) before))
            waits_there;
      }

  -- no other fault is found there
  pub arranged_fault : AreMessagesSound events → (fault : OrderFault) → IsFaultOf (arranged events places) fault
      → ((first : EventId) → ¬ (fault ≡ Cycle first)) → IsFaultOf events fault
  arranged_fault sound (SentTwice e) is other = absurd (sent_again sound e.0 is.has)
  arranged_fault sound (Unsent e) is other = absurd (received_unsent sound e.0 is.1.has)
  arranged_fault sound (Cycle e) is other = absurd (other e refl)
  arranged_fault sound Memory is other = tt
