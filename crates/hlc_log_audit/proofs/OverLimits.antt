-- What of a node's claims is over a limit, event by event.
use Rattle.std.proofs.Common.{◌≡◌, ◌≢◌, ◌∙◌, Bool, true, false, if◌then◌else◌, ℕ, ◌+◌, ◌-◌, ◌==◌, ◌<◌, ◌≤◌, inl, inr, List, length, replicate, Option, Some, None, arith, refl, subst, sym, ap}
use Rattle.std.specs.Prelude.{◌&&◌, nat_le, nat_lt, slice_index_or, slice_set, take}
use Rattle.std.proofs.lemmas.Bool.{and_from, and_parts, cases_Bool, cases_eq, cases_order, eq-eqb, le-ltb, leb-false, leb-true, lt-ltb, ne_eqb}
use Rattle.std.proofs.lemmas.List.{get_or-replicate, get_or-set_other, get_or-set_same, length-replicate, length-set, length-take}
use Rattle.std.proofs.lemmas.List.Sums.{count_by-le-length, count_by_more_no, count_by_more_yes}
use Rattle.hlc_stamp.specs.declared.id.EventId.{EventId}
use Rattle.hlc_log.specs.Events.{event_at, no_event}
use Rattle.hlc_log.specs.declared.log_event.LogEvent.{LogEvent}
use Rattle.hlc_log_audit.specs.OverLimit.{AreOversBefore, IsOverAt, IsOverBefore, NamesOverBefore, claimed_ahead, is_over, over_count, with_claim}
use Rattle.hlc_log_audit.specs.declared.over.Over.{Over}

-- two tests, of which one fails
second_fails : (a b : Bool) → b ≡ false → (if a then b else false) ≡ false
second_fails true b fails = fails
second_fails false b fails = refl

first_fails : (a b : Bool) → a ≡ false → (if a then b else false) ≡ false
first_fails a b fails = ap (λ (x : Bool). if x then b else false) fails

both_hold : (a b : Bool) → a ≡ true → b ≡ true → (if a then b else false) ≡ true
both_hold a b first second = ap (λ (x : Bool). if x then b else false) first ∙ second

-- what is over a limit is told
told_above : (told : Bool) (n limit : ℕ) → limit < (if told then n else 0) → (told ≡ true) × (limit < n)
told_above true n limit lt = (refl, lt)
told_above false n limit lt = absurd (omega arith)

pub claim_is_told : (event : LogEvent) (limit : ℕ) → limit < claimed_ahead event
    → (event.has_reading ≡ true) × (event.has_stamp ≡ true) × (limit < event.stamp.l - event.reading)
claim_is_told event limit over =
    let above = told_above (event.has_reading && event.has_stamp) (event.stamp.l - event.reading) limit over in
    let told = and_parts event.has_reading event.has_stamp above.0 in
    (told.0, told.1, above.1)

pub told_claim : (event : LogEvent) → event.has_reading ≡ true → event.has_stamp ≡ true → claimed_ahead event ≡ event.stamp.l - event.reading
told_claim event reading stamp =
    ap (λ (told : Bool). if told then event.stamp.l - event.reading else 0) (and_from event.has_reading event.has_stamp reading stamp)

module _ (limit : ℕ) (events : List LogEvent) where
  -- no more claims than events
  pub few_over : (n node : ℕ) → over_count limit events n node ≤ n
  few_over n node =
      let size = length-take n events in
      let few = count_by-le-length (is_over limit node) (take n events) in
      omega arith

  -- before the first event
  none_over : (node : ℕ) → NamesOverBefore limit events 0 node None
  none_over node = (let few = few_over 0 node in omega arith, λ e at. let before = at.before in absurd (omega arith))

  pub overs_begin : (nodes : ℕ) → AreOversBefore limit nodes events 0 (replicate nodes None)
  overs_begin nodes = let nothing : Option Over = None in record {
    one_each = length-replicate nodes nothing;
    each = λ node small. subst (NamesOverBefore limit events 0 node) (sym (get_or-replicate nodes node nothing nothing small)) (none_over node);
  }

  -- an event more
  module _ (place : EventId) where
    later : (node e : ℕ) → IsOverAt limit events place.0 node e → IsOverAt limit events (place.0 + 1) node e
    later node e at = let before = at.before in record { before = omega arith; at_node = at.at_node; over = at.over }

    earlier : (node e : ℕ) → e ≢ place.0 → IsOverAt limit events (place.0 + 1) node e → IsOverAt limit events place.0 node e
    earlier node e other at = let before = at.before in record { before = omega arith; at_node = at.at_node; over = at.over }

    -- its claim isn't over the limit, or it is of another node
    module _ (node : ℕ) (not_here : ¬ IsOverAt limit events (place.0 + 1) node place.0)
        (same : over_count limit events (place.0 + 1) node ≡ over_count limit events place.0 node) where
      before_it : (e : ℕ) → IsOverAt limit events (place.0 + 1) node e → IsOverAt limit events place.0 node e
      before_it e at = elim (cases_eq e place.0) [
        | inl here ↦ absurd (not_here (subst (IsOverAt limit events (place.0 + 1) node) here at))
        | inr other ↦ earlier node e other at
      ]

      pub over_without : (o : Option Over) → NamesOverBefore limit events place.0 node o → NamesOverBefore limit events (place.0 + 1) node o
      over_without None none = (same ∙ none.0, λ e at. none.1 e (before_it e at))
      over_without (Some over) is = record {
        count = is.count ∙ sym same;
        first = later node over.first.0 is.first;
        none_earlier = λ e at. is.none_earlier e (before_it e at);
        furthest = later node over.furthest.0 is.furthest;
        ahead = is.ahead;
        none_further = λ e at. is.none_further e (before_it e at);
        first_furthest = λ e lt at. is.first_furthest e lt (before_it e at);
      }

    -- it is over the limit
    module _ (node ahead : ℕ) (here : IsOverAt limit events (place.0 + 1) node place.0) (is_ahead : ahead ≡ claimed_ahead (event_at events place.0))
        (more : over_count limit events (place.0 + 1) node ≡ over_count limit events place.0 node + 1) where
      ahead_here : (e : ℕ) → e ≡ place.0 → claimed_ahead (event_at events e) ≡ ahead
      ahead_here e same = ap (λ (x : ℕ). claimed_ahead (event_at events x)) same ∙ sym is_ahead

      first_one : NamesOverBefore limit events place.0 node None → IsOverBefore limit events (place.0 + 1) node (with_claim None place ahead)
      first_one none = record {
        count = omega (arith, none.0, more);
        first = here;
        none_earlier = λ e at. elim (cases_eq e place.0) [
          | inl same ↦ omega arith
          | inr other ↦ absurd (none.1 e (earlier node e other at))
        ];
        furthest = here;
        ahead = is_ahead;
        none_further = λ e at. elim (cases_eq e place.0) [
          | inl same ↦ let far = ahead_here e same in omega arith
          | inr other ↦ absurd (none.1 e (earlier node e other at))
        ];
        first_furthest = λ e lt at. absurd (none.1 e (earlier node e (λ same. omega arith) at));
      }

      module _ (over : Over) (is : IsOverBefore limit events place.0 node over) where
        starts : (e : ℕ) → IsOverAt limit events (place.0 + 1) node e → over.first.0 ≤ e
        starts e at = elim (cases_eq e place.0) [
          | inl same ↦ let before = is.first.before in omega arith
          | inr other ↦ is.none_earlier e (earlier node e other at)
        ]

        kept : ahead ≤ over.ahead → IsOverBefore limit events (place.0 + 1) node (record over { claims = over.claims + 1 })
        kept at_most = record {
          count = omega (arith, is.count, more);
          first = later node over.first.0 is.first;
          none_earlier = starts;
          furthest = later node over.furthest.0 is.furthest;
          ahead = is.ahead;
          none_further = λ e at. elim (cases_eq e place.0) [
            | inl same ↦ let far = ahead_here e same in omega arith
            | inr other ↦ is.none_further e (earlier node e other at)
          ];
          first_furthest = λ e lt at.
              let before = is.furthest.before in
              is.first_furthest e lt (earlier node e (λ same. omega arith) at);
        }

        passed : over.ahead < ahead
            → IsOverBefore limit events (place.0 + 1) node (record over { claims = over.claims + 1; furthest = place; ahead = ahead })
        passed above = record {
          count = omega (arith, is.count, more);
          first = later node over.first.0 is.first;
          none_earlier = starts;
          furthest = here;
          ahead = is_ahead;
          none_further = λ e at. elim (cases_eq e place.0) [
            | inl same ↦ let far = ahead_here e same in omega arith
            | inr other ↦ let far = is.none_further e (earlier node e other at) in omega arith
          ];
          first_furthest = λ e lt at. let far = is.none_further e (earlier node e (λ same. omega arith) at) in omega arith;
        }

        one_more : IsOverBefore limit events (place.0 + 1) node (with_claim (Some over) place ahead)
        one_more =
            let chosen = λ (b : Bool).
            if b then record over { claims = over.claims + 1 } else record over { claims = over.claims + 1; furthest = place; ahead = ahead } in
            elim (cases_Bool (nat_le ahead over.ahead)) [
              | inl holds ↦
                  subst (IsOverBefore limit events (place.0 + 1) node) (sym (ap chosen holds)) (kept (leb-true ahead over.ahead holds))
              | inr fails ↦
                  subst (IsOverBefore limit events (place.0 + 1) node) (sym (ap chosen fails)) (passed (leb-false ahead over.ahead fails))
            ]

      pub over_with : (o : Option Over) → NamesOverBefore limit events place.0 node o
          → IsOverBefore limit events (place.0 + 1) node (with_claim o place ahead)
      over_with None none = first_one none
      over_with (Some over) is = one_more over is

    -- the answers for all nodes
    module _ (nodes : ℕ) (exists : place.0 < length events) (ahead : ℕ) (is_ahead : ahead ≡ claimed_ahead (event_at events place.0)) where
      abbrev event : LogEvent
      event = event_at events place.0

      pub overs_without : (overs : List (Option Over)) → ahead ≤ limit → AreOversBefore limit nodes events place.0 overs
          → AreOversBefore limit nodes events (place.0 + 1) overs
      overs_without overs within are = record {
        one_each = are.one_each;
        each = λ node small.
            over_without node (λ at. let over = at.over in omega arith)
            (count_by_more_no (is_over limit node) events place.0 no_event exists
            (second_fails (event.node.0 == node) (nat_lt limit (claimed_ahead event)) (le-ltb limit (claimed_ahead event) (omega arith))))
            (slice_index_or overs node None) (are.each node small);
      }

      pub overs_with : (overs : List (Option Over)) (node : ℕ) → node ≡ event.node.0 → node < nodes → limit < ahead
          → AreOversBefore limit nodes events place.0 overs
          → AreOversBefore limit nodes events (place.0 + 1) (slice_set overs node (Some (with_claim (slice_index_or overs node None) place ahead)))
      overs_with overs node at small above are =
          let size = are.one_each in
          let new = Some (with_claim (slice_index_or overs node None) place ahead) in
          record {
            one_each = length-set overs node new ∙ size;
            each = λ other within. elim (cases_eq other node) [
              | inl same ↦
                  subst (λ (x : ℕ). NamesOverBefore limit events (place.0 + 1) x (slice_index_or (slice_set overs node new) x None)) (sym same)
                  (subst (NamesOverBefore limit events (place.0 + 1) node) (sym (get_or-set_same overs node new None (omega arith)))
                  (over_with node ahead (record { before = omega arith; at_node = sym at; over = omega arith }) is_ahead
                  (count_by_more_yes (is_over limit node) events place.0 no_event exists
                  (both_hold (event.node.0 == node) (nat_lt limit (claimed_ahead event)) (eq-eqb event.node.0 node (sym at))
                  (lt-ltb limit (claimed_ahead event) (omega arith))))
                  (slice_index_or overs node None) (are.each node small)))
              | inr ne ↦
                  subst (NamesOverBefore limit events (place.0 + 1) other) (sym (get_or-set_other overs node other new None ne))
                  (over_without other (λ found. ne (sym found.at_node ∙ sym at))
                  (count_by_more_no (is_over limit other) events place.0 no_event exists
                  (first_fails (event.node.0 == other) (nat_lt limit (claimed_ahead event)) (ne_eqb event.node.0 other (λ is. ne (sym is ∙ sym at)))))
                  (slice_index_or overs other None) (are.each other within))
            ];
          }

-- there is one answer
module _ (limit : ℕ) (events : List LogEvent) (n node : ℕ) where
  module _ (a b : Over) (is : IsOverBefore limit events n node a) (other : IsOverBefore limit events n node b) where
    same_first : a.first.0 ≡ b.first.0
    same_first =
        let here = is.none_earlier b.first.0 other.first in
        let there = other.none_earlier a.first.0 is.first in
        omega arith

    same_furthest : a.furthest.0 ≡ b.furthest.0
    same_furthest =
        let far = is.ahead in
        let other_far = other.ahead in
        elim (cases_order a.furthest.0 b.furthest.0) [
          | inl same ↦ same
          | inr differ ↦ elim differ [
            | inl lt ↦
                let less = other.first_furthest a.furthest.0 lt is.furthest in
                let at_most = is.none_further b.furthest.0 other.furthest in
                absurd (omega arith)
            | inr gt ↦
                let less = is.first_furthest b.furthest.0 gt other.furthest in
                let at_most = other.none_further a.furthest.0 is.furthest in
                absurd (omega arith)
          ]
        ]

    one_over : a ≡ b
    one_over =
        ap (λ (k : ℕ). record { claims = k; first = a.first; furthest = a.furthest; ahead = a.ahead }) (is.count ∙ sym other.count)
        ∙ ap (λ (k : ℕ). record { claims = b.claims; first = record { 0 = k }; furthest = a.furthest; ahead = a.ahead }) same_first
        ∙ ap (λ (k : ℕ). record { claims = b.claims; first = b.first; furthest = record { 0 = k }; ahead = a.ahead }) same_furthest
        ∙ ap (λ (k : ℕ). record { claims = b.claims; first = b.first; furthest = b.furthest; ahead = k })
        (is.ahead ∙ ap (λ (x : ℕ). claimed_ahead (event_at events x)) same_furthest ∙ sym other.ahead)

  pub same_over : (a b : Option Over) → NamesOverBefore limit events n node a → NamesOverBefore limit events n node b → a ≡ b
  same_over None None is other = refl
  same_over None (Some b) is other = absurd (is.1 b.first.0 other.first)
  same_over (Some a) None is other = absurd (other.1 a.first.0 is.first)
  same_over (Some a) (Some b) is other = ap (λ (o : Over). Some o) (one_over a b is other)
