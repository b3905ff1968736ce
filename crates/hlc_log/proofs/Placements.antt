-- Events that get their places in an order, node by node.
use Rattle.std.proofs.Common.{◌≡◌, ◌≢◌, ◌↔◌, ℕ, zero, suc, ◌+◌, ◌<◌, ◌≤◌, ◌⊎◌, inl, inr, List, [], ◌∷◌, ◌++◌, length, set, replicate, Option, Some, None, Bool, true, false, arith, refl, subst, sym, ap, ◌∙◌}
use Rattle.std.specs.Prelude.{Contains, MatchBool, if◌then◌else◌, nat_le}
use Rattle.std.proofs.lemmas.Bool.{cases_eq, cases_lt, leb-false, leb-true}
use Rattle.std.proofs.lemmas.List.{get_or-replicate, get_or-set_other, get_or-set_same, length-replicate, length-set, length_push}
use Rattle.std.proofs.lemmas.List.Elements.{Contains-append_left, Contains-push, Contains-push_cases}
use Rattle.hlc_stamp.specs.declared.id.EventId.{EventId}
use Rattle.hlc_log.specs.declared.log_event.LogEvent.{LogEvent}
use Rattle.hlc_log.specs.CausalOrder.{IsCausalOrder, IsCausalPrefix, IsEarlierOf, MayComeNext, Needs, Waits, place_at}
use Rattle.hlc_log.specs.Faults.{StandsFirst}
use Rattle.hlc_log.specs.Messages.{HasNoSend, Receives, Sends}
use Rattle.hlc_log.specs.Placing.{AreAllBlocked, AreNodesBelow, AreNodesLinked, ArePlaced, IsBefore, IsBlocked, IsFirstFrom, IsFirstFront, IsFrontOf, LinksToFirstFront, first_of, IsNodeBlocked, IsPassed, IsReady, LinksToFirst, LinksToFront, node_at}
use Rattle.hlc_log.specs.SendLinks.{IsOnlySend, link_at}
use Rattle.hlc_log.specs.Standing.{SeqsRise}
use Rattle.hlc_log.proofs.StandingEvents.{place_stands, stands_by_place}
use Rattle.hlc_log.proofs.CausalOrders.{causal-push, length-order-le, place_in_order, place_of_contained}
use Rattle.hlc_log.proofs.SentMessages.{receives_one}

-- an event was passed, or its node goes on at it or before it
pub passed_or_not : (front : Option EventId) (f : ℕ) → IsBefore front f ⊎ ((e : EventId) × (front ≡ Some e) × (e.0 ≤ f))
passed_or_not None f = inl tt
passed_or_not (Some e) f = elim (cases_lt f e.0) [ inl lt ↦ inl lt | inr le ↦ inr (e, refl, le) ]

module _ (events : List LogEvent) where
  -- past the end there is nothing to link
  pub nothing_linked : (n : ℕ) (next : List (Option EventId)) → length next ≡ length events → AreNodesBelow events n
      → AreNodesLinked events (length events) next (replicate n None)
  nothing_linked n next len below =
      let fronts : List (Option EventId) = replicate n None in
      let size : length fronts ≡ n = length-replicate n None in
      record {
        len = len;
        nodes = λ e exists. let lt = below e exists in omega arith;
        each_next = λ e from exists. absurd (omega arith);
        each_front = λ node lt.
            let none : link_at fronts node ≡ None = get_or-replicate n node None None (omega arith) in
            subst (LinksToFirst events (length events) node) (sym none) (λ f from exists. absurd (omega arith));
      }

  other_first : (low node : ℕ) (link : Option EventId) → node_at events low ≢ node → LinksToFirst events (low + 1) node link → LinksToFirst events low node link
  other_first low node None other h = λ f from exists. elim (cases_eq f low) [
    | inl here ↦ λ is. other (ap (node_at events) (sym here) ∙ is)
    | inr ne ↦ h f (omega arith) exists
  ]
  other_first low node (Some g) other h = record {
    from = let from = h.from in omega arith;
    exists = h.exists;
    at_node = h.at_node;
    first = λ f from lt. elim (cases_eq f low) [
      | inl here ↦ λ is. other (ap (node_at events) (sym here) ∙ is)
      | inr ne ↦ h.first f (omega arith) lt
    ];
  }

  -- one event more is linked
  module _ (low : ℕ) (event : EventId) (is : event.0 ≡ low) (next fronts : List (Option EventId)) (exists : low < length events)
      (h : AreNodesLinked events (low + 1) next fronts) where
    pub one_more_linked : AreNodesLinked events low (set next low (link_at fronts (node_at events low))) (set fronts (node_at events low) (Some event))
    one_more_linked =
        let link = link_at fronts (node_at events low) in
        let below = h.nodes low exists in
        let size = length-set fronts (node_at events low) (Some event) in
        record {
          len = length-set next low link ∙ h.len;
          nodes = λ e there. let lt = h.nodes e there in omega arith;
          each_next = λ e from there. elim (cases_eq e low) [
            | inl here ↦
                let found : link_at (set next low link) e ≡ link =
                ap (link_at (set next low link)) here ∙ get_or-set_same next low link None (let len = h.len in omega arith) in
                subst (LinksToFirst events (e + 1) (node_at events e)) (sym found)
                (subst (λ (x : ℕ). LinksToFirst events (x + 1) (node_at events x) link) (sym here) (h.each_front (node_at events low) below))
            | inr ne ↦
                let found : link_at (set next low link) e ≡ link_at next e = get_or-set_other next low e link None ne in
                subst (LinksToFirst events (e + 1) (node_at events e)) (sym found) (h.each_next e (omega arith) there)
          ];
          each_front = λ other lt. elim (cases_eq other (node_at events low)) [
            | inl same ↦
                let found : link_at (set fronts (node_at events low) (Some event)) other ≡ Some event =
                ap (link_at (set fronts (node_at events low) (Some event))) same
                ∙ get_or-set_same fronts (node_at events low) (Some event) None below in
                let first : IsFirstFrom events low other event.0 = record {
                  from = omega arith;
                  exists = omega arith;
                  at_node = ap (node_at events) is ∙ sym same;
                  first = λ f from lt. absurd (omega arith);
                } in
                subst (LinksToFirst events low other) (sym found) first
            | inr ne ↦
                let found : link_at (set fronts (node_at events low) (Some event)) other ≡ link_at fronts other =
                get_or-set_other fronts (node_at events low) other (Some event) None ne in
                subst (LinksToFirst events low other) (sym found)
                (other_first low other (link_at fronts other) (λ same. ne (sym same)) (h.each_front other (omega (arith, lt, size))))
          ];
        }

  first_is_front : (low node : ℕ) (link : Option EventId) → LinksToFirst events low node link → LinksToFront events node link
  first_is_front low node None h = tt
  first_is_front low node (Some g) h = record { exists = h.exists; at_node = h.at_node }

  not_passed_first : (front : Option EventId) (f : ℕ) → f < length events → LinksToFirst events 0 (node_at events f) front → ¬ IsBefore front f
  not_passed_first None f exists h passed = h f (omega arith) exists refl
  not_passed_first (Some g) f exists h passed = h.first f (omega arith) passed refl

  -- at first no event has its place
  pub none_placed : (next fronts : List (Option EventId)) → SeqsRise events → AreNodesLinked events 0 next fronts → ArePlaced events next fronts []
  none_placed next fronts rise h = record {
    rise = rise;
    len = h.len;
    nodes = h.nodes;
    each_next = λ e exists. h.each_next e (omega arith) exists;
    each_front = λ node lt. first_is_front 0 node (link_at fronts node) (h.each_front node lt);
    causal = λ k lt. absurd (omega arith);
    placed = λ f exists. (
      λ inside. let lt = inside.1 in absurd (omega arith),
      λ passed. absurd (not_passed_first (link_at fronts (node_at events f)) f exists (h.each_front (node_at events f) (h.nodes f exists)) passed),
    );
  }

  module _ (next fronts : List (Option EventId)) (order : List ℕ) (h : ArePlaced events next fronts order) where
    passed_exists : (front : Option EventId) (node : ℕ) → LinksToFront events node front → (e : EventId) → front ≡ Some e → IsFrontOf events node e.0
    passed_exists front node links e is = subst (LinksToFront events node) is links

    -- the event at which a node goes on
    module _ (node : ℕ) (e : EventId) (lt : node < length fronts) (is : link_at fronts node ≡ Some e) where
      pub front_of : IsFrontOf events node e.0
      front_of = passed_exists (link_at fronts node) node (h.each_front node lt) e is

      at_front : link_at fronts (node_at events e.0) ≡ Some e
      at_front = ap (link_at fronts) front_of.at_node ∙ is

      front_not_passed : ¬ IsPassed events fronts e.0
      front_not_passed passed = let bad : e.0 < e.0 = subst (λ (front : Option EventId). IsBefore front e.0) at_front passed in omega arith

      earlier_passed : (d : ℕ) → IsEarlierOf events d e.0 → IsPassed events fronts d
      earlier_passed d earlier =
          let front : link_at fronts (node_at events d) ≡ Some e = ap (link_at fronts) earlier.same_node ∙ at_front in
          subst (λ (front : Option EventId). IsBefore front d) (sym front)
          (stands_by_place events h.rise d e.0 earlier.first_exists earlier.before)

      module _ (ready : IsReady events fronts e.0) where
        needed_passed : (d : ℕ) → Needs events e.0 d → (d < length events) × IsPassed events fronts d
        needed_passed d (inl earlier) = (earlier.first_exists, earlier_passed d earlier)
        needed_passed d (inr sends) = (sends.1.exists, ready d sends)

        pub front_may_come_next : MayComeNext events order e.0
        front_may_come_next = record {
          exists = front_of.exists;
          new = λ inside. front_not_passed ((h.placed e.0 front_of.exists).0 inside);
          needed = λ d needs. let passed = needed_passed d needs in (h.placed d passed.0).1 passed.1;
        }

        pub causal_with_front : IsCausalPrefix events (order ++ e.0 ∷ [])
        causal_with_front = causal-push events order e.0 h.causal front_may_come_next

        -- so there is room in an order that has room for all events
        pub length-order-lt : length order < length events
        length-order-lt =
            let le = length-order-le events (order ++ e.0 ∷ []) causal_with_front in
            let longer = length_push order e.0 in
            omega arith

        passed_then : (link : Option EventId) (f : ℕ) → node_at events f ≡ node → f < length events
            → LinksToFirst events (e.0 + 1) node link → IsBefore link f ↔ (f ≤ e.0)
        passed_then None f same exists links = (
          λ passed. elim (cases_lt e.0 f) [ inl lt ↦ absurd (links f (omega arith) exists same) | inr le ↦ le ],
          λ le. tt,
        )
        passed_then (Some g) f same exists links = (
          λ passed. elim (cases_lt e.0 f) [ inl lt ↦ absurd (links.first f (omega arith) passed same) | inr le ↦ le ],
          λ le. let from = links.from in omega arith,
        )

        -- the event gets its place, and its node goes on with the next
        pub front_placed : ArePlaced events next (set fronts node (link_at next e.0)) (order ++ e.0 ∷ [])
        front_placed =
            let link = link_at next e.0 in
            let at_node = front_of.at_node in
            let links : LinksToFirst events (e.0 + 1) node link =
            subst (λ (n : ℕ). LinksToFirst events (e.0 + 1) n link) at_node (h.each_next e.0 front_of.exists) in
            let here : link_at (set fronts node link) node ≡ link = get_or-set_same fronts node link None lt in
            let size = length-set fronts node link in
            record {
              rise = h.rise;
              len = h.len;
              nodes = λ f exists. let below = h.nodes f exists in omega arith;
              each_next = h.each_next;
              each_front = λ other within. elim (cases_eq other node) [
                | inl same ↦
                    subst (LinksToFront events other) (sym (ap (link_at (set fronts node link)) same ∙ here))
                    (subst (λ (n : ℕ). LinksToFront events n link) (sym same) (first_is_front (e.0 + 1) node link links))
                | inr ne ↦
                    subst (LinksToFront events other) (sym (get_or-set_other fronts node other link None ne)) (h.each_front other (omega (arith, within, size)))
              ];
              causal = causal_with_front;
              placed = λ f exists. elim (cases_eq (node_at events f) node) [
                | inl same ↦
                    let found : link_at (set fronts node link) (node_at events f) ≡ link = ap (link_at (set fronts node link)) same ∙ here in
                    let before : link_at fronts (node_at events f) ≡ Some e = ap (link_at fronts) same ∙ is in
                    let after = passed_then link f same exists links in
                    let earlier : Contains order f ↔ (f < e.0) =
                    subst (λ (front : Option EventId). Contains order f ↔ IsBefore front f) before (h.placed f exists) in (
                      λ inside. subst (λ (front : Option EventId). IsBefore front f) (sym found)
                          (after.1 (elim (Contains-push_cases order e.0 f inside) [
                            | inl old ↦ let lt = earlier.0 old in omega arith
                            | inr new ↦ omega arith
                          ])),
                      λ passed.
                          let le = after.0 (subst (λ (front : Option EventId). IsBefore front f) found passed) in
                          elim (cases_eq f e.0) [
                            | inl new ↦ subst (Contains (order ++ e.0 ∷ [])) (sym new) (Contains-push order e.0)
                            | inr ne ↦ Contains-append_left order (e.0 ∷ []) f (earlier.1 (omega arith))
                          ],
                    )
                | inr ne ↦
                    let found : link_at (set fronts node link) (node_at events f) ≡ link_at fronts (node_at events f) =
                    get_or-set_other fronts node (node_at events f) link None ne in
                    let old = h.placed f exists in (
                      λ inside. subst (λ (front : Option EventId). IsBefore front f) (sym found)
                          (elim (Contains-push_cases order e.0 f inside) [
                            | inl old_inside ↦ old.0 old_inside
                            | inr new ↦ absurd (ne (ap (node_at events) (sym new) ∙ at_node))
                          ]),
                      λ passed. Contains-append_left order (e.0 ∷ []) f
                          (old.1 (subst (λ (front : Option EventId). IsBefore front f) found passed)),
                    )
              ];
            }

    -- no node can go on: what has no place waits
    module _ (blocked : AreAllBlocked events fronts) where
      blocked_at : (node : ℕ) (e : EventId) → node < length fronts → link_at fronts node ≡ Some e → IsBlocked events fronts e.0
      blocked_at node e lt is = subst (IsNodeBlocked events fronts) is (blocked node lt)

      module _ (other : List ℕ) (causal : IsCausalPrefix events other) where
        -- the places so far in another order are all of events that were passed
        ArePassedBelow : ℕ → Type 0
        ArePassedBelow k = (i : ℕ) → i < k → i < length other → IsPassed events fronts (place_at other i)

        passed_at : (k : ℕ) → k < length other
            → ((i : ℕ) → i < k → IsPassed events fronts (place_at other i)) → IsPassed events fronts (place_at other k)
        passed_at k lt before =
            let f = place_at other k in
            let next = causal k lt in
            let node = node_at events f in
            let within = h.nodes f next.exists in
            let before_at : (d : ℕ) → Needs events f d → IsPassed events fronts d = λ d needs.
            let at = place_of_contained events other k d (omega arith) (next.needed d needs) in
            subst (IsPassed events fronts) at.2 (before at.0 at.1) in
            elim (passed_or_not (link_at fronts node) f) [
              | inl passed ↦ passed
              | inr found ↦
                  let e = found.0 in
                  let front = front_of node e within found.1 in
                  elim (cases_eq e.0 f) [
                    | inl same ↦
                        let stuck : IsBlocked events fronts f = subst (IsBlocked events fronts) same (blocked_at node e within found.1) in
                        absurd (stuck.unplaced (before_at stuck.send (inr stuck.sends)))
                    | inr ne ↦
                        let earlier : IsEarlierOf events e.0 f =
                        record {
                          before = place_stands events h.rise e.0 f (let le = found.2 in omega arith) next.exists;
                          first_exists = front.exists;
                          exists = next.exists;
                          same_node = front.at_node;
                        } in
                        absurd (front_not_passed node e within found.1 (before_at e.0 (inl earlier)))
                  ]
            ]

        all_passed : (n k : ℕ) → k < n → k < length other → IsPassed events fronts (place_at other k)
        all_passed zero k lt within = absurd (omega arith)
        all_passed (suc n) k lt within = passed_at k within (λ i before. all_passed n i (omega arith) (omega arith))

        pub contained_passed : (f : ℕ) → Contains other f → IsPassed events fronts f
        contained_passed f inside =
            let at = place_in_order events other f inside in
            subst (IsPassed events fronts) at.2 (all_passed (length other) at.0 at.1 at.1)

      pub unpassed_waits : (e : ℕ) → e < length events → ¬ IsPassed events fronts e → Waits events e
      unpassed_waits e exists unpassed = record {
        exists = exists;
        never = λ other causal inside. unpassed (contained_passed other causal e inside);
      }

      -- the first of the events at which nodes go on is the first that waits
      pub first_front_waits : (first : EventId) → IsFirstFront fronts (length fronts) first → StandsFirst events (Waits events) first.0
      first_front_waits first is = record {
        has =
            let front = front_of is.node first is.exists is.at_node in
            unpassed_waits first.0 front.exists (front_not_passed is.node first is.exists is.at_node);
        first = λ d before waits.
            let node = node_at events d in
            let within = h.nodes d waits.exists in
            elim (passed_or_not (link_at fronts node) d) [
              | inl passed ↦ waits.never order h.causal ((h.placed d waits.exists).1 passed)
              | inr found ↦
                  let least = is.none_earlier node found.0 within found.1 in
                  let le = found.2 in
                  let lt = stands_by_place events h.rise d first.0 waits.exists before in
                  omega arith
            ];
      }

    -- no node has an event left
    pub all_placed : ((node : ℕ) → node < length fronts → link_at fronts node ≡ None) → IsCausalOrder events order
    all_placed none = record {
      causal = h.causal;
      all = λ e exists.
          let passed : IsPassed events fronts e =
          subst (λ (front : Option EventId). IsBefore front e) (sym (none (node_at events e) (h.nodes e exists))) tt in
          (h.placed e exists).1 passed;
    }

-- whether an event is ready, by whether the one that sends what it receives has its place
module _ (events : List LogEvent) (fronts : List (Option EventId)) (f m : ℕ) (receives : Receives events f m) where
  pub ready_by_send : (send : ℕ) → IsOnlySend events (length events) m send → (passed : Bool)
      → MatchBool passed (IsPassed events fronts send) (¬ IsPassed events fronts send)
      → MatchBool passed (IsReady events fronts f) (IsBlocked events fronts f)
  ready_by_send send only true passed = λ d sends.
      let same : sends.0 ≡ m = receives_one events f sends.0 m sends.2 receives in
      let one = only.only d sends.1.exists (subst (Sends events d) same sends.1) in
      subst (IsPassed events fronts) (sym one) passed
  ready_by_send send only false unplaced = record { send = send; sends = (m, only.sends, receives); unplaced = unplaced }

  pub ready_if_unsent : HasNoSend events m → IsReady events fronts f
  ready_if_unsent none d sends =
      let same : sends.0 ≡ m = receives_one events f sends.0 m sends.2 receives in
      absurd (none d (subst (Sends events d) same sends.1))

-- the first of the events at which one more node goes on
module _ (fronts : List (Option EventId)) (n : ℕ) where
  new_none : (first : Option EventId) → link_at fronts n ≡ None → LinksToFirstFront fronts n first → LinksToFirstFront fronts (n + 1) first
  new_none None none h = λ node lt. elim (cases_eq node n) [
    | inl last ↦ ap (link_at fronts) last ∙ none
    | inr ne ↦ h node (omega arith)
  ]
  new_none (Some first) none h = record {
    node = h.node;
    exists = let exists = h.exists in omega arith;
    at_node = h.at_node;
    none_earlier = λ other front lt is. elim (cases_eq other n) [
      | inl last ↦
          let bad : ◌≡◌ {A = Option EventId} None (Some front) = sym (ap (link_at fronts) last ∙ none) ∙ is in absurd (cc)
      | inr ne ↦ h.none_earlier other front (omega arith) is
    ];
  }

  module _ (new : EventId) (is : link_at fronts n ≡ Some new) where
    at_last : (other : ℕ) (front : EventId) → other ≡ n → link_at fronts other ≡ Some front → front.0 ≡ new.0
    at_last other front last there =
        let same : ◌≡◌ {A = Option EventId} (Some front) (Some new) = sym there ∙ ap (link_at fronts) last ∙ is in
        let event : front ≡ new = cc in
        ap (λ (e : EventId). e.0) event

    new_first : LinksToFirstFront fronts n None → IsFirstFront fronts (n + 1) new
    new_first h = record {
      node = n;
      exists = omega arith;
      at_node = is;
      none_earlier = λ other front lt there. elim (cases_eq other n) [
        | inl last ↦ let same = at_last other front last there in omega arith
        | inr ne ↦
            let bad : ◌≡◌ {A = Option EventId} None (Some front) = sym (h other (omega arith)) ∙ there in absurd (cc)
      ];
    }

    new_if_earlier : (first : EventId) (test : Bool) → nat_le first.0 new.0 ≡ test → IsFirstFront fronts n first
        → IsFirstFront fronts (n + 1) (if test then first else new)
    new_if_earlier first true le h = record {
      node = h.node;
      exists = let exists = h.exists in omega arith;
      at_node = h.at_node;
      none_earlier = λ other front lt there. elim (cases_eq other n) [
        | inl last ↦
            let same = at_last other front last there in
            let earlier : first.0 ≤ new.0 = leb-true first.0 new.0 le in
            omega arith
        | inr ne ↦ h.none_earlier other front (omega arith) there
      ];
    }
    new_if_earlier first false le h = record {
      node = n;
      exists = omega arith;
      at_node = is;
      none_earlier = λ other front lt there. elim (cases_eq other n) [
        | inl last ↦ let same = at_last other front last there in omega arith
        | inr ne ↦
            let old = h.none_earlier other front (omega arith) there in
            let later : new.0 < first.0 = leb-false first.0 new.0 le in
            omega arith
      ];
    }

    new_some : (first : Option EventId) → LinksToFirstFront fronts n first → LinksToFirstFront fronts (n + 1) (first_of first (Some new))
    new_some None h = new_first h
    new_some (Some first) h = new_if_earlier first (nat_le first.0 new.0) refl h

  first_more : (first link : Option EventId) → link_at fronts n ≡ link → LinksToFirstFront fronts n first
      → LinksToFirstFront fronts (n + 1) (first_of first link)
  first_more None None is h = new_none None is h
  first_more (Some first) None is h = new_none (Some first) is h
  first_more None (Some new) is h = new_some new is None h
  first_more (Some first) (Some new) is h = new_some new is (Some first) h

  pub first_front_more : (first : Option EventId) → LinksToFirstFront fronts n first
      → LinksToFirstFront fronts (n + 1) (first_of first (link_at fronts n))
  first_front_more first h = first_more first (link_at fronts n) refl h
