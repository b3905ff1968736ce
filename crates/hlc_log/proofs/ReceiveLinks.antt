-- Links from messages to the events that receive them, event by event.
use Rattle.std.proofs.Common.{◌≡◌, ℕ, ◌+◌, ◌-◌, ◌<◌, inl, inr, List, length, set, replicate, Option, Some, None, arith, subst, sym, ap, ◌∙◌}
use Rattle.std.specs.Prelude.{IfSome}
use Rattle.std.proofs.lemmas.Bool.{cases_eq, cases_lt}
use Rattle.std.proofs.lemmas.List.{get_or-replicate, get_or-set_other, get_or-set_same, length-replicate, length-set}
use Rattle.hlc_stamp.specs.declared.id.EventId.{EventId}
use Rattle.hlc_log.specs.declared.log_event.LogEvent.{LogEvent}
use Rattle.hlc_log.specs.Messages.{Receives}
use Rattle.hlc_log.specs.Placing.{IsBefore}
use Rattle.hlc_log.specs.ReceiveLinks.{AreReceivesLinked, IsFirstReceive, LinksToReceive}
use Rattle.hlc_log.specs.SendLinks.{link_at}
use Rattle.hlc_log.proofs.SentMessages.{receives_one}

-- how many events there are from the one on that a link leads to
abbrev pub left_from : List LogEvent → Option EventId → ℕ
left_from events None = 0
left_from events (Some e) = length events - e.0

module _ (events : List LogEvent) where
  -- past the end nothing is received
  pub nothing_received : (n : ℕ) (next : List (Option EventId)) → length next ≡ length events
      → AreReceivesLinked events (length events) (replicate n None) next
  nothing_received n next len =
      let firsts : List (Option EventId) = replicate n None in
      let size : length firsts ≡ n = length-replicate n None in
      record {
        len = len;
        each_first = λ m lt.
            let none : link_at firsts m ≡ None = get_or-replicate n m None None (omega arith) in
            subst (LinksToReceive events (length events) m) (sym none) (λ f from receives. let exists = receives.exists in absurd (omega arith));
        each_next = λ e m from receives. let exists = receives.exists in absurd (omega arith);
      }

  other_receive : (low m : ℕ) (link : Option EventId) → ¬ Receives events low m → LinksToReceive events (low + 1) m link
      → LinksToReceive events low m link
  other_receive low m None other h = λ f from receives. elim (cases_eq f low) [
    | inl here ↦ other (subst (λ (x : ℕ). Receives events x m) here receives)
    | inr ne ↦ h f (omega arith) receives
  ]
  other_receive low m (Some g) other h = record {
    from = let from = h.from in omega arith;
    receives = h.receives;
    first = λ f from lt receives. elim (cases_eq f low) [
      | inl here ↦ other (subst (λ (x : ℕ). Receives events x m) here receives)
      | inr ne ↦ h.first f (omega arith) lt receives
    ];
  }

  -- one event more is linked
  module _ (low : ℕ) (firsts next : List (Option EventId)) (h : AreReceivesLinked events (low + 1) firsts next) where
    -- if it receives nothing
    pub receives_over : ((m : ℕ) → ¬ Receives events low m) → AreReceivesLinked events low firsts next
    receives_over other = record {
      len = h.len;
      each_first = λ m lt. other_receive low m (link_at firsts m) (other m) (h.each_first m lt);
      each_next = λ e m from receives. elim (cases_eq e low) [
        | inl here ↦ absurd (other m (subst (λ (x : ℕ). Receives events x m) here receives))
        | inr ne ↦ h.each_next e m (omega arith) receives
      ];
    }

    -- if it receives this message
    pub receives_with : (k : ℕ) (event : EventId) → event.0 ≡ low → Receives events low k → k < length firsts
        → AreReceivesLinked events low (set firsts k (Some event)) (set next low (link_at firsts k))
    receives_with k event is receives below =
        let link = link_at firsts k in
        let new = set firsts k (Some event) in
        let size = length-set firsts k (Some event) in
        record {
          len = length-set next low link ∙ h.len;
          each_first = λ m lt. elim (cases_eq m k) [
            | inl same ↦
                let found : link_at new m ≡ Some event = ap (link_at new) same ∙ get_or-set_same firsts k (Some event) None below in
                let there : Receives events low m = subst (λ (x : ℕ). Receives events low x) (sym same) receives in
                let first : IsFirstReceive events low m event.0 = record {
                  from = omega arith;
                  receives = subst (λ (x : ℕ). Receives events x m) (sym is) there;
                  first = λ f from lt. absurd (omega arith);
                } in
                subst (LinksToReceive events low m) (sym found) first
            | inr ne ↦
                let found : link_at new m ≡ link_at firsts m = get_or-set_other firsts k m (Some event) None ne in
                subst (LinksToReceive events low m) (sym found)
                (other_receive low m (link_at firsts m) (λ too. ne (receives_one events low m k too receives)) (h.each_first m (omega (arith, lt, size))))
          ];
          each_next = λ e m from there. elim (cases_eq e low) [
            | inl here ↦
                let same : m ≡ k = receives_one events low m k (subst (λ (x : ℕ). Receives events x m) here there) receives in
                let found : link_at (set next low link) e ≡ link =
                ap (link_at (set next low link)) here ∙ get_or-set_same next low link None (let len = h.len in let exists = receives.exists in omega arith) in
                subst (LinksToReceive events (e + 1) m) (sym found)
                (subst (λ (x : ℕ). LinksToReceive events (x + 1) m link) (sym here)
                (subst (λ (x : ℕ). LinksToReceive events (low + 1) x link) (sym same) (h.each_first k below)))
            | inr ne ↦
                let found : link_at (set next low link) e ≡ link_at next e = get_or-set_other next low e link None ne in
                subst (LinksToReceive events (e + 1) m) (sym found) (h.each_next e m (omega arith) there)
          ];
        }

  module _ (m : ℕ) where
    pub leads_to_receive : (low : ℕ) (link : Option EventId) → LinksToReceive events low m link → IfSome link (λ e. Receives events e.0 m)
    leads_to_receive low None h = tt
    leads_to_receive low (Some g) h = h.receives

    -- before the first none receives it
    pub none_before_first : (link : Option EventId) → LinksToReceive events 0 m link → (e : ℕ) → Receives events e m → ¬ IsBefore link e
    none_before_first None h e receives before = h e (omega arith) receives
    none_before_first (Some g) h e receives before = h.first e (omega arith) before receives

    -- what is true of an event that receives it, and of those before, is true of all before the next
    pub one_more_receive : (P : ℕ → Type 0) (r : ℕ) (link : Option EventId) → LinksToReceive events (r + 1) m link
        → ((e : ℕ) → Receives events e m → e < r → P e) → P r → (e : ℕ) → Receives events e m → IsBefore link e → P e
    one_more_receive P r None h earlier here e receives before = elim (cases_lt e r) [
      | inl lt ↦ earlier e receives lt
      | inr le ↦ elim (cases_eq e r) [
        | inl same ↦ subst P (sym same) here
        | inr ne ↦ absurd (h e (omega arith) receives)
      ]
    ]
    one_more_receive P r (Some g) h earlier here e receives before = elim (cases_lt e r) [
      | inl lt ↦ earlier e receives lt
      | inr le ↦ elim (cases_eq e r) [
        | inl same ↦ subst P (sym same) here
        | inr ne ↦ absurd (h.first e (omega arith) before receives)
      ]
    ]

    pub fewer_left : (r : ℕ) (link : Option EventId) → r < length events → LinksToReceive events (r + 1) m link
        → left_from events link < length events - r
    fewer_left r None exists h = omega arith
    fewer_left r (Some g) exists h = let from = h.from in let there = h.receives.exists in omega arith
