-- The first sends of nodes with stamps, and their messages.
use Rattle.std.proofs.Common.{◌≡◌, ◌∙◌, ℕ, ◌+◌, ◌<◌, ◌≤◌, Bool, true, false, cond, eqb, List, [], ◌∷◌, ◌++◌, Option, Some, None, ap, arith, eq-eqb, eqb-true, inl, inr, length, length-append, refl, subst, sym, take}
use Rattle.std.specs.Prelude.{◌==◌, ◌&&◌, is_some, nat_lt, not, option_map, position}
use Rattle.std.specs.List.{position_or_len}
use Rattle.std.proofs.lemmas.Bool.{and_parts, cases_lt}
use Rattle.std.proofs.lemmas.Bool.Decides.{nat_tests}
use Rattle.std.proofs.lemmas.List.{length-take-le, take_more}
use Rattle.std.proofs.lemmas.List.Folds.{position_or_len_push}
use Rattle.std.proofs.lemmas.List.Sums.{prefix_len-le-length}
use Rattle.hlc_log.specs.declared.log_event.LogEvent.{LogEvent}
use Rattle.hlc_log.specs.declared.log_event.LogKind.{LogKind}
use Rattle.hlc_log.specs.declared.log_event.LogKind.TheVariants.{Local, Outside, Receive, Restart, Send}
use Rattle.hlc_log.specs.declared.message_id.MessageId.{MessageId}
use Rattle.hlc_log.specs.declared.senders.SentAs.{SentAs}
use Rattle.hlc_log.specs.Events.{event_at, no_event}
use Rattle.hlc_log.specs.Senders.{is_same_sent, is_sent_by, message_sent_at, own_message, sends_some, sent_message}

-- the place that was found, or the last
pub or_last : Option ℕ → Bool → ℕ → Option ℕ
or_last (Some i) passes n = Some i
or_last None passes n = cond passes (Some n) None

at_end : (n : ℕ) (passes : Bool)
    → (let at = n + cond passes 0 1 in (let o : Option ℕ = cond (nat_lt at (n + 1)) (Some at) None in o)) ≡ cond passes (Some n) None
at_end n true =
    let same : n + 0 ≡ n = omega arith in
    let within : nat_lt n (n + 1) ≡ true = grind (arith, nat_tests) in
    ap (λ (at : ℕ). (let o : Option ℕ = cond (nat_lt at (n + 1)) (Some at) None in o)) same
    ∙ ap (λ (b : Bool). (let o : Option ℕ = cond b (Some n) None in o)) within
at_end n false =
    let past : nat_lt (n + 1) (n + 1) ≡ false = grind (arith, nat_tests) in
    ap (λ (b : Bool). (let o : Option ℕ = cond b (Some (n + 1)) None in o)) past

-- what a test finds among one more
position_more : (k n : ℕ) (passes : Bool) → k ≤ n
    → (let at = cond (eqb k n) (n + cond passes 0 1) k in (let o : Option ℕ = cond (nat_lt at (n + 1)) (Some at) None in o))
    ≡ or_last (cond (nat_lt k n) (Some k) None) passes n
unfolding or_last
position_more k n passes within = elim (cases_lt k n) [
  | inl before ↦
      let other : eqb k n ≡ false = grind (arith, nat_tests, before) in
      let found : nat_lt k n ≡ true = grind (arith, nat_tests, before) in
      let among : nat_lt k (n + 1) ≡ true = grind (arith, nat_tests, before) in
      ap (λ (b : Bool). (let at = cond b (n + cond passes 0 1) k in (let o : Option ℕ = cond (nat_lt at (n + 1)) (Some at) None in o))) other
      ∙ ap (λ (b : Bool). (let o : Option ℕ = cond b (Some k) None in o)) among
      ∙ sym (ap (λ (b : Bool). or_last (cond b (Some k) None) passes n) found)
  | inr after ↦
      let same : eqb k n ≡ true = grind (arith, nat_tests, after, within) in
      let past : nat_lt k n ≡ false = grind (arith, nat_tests, after) in
      ap (λ (b : Bool). (let at = cond b (n + cond passes 0 1) k in (let o : Option ℕ = cond (nat_lt at (n + 1)) (Some at) None in o))) same
      ∙ at_end n passes
      ∙ sym (ap (λ (b : Bool). or_last (cond b (Some k) None) passes n) past)
]

module _ {X : Type 0} (p : X → Bool) where
  pub position_push : (xs : List X) (y : X) → position p (xs ++ y ∷ []) ≡ or_last (position p xs) (p y) (length xs)
  position_push xs y =
      let at = position_or_len_push p xs y in
      let size = length-append xs (y ∷ []) in
      ap (λ (k : ℕ). (let o : Option ℕ = cond (nat_lt k (length (xs ++ y ∷ []))) (Some k) None in o)) at
      ∙ ap (λ (n : ℕ). (let at = cond (eqb (position_or_len p xs) (length xs)) (length xs + cond (p y) 0 1) (position_or_len p xs) in
      (let o : Option ℕ = cond (nat_lt at n) (Some at) None in o))) size
      ∙ position_more (position_or_len p xs) (length xs) (p y) (prefix_len-le-length (λ x. not (p x)) xs)

  last_fails : (o : Option ℕ) (passes : Bool) (n : ℕ) → passes ≡ false → or_last o passes n ≡ o
  unfolding or_last
  last_fails (Some i) passes n fails = refl
  last_fails None passes n fails = ap (λ (b : Bool). (let o : Option ℕ = cond b (Some n) None in o)) fails

  known_before : (o : Option ℕ) (passes : Bool) (n : ℕ) → is_some o ≡ true → or_last o passes n ≡ o
  unfolding or_last
  known_before (Some i) passes n known = refl
  known_before None passes n known = absurd (cc)

  new_at_last : (o : Option ℕ) (passes : Bool) (n : ℕ) → is_some o ≡ false → passes ≡ true → or_last o passes n ≡ Some n
  unfolding or_last
  new_at_last (Some i) passes n new passed = absurd (cc)
  new_at_last None passes n new passed = ap (λ (b : Bool). (let o : Option ℕ = cond b (Some n) None in o)) passed

  module _ (xs : List X) (n : ℕ) (y : X) (taken : take (n + 1) xs ≡ take n xs ++ y ∷ []) (size : length (take n xs) ≡ n) where
    found : position p (take (n + 1) xs) ≡ or_last (position p (take n xs)) (p y) n
    found =
        ap (position p) taken ∙ position_push (take n xs) y ∙ ap (or_last (position p (take n xs)) (p y)) size

    pub position_fails : p y ≡ false → position p (take (n + 1) xs) ≡ position p (take n xs)
    position_fails fails = found ∙ last_fails (position p (take n xs)) (p y) n fails

    pub position_known : is_some (position p (take n xs)) ≡ true → position p (take (n + 1) xs) ≡ position p (take n xs)
    position_known known = found ∙ known_before (position p (take n xs)) (p y) n known

    pub position_new : is_some (position p (take n xs)) ≡ false → p y ≡ true → position p (take (n + 1) xs) ≡ Some n
    position_new new passes = found ∙ new_at_last (position p (take n xs)) (p y) n new passes

-- keys that are the same are equal
same_sent : (a b : SentAs) → is_same_sent a b ≡ true → a ≡ b
same_sent a b same =
    let parts = and_parts (a.node.0 == b.node.0) ((a.stamp.l == b.stamp.l) && (a.stamp.c == b.stamp.c)) same in
    let numbers = and_parts (a.stamp.l == b.stamp.l) (a.stamp.c == b.stamp.c) parts.1 in
    let node = eqb-true a.node.0 b.node.0 parts.0 in
    let l = eqb-true a.stamp.l b.stamp.l numbers.0 in
    let c = eqb-true a.stamp.c b.stamp.c numbers.1 in
    λ i. record { node = record { 0 = node i }; stamp = record { l = l i; c = c i } }

same_sent_itself : (a : SentAs) → is_same_sent a a ≡ true
same_sent_itself a =
    let node : (a.node.0 == a.node.0) ≡ true = eq-eqb a.node.0 a.node.0 refl in
    let l : (a.stamp.l == a.stamp.l) ≡ true = eq-eqb a.stamp.l a.stamp.l refl in
    let c : (a.stamp.c == a.stamp.c) ≡ true = eq-eqb a.stamp.c a.stamp.c refl in
    rw (node, l, c) refl

is_mapped : {X : Type 0} (f : ℕ → X) (o : Option ℕ) → is_some (option_map f o) ≡ is_some o
is_mapped f None = refl
is_mapped f (Some n) = refl

-- the messages that the first so many events send by stamps
abbrev pub message_among : MessageId → (messages : ℕ) → List LogEvent → (n : ℕ) → SentAs → Option MessageId
message_among unnamed messages events n key =
    option_map (message_sent_at unnamed messages events) (position (is_sent_by key.node key.stamp) (take n events))

-- of one event more
module _ (unnamed : MessageId) (messages : ℕ) (events : List LogEvent) (place : ℕ) (exists : place < length events) where
  abbrev event : LogEvent
  event = event_at events place

  abbrev message_by : (n : ℕ) → SentAs → Option MessageId
  message_by n key = message_among unnamed messages events n key

  abbrev own : SentAs
  own = record { node = event.node; stamp = event.stamp }

  taken : take (place + 1) events ≡ take place events ++ event ∷ []
  taken = take_more events place no_event exists

  size : length (take place events) ≡ place
  size = length-take-le place events (omega arith)

  -- an event that sends nothing changes nothing
  no_send : (kind : LogKind) → ((m : MessageId) → kind ≡ Send m → ⊥) → sends_some kind ≡ false
  no_send Local none = refl
  no_send (Send m) none = absurd (none m refl)
  no_send (Receive m) none = refl
  no_send Restart none = refl
  no_send Outside none = refl

  pub stays_if_none : ((m : MessageId) → event.kind ≡ Send m → ⊥) → (key : SentAs) → message_by (place + 1) key ≡ message_by place key
  stays_if_none none key =
      let fails : is_sent_by key.node key.stamp event ≡ false =
      ap (λ (b : Bool). b && is_same_sent own key) (no_send event.kind none) in
      ap (option_map (message_sent_at unnamed messages events)) (position_fails (is_sent_by key.node key.stamp) events place event taken size fails)

  module _ (message : MessageId) (is_send : event.kind ≡ Send message) where
    sends : (key : SentAs) (same : Bool) → is_same_sent own key ≡ same → is_sent_by key.node key.stamp event ≡ same
    sends key same is = ap (λ (kind : LogKind). sends_some kind && is_same_sent own key) is_send ∙ is

    stays_if_other : (key : SentAs) → is_same_sent own key ≡ false → message_by (place + 1) key ≡ message_by place key
    stays_if_other key other =
        ap (option_map (message_sent_at unnamed messages events))
        (position_fails (is_sent_by key.node key.stamp) events place event taken size (sends key false other))

    was_found : (b : Bool) → is_some (message_by place own) ≡ b → is_some (position (is_sent_by own.node own.stamp) (take place events)) ≡ b
    was_found b is = sym (is_mapped (message_sent_at unnamed messages events) (position (is_sent_by own.node own.stamp) (take place events))) ∙ is

    pub stays_if_known : is_some (message_by place own) ≡ true → (key : SentAs) → message_by (place + 1) key ≡ message_by place key
    stays_if_known known key = by_same (is_same_sent own key) refl where
      by_same : (same : Bool) → is_same_sent own key ≡ same → message_by (place + 1) key ≡ message_by place key
      by_same false other = stays_if_other key other
      by_same true same = subst (λ (k : SentAs). message_by (place + 1) k ≡ message_by place k) (same_sent own key same)
          (ap (option_map (message_sent_at unnamed messages events))
          (position_known (is_sent_by own.node own.stamp) events place event taken size (was_found true known)))

    pub adds_if_new : is_some (message_by place own) ≡ false → (key : SentAs)
        → message_by (place + 1) key ≡ cond (is_same_sent own key) (Some (own_message unnamed messages place message)) (message_by place key)
    adds_if_new new key = by_same (is_same_sent own key) refl where
      by_same : (same : Bool) → is_same_sent own key ≡ same
          → message_by (place + 1) key ≡ cond same (Some (own_message unnamed messages place message)) (message_by place key)
      by_same false other = stays_if_other key other
      by_same true same =
          subst (λ (k : SentAs). message_by (place + 1) k ≡ Some (own_message unnamed messages place message)) (same_sent own key same)
          (ap (option_map (message_sent_at unnamed messages events))
          (position_new (is_sent_by own.node own.stamp) events place event taken size (was_found false new)
          (sends own true (same_sent_itself own)))
          ∙ ap (λ (kind : LogKind). (let o : Option MessageId = Some (own_message unnamed messages place (sent_message kind)) in o)) is_send)
