-- Logs in which messages are sent again: which sends are the first, and which are the latest.
use Rattle.std.proofs.Common.{◌≡◌, ◌≢◌, ◌∙◌, ℕ, zero, suc, ◌+◌, ◌-◌, ◌<◌, ◌≤◌, Bool, true, false, List, Option, Some, None, add-one, ap, arith, eq-eqb, eqb-true, get_or-set_other, get_or-set_same, inl, inr, length, length-set, ne_eqb, refl, replicate, set, subst, sym}
use Rattle.std.specs.Prelude.{◌==◌, ◌&&◌, if◌then◌else◌, is_some, not}
use Rattle.std.specs.Map.{lookup}
use Rattle.std.specs.Option.{option_or}
use Rattle.std.proofs.lemmas.Bool.{and_parts, cases_eq}
use Rattle.std.proofs.lemmas.List.{get_or-replicate, length-replicate}
use Rattle.hlc_stamp.specs.declared.id.EventId.{EventId}
use Rattle.hlc_stamp.specs.Order.{Pair}
use Rattle.hlc_log.specs.declared.log_event.LogEvent.{LogEvent}
use Rattle.hlc_log.specs.declared.log_event.LogKind.{LogKind}
use Rattle.hlc_log.specs.declared.log_event.LogKind.TheVariants.{Local, Outside, Receive, Restart, Send}
use Rattle.hlc_log.specs.declared.message_id.MessageId.{MessageId}
use Rattle.hlc_log.specs.declared.resent.Resent.{Resent}
use Rattle.hlc_log.specs.declared.resent.Resent.TheVariants.{First, Last}
use Rattle.hlc_log.specs.Events.{event_at}
use Rattle.hlc_log.specs.declared.resent.SentWith.{SentWith}
use Rattle.hlc_log.specs.Resent.{AreAskedSends, AreFirstSends, asked_after, asked_send, claimed_in, claimed_send, first_before, first_send, is_at, is_resent, is_same_sent_with, latest_before, passing_at, resent_before, sends, sends_again, sends_with}
use Rattle.hlc_log.specs.SendLinks.{link_at}
use Rattle.hlc_log.specs.Senders.{is_same_stamp}
use Rattle.hlc_log.specs.Unsent.{is_send}

or_none : (o : Option EventId) → option_or o None ≡ o
or_none None = refl
or_none (Some e) = refl

or_known : (o other : Option EventId) → is_some o ≡ true → option_or o other ≡ o
or_known None other known = absurd (cc)
or_known (Some e) other known = refl

or_new : (o other : Option EventId) → is_some o ≡ false → option_or o other ≡ other
or_new None other new = refl
or_new (Some e) other new = absurd (cc)

module _ (passes : LogEvent → Bool) (events : List LogEvent) where
  abbrev first : ℕ → Option EventId
  first n = first_before passes events n

  abbrev latest : ℕ → Option EventId
  latest n = latest_before passes events n

  passes_here : (n : ℕ) → passes (event_at events n) ≡ true → passing_at passes events n ≡ Some (record { 0 = n })
  passes_here n is = ap (λ (b : Bool). (let o : Option EventId = if b then Some (record { 0 = n }) else None in o)) is

  fails_here : (n : ℕ) → passes (event_at events n) ≡ false → passing_at passes events n ≡ None
  fails_here n is = ap (λ (b : Bool). (let o : Option EventId = if b then Some (record { 0 = n }) else None in o)) is

  first_step : (n : ℕ) → first (n + 1) ≡ option_or (first n) (passing_at passes events n)
  first_step n = rw add-one refl

  latest_step : (n : ℕ) → latest (n + 1) ≡ option_or (passing_at passes events n) (latest n)
  latest_step n = rw add-one refl

  -- one event more
  pub first_over : (n : ℕ) → passes (event_at events n) ≡ false → first (n + 1) ≡ first n
  first_over n fails = first_step n ∙ ap (option_or (first n)) (fails_here n fails) ∙ or_none (first n)

  pub first_known : (n : ℕ) → is_some (first n) ≡ true → first (n + 1) ≡ first n
  first_known n known = first_step n ∙ or_known (first n) (passing_at passes events n) known

  pub first_new : (n : ℕ) → is_some (first n) ≡ false → passes (event_at events n) ≡ true → first (n + 1) ≡ Some (record { 0 = n })
  first_new n new is = first_step n ∙ or_new (first n) (passing_at passes events n) new ∙ passes_here n is

  pub latest_over : (n : ℕ) → passes (event_at events n) ≡ false → latest (n + 1) ≡ latest n
  latest_over n fails = latest_step n ∙ ap (λ (o : Option EventId). option_or o (latest n)) (fails_here n fails)

  pub latest_here : (n : ℕ) → passes (event_at events n) ≡ true → latest (n + 1) ≡ Some (record { 0 = n })
  latest_here n is = latest_step n ∙ ap (λ (o : Option EventId). option_or o (latest n)) (passes_here n is)

  -- what is found first stays so
  kept_by : (o other : Option EventId) (e : EventId) → o ≡ Some e → option_or o other ≡ Some e
  kept_by o other e is = ap (λ (o : Option EventId). option_or o other) is

  stays : (n more : ℕ) (e : EventId) → first n ≡ Some e → first (n + more) ≡ Some e
  stays n zero e is = let same : n + 0 ≡ n = omega arith in ap first same ∙ is
  stays n (suc more) e is =
      let same : n + suc more ≡ suc (n + more) = omega arith in
      ap first same ∙ kept_by (first (n + more)) (passing_at passes events (n + more)) e (stays n more e is)

  -- it is one that passes
  abbrev IsPassing : ℕ → EventId → Type 0
  IsPassing n e = (e.0 < n) × (passes (event_at events e.0) ≡ true)

  here_passes : (n : ℕ) (e : EventId) (test : Bool) → passes (event_at events n) ≡ test
      → (let o : Option EventId = if test then Some (record { 0 = n }) else None in o) ≡ Some e → IsPassing (suc n) e
  here_passes n e true test is =
      let same : n ≡ e.0 = cc in
      (omega arith, ap (λ (k : ℕ). passes (event_at events k)) (sym same) ∙ test)
  here_passes n e false test is = absurd (cc)

  later_passes : (n : ℕ) (e : EventId) → IsPassing n e → IsPassing (suc n) e
  later_passes n e is = let before = is.0 in (omega arith, is.1)

  first_passes_in : (n : ℕ) (e : EventId) (o : Option EventId) → first n ≡ o → ((e : EventId) → first n ≡ Some e → IsPassing n e)
      → option_or o (passing_at passes events n) ≡ Some e → IsPassing (suc n) e
  first_passes_in n e None found before is = here_passes n e (passes (event_at events n)) refl is
  first_passes_in n e (Some other) found before is = later_passes n e (before e (found ∙ is))

  pub first_passes : (n : ℕ) (e : EventId) → first n ≡ Some e → IsPassing n e
  first_passes zero e is = absurd (cc)
  first_passes (suc n) e is = first_passes_in n e (first n) refl (first_passes n) is

  latest_passes_in : (n : ℕ) (e : EventId) (test : Bool) → passes (event_at events n) ≡ test → ((e : EventId) → latest n ≡ Some e → IsPassing n e)
      → option_or (let o : Option EventId = if test then Some (record { 0 = n }) else None in o) (latest n) ≡ Some e → IsPassing (suc n) e
  latest_passes_in n e true test before is = here_passes n e true test is
  latest_passes_in n e false test before is = later_passes n e (before e is)

  pub latest_passes : (n : ℕ) (e : EventId) → latest n ≡ Some e → IsPassing n e
  latest_passes zero e is = absurd (cc)
  latest_passes (suc n) e is = latest_passes_in n e (passes (event_at events n)) refl (latest_passes n) is

  pub first_stays : (n k : ℕ) (e : EventId) → first n ≡ Some e → n ≤ k → first k ≡ Some e
  first_stays n k e is within =
      let more : (d : ℕ) × (n + d ≡ k) = (k - n, omega arith) in
      ap first (sym more.1) ∙ stays n more.0 e is

-- whether it sends a message, by its kind
sends_same : (m : MessageId) (kind : LogKind) → kind ≡ Send m → is_send m.0 kind ≡ true
sends_same m kind is = ap (is_send m.0) is ∙ eq-eqb m.0 m.0 refl

sends_other : (k : ℕ) (m : MessageId) (kind : LogKind) → kind ≡ Send m → k ≢ m.0 → is_send k kind ≡ false
sends_other k m kind is other = ap (is_send k) is ∙ ne_eqb m.0 k (λ same. other (sym same))

sends_none : (k : ℕ) (kind : LogKind) → ((m : MessageId) → kind ≡ Send m → ⊥) → is_send k kind ≡ false
sends_none k Local none = refl
sends_none k (Send m) none = absurd (none m refl)
sends_none k (Receive m) none = refl
sends_none k Restart none = refl
sends_none k Outside none = refl

some_link : (o : Option EventId) → is_some o ≡ true → (e : EventId) × (o ≡ Some e)
some_link None is = absurd (cc)
some_link (Some e) is = (e, refl)

-- links to first sends, with one event more
module _ (events : List LogEvent) (place : ℕ) (links : List (Option EventId)) where
  abbrev kind : LogKind
  kind = (event_at events place).kind

  module _ (h : AreFirstSends events place links) where
    pub first_links_over : ((m : MessageId) → kind ≡ Send m → ⊥) → AreFirstSends events (place + 1) links
    first_links_over none k lt = h k lt ∙ sym (first_over (sends k) events place (sends_none k kind none))

    module _ (m : MessageId) (is : kind ≡ Send m) (within : m.0 < length links) where
      pub first_links_known : is_some (link_at links m.0) ≡ true → AreFirstSends events (place + 1) links
      first_links_known known k lt = elim (cases_eq k m.0) [
        | inl same ↦
            let there : is_some (first_before (sends k) events place) ≡ true =
            ap is_some (sym (h k lt) ∙ ap (link_at links) same) ∙ known in
            h k lt ∙ sym (first_known (sends k) events place there)
        | inr other ↦ h k lt ∙ sym (first_over (sends k) events place (sends_other k m kind is other))
      ]

      pub first_links_new : is_some (link_at links m.0) ≡ false → AreFirstSends events (place + 1) (set links m.0 (Some (record { 0 = place })))
      first_links_new new k lt =
          let size = length-set links m.0 (Some (record { 0 = place })) in
          let here : k < length links = omega (arith, lt, size) in
          elim (cases_eq k m.0) [
            | inl same ↦
                let there : is_some (first_before (sends k) events place) ≡ false =
                ap is_some (sym (h k here) ∙ ap (link_at links) same) ∙ new in
                ap (link_at (set links m.0 (Some (record { 0 = place })))) same
                ∙ get_or-set_same links m.0 (Some (record { 0 = place })) None within
                ∙ sym (first_new (sends k) events place there (subst (λ (k : ℕ). is_send k kind ≡ true) (sym same) (sends_same m kind is)))
            | inr other ↦
                get_or-set_other links m.0 k (Some (record { 0 = place })) None other
                ∙ h k here ∙ sym (first_over (sends k) events place (sends_other k m kind is other))
          ]

      -- whether it sends again
      pub is_again : place ≤ length events → is_some (link_at links m.0) ≡ true → is_resent events place ≡ true
      is_again exists known =
          let found = some_link (link_at links m.0) known in
          let before : first_before (sends m.0) events place ≡ Some found.0 = sym (h m.0 within) ∙ found.1 in
          let at = first_passes (sends m.0) events place found.0 before in
          let first : first_send events m.0 ≡ Some found.0 = first_stays (sends m.0) events place (length events) found.0 before exists in
          let other : (found.0).0 ≢ place = let lt = at.0 in omega arith in
          ap (sends_again events place) is ∙ ap (λ (o : Option EventId). not (is_at place o)) first ∙ ap not (ne_eqb (found.0).0 place other)

      pub is_first : place < length events → is_some (link_at links m.0) ≡ false → is_resent events place ≡ false
      is_first exists new =
          let none : is_some (first_before (sends m.0) events place) ≡ false = ap is_some (sym (h m.0 within)) ∙ new in
          let here : first_before (sends m.0) events (place + 1) ≡ Some (record { 0 = place }) =
          first_new (sends m.0) events place none (sends_same m kind is) in
          let first : first_send events m.0 ≡ Some (record { 0 = place }) =
          first_stays (sends m.0) events (place + 1) (length events) (record { 0 = place }) here (omega arith) in
          ap (sends_again events place) is ∙ ap (λ (o : Option EventId). not (is_at place o)) first ∙ ap not (eq-eqb place place refl)

  again_none : (kind : LogKind) → ((m : MessageId) → kind ≡ Send m → ⊥) → sends_again events place kind ≡ false
  again_none Local none = refl
  again_none (Send m) none = absurd (none m refl)
  again_none (Receive m) none = refl
  again_none Restart none = refl
  again_none Outside none = refl

  pub is_none : ((m : MessageId) → kind ≡ Send m → ⊥) → is_resent events place ≡ false
  is_none none = again_none kind none

  -- links to the sends that are asked for, with one event more
  same_for : (how : Resent) → AreAskedSends events how place links → (k : ℕ) → k < length links → is_send k kind ≡ false
      → link_at links k ≡ asked_send events how k (place + 1)
  same_for First h k lt fails = h k lt
  same_for Last h k lt fails =
      h k lt ∙ ap (λ (o : Option EventId). option_or o (first_send events k)) (sym (latest_over (sends k) events place fails))

  pub asked_over : (how : Resent) → AreAskedSends events how place links → ((m : MessageId) → kind ≡ Send m → ⊥)
      → AreAskedSends events how (place + 1) links
  asked_over how h none k lt = same_for how h k lt (sends_none k kind none)

  pub asked_more : (how : Resent) → AreAskedSends events how place links → (m : MessageId) → kind ≡ Send m → m.0 < length links
      → AreAskedSends events how (place + 1) (asked_after how links m.0 place)
  asked_more First h m is within k lt = h k lt
  asked_more Last h m is within k lt =
      let size = length-set links m.0 (Some (record { 0 = place })) in
      let here : k < length links = omega (arith, lt, size) in
      elim (cases_eq k m.0) [
        | inl same ↦
            ap (link_at (set links m.0 (Some (record { 0 = place })))) same
            ∙ get_or-set_same links m.0 (Some (record { 0 = place })) None within
            ∙ sym (ap (λ (o : Option EventId). option_or o (first_send events k))
            (latest_here (sends k) events place (subst (λ (k : ℕ). is_send k kind ≡ true) (sym same) (sends_same m kind is))))
        | inr other ↦
            get_or-set_other links m.0 k (Some (record { 0 = place })) None other
            ∙ same_for Last h k here (sends_other k m kind is other)
      ]

pub asked_size : (how : Resent) (links : List (Option EventId)) (m place : ℕ) → length (asked_after how links m place) ≡ length links
asked_size First links m place = refl
asked_size Last links m place = length-set links m (Some (record { 0 = place }))

-- before any event, the first sends are asked for
pub asked_first : (events : List LogEvent) (how : Resent) (links : List (Option EventId)) → AreFirstSends events (length events) links
    → AreAskedSends events how 0 links
asked_first events First links h = h
asked_first events Last links h = h

pub count_step : (events : List LogEvent) (n : ℕ) → resent_before events (n + 1) ≡ resent_before events n + (if is_resent events n then 1 else 0)
count_step events n = rw add-one refl

pub count_more : (events : List LogEvent) (n : ℕ) (again : Bool) → is_resent events n ≡ again
    → resent_before events (n + 1) ≡ resent_before events n + (if again then 1 else 0)
count_more events n again is = count_step events n ∙ ap (λ (b : Bool). resent_before events n + (if b then 1 else 0)) is

-- sends with stamps, with one event more
module _ (events : List LogEvent) (place : ℕ) where
  abbrev at : LogEvent
  at = event_at events place

  abbrev known_by : SentWith → ℕ → Option EventId
  known_by key n = first_before (sends_with key.message.0 key.stamp) events n

  -- keys that are the same are equal
  same_sent : (a b : SentWith) → is_same_sent_with a b ≡ true → a ≡ b
  same_sent a b same =
      let parts = and_parts (a.message.0 == b.message.0) (is_same_stamp a.stamp b.stamp) same in
      let numbers = and_parts (a.stamp.l == b.stamp.l) (a.stamp.c == b.stamp.c) parts.1 in
      let message = eqb-true a.message.0 b.message.0 parts.0 in
      let l = eqb-true a.stamp.l b.stamp.l numbers.0 in
      let c = eqb-true a.stamp.c b.stamp.c numbers.1 in
      λ i. record { message = record { 0 = message i }; stamp = record { l = l i; c = c i } }

  same_itself : (a : SentWith) → is_same_sent_with a a ≡ true
  same_itself a =
      let message : (a.message.0 == a.message.0) ≡ true = eq-eqb a.message.0 a.message.0 refl in
      let l : (a.stamp.l == a.stamp.l) ≡ true = eq-eqb a.stamp.l a.stamp.l refl in
      let c : (a.stamp.c == a.stamp.c) ≡ true = eq-eqb a.stamp.c a.stamp.c refl in
      rw (message, l, c) refl

  pub known_over : ((m : MessageId) → at.kind ≡ Send m → ⊥) → (key : SentWith) → known_by key (place + 1) ≡ known_by key place
  known_over none key =
      first_over (sends_with key.message.0 key.stamp) events place
      (ap (λ (b : Bool). b && is_same_stamp at.stamp key.stamp) (sends_none key.message.0 at.kind none))

  module _ (m : MessageId) (is : at.kind ≡ Send m) where
    abbrev own : SentWith
    own = record { message = m; stamp = at.stamp }

    passes_if : (key : SentWith) (same : Bool) → is_same_sent_with own key ≡ same → sends_with key.message.0 key.stamp at ≡ same
    passes_if key same is_same = ap (λ (kind : LogKind). is_send key.message.0 kind && is_same_stamp at.stamp key.stamp) is ∙ is_same

    pub known_stays : is_some (known_by own place) ≡ true → (key : SentWith) → known_by key (place + 1) ≡ known_by key place
    known_stays known key = by_same (is_same_sent_with own key) refl where
      by_same : (same : Bool) → is_same_sent_with own key ≡ same → known_by key (place + 1) ≡ known_by key place
      by_same false other = first_over (sends_with key.message.0 key.stamp) events place (passes_if key false other)
      by_same true same = subst (λ (k : SentWith). known_by k (place + 1) ≡ known_by k place) (same_sent own key same)
          (first_known (sends_with m.0 at.stamp) events place known)

    pub known_new : is_some (known_by own place) ≡ false → (key : SentWith)
        → known_by key (place + 1) ≡ (if is_same_sent_with own key then Some (record { 0 = place }) else known_by key place)
    known_new new key = by_same (is_same_sent_with own key) refl where
      by_same : (same : Bool) → is_same_sent_with own key ≡ same
          → known_by key (place + 1) ≡ (if same then Some (record { 0 = place }) else known_by key place)
      by_same false other = first_over (sends_with key.message.0 key.stamp) events place (passes_if key false other)
      by_same true same =
          subst (λ (k : SentWith). known_by k (place + 1) ≡ Some (record { 0 = place })) (same_sent own key same)
          (first_new (sends_with m.0 at.stamp) events place new (passes_if own true (same_itself own)))

-- the sends by their messages and stamps say which one a receive tells
pub claimed_is : (events : List LogEvent) (sent : List (SentWith × EventId))
    → ((key : SentWith) → lookup (is_same_sent_with key) sent ≡ first_before (sends_with key.message.0 key.stamp) events (length events))
    → (message : MessageId) (carried : Option Pair) → claimed_in sent message carried ≡ claimed_send events message.0 carried
claimed_is events sent is message None = refl
claimed_is events sent is message (Some stamp) = is (record { message = message; stamp = stamp })

-- before the first event no message has a send
pub no_first_links : (events : List LogEvent) (n : ℕ) → AreFirstSends events 0 (replicate n None)
no_first_links events n m lt = get_or-replicate n m None None (rw length-replicate at lt)
