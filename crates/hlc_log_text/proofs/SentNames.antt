-- Which messages events send, by their names and by their numbers.
use Rattle.std.proofs.Common.{◌≡◌, ◌∙◌, ◌⊎◌, ℕ, ◌<◌, ◌==◌, ◌||◌, All, Bool, true, false, List, [], ◌∷◌, ◌++◌, Some, None, ap, arith, get_or, inl, inr, length, map, position, refl, sym, subst}
use Rattle.std.specs.Prelude.{IsTrue}
use Rattle.std.specs.List.{list_any}
use Rattle.std.specs.Option.{is_some}
use Rattle.std.specs.Str.{bytes_eq}
use Rattle.std.proofs.lemmas.Bool.{cases_order}
use Rattle.std.proofs.lemmas.List.Elements.{All-head, All-tail}
use Rattle.std.proofs.lemmas.List.Folds.{list_any-append, list_any_at}
use Rattle.std.proofs.lemmas.List.Quantifiers.{position-Some}
use Rattle.std.proofs.lemmas.Slice.Eq.{bytes_eq-Decides}
use Rattle.hlc_log.specs.Events.{IsMessageBelow}
use Rattle.hlc_log.specs.Unsent.{is_send, is_sent}
use Rattle.hlc_log.specs.declared.log_event.LogEvent.{LogEvent}
use Rattle.hlc_log.specs.declared.log_event.LogKind.{LogKind}
use Rattle.hlc_log.specs.declared.log_event.LogKind.TheVariants.{Local, Outside, Receive, Restart, Send}
use Rattle.hlc_log_text.specs.LogItem.{LogItem, events_in}
use Rattle.hlc_log_text.specs.LogText.{IsNamed, kind_message, kind_word, name_of, with_names}
use Rattle.hlc_log_text.specs.Names.{EachNameOnce}
use Rattle.hlc_log_text.specs.NamedEvent.{NamedEvent, is_sent_by, sends_name, without_asides}
use Rattle.hlc_log_text.specs.PartialLog.{AreMarked, IsPartialLog, mark_at}
use Rattle.hlc_log_text.specs.declared.partial_log.PartialLog.{PartialLog}
use Rattle.hlc_log_text.specs.declared.sent_marks.SentMarks.{SentMarks}
use Rattle.hlc_log_text.proofs.NameFacts.{has_number}

-- one more event
pub marked-more : (old new : SentMarks) (events : List LogEvent) (e : LogEvent) → new.is_kept ≡ old.is_kept
    → (IsTrue old.is_kept → (m : ℕ) → mark_at new m ≡ (mark_at old m || is_send m e.kind)) → AreMarked old events → AreMarked new (events ++ e ∷ [])
marked-more old new events e same marks are kept m =
    let before : IsTrue old.is_kept = subst IsTrue same kept in
    let here = marks before m in
    let there = are before m in
    let all = list_any-append (λ (event : LogEvent). is_send m event.kind) events (e ∷ []) in
    grind (arith, here, there, all)

-- whether an event of a kind sends a message of whose number something is so
abbrev sent_as : (ℕ → Bool) → LogKind → Bool
sent_as is_it (Send message) = is_it message.0
sent_as is_it _ = false

module _ (names : List (List ℕ)) (name : List ℕ) where
  -- a name has one number
  same_number : (k m : ℕ) → EachNameOnce names → position (bytes_eq name) names ≡ Some k → m < length names → bytes_eq name (name_of names m) ≡ true → m ≡ k
  same_number k m once is below same =
      let at = position-Some (bytes_eq name) names k [] is in
      let here : name ≡ get_or names k [] = (bytes_eq-Decides name (get_or names k [])).0 at.1 in
      let there : name ≡ get_or names m [] = (bytes_eq-Decides name (get_or names m [])).0 same in
      by (cases_order m k) at.0 (sym there ∙ here) where
        by : (m ≡ k) ⊎ ((m < k) ⊎ (k < m)) → k < length names → get_or names m [] ≡ get_or names k [] → m ≡ k
        by (inl is) within alike = is
        by (inr (inl less)) within alike = absurd (once m k [] less within alike)
        by (inr (inr more)) within alike = absurd (once k m [] more below (sym alike))

  has_name : (k m : ℕ) → position (bytes_eq name) names ≡ Some k → m ≡ k → bytes_eq name (name_of names m) ≡ true
  has_name k m is same =
      let at = position-Some (bytes_eq name) names k [] is in
      ap (λ (n : ℕ). bytes_eq name (name_of names n)) same ∙ at.1

  pub by_number : (k m : ℕ) → EachNameOnce names → position (bytes_eq name) names ≡ Some k → m < length names
      → bytes_eq name (name_of names m) ≡ (m == k)
  by_number k m once is below =
      let one = same_number k m once is below in
      let other = has_name k m is in
      grind (arith, one, other)

  -- no event sends a message of a name that has no number
  pub without_number : (m : ℕ) → position (bytes_eq name) names ≡ None → m < length names → bytes_eq name (name_of names m) ≡ false
  without_number m none below =
      let unknown : list_any (bytes_eq name) names ≡ false = sym (has_number names name) ∙ ap is_some none in
      let known = list_any_at (bytes_eq name) names m [] below in
      grind (arith, unknown, known)

  abbrev sends : NamedEvent → Bool
  sends event = sends_name name event.head.word event.message

  -- what an event of a kind sends by a name, it sends by a number of which the same is so
  of_kind : (is_it : ℕ → Bool) → ((m : ℕ) → m < length names → bytes_eq name (name_of names m) ≡ is_it m) → (kind : LogKind)
      → IsMessageBelow (length names) kind → sends_name name (kind_word kind) (kind_message names kind) ≡ sent_as is_it kind
  of_kind is_it each Local below = refl
  of_kind is_it each (Send message) below = each message.0 below
  of_kind is_it each (Receive message) below = refl
  of_kind is_it each Restart below = refl
  of_kind is_it each Outside below = refl

  of_events : (nodes : List (List ℕ)) (is_it : ℕ → Bool) → ((m : ℕ) → m < length names → bytes_eq name (name_of names m) ≡ is_it m)
      → (log_events : List LogEvent) → All (IsNamed nodes names) log_events
      → list_any sends (map (with_names nodes names) log_events) ≡ list_any (λ (e : LogEvent). sent_as is_it e.kind) log_events
  of_events nodes is_it each [] named = refl
  of_events nodes is_it each (e ∷ log_events) named =
      let here = of_kind is_it each e.kind (All-head (IsNamed nodes names) e log_events named).1 in
      let there = of_events nodes is_it each log_events (All-tail (IsNamed nodes names) e log_events named) in
      λ i. here i || there i

  without_asides_too : (events : List NamedEvent) → list_any sends (map without_asides events) ≡ list_any sends events
  without_asides_too [] = refl
  without_asides_too (event ∷ events) = ap (λ (rest : Bool). sends event || rest) (without_asides_too events)

no_event_sends : (log_events : List LogEvent) → list_any (λ (e : LogEvent). sent_as (λ m. false) e.kind) log_events ≡ false
no_event_sends [] = refl
no_event_sends (e ∷ log_events) = of_one e.kind (no_event_sends log_events) where
  of_one : (kind : LogKind) → list_any (λ (e : LogEvent). sent_as (λ m. false) e.kind) log_events ≡ false
      → (sent_as (λ m. false) kind || list_any (λ (e : LogEvent). sent_as (λ m. false) e.kind) log_events) ≡ false
  of_one Local rest = rest
  of_one (Send message) rest = rest
  of_one (Receive message) rest = rest
  of_one Restart rest = rest
  of_one Outside rest = rest

sent_by_number : (k : ℕ) (log_events : List LogEvent) → list_any (λ (e : LogEvent). sent_as (λ m. m == k) e.kind) log_events ≡ is_sent log_events k
sent_by_number k [] = refl
sent_by_number k (e ∷ log_events) = of_one e.kind (sent_by_number k log_events) where
  of_one : (kind : LogKind) → list_any (λ (e : LogEvent). sent_as (λ m. m == k) e.kind) log_events ≡ is_sent log_events k
      → (sent_as (λ m. m == k) kind || list_any (λ (e : LogEvent). sent_as (λ m. m == k) e.kind) log_events) ≡ (is_send k kind || is_sent log_events k)
  of_one Local rest = rest
  of_one (Send message) rest = ap (λ (more : Bool). (message.0 == k) || more) rest
  of_one (Receive message) rest = rest
  of_one Restart rest = rest
  of_one Outside rest = rest

-- whether a record sends the message of a name is told by the mark of its number
module _ (items : List LogItem) (lines : List ℕ) (partial : PartialLog) (h : IsPartialLog items lines partial) (once : EachNameOnce partial.messages)
    (kept : IsTrue partial.sent.is_kept) (name : List ℕ) where
  by_events : (is_it : ℕ → Bool) → ((m : ℕ) → m < length partial.messages → bytes_eq name (name_of partial.messages m) ≡ is_it m)
      → is_sent_by (events_in items) name ≡ list_any (λ (e : LogEvent). sent_as is_it e.kind) partial.log.events
  by_events is_it each =
      let names = partial.messages in
      let named = subst (λ (names : List (List ℕ)). All (IsNamed partial.nodes names) partial.log.events) (sym h.messages) h.held.log.named in
      let told = subst (λ (names : List (List ℕ)). map (with_names partial.nodes names) partial.log.events ≡ map without_asides (events_in items)) (sym h.messages)
      h.held.log.told in
      sym (without_asides_too names name (events_in items)) ∙ ap (list_any (sends names name)) (sym told)
      ∙ of_events names name partial.nodes is_it each partial.log.events named

  pub unsent_without_number : position (bytes_eq name) partial.messages ≡ None → false ≡ is_sent_by (events_in items) name
  unsent_without_number none =
      sym (by_events (λ m. false) (λ m below. without_number partial.messages name m none below) ∙ no_event_sends partial.log.events)

  pub sent_if_marked : (k : ℕ) → position (bytes_eq name) partial.messages ≡ Some k → mark_at partial.sent k ≡ is_sent_by (events_in items) name
  sent_if_marked k number =
      h.sent kept k
      ∙ sym (by_events (λ m. m == k) (λ m below. by_number partial.messages name k m once number below) ∙ sent_by_number k partial.log.events)
