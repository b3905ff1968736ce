-- Logs in which each message has a name.
use Rattle.std.proofs.Common.{◌≡◌, ◌≢◌, ◌∙◌, ℕ, suc, ◌≤◌, Bool, false, not, ◌||◌, All, IfSome, List, [], ◌∷◌, Option, Some, None, ap, arith, filter, length, map, refl, subst, sym}
use Rattle.std.specs.List.{cons_option, filter_map, list_any}
use Rattle.std.specs.Option.{is_some}
use Rattle.std.specs.Str.{bytes_eq}
use Rattle.std.proofs.lemmas.List.{length-map}
use Rattle.std.proofs.lemmas.List.Elements.{All-head, All-tail}
use Rattle.hlc_log_text.specs.Laws.{HasNamedMessage}
use Rattle.hlc_log_text.specs.LogText.{IsLogOf, IsNamed, IsRawLogOf, apart_count, apart_if, message_names, senders_of, unnamed_in, with_names}
use Rattle.hlc_log_text.specs.ReadText.{ReadText}
use Rattle.hlc_log_text.specs.Names.{first_mentions}
use Rattle.hlc_log_text.specs.NamedEvent.{NamedEvent, without_asides}
use Rattle.hlc_log_text.proofs.NameFacts.{has_number, known_but_for}

-- no name is the empty one
abbrev has_empty : List (List ℕ) → Bool
has_empty names = list_any (bytes_eq []) names

mentions_none : (names : List (List ℕ)) → has_empty names ≡ false → has_empty (first_mentions names) ≡ false
mentions_none [] none = refl
mentions_none (name ∷ names) none =
    grind (arith, mentions_none names, known_but_for [] name (first_mentions names))

not_empty : (name : List ℕ) → name ≢ [] → bytes_eq [] name ≡ false
not_empty [] named = absurd (named refl)
not_empty (byte ∷ bytes) named = refl

named_mentions : (events : List NamedEvent) → All HasNamedMessage events → has_empty (filter_map (λ (e : NamedEvent). e.message) events) ≡ false
named_mentions [] named = refl
named_mentions (e ∷ events) named =
    by e.message (All-head HasNamedMessage e events named) (named_mentions events (All-tail HasNamedMessage e events named)) where
      by : (m : Option (List ℕ)) → IfSome m (λ name. name ≢ []) → has_empty (filter_map (λ (e : NamedEvent). e.message) events) ≡ false
          → has_empty (cons_option m (filter_map (λ (e : NamedEvent). e.message) events)) ≡ false
      by None here there = there
      by (Some name) here there = ap (λ (b : Bool). b || has_empty (filter_map (λ (e : NamedEvent). e.message) events)) (not_empty name here) ∙ there

none_there : (o : Option ℕ) → is_some o ≡ false → o ≡ None
none_there None is = refl
none_there (Some n) is = absurd (cc)

pub none_unnamed : (events : List NamedEvent) → All HasNamedMessage events → unnamed_in (message_names events) ≡ None
none_unnamed events named =
    none_there (unnamed_in (message_names events))
    (has_number (message_names events) [] ∙ mentions_none (filter_map (λ (e : NamedEvent). e.message) events) (named_mentions events named))

-- there are no more messages than events
filter_few : (p : List ℕ → Bool) (names : List (List ℕ)) → length (filter p names) ≤ length names
filter_few p [] = omega arith
filter_few p (name ∷ names) = grind (arith, filter_few p names)

mentions_few : (names : List (List ℕ)) → length (first_mentions names) ≤ length names
mentions_few [] = omega arith
mentions_few (name ∷ names) =
    let rest = mentions_few names in
    let others = filter_few (λ other. not (bytes_eq name other)) (first_mentions names) in
    omega (arith, rest, others)

messages_few : (events : List NamedEvent) → length (filter_map (λ (e : NamedEvent). e.message) events) ≤ length events
messages_few [] = omega arith
messages_few (e ∷ events) = by e.message (messages_few events) where
  by : (m : Option (List ℕ)) → length (filter_map (λ (e : NamedEvent). e.message) events) ≤ length events
      → length (cons_option m (filter_map (λ (e : NamedEvent). e.message) events)) ≤ suc (length events)
  by None few = omega arith
  by (Some name) few = omega arith

-- such a log is as it was read
module _ (events : List NamedEvent) (text : ReadText) (h : IsLogOf events text) (named : All HasNamedMessage events) where
  abbrev names : List (List ℕ)
  names = message_names events

  none : unnamed_in names ≡ None
  none = none_unnamed events named

  pub log_is_raw : text.log.events ≡ h.raw
  log_is_raw = h.apart ∙ ap (λ (unnamed : Option ℕ). apart_if unnamed (length names) (senders_of text.details.nodes events) h.raw) none

  pub messages_are : text.messages ≡ length names
  messages_are = h.messages ∙ ap (λ (unnamed : Option ℕ). apart_count unnamed (length names) (length h.raw)) none

  few : text.messages ≤ length text.log.events
  few =
      let size : length h.raw ≡ length events =
      sym (length-map h.raw (with_names text.details.nodes names)) ∙ ap length h.told ∙ length-map events without_asides in
      let all = messages_few events in
      let each = mentions_few (filter_map (λ (e : NamedEvent). e.message) events) in
      omega (arith, size, all, each, messages_are, ap length log_is_raw)

  pub is_as_read : IsRawLogOf events text
  is_as_read = record {
    told = ap (map (with_names text.details.nodes names)) log_is_raw ∙ h.told;
    named = subst (All (IsNamed text.details.nodes names)) (sym log_is_raw) h.named;
    nodes = h.nodes;
    messages = messages_are;
    few_nodes = h.few_nodes;
    few_messages = few;
    labels = h.labels;
    lines_rise = h.lines_rise;
  }
