-- Each event of a log that was read is of a node that has a name.
use Rattle.std.proofs.Common.{◌≡◌, ◌∙◌, ◌+◌, ◌<◌, [], ◌∷◌, get_or, map, ℕ, List, Option, None, Some, ap, arith, length, refl, subst, sym}
use Rattle.std.specs.Prelude.{All}
use Rattle.std.proofs.lemmas.List.{get_or-map, length-map}
use Rattle.hlc_log.specs.Senders.{apart_from}
use Rattle.hlc_log.specs.declared.log_event.LogEvent.{LogEvent}
use Rattle.hlc_log.specs.declared.message_id.MessageId.{MessageId}
use Rattle.hlc_stamp.specs.declared.id.NodeId.{NodeId}
use Rattle.hlc_log_text.specs.LogText.{IsLogOf, apart_if, message_names, senders_of, unnamed_in}
use Rattle.hlc_log_text.specs.ReadText.{ReadText}
use Rattle.hlc_log_text.specs.NamedEvent.{NamedEvent}

-- messages that are told apart leave events at their nodes
module _ (unnamed : MessageId) (messages : ℕ) (senders : List (Option NodeId)) (events : List LogEvent) where
  nodes_apart : (place : ℕ) (rest : List LogEvent)
      → map (λ (e : LogEvent). e.node.0) (apart_from unnamed messages senders events place rest) ≡ map (λ (e : LogEvent). e.node.0) rest
  nodes_apart place [] = refl
  nodes_apart place (event ∷ rest) = ap (λ (nodes : List ℕ). event.node.0 ∷ nodes) (nodes_apart (place + 1) rest)

nodes_apart_if : (unnamed : Option ℕ) (messages : ℕ) (senders : List (Option NodeId)) (events : List LogEvent)
    → map (λ (e : LogEvent). e.node.0) (apart_if unnamed messages senders events) ≡ map (λ (e : LogEvent). e.node.0) events
nodes_apart_if None messages senders events = refl
nodes_apart_if (Some n) messages senders events = nodes_apart (record { 0 = n }) messages senders events 0 events

named_alike : (events others : List LogEvent) (nodes : List (List ℕ)) → map (λ (e : LogEvent). e.node.0) events ≡ map (λ (e : LogEvent). e.node.0) others
    → All (λ (e : LogEvent). e.node.0 < length nodes) others → All (λ (e : LogEvent). e.node.0 < length nodes) events
named_alike events others nodes same named k d lt =
    let node = λ (e : LogEvent). e.node.0 in
    let size : length events ≡ length others = sym (length-map events node) ∙ ap (λ (ns : List ℕ). length ns) same ∙ length-map others node in
    let within : k < length others = omega (arith, size, lt) in
    let is = sym (get_or-map node events k d d.node.0 lt) ∙ ap (λ (ns : List ℕ). get_or ns k d.node.0) same ∙ get_or-map node others k d d.node.0 within in
    subst (λ (n : ℕ). n < length nodes) (sym is) (named k d within)

-- so each event of a log that was read is of a node that has a name
pub read_names : (events : List NamedEvent) (text : ReadText) → IsLogOf events text → All (λ (e : LogEvent). e.node.0 < length text.details.nodes) text.log.events
read_names events text h =
    let names = message_names events in
    named_alike text.log.events h.raw text.details.nodes
    (ap (λ (es : List LogEvent). map (λ (e : LogEvent). e.node.0) es) h.apart
    ∙ nodes_apart_if (unnamed_in names) (length names) (senders_of text.details.nodes events) h.raw)
    (λ k d lt. (h.named k d lt).0)
