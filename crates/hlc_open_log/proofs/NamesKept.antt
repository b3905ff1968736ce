-- Events are of nodes that have names, whichever messages are told apart, whatever their receives are taken as, and whatever stamps they are given.
use Rattle.std.proofs.Common.{◌≡◌, ◌<◌, Bool, true, false, ℕ, List, Option, None, Some, arith, length, refl}
use Rattle.std.specs.Prelude.{if◌then◌else◌}
use Rattle.std.proofs.lemmas.List.Elements.{All-from_get_or, All-get_or, All-map, All-weaker}
use Rattle.hlc_log.specs.Events.{no_event}
use Rattle.hlc_log.specs.Unsent.{is_unsent, taken_event, taken_kind, with_unsent}
use Rattle.hlc_log.specs.declared.log_event.LogEvent.{LogEvent}
use Rattle.hlc_log.specs.declared.resent.Resent.{Resent}
use Rattle.hlc_log.proofs.ResentLogs.{resent_nodes}
use Rattle.hlc_log.specs.declared.log_event.LogKind.{LogKind}
use Rattle.hlc_ordered_log.specs.InOrder.{AreFilled, AreOfNodes}
use Rattle.hlc_ordered_log.proofs.Filled.{filled_node}
use Rattle.hlc_log_text.specs.ReadText.{HaveNames}
use Rattle.hlc_open_log.specs.Opened.{resent_apart}

either_node : (test : Bool) (e : LogEvent) (kind : LogKind) → (if test then record e { kind = kind } else e).node ≡ e.node
either_node true e kind = refl
either_node false e kind = refl

pub nodes_kept : (as_local : Bool) (events : List LogEvent) (nodes : ℕ) → AreOfNodes nodes events → AreOfNodes nodes (with_unsent as_local events)
nodes_kept as_local events nodes of_nodes =
    All-map (λ (e : LogEvent). e.node.0 < nodes) (taken_event as_local events) events
    (All-weaker (λ (e : LogEvent). e.node.0 < nodes) (λ (e : LogEvent). (taken_event as_local events e).node.0 < nodes)
    (λ e lt. let same = either_node (is_unsent events e.kind) e (taken_kind as_local e.carried e.kind) in rw same lt) events of_nodes)

pub names_kept : (as_local : Bool) (events : List LogEvent) (nodes : List (List ℕ)) → HaveNames events nodes
    → HaveNames (with_unsent as_local events) nodes
names_kept as_local events nodes named = nodes_kept as_local events (length nodes) named

pub nodes_apart : (resent : Option Resent) (messages : ℕ) (events : List LogEvent) (nodes : ℕ) → AreOfNodes nodes events
    → AreOfNodes nodes (resent_apart resent messages events)
nodes_apart None messages events nodes of_nodes = of_nodes
nodes_apart (Some resent) messages events nodes of_nodes = resent_nodes resent messages events nodes of_nodes

pub names_apart : (resent : Option Resent) (messages : ℕ) (events : List LogEvent) (nodes : List (List ℕ)) → HaveNames events nodes
    → HaveNames (resent_apart resent messages events) nodes
names_apart resent messages events nodes named = nodes_apart resent messages events (length nodes) named

pub names_filled : (events filled : List LogEvent) (nodes : List (List ℕ)) → AreFilled events filled → HaveNames events nodes → HaveNames filled nodes
names_filled events filled nodes are named =
    All-from_get_or (λ (e : LogEvent). e.node.0 < length nodes) filled no_event (λ e lt.
    let size = are.one_each in
    let within : e < length events = omega arith in
    let here = All-get_or (λ (event : LogEvent). event.node.0 < length nodes) events e no_event within named in
    let same = filled_node events filled are e in
    omega (arith, here, same))
