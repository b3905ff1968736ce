use Rattle.std.proofs.Common.{◌≡◌, ◌∙◌, ◌<◌, ◌≤◌, ℕ, List, ap, length, subst, sym}
use Rattle.hlc_log.specs.declared.log_event.TheConstants.{MAX_LOG_NODES}
use Rattle.std.specs.Prelude.{option_map}
use Rattle.hlc_stamp.specs.Ids.{places_of}
use Rattle.hlc_log.specs.Events.{IsInRange, IsNumbered}
use Rattle.hlc_log.specs.declared.log_event.LogEvent.{LogEvent}
use Rattle.hlc_ordered_log.specs.InOrder.{AreOfNodes}
use Rattle.hlc_open_log.specs.Opened.{IsPartOf, resent_apart}
use Rattle.hlc_open_log.proofs.NamesKept.{nodes_apart, nodes_kept}
use Rattle.hlc_open_log.proofs.PartsOpened.{part_all}
use Rattle.hlc_open_log.proofs.opening.in_order.Goals as goal

pub new-requires : goal.new-requires
new-requires c =
    let rules = c.args.rules in
    let events = c.args.log.events in
    let nodes = c.len-nodes.result in
    let size : nodes ≡ length c.args.details.now.nodes = c.len-nodes.ensures.len ∙ ap length c.nodes.ensures in
    let of_nodes = subst (λ (n : ℕ). AreOfNodes n events) (sym size) c.requires.named in
    let named = subst (λ (es : List LogEvent). AreOfNodes nodes es) (sym c.in-Ok.ensures.events)
    (nodes_kept rules.unsent_local (resent_apart rules.resent c.args.messages events) nodes
    (nodes_apart rules.resent c.args.messages events nodes of_nodes)) in
    let part = c.in_ok-log.ensures.part.1 in
    record {
      few = subst (λ (n : ℕ). n ≤ MAX_LOG_NODES) (sym size) c.requires.few;
      named = part_all (λ event. event.node.0 < nodes) _ _ _ _ _ part named;
      numbered = part_all (IsNumbered _) _ _ _ _ _ part c.in-Ok.ensures.numbered;
      in_range = part_all IsInRange _ _ _ _ _ part (c.in-Ok.ensures.in_range c.requires.in_range);
      sound = c.in_ok-log.ensures.sound;
      order = c.in_ok-log.ensures.order;
    }

pub returns-clause-ordered : goal.returns-clause-ordered
returns-clause-ordered c =
    let part = c.in_ok-log.field-0 in
    let opened = c.in_ok-log.ensures.part in
    let kept = option_map (λ kept. places_of kept.items) part.kept in (
      opened.0,
      record {
        receives = c.in_ok-log-2.ensures.receives;
        rest = part.log.events;
        part = subst (λ (es : List LogEvent). IsPartOf c.args.rules.faults es part.log.events kept opened.0) c.in-Ok.ensures.events opened.1;
        filled = c.in_ok-log-2.ensures.events;
        in_order = c.in_ok-log-2.ensures.ordered;
        taken = c.in-Ok.ensures.unsent;
        again = c.in-Ok.ensures.resent;
      },
      opened.2,
    )
