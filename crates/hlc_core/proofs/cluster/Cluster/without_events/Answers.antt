use Rattle.std.proofs.Common.{subst, sym}
use Rattle.hlc_arena.specs.History.{History}
use Rattle.hlc_core.specs.Fields.{AreWhole}
use Rattle.hlc_core.proofs.OneMore.{whole_of_none}
use Rattle.hlc_core.proofs.cluster.Cluster.without_events.Goals as goal

pub invariant_of-result : goal.invariant_of-result
invariant_of-result c =
    let limit = c.args.limit in
    let live = c.in_ok-messages.messages in
    let tables = c.in_ok-tables.tables.items in
    subst (λ (h : History). AreWhole limit h live tables) (sym c.in_ok-history.ensures)
    (whole_of_none limit c.args.nodes c.args.capacity live tables
    c.requires.enough_nodes c.requires.few_nodes c.requires.some_capacity c.requires.small_capacity c.in_ok-messages.ensures.empty
    c.in_ok-messages.ensures.nodes c.in_ok-tables.ensures.one_each c.in_ok-tables.ensures.empty)
