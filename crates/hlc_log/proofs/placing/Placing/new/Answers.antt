use Rattle.std.proofs.Common.{◌≡◌, ◌∙◌, length, replicate, Some, None, inl, arith, refl, rules, sym}
use Rattle.hlc_log.proofs.Placements.{none_placed, nothing_linked}
use Rattle.hlc_log.proofs.placing.Placing.new.Goals as goal

pub link_all-requires : goal.link_all-requires
link_all-requires c =
    let events = c.args.log.now.events in
    let next = c.in_ok-vec.field-0.items in
    let nodes = c.nodes_of-nodes.result in
    let len : length next ≡ length events = sym c.in_ok-vec.field-0.ok.0 ∙ c.in_ok-vec.ensures.len ∙ c.len.ensures.value in
    let fronts : c.in_ok-vec-2.field-0.items ≡ replicate nodes None = c.in_ok-vec-2.ensures.items_if_clones_equal (elim [ None ↦ λ same. refl | Some event ↦ λ same. absurd same ]) in
    rw fronts (nothing_linked events nodes next len c.nodes_of-nodes.ensures)

pub returns-clause-placing : goal.returns-clause-placing
returns-clause-placing c =
    let placing = c.link_all.new.self in
    rw (c.link_all.ensures.order, c.in_ok-with_capacity.ensures.items)
    (none_placed c.args.log.now.events placing.next.items placing.fronts.items c.requires.rise c.link_all.ensures.linked)

pub returns-clause-turns : goal.returns-clause-turns
returns-clause-turns c =
    let given = c.in_ok-new.ensures in
    let size : length c.link_all.new.self.fronts.items ≡ c.nodes_of-nodes.result =
    c.link_all.ensures.nodes ∙ sym c.in_ok-vec-2.field-0.ok.0 ∙ c.in_ok-vec-2.ensures.len in
    rw c.link_all.ensures.turns record {
      below = λ node has. let lt = (given node).0 has in omega arith;
      each = λ node within. inl ((given node).1 (omega arith));
    }

pub returns-clause-room : goal.returns-clause-room
returns-clause-room c = rw c.link_all.ensures.order (search rules)
