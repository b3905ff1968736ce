use Rattle.std.proofs.Common.{inl, inr, arith}
use Rattle.hlc_explain.proofs.Frontiers.{last_of_none, no_end, no_ends, none_behind}
use Rattle.hlc_explain.proofs.KeptEvents.{node_kept}
use Rattle.hlc_explain.proofs.frontier.Frontier.around.Goals as goal

pub returns-clause-frontier : goal.returns-clause-frontier
returns-clause-frontier c ends enough clear =
    let s = c.args.execution.now.events in
    let event = c.args.event.0 in
    let within = c.requires.exists in
    record {
      has_end = λ e lt. let node = (c.requires.well_formed.each e lt).node in omega arith;
      exists = omega arith;
      at_node = node_kept s event c.get.result c.unwrap.result c.unwrap.ensures c.get.ensures.event;
      are_ends = no_ends s ends (no_end ends clear);
      last_end = last_of_none ends clear;
      latest = omega arith;
    }

pub returns-clause-past : goal.returns-clause-past
returns-clause-past c ends clear e = (
  λ rest. elim rest [ inl past ↦ past | inr none ↦ absurd (none_behind c.args.execution.now.events ends e (no_end ends clear) none) ],
  λ past. inl past,
)
