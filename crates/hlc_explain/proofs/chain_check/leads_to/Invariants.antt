use Rattle.std.proofs.Common.{◌↔◌, drop}
use Rattle.hlc_causality.specs.Past.{LeadsTo}
use Rattle.hlc_stamp.specs.Ids.{places_of}
use Rattle.hlc_explain.proofs.chain_check.leads_to.Given as goal

-- what is left of the list leads on exactly if the whole list does
abbrev pub invariant-loop-next : goal.invariant-loop-next
invariant-loop-next l =
    LeadsTo l.execution.events l.at.0 (places_of (drop l.next-index l.list)) l.last.0
    ↔ LeadsTo l.execution.events l.fn.from.0 (places_of l.list) l.last.0
