use Rattle.std.proofs.Common.{◌≡◌, ◌∙◌, ◌<◌, [], length, ap, arith, subst, sym, rules}
use Rattle.std.proofs.lemmas.List.{get_or-map}
use borrow.Author.Count.{below_more}
use Rattle.std.specs.declared.alloc.Global.{Global}
use Rattle.std.specs.declared.vec.Vec.{Vec}
use Rattle.hlc_held.specs.declared.logged.Logged.{Logged}
use Rattle.hlc_held.specs.Agreement.{Agrees}
use Rattle.hlc_held.specs.LogEntry.{log_of}
use Rattle.hlc_held.specs.Seats.{log_at}
use Rattle.hlc_shared.proofs.closed.compare_logs.Goals as goal

pub loop-node-preserved : goal.loop-node-preserved
loop-node-preserved c =
    let events = c.args.history.now.events in
    let logs = c.args.logs.now in
    let n = c.loop-node.node in
    let within : n < length logs = omega (arith, c.requires.one_each, c.nodes-node-end.ensures, c.loop-node-test.true) in
    let is : log_of c.as_slice.result.now ≡ log_at logs n =
    ap log_of (c.as_slice.ensures.value ∙ ap (λ (v : Vec Logged Global). v.items) c.index-logs-node.is)
    ∙ sym (get_or-map (λ (v : Vec Logged Global). log_of v.items) logs n c.index-logs-node.result [] within) in
    below_more (λ m. Agrees events m (log_at logs m)) n c.loop-node.invariant (subst (Agrees events n) is c.in_ok-compare_log.ensures.agrees)

pub loop-node-init : goal.loop-node-init
loop-node-init c = search rules
