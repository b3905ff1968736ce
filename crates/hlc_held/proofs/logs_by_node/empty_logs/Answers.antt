use Rattle.std.proofs.Common.{◌≡◌, ◌∙◌, ◌+◌, ℕ, [], List, ap, subst, sym}
use Rattle.std.proofs.lemmas.Result.{err_from_is_err_and}
use Rattle.std.specs.declared.alloc.Global.{Global}
use Rattle.std.specs.declared.vec.Vec.{Vec}
use Rattle.hlc_held.specs.declared.logged.Logged.{Logged}
use Rattle.hlc_held.specs.Seats.{log_at}
use Rattle.hlc_held.proofs.LogFacts.{log_at-pushed}
use Rattle.hlc_held.proofs.logs_by_node.empty_logs.Goals as goal

pub loop-node-init : goal.loop-node-init
loop-node-init c = (c.in_ok-logs.ensures.len, λ n. ap (λ (logs : List (Vec Logged Global)). log_at logs n) c.in_ok-logs.ensures.items, c.in_ok-logs.ensures.exact)

pub loop-node-preserved : goal.loop-node-preserved
loop-node-preserved c = (
  c.push_reserved.ensures.len ∙ ap (λ (k : ℕ). k + 1) c.loop-node.invariant.0,
  λ n.
      subst (λ (logs : List (Vec Logged Global)). log_at logs n ≡ []) (sym c.push_reserved.ensures.items)
      (log_at-pushed n c.loop-node.logs.items c.new.result c.new.ensures.items (c.loop-node.invariant.1 n)),
  c.push_reserved.ensures.capacity ∙ c.loop-node.invariant.2,
)

pub returns-in_err-logs : goal.returns-in_err-logs
returns-in_err-logs c = rw (err_from_is_err_and c.from_residual.result c.from_residual.ensures.1).1 record { one_each = tt; empty = tt }
