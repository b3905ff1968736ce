use Rattle.std.proofs.Common.{◌≡◌, ◌∙◌, ap, rules, subst}
use Rattle.std.proofs.lemmas.Result.{err_from_is_err_and}
use Rattle.hlc_arena.specs.History.{History}
use Rattle.hlc_core.specs.State.{State}
use Rattle.hlc_held.specs.Kept.{IsKept}
use Rattle.hlc_held.proofs.held.Held.gather.Goals as goal

pub returns-in_err-logs : goal.returns-in_err-logs
returns-in_err-logs g c =
    let group = g.L.Group in
    let from = err_from_is_err_and c.from_residual.result c.from_residual.ensures.1 in
    let kept = subst (λ (s : State). IsKept group.nodes group.capacity group.limit s c.self.inside.book.total) c.self.view_is c.self.invariant.0 in
    rw from.1 record {
      history = tt;
      sound = kept.sound;
      nodes = kept.nodes_named;
      capacity = kept.capacity_named;
      limit = kept.limit_named;
      one_each = tt;
      logs = tt;
      counted = tt;
    }

pub returns-clause-history : goal.returns-clause-history
returns-clause-history g c = search rules

pub returns-clause-sound : goal.returns-clause-sound
returns-clause-sound g c =
    let group = g.L.Group in
    (subst (λ (s : State). IsKept group.nodes group.capacity group.limit s c.self.inside.book.total) c.self.view_is c.self.invariant.0).sound

pub returns-clause-nodes : goal.returns-clause-nodes
returns-clause-nodes g c = subst (λ (s : State). s.history.nodes ≡ g.L.Group.nodes) c.self.view_is c.self.invariant.0.nodes_named

pub returns-clause-capacity : goal.returns-clause-capacity
returns-clause-capacity g c = subst (λ (s : State). s.history.capacity ≡ g.L.Group.capacity) c.self.view_is c.self.invariant.0.capacity_named

pub returns-clause-limit : goal.returns-clause-limit
returns-clause-limit g c = subst (λ (s : State). s.limit ≡ g.L.Group.limit) c.self.view_is c.self.invariant.0.limit_named

pub returns-clause-one_each : goal.returns-clause-one_each
returns-clause-one_each g c =
    c.in_ok-logs.ensures.one_each ∙ c.nodes.ensures ∙ ap (λ (h : History). h.nodes) c.into_history-history.ensures.history
    ∙ ap (λ (s : State). s.history.nodes) c.self.view_is

pub returns-clause-logs : goal.returns-clause-logs
returns-clause-logs g c = c.in_ok-logs.ensures.logs
