use Rattle.std.proofs.Common.{◌≡◌, ◌∙◌, ℕ, ◌<◌, List, Option, Vec, ap, length, subst, sym}
use Rattle.std.specs.List.{sum_by}
use Rattle.std.specs.declared.alloc.Global.{Global}
use Rattle.std.proofs.lemmas.Result.{err_from_is_err_and}
use Rattle.hlc_arena.specs.Arena.{history_of}
use Rattle.hlc_arena.specs.History.{History}
use Rattle.hlc_core.specs.Limit.{AreWithinLimit}
use Rattle.hlc_core.specs.Sound.{IsSound}
use Rattle.hlc_core.specs.State.{State}
use Rattle.hlc_held.specs.Agreement.{Agrees}
use Rattle.hlc_shared.specs.declared.log_fault.LogFault.{LogFault}
use Rattle.hlc_shared.specs.declared.log_fault.LogFault.TheVariants.{Memory, Mismatch}
use Rattle.hlc_held.specs.declared.logged.Logged.{Logged}
use Rattle.hlc_held.specs.LogEntry.{LogEntry}
use Rattle.hlc_held.specs.Seats.{NodeLog, act_count, log_at, log_of_node}
use Rattle.hlc_shared.specs.Close.{IsFaultOfClose, IsFaultOfLogs, IsKeptHistory}
use Rattle.hlc_shared.proofs.shared.Shared.close.Goals as goal

-- the history of a sound state of a group's settings, with which the seats were counted
kept_history : (nodes capacity : ℕ) (limit : Option ℕ) (seats : List NodeLog) (s : State) (h : History) → h ≡ s.history → IsSound s
    → s.history.nodes ≡ nodes
    → s.history.capacity ≡ capacity → s.limit ≡ limit
    → (length seats ≡ s.history.nodes → length s.history.events ≡ sum_by (λ seat. act_count seat.log) seats)
    → IsKeptHistory nodes capacity limit seats h
kept_history nodes capacity limit seats s h is sound same_nodes same_capacity same_limit counted =
    subst (IsKeptHistory nodes capacity limit seats) (sym is) (record {
      sound = record {
        lawful = sound.lawful.history;
        least = sound.least;
        within = subst (λ (l : Option ℕ). AreWithinLimit l s.history.events) same_limit sound.within;
        nodes_named = same_nodes;
        capacity_named = same_capacity;
      };
      counted = λ all. counted (all ∙ sym same_nodes);
    })

-- the first log that doesn't agree is that of a seat
fault_of_seats : (nodes capacity : ℕ) (limit : Option ℕ) (seats : List NodeLog) (h : History) (log : ℕ → List LogEntry) (fault : LogFault)
    → IsKeptHistory nodes capacity limit seats h
    → ((node : ℕ) → log node ≡ log_of_node seats node) → IsFaultOfLogs h.events nodes log fault
    → IsFaultOfClose nodes capacity limit seats fault
fault_of_seats nodes capacity limit seats h log (Mismatch node) kept same p = (
  h,
  kept,
  record {
    exists = p.exists;
    differs = λ agrees. p.differs (subst (Agrees h.events node.0) (sym (same node.0)) agrees);
    first = λ earlier less. subst (Agrees h.events earlier) (same earlier) (p.first earlier less);
  },
)
fault_of_seats nodes capacity limit seats h log Memory kept same p = tt

pub returns-in-Ok-clause-history : goal.returns-in-Ok-clause-history
returns-in-Ok-clause-history g c =
    let kept = c.gather.ensures in
    kept_history g.L.Group.nodes g.L.Group.capacity g.L.Group.limit c.args.seats.items c.into_inner.result (history_of c.in_ok-history.history)
    c.in_ok-history.ensures.history kept.sound kept.nodes kept.capacity kept.limit (λ all. c.in_ok-history.ensures.counted (c.args.seats.ok.0 ∙ all))

pub returns-in-Ok-clause-one_each : goal.returns-in-Ok-clause-one_each
returns-in-Ok-clause-one_each g c = c.in_ok-history.ensures.one_each ∙ c.gather.ensures.nodes

pub returns-in-Ok-clause-logs : goal.returns-in-Ok-clause-logs
returns-in-Ok-clause-logs g c = c.in_ok-history.ensures.logs

pub returns-in-Ok-clause-agree : goal.returns-in-Ok-clause-agree
returns-in-Ok-clause-agree g c = λ node below.
    let nodes : c.in_ok-history.history.nodes ≡ g.L.Group.nodes =
    ap (λ (h : History). h.nodes) c.in_ok-history.ensures.history ∙ c.gather.ensures.nodes in
    let log : log_at c.deref.result.now node ≡ log_of_node c.args.seats.items node =
    ap (λ (logs : List (Vec Logged Global)). log_at logs node) c.deref.ensures.value ∙ c.in_ok-history.ensures.logs node in
    subst (Agrees c.in_ok-history.history.events node) log (c.in-Ok.ensures.agree node (subst (λ (n : ℕ). node < n) (sym nodes) below))

pub returns-in_err-history : goal.returns-in_err-history
returns-in_err-history g c =
    let from = err_from_is_err_and c.from_residual.result c.from_residual.ensures.1 in
    rw (from.1, from.2) record { history = tt; one_each = tt; logs = tt; agree = tt; refused = tt }

pub returns-in-Err : goal.returns-in-Err
returns-in-Err g c =
    let h : History = (history_of c.in_ok-history.history) in
    let gathered = c.gather.ensures in
    let fault = c.in-Err.fault in
    let kept = kept_history g.L.Group.nodes g.L.Group.capacity g.L.Group.limit c.args.seats.items c.into_inner.result h
    c.in_ok-history.ensures.history gathered.sound gathered.nodes gathered.capacity gathered.limit
    (λ all. c.in_ok-history.ensures.counted (c.args.seats.ok.0 ∙ all)) in
    let same : (node : ℕ) → log_at c.deref.result.now node ≡ log_of_node c.args.seats.items node = λ node.
    ap (λ (logs : List (Vec Logged Global)). log_at logs node) c.deref.ensures.value ∙ c.in_ok-history.ensures.logs node in
    let nodes : h.nodes ≡ g.L.Group.nodes = ap (λ (k : History). k.nodes) c.in_ok-history.ensures.history ∙ gathered.nodes in
    let compared =
    subst (λ (n : ℕ). IsFaultOfLogs h.events n (log_at c.deref.result.now) fault) nodes c.in-Err.ensures.refused in
    let closes : IsFaultOfClose g.L.Group.nodes g.L.Group.capacity g.L.Group.limit c.args.seats.items fault =
    fault_of_seats g.L.Group.nodes g.L.Group.capacity g.L.Group.limit c.args.seats.items h (log_at c.deref.result.now) fault kept same compared in
    record { history = tt; one_each = tt; logs = tt; agree = tt; refused = closes }
