use Rattle.std.proofs.Common.{subst, sym}
use Rattle.std.proofs.lemmas.Result.{err_from_is_err_and}
use Rattle.hlc_core.specs.Timed.{requests_in}
use Rattle.hlc_held.specs.Agreement.{Agrees}
use Rattle.hlc_held.specs.Seats.{log_at}
use Rattle.hlc_shared.specs.declared.replicas.Job.{Job}
use Rattle.hlc_shared.proofs.Runs.{all_let_in, fate_is_fault_of_run, fault_of_closing, logs_followed}
use Rattle.hlc_shared.proofs.replica_run.run_replicas.Goals as goal

pub returns : goal.returns
returns g c =
    let closed = c.in_ok-close.ensures in
    let events = c.in_ok-close.field-0.history.events in
    record {
      lawful = closed.history.sound.lawful;
      least = closed.history.sound.least;
      nodes = closed.history.sound.nodes_named;
      capacity = closed.history.sound.capacity_named;
      within = closed.history.sound.within;
      one_each = closed.one_each;
      agree = λ node below. subst (Agrees events node) (sym (closed.logs node)) (closed.agree node below);
      followed = logs_followed (λ (job : Job g.row.L.Denot). job.seat) (λ (job : Job g.row.L.Denot). job.steps) (g.G.Gate.may_answer c.args.gate.now)
          g.L.Group.nodes
          c.in_ok-jobs.jobs.items c.args.seats.items c.in_ok-seats.seats.items c.args.lists.items (log_at c.in_ok-close.field-0.logs.items)
          c.in_ok-jobs.ensures.seats c.in_ok-jobs.ensures.lists c.requires.all_in_order c.in_ok-seats.ensures c.in_ok-close.ensures.logs;
      let_in = all_let_in (λ (job : Job g.row.L.Denot). job.seat) (λ (job : Job g.row.L.Denot). job.steps) (g.G.Gate.may_answer c.args.gate.now) g.L.Group.nodes
          c.in_ok-jobs.jobs.items c.args.seats.items c.in_ok-seats.seats.items c.in_ok-jobs.ensures.seats c.requires.all_in_order c.in_ok-seats.ensures;
      refused = tt;
    }

pub returns-in_err-close : goal.returns-in_err-close
returns-in_err-close g c =
    let from = err_from_is_err_and c.from_residual-in_err-close.result c.from_residual-in_err-close.ensures.1 in
    rw (from.1, from.2)
    record {
      lawful = tt;
      least = tt;
      nodes = tt;
      capacity = tt;
      within = tt;
      one_each = tt;
      agree = tt;
      followed = tt;
      let_in = tt;
      refused = fault_of_closing (λ (job : Job g.row.L.Denot). job.seat) (λ (job : Job g.row.L.Denot). job.steps) (g.G.Gate.may_answer c.args.gate.now) g.L.Group.nodes g.L.Group.capacity g.L.Group.limit
          c.in_ok-jobs.jobs.items c.args.seats.items c.in_ok-seats.seats.items c.args.lists.items c.in_err-close.field-0.0
          c.in_ok-jobs.ensures.seats c.in_ok-jobs.ensures.lists c.requires.all_in_order c.in_ok-seats.ensures c.in_err-close.ensures.refused;
    }

pub returns-in_err-seats : goal.returns-in_err-seats
returns-in_err-seats g c =
    let from = err_from_is_err_and c.from_residual-in_err-seats.result c.from_residual-in_err-seats.ensures.1 in
    rw (from.1, from.2)
    record {
      lawful = tt;
      least = tt;
      nodes = tt;
      capacity = tt;
      within = tt;
      one_each = tt;
      agree = tt;
      followed = tt;
      let_in = tt;
      refused = fate_is_fault_of_run (λ (job : Job g.row.L.Denot). job.seat) (λ (job : Job g.row.L.Denot). job.steps) (g.G.Gate.may_answer c.args.gate.now) g.L.Group.nodes g.L.Group.capacity g.L.Group.limit
          c.in_ok-jobs.jobs.items c.args.seats.items (requests_in c.args.lists.items) c.in_err-seats.field-0.0 c.in_ok-jobs.ensures.seats
          c.requires.all_in_order c.in_err-seats.ensures;
    }

pub returns-in_err-jobs : goal.returns-in_err-jobs
returns-in_err-jobs g c =
    let from = err_from_is_err_and c.from_residual.result c.from_residual.ensures.1 in
    rw (from.1, from.2)
    record {
      lawful = tt;
      least = tt;
      nodes = tt;
      capacity = tt;
      within = tt;
      one_each = tt;
      agree = tt;
      followed = tt;
      let_in = tt;
      refused = tt;
    }
