use Rattle.std.proofs.Common.{◌≡◌, ◌≤◌, ◌++◌, length, map}
use Rattle.std.specs.Vec.{vec_capacity}
use Rattle.hlc_shared.proofs.replica_run.pair.Given as goal

-- the jobs so far, and what the seats and the lists have left; there is room for all
abbrev pub invariant-loop-seat : goal.invariant-loop-seat
invariant-loop-seat g l =
    (map (λ job. job.seat) l.jobs.items ++ l.seat-iterator.a.rest.items ≡ l.fn.seats.items)
    × (map (λ job. job.steps) l.jobs.items ++ l.seat-iterator.b.rest.items ≡ l.fn.lists.items)
    × (length l.fn.seats.items ≤ vec_capacity l.jobs)
