use Rattle.std.proofs.Common.{◌≡◌, ◌∙◌, arith, length, sym}
use Rattle.hlc_shared.proofs.Runs.{new_seats_are_in_order}
use Rattle.hlc_thread_tests.proofs.replicas.run.Goals as goal

pub run_replicas-requires-clause-all_in_order : goal.run_replicas-requires-clause-all_in_order
run_replicas-requires-clause-all_in_order g c =
    let seats = rw c.expect-shared.ensures at c.new-made.ensures.seats in
    λ _ _. (new_seats_are_in_order g.L.Group.nodes c.args.nodes c.expect-shared.result.1.items (sym c.requires.parts.2 ∙ c.requires.parts.1) seats).0

pub run_replicas-requires-clause-one_list_each : goal.run_replicas-requires-clause-one_list_each
run_replicas-requires-clause-one_list_each g c =
    let new = rw c.expect-shared.ensures at c.new-made.ensures.seats in
    let seats : length c.expect-shared.result.1.items ≡ c.args.nodes =
    (new_seats_are_in_order g.L.Group.nodes c.args.nodes c.expect-shared.result.1.items (sym c.requires.parts.2 ∙ c.requires.parts.1) new).1 in
    λ _ _. omega (arith, seats, c.requires.lists, c.expect-shared.result.1.ok)
