use Rattle.std.proofs.Common.{◌≡◌, arith, length}
use Rattle.hlc_shared.proofs.Runs.{new_seats_are_in_order}
use Rattle.hlc_script_commands.proofs.played_script.play_scripts.Goals as goal

pub run_replicas-requires-clause-all_in_order : goal.run_replicas-requires-clause-all_in_order
run_replicas-requires-clause-all_in_order g c = λ _ _.
    (new_seats_are_in_order g.L.Group.nodes c.args.settings.nodes c.in-Ok.made.1.items c.requires.parts.2 c.in-Ok.ensures.seats).0

pub run_replicas-requires-clause-one_list_each : goal.run_replicas-requires-clause-one_list_each
run_replicas-requires-clause-one_list_each g c = λ _ _.
    let seats : length c.in-Ok.made.1.items ≡ c.args.settings.nodes =
    (new_seats_are_in_order g.L.Group.nodes c.args.settings.nodes c.in-Ok.made.1.items c.requires.parts.2 c.in-Ok.ensures.seats).1 in
    omega (arith, c.requires.one_each, seats, c.args.scripts.ok, c.in-Ok.made.1.ok)

pub returns-in-Ok-run_replicas-clause-followed : goal.returns-in-Ok-run_replicas-clause-followed
returns-in-Ok-run_replicas-clause-followed g c = rw c.in-Ok.ensures.seats at c.in-Ok-run_replicas.ensures.followed
