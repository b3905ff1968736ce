use Rattle.std.proofs.Common.{ap, rules}
use Rattle.hlc_core.specs.Request.{request_of}
use Rattle.hlc_held.specs.Seats.{NodeLog}
use Rattle.hlc_shared.proofs.Followed.{followed_one}
use Rattle.hlc_shared.proofs.replicas.ask.Goals as goal

pub returns-in-Ok-clause-followed : goal.returns-in-Ok-clause-followed
returns-in-Ok-clause-followed g c =
    let followed =
    followed_one c.args.seat.now.log c.act.new.seat.log _ (request_of c.args.step.action) c.in-Ok.field-0.event.0 c.in-Ok.field-0.stamp
    (ap (λ (s : NodeLog). s.log) c.in-Ok.ensures.logged) in
    search (rules, followed)
