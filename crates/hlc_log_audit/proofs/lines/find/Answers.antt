use Rattle.std.proofs.Common.{sym}
use Rattle.hlc_log_audit.proofs.LineFacts.{position_of_found, position_of_none}
use Rattle.hlc_log_audit.proofs.lines.find.Goals as goal

pub returns-in-Some-clause-position : goal.returns-in-Some-clause-position
returns-in-Some-clause-position c =
    let at = c.position-position.ensures in
    sym (position_of_found c.args.log.now c.place_on.ensures.ordered c.args.line c.in-Some.place.0 c.position-position.result.0 c.requires
    c.in-Some.ensures.found (record { exists = at.exists; at_place = at.place }))

pub returns-in-None-clause-position : goal.returns-in-None-clause-position
returns-in-None-clause-position c = sym (position_of_none c.args.log.now c.place_on.ensures.ordered c.args.line c.in-None.ensures.none)
