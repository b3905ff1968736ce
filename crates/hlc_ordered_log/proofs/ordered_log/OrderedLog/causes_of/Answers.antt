use Rattle.hlc_ordered_log.proofs.PlacedCauses.{names_causes_at, names_events}
use Rattle.hlc_ordered_log.proofs.ordered_log.OrderedLog.causes_of.Goals as goal

pub returns-clause-causes : goal.returns-clause-causes
returns-clause-causes c =
    let at = c.position.ensures in
    names_causes_at c.args.self.now at.ordered c.args.full c.args.place.0 c.position.result.0 c.causes.result at.exists at.place c.causes.ensures

pub returns-clause-events : goal.returns-clause-events
returns-clause-events c =
    let at = c.position.ensures in
    names_events c.args.self.now at.ordered c.args.full c.position.result.0 c.causes.result at.exists c.causes.ensures
