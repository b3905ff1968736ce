use Rattle.std.proofs.Common.{◌≡◌, None, [], subst}
use Rattle.std.proofs.lemmas.Bool.{not-false}
use Rattle.hlc_log.specs.Events.{event_at}
use Rattle.hlc_log.specs.Log.{StoredLog}
use Rattle.hlc_log.proofs.StoredEvents.{none_carried}
use Rattle.hlc_log.proofs.log.Log.tells_carried.Goals as goal

pub returns : goal.returns
returns c untold place =
    let asides = c.self.inside.asides in
    let none : asides.carried.items ≡ [] = c.has_no_carried.ensures.0 (not-false c.has_no_carried.result untold) in
    subst (λ (log : StoredLog). (event_at log.events place).carried ≡ None) c.self.view_is (none_carried asides none c.self.inside.slots.items place)
