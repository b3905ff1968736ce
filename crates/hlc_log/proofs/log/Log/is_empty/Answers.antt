use Rattle.std.proofs.Common.{◌≡◌, [], ◌∷◌, length, List, arith, refl, ap}
use Rattle.std.proofs.lemmas.Bool.{eq-eqb, eqb-true}
use Rattle.hlc_log.specs.declared.log_event.LogEvent.{LogEvent}
use Rattle.hlc_log.specs.Log.{StoredLog}
use Rattle.hlc_log.proofs.StoredEvents.{stored_size}
use Rattle.hlc_log.proofs.log.Log.is_empty.Goals as goal

no_events : (events : List LogEvent) → length events ≡ 0 → events ≡ []
no_events [] is = refl
no_events (event ∷ events) is = absurd (omega (arith, is))

pub returns : goal.returns
returns c =
    let slots = c.self.inside.slots.items in
    let asides = c.self.inside.asides in
    let seen = ap (λ (log : StoredLog). length log.events) c.self.view_is in
    let size = stored_size asides slots in (
      λ is. no_events c.args.self.now.events (omega (arith, seen, size, c.len.ensures, eqb-true c.len.result 0 is)),
      λ is. eq-eqb c.len.result 0 (omega (arith, seen, size, c.len.ensures, ap (λ (events : List LogEvent). length events) is)),
    )
