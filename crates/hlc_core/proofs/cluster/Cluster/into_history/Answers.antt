use Rattle.std.proofs.Common.{ap, subst}
use Rattle.hlc_arena.specs.ClockRule.{HasLeastStamps}
use Rattle.hlc_core.specs.Lawful.{IsLawful}
use Rattle.hlc_core.specs.Limit.{AreWithinLimit}
use Rattle.hlc_core.specs.State.{State}
use Rattle.hlc_core.proofs.cluster.Cluster.into_history.Goals as goal

pub returns : goal.returns
returns c =
    let sound = c.self.invariant.sound in
    record {
      history = ap (λ (s : State). s.history) c.self.view_is;
      lawful = subst (λ (s : State). IsLawful s.history) c.self.view_is sound.lawful.history;
      least = subst (λ (s : State). HasLeastStamps s.history.events) c.self.view_is sound.least;
      within = subst (λ (s : State). AreWithinLimit s.limit s.history.events) c.self.view_is sound.within;
    }
