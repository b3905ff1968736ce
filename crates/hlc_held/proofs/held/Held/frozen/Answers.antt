use Rattle.std.proofs.lemmas.Grind.{common_steps}
use Rattle.std.proofs.Common.{◌≡◌, Option, arith, subst, sym, ℕ}
use Rattle.hlc_arena.specs.History.{History}
use Rattle.hlc_core.specs.Limit.{AreWithinLimit}
use Rattle.hlc_core.specs.State.{State}
use Rattle.hlc_held.specs.Kept.{IsKept, IsSoundHistory}
use Rattle.hlc_held.proofs.held.Held.frozen.Goals as goal

-- the history of what is kept
sound_history : (nodes capacity : ℕ) (limit : Option ℕ) (s : State) (total : ℕ) (h : History) → h ≡ s.history
    → IsKept nodes capacity limit s total
    → IsSoundHistory nodes capacity limit h
sound_history nodes capacity limit s total h is kept =
    subst (IsSoundHistory nodes capacity limit) (sym is) (record {
      lawful = kept.sound.lawful.history;
      least = kept.sound.least;
      within = subst (λ (l : Option ℕ). AreWithinLimit l s.history.events) kept.limit_named kept.sound.within;
      nodes_named = kept.nodes_named;
      capacity_named = kept.capacity_named;
    })

pub invariant_of-result : goal.invariant_of-result
invariant_of-result g c =
    sound_history _ _ _ c.self.inside.cluster c.self.inside.book.total _ (grind (arith, common_steps)) c.self.invariant.0

pub returns : goal.returns
returns g c = grind (arith, common_steps)
