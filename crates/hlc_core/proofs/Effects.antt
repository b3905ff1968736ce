-- What is live after a request's effect.
use Rattle.std.proofs.Common.{◌≡◌, ℕ, refl}
use Rattle.hlc_stamp.specs.declared.id.EventId.{EventId}
use Rattle.hlc_core.specs.declared.effect.Effect.{Effect}
use Rattle.hlc_core.specs.declared.effect.Effect.TheVariants.{Deliver, Erase, Pull, Send, Sync, Write}
use Rattle.hlc_core.specs.Effect.{effect_kind, effect_live}
use Rattle.hlc_core.specs.State.{State}
use Rattle.hlc_core.specs.Step.{entries_in, live_with}

-- if no message is pulled, none ends
pub live_unless_pulled : (s : State) (node : ℕ) (effect : Effect) → ((sent : EventId) → effect ≡ Pull sent → ⊥) →
    live_with s (effect_kind (entries_in s node) effect) ≡ effect_live s node effect
live_unless_pulled s node (Write key value) other = refl
live_unless_pulled s node (Erase key) other = refl
live_unless_pulled s node (Send to write) other = refl
live_unless_pulled s node (Sync to) other = refl
live_unless_pulled s node (Deliver sent) other = refl
live_unless_pulled s node (Pull sent) other = absurd (other sent refl)
