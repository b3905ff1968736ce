-- What an accepted request leaves of a state.
use Rattle.std.proofs.Common.{◌≡◌, ℕ, ◌+◌, [], ◌∷◌, length, length-append, refl, subst, sym}
use Rattle.hlc_core.specs.declared.accepted.Accepted.{Accepted}
use Rattle.hlc_core.specs.Request.{Request}
use Rattle.hlc_core.specs.State.{State}
use Rattle.hlc_core.specs.Step.{Accepts, event_for, live_after, refusal_of, state_with}
use Rattle.hlc_core.proofs.Passed.{made_is}

-- the nodes, the capacity and the limit stay, and there is one more event
pub record HasOneMore (old new : State) : Type 0 where
  pub nodes : new.history.nodes ≡ old.history.nodes
  pub capacity : new.history.capacity ≡ old.history.capacity
  pub limit : new.limit ≡ old.limit
  pub events : length new.history.events ≡ length old.history.events + 1

pub accepted_counts : (old new : State) (node reading : ℕ) (request : Request) (a : Accepted) → Accepts old node reading request a new
    → HasOneMore old new
accepted_counts old new node reading request a accepts =
    let after = state_with old (record { event = event_for old node reading request; stamp = a.stamp }) (live_after old node request) in
    let is : after ≡ new = sym (made_is (refusal_of old node reading request) after new accepts.step) in
    let events = length-append old.history.events (record { event = event_for old node reading request; stamp = a.stamp } ∷ []) in
    subst (HasOneMore old) is (record { nodes = refl; capacity = refl; limit = refl; events = events })
