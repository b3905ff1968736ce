-- When a send finds room.
use Rattle.std.proofs.Common.{◌≡◌, ℕ, ◌<◌, ◌&&◌, List, length, Option, Bool, true, false, cond, refl, arith}
use Rattle.std.proofs.lemmas.Bool.{le-leb, leb-true, lt-ltb, ltb-true}
use Rattle.slab.specs.Slab.{HasRoomFor, Slab}
use Rattle.hlc_pool.specs.declared.envelope.Envelope.{Envelope}
use Rattle.hlc_pool.specs.declared.link.TheConstants.{NO_SLOT}
use Rattle.hlc_pool.specs.Slots.{room_of}

-- a slot is vacant, a link can lead to the next one, and the directory has a place for the send
pub record FindsRoom (slots : Slab Envelope) (directory : List (Option ℕ)) (sent : ℕ) : Type 0 where
  pub slot : HasRoomFor slots 1
  pub linkable : slots.vacant_key < NO_SLOT
  pub within : sent < length directory

-- what is below a number under two conditions, or else below 0, has both of them
both : (a b : Bool) (n sent : ℕ) → sent < cond (a && b) n 0 → (a ≡ true) × (b ≡ true) × (sent < n)
both true true n sent lt = (refl, refl, lt)
both true false n sent lt = absurd (omega (arith, lt))
both false b n sent lt = absurd (omega (arith, lt))

pub finds_room : (slots : Slab Envelope) (directory : List (Option ℕ)) (sent : ℕ)
    → sent < room_of slots directory → FindsRoom slots directory sent
finds_room slots directory sent lt =
    let parts = both _ _ (length directory) sent lt in
    record { slot = leb-true _ _ parts.0; linkable = ltb-true _ _ parts.1; within = parts.2 }

pub below_room : (slots : Slab Envelope) (directory : List (Option ℕ)) (sent : ℕ)
    → FindsRoom slots directory sent → sent < room_of slots directory
below_room slots directory sent is = rw (le-leb _ _ is.slot, lt-ltb _ _ is.linkable) is.within
