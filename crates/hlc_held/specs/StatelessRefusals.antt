-- What can be said of a refusal without the state.
use Rattle.std.specs.Prelude.{◌≡◌, ◌==◌, ◌⊎◌, ◌++◌, ℕ, Bool, IsSome, List, None, Option, Some, [], ◌∷◌, nat_lt}
use Rattle.hlc_stamp.specs.declared.limits.TheConstants.{MAX_READING}
use Rattle.hlc_core.specs.declared.refusal.Refusal.{Refusal}
use Rattle.hlc_core.specs.declared.refusal.Refusal.TheVariants.{Full, Memory, NoEntry, NoMessage, ReadingTooLarge, TooFarAhead, WrongNode, ZeroReading}
use Rattle.hlc_core.specs.Request.{Request, ToDeliver, ToSend, ToSync}
use Rattle.hlc_core.specs.Step.{first_refusal, size_and_target_refusals}

-- the conditions on a reading, each with its refusal, in order
abbrev pub reading_refusals : ℕ → List (Bool × Refusal)
reading_refusals reading = (reading == 0, ZeroReading) ∷ (nat_lt MAX_READING reading, ReadingTooLarge) ∷ []

-- the conditions that need no state, each with its refusal, in order
abbrev pub stateless_refusals : ℕ → ℕ → ℕ → Request → List (Bool × Refusal)
stateless_refusals nodes node reading request = reading_refusals reading ++ size_and_target_refusals nodes node request

-- a refusal whose condition is on the state and comes after all that need none: on the entry that such a request sends, on the message
-- that it delivers, or on the drift, if there is a limit
abbrev pub IsOnState : Option ℕ → Refusal → Request → Type 0
IsOnState limit NoEntry (ToSend to key) = Unit {0}
IsOnState limit NoEntry (ToSync to) = Unit {0}
IsOnState limit NoMessage (ToDeliver sent) = Unit {0}
IsOnState limit WrongNode (ToDeliver sent) = Unit {0}
IsOnState limit TooFarAhead request = IsSome limit
IsOnState limit refusal request = ⊥

-- a refusal comes in order: it is that of the first condition that needs no state and holds; or its condition is on the state, and none that
-- needs no state and comes before it holds; or it is for memory
abbrev pub IsDue : ℕ → Option ℕ → ℕ → ℕ → Request → Refusal → Type 0
IsDue nodes limit node reading request refusal =
    (first_refusal (stateless_refusals nodes node reading request) ≡ Some refusal)
    ⊎ ((refusal ≡ Full) × (first_refusal (reading_refusals reading) ≡ None))
    ⊎ (IsOnState limit refusal request × (first_refusal (stateless_refusals nodes node reading request) ≡ None))
    ⊎ (refusal ≡ Memory)
