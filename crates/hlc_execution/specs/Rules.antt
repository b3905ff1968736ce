-- The rules of clocks as they are kept.
use Rattle.std.specs.Prelude.{ℕ, ◌-◌, ◌≤◌, Option, Some, None, [], ◌∷◌, ◌++◌, IfSome, length, replicate}
use Rattle.std.specs.declared.vec.Vec.{Vec}
use Rattle.std.specs.declared.alloc.Global.{Global}
use Rattle.hlc_causality.specs.declared.event_rule.TheConstants.{MAX_FLOOR_C}
use Rattle.hlc_causality.specs.declared.event_rule.EventRule.{EventRule}
use Rattle.hlc_causality.specs.declared.receives.Receives.{Receives}
use Rattle.hlc_causality.specs.ReceiveEvents.{ClockRules, own_at}

-- the rules that are kept
abbrev pub kept_rules : Receives → Vec (Option EventRule) Global → ClockRules
kept_rules receives own = record { receives = receives; own = own.items }

-- rules with one more, for the event at a place after all that have one of their own
abbrev pub with_rule : ClockRules → ℕ → EventRule → ClockRules
with_rule rules place rule = record rules { own = rules.own ++ (replicate (place - length rules.own) None ++ Some rule ∷ []) }

-- the floor that a rule has is small enough for each c above it
abbrev pub HasSmallFloor : EventRule → Type 0
HasSmallFloor rule = rule.floor.c ≤ MAX_FLOOR_C

-- so it is of each rule that an event has of its own
abbrev pub HaveSmallFloors : ClockRules → Type 0
HaveSmallFloors rules = (e : ℕ) → IfSome (own_at rules e) HasSmallFloor
