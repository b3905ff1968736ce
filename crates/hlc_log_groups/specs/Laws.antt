-- The laws of groups.
use Rattle.std.specs.Prelude.{◌≡◌, ℕ, ◌<◌, List, Some}
use Rattle.std.specs.Map.{lookup}
use Rattle.hlc_stamp.specs.Order.{Pair}
use Rattle.hlc_causality.specs.ClockEvents.{ClockEvents}
use Rattle.hlc_causes.specs.Given.{rule_pair_at}
use Rattle.hlc_log_groups.specs.Followed.{followed_at, pair_after}
use Rattle.hlc_log_groups.specs.Groups.{AreGroups, Groups, KeyedCauses, is_same_key}
use Rattle.hlc_log_groups.specs.declared.cause_group.CauseGroup.{CauseGroup}
use Rattle.hlc_log_groups.specs.declared.group_key.GroupKey.{GroupKey}

-- the rule's pair comes directly after the one claimed at the event that it follows, or is the floor if it follows none
abbrev pub RulePairFollows : Type 0
RulePairFollows = (t : ClockEvents) (claimed : List Pair) (f : ℕ) → rule_pair_at t claimed f ≡ pair_after t claimed f (followed_at t claimed f)

-- no group is empty
abbrev pub NoGroupIsEmpty : Type 0
NoGroupIsEmpty = (causes : KeyedCauses) (groups : Groups) (key : GroupKey) (group : CauseGroup) → AreGroups causes groups →
    lookup (is_same_key key) groups ≡ Some group → 0 < group.causes
