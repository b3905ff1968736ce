use Rattle.std.proofs.Common.{◌*◌, ◌≤◌, List, length}
use Rattle.hlc_causes.specs.declared.answers.Causes.{Causes}
use Rattle.hlc_ordered_log.specs.Found.{AreCausesBefore}
use Rattle.hlc_log_groups.specs.Groups.{AreGroups, NameBefore, keyed_in, total}
use Rattle.hlc_log_groups.proofs.groups.groups_of.Given as goal

-- the groups of the causes before the place, which are at most five of each event
abbrev pub invariant-loop-place : goal.invariant-loop-place
invariant-loop-place l =
    (causes : List Causes) × AreCausesBefore l.log l.full l.place causes × AreGroups (keyed_in l.log l.place causes) l.groups.entries
    × NameBefore (length l.log.events) l.groups.entries × (total l.groups.entries ≤ 5 * l.place)
