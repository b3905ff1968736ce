use Rattle.std.proofs.Common.{◌++◌, flat_map, length}
use Rattle.hlc_csv.specs.Rows.{AddsText, text_of}
use Rattle.hlc_log_groups.specs.GroupRows.{group_rows}
use Rattle.hlc_log_groups.specs.Groups.{AreGroupsOf, Groups, NameBefore}
use Rattle.hlc_log_groups.proofs.group_rows.push_groups.Given as goal

-- the groups before those that are left have their rows
abbrev pub invariant-loop-common : goal.invariant-loop-common
invariant-loop-common g l =
    (told : Groups) × AreGroupsOf l.log.log l.log.full (told ++ l.common-iterator) × NameBefore (length l.log.log.events) l.common-iterator
    × AddsText (g.W.Write.contents l.fn.writer) (g.W.Write.contents l.writer) l.fn.rows l.rows
    (text_of (flat_map (group_rows l.told l.log) told))
