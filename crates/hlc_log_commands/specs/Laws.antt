-- The law of what is told of a log.
use Rattle.std.specs.Prelude.{◌≡◌, ℕ, List, length}
use Rattle.hlc_causes.specs.declared.answers.Causes.{Causes}
use Rattle.hlc_ordered_log.specs.InOrder.{LogInOrder}
use Rattle.hlc_log_text.specs.declared.file_mark.FileMark.{FileMark}
use Rattle.hlc_log_audit.specs.Report.{cause_rows}
use Rattle.hlc_log_groups.specs.Groups.{AreGroups, Groups, keyed_in, total}

-- the groups of a log have as many causes together as the report on it has rows of causes
abbrev pub GroupsAddUp : Type 0
GroupsAddUp = (files : List FileMark) (nodes : List (List ℕ)) (log : LogInOrder) (full : ℕ) (causes : List Causes) (groups : Groups) →
    AreGroups (keyed_in log (length log.events) causes) groups → total groups ≡ length (cause_rows files nodes log full causes)
