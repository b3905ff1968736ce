-- The rows of groups.
use Rattle.std.specs.Prelude.{◌≡◌, List, [], ◌∷◌, ◌++◌, ℕ, Option, Some, None, codes, decimal, map, option_to_list}
use Rattle.std.specs.List.{flat_map}
use Rattle.hlc_stamp.specs.declared.id.EventId.{EventId}
use Rattle.hlc_stamp.specs.declared.id.NodeId.{NodeId}
use Rattle.hlc_csv.specs.Rows.{Fields}
use Rattle.hlc_log.specs.Events.{event_at}
use Rattle.hlc_ordered_log.specs.InOrder.{LogInOrder, line_in}
use Rattle.hlc_log_text.specs.Files.{line_text}
use Rattle.hlc_log_text.specs.LogText.{name_of}
use Rattle.hlc_log_text.specs.declared.file_mark.FileMark.{FileMark}
use Rattle.hlc_open_log.specs.Opened.{OpenedLog}
use Rattle.hlc_log_groups.specs.ComparedStamps.{asked_pair, told_pair}
use Rattle.hlc_log_groups.specs.Groups.{AreGroupsOf, Groups, rule_word}
use Rattle.hlc_log_groups.specs.declared.broken_rule.BrokenRule.{BrokenRule}
use Rattle.hlc_log_groups.specs.declared.cause_group.CauseGroup.{CauseGroup}
use Rattle.hlc_log_groups.specs.declared.cause_place.CausePlace.{CausePlace}
use Rattle.hlc_log_groups.specs.declared.group_detail.GroupDetail.{GroupDetail}
use Rattle.hlc_log_groups.specs.declared.group_detail.GroupDetail.TheVariants as detail
use Rattle.hlc_log_groups.specs.declared.group_key.GroupKey.{GroupKey}

-- the name of the node whose stamps a rule compares with, or nothing if it compares with those of none
abbrev pub of_field : (nodes : List (List ℕ)) → Option NodeId → List ℕ
of_field nodes None = []
of_field nodes (Some node) = name_of nodes node.0

-- the row of a group: its node, its rule, whose stamps the rule compares with, how many causes it has, and the line of the first
abbrev pub group_row : List FileMark → (nodes : List (List ℕ)) → LogInOrder → GroupKey × CauseGroup → Fields
group_row files nodes log group =
    codes "group" ∷ name_of nodes group.0.node.0 ∷ rule_word group.0.rule ∷ of_field nodes group.0.of ∷ decimal group.1.causes
    ∷ line_text files (event_at log.events group.1.first.event.0).line ∷ []

-- how the line of the event is told with which a rule compares; nothing if it compares with none
abbrev pub compared_field : List FileMark → LogInOrder → (compared : Option EventId) → List ℕ
compared_field files log None = []
compared_field files log (Some d) = line_text files (line_in log d.0)

-- the row of a cause of a group: its rule, its line, the stamp that breaks the rule, the line of the event with which the rule compares it, and the
-- stamp there
abbrev pub place_row : List FileMark → LogInOrder → BrokenRule → CausePlace → Fields
place_row files log broken place =
    let told = told_pair log broken place in
    let asked = asked_pair log broken place in
    codes "place" ∷ rule_word broken ∷ line_text files (event_at log.events place.event.0).line ∷ decimal told.l ∷ decimal told.c
    ∷ compared_field files log place.compared ∷ decimal asked.l ∷ decimal asked.c ∷ []

-- the first causes of a group
abbrev pub first_places : CauseGroup → List CausePlace
first_places group = group.first ∷ (option_to_list group.second ++ option_to_list group.third)

-- what is told of a group: its row, and those of its first causes, if they are to be told
abbrev pub group_rows : GroupDetail → OpenedLog → GroupKey × CauseGroup → List Fields
group_rows detail.Nothing opened group = []
group_rows detail.Groups opened group = group_row opened.files opened.nodes opened.log group ∷ []
group_rows detail.Places opened group =
    group_row opened.files opened.nodes opened.log group ∷ map (place_row opened.files opened.log group.0.rule) (first_places group.1)

-- these are the rows of the groups of an opened log
abbrev pub AreGroupRows : GroupDetail → OpenedLog → List Fields → Type 0
AreGroupRows told opened rows = (groups : Groups) × AreGroupsOf opened.log opened.full groups × (rows ≡ flat_map (group_rows told opened) groups)

-- the same if something is to be told of groups, and no rows if not
abbrev pub AreGroupRowsIf : GroupDetail → OpenedLog → List Fields → Type 0
AreGroupRowsIf detail.Nothing opened rows = rows ≡ []
AreGroupRowsIf told opened rows = AreGroupRows told opened rows
