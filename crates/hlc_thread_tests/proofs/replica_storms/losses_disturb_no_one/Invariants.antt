use Rattle.std.proofs.Common.{None}
use Rattle.hlc_thread_tests.proofs.replica_storms.losses_disturb_no_one.Given as goal

abbrev pub ghosts-lose_while_others_act-L-Ledger : goal.ghosts-lose_while_others_act-L-Ledger
ghosts-lose_while_others_act-L-Ledger g a = record { name = a.blank.name; parts = a.blank.parts }

abbrev pub ghosts-lose_while_others_act-L-Group : goal.ghosts-lose_while_others_act-L-Group
ghosts-lose_while_others_act-L-Group g a = record { nodes = a.blank.parts; capacity = 1200; limit = None }
