use Rattle.std.proofs.Common.{None}
use Rattle.hlc_thread_tests.proofs.freeze.a_frozen_history_stays.Given as goal

abbrev pub ghosts-freeze_and_write-L-Ledger : goal.ghosts-freeze_and_write-L-Ledger
ghosts-freeze_and_write-L-Ledger g a = record { name = a.blank.name; parts = a.blank.parts }

abbrev pub ghosts-freeze_and_write-L-Group : goal.ghosts-freeze_and_write-L-Group
ghosts-freeze_and_write-L-Group g a = record { nodes = a.blank.parts; capacity = 16; limit = None }
