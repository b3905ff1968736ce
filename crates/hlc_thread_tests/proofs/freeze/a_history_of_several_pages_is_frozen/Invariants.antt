use Rattle.std.proofs.Common.{None}
use Rattle.hlc_thread_tests.proofs.freeze.a_history_of_several_pages_is_frozen.Given as goal

abbrev pub ghosts-freeze_pages-L-Ledger : goal.ghosts-freeze_pages-L-Ledger
ghosts-freeze_pages-L-Ledger g a = record { name = a.blank.name; parts = a.blank.parts }

abbrev pub ghosts-freeze_pages-L-Group : goal.ghosts-freeze_pages-L-Group
ghosts-freeze_pages-L-Group g a = record { nodes = a.blank.parts; capacity = 5000; limit = None }
