use Rattle.std.proofs.Common.{None}
use Rattle.hlc_thread_tests.proofs.shared_calls.tables_are_sent_whole.Given as goal

abbrev pub ghosts-close-L-Ledger : goal.ghosts-close-L-Ledger
ghosts-close-L-Ledger g a = record { name = a.blank.name; parts = a.blank.parts }

abbrev pub ghosts-close-L-Group : goal.ghosts-close-L-Group
ghosts-close-L-Group g a = record { nodes = a.blank.parts; capacity = 16; limit = None }
