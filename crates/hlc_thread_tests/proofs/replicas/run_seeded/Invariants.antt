use Rattle.std.proofs.Common.{None}
use Rattle.hlc_thread_tests.proofs.replicas.run_seeded.Given as goal

abbrev pub ghosts-run-L-Ledger : goal.ghosts-run-L-Ledger
ghosts-run-L-Ledger g a = record { name = a.blank.name; parts = a.blank.parts }

abbrev pub ghosts-run-L-Group : goal.ghosts-run-L-Group
ghosts-run-L-Group g a = record { nodes = a.blank.parts; capacity = a.capacity; limit = None }
