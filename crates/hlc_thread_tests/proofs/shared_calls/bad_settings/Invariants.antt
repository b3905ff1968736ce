use Rattle.std.proofs.Common.{None}
use Rattle.hlc_thread_tests.proofs.shared_calls.bad_settings.Given as goal

abbrev pub ghosts-refusal_of-L-Ledger : goal.ghosts-refusal_of-L-Ledger
ghosts-refusal_of-L-Ledger g a = record { name = a.blank.name; parts = a.blank.parts }

abbrev pub ghosts-refusal_of-L-Group : goal.ghosts-refusal_of-L-Group
ghosts-refusal_of-L-Group g a = record { nodes = a.blank.parts; capacity = a.capacity; limit = None }
