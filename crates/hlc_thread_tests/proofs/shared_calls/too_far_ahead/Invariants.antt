use Rattle.std.proofs.Common.{Some}
use Rattle.hlc_thread_tests.proofs.shared_calls.too_far_ahead.Given as goal

abbrev pub ghosts-with_limit-L-Ledger : goal.ghosts-with_limit-L-Ledger
ghosts-with_limit-L-Ledger g a = record { name = a.blank.name; parts = a.blank.parts }

abbrev pub ghosts-with_limit-L-Group : goal.ghosts-with_limit-L-Group
ghosts-with_limit-L-Group g a = record { nodes = a.blank.parts; capacity = 16; limit = Some 5 }
