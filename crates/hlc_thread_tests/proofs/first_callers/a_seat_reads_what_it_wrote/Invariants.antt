use Rattle.std.proofs.Common.{None}
use Rattle.hlc_thread_tests.proofs.first_callers.a_seat_reads_what_it_wrote.Given as goal

abbrev pub ghosts-read_what_is_written-L-Ledger : goal.ghosts-read_what_is_written-L-Ledger
ghosts-read_what_is_written-L-Ledger g a = record { name = a.blank.name; parts = a.blank.parts }

abbrev pub ghosts-read_what_is_written-L-Group : goal.ghosts-read_what_is_written-L-Group
ghosts-read_what_is_written-L-Group g a = record { nodes = a.blank.parts; capacity = 16; limit = None }
