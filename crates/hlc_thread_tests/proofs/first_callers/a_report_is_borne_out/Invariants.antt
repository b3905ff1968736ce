use Rattle.std.proofs.Common.{None}
use Rattle.hlc_thread_tests.proofs.first_callers.a_report_is_borne_out.Given as goal

abbrev pub ghosts-report_writes-L-Ledger : goal.ghosts-report_writes-L-Ledger
ghosts-report_writes-L-Ledger g a = record { name = a.blank.name; parts = a.blank.parts }

abbrev pub ghosts-report_writes-L-Group : goal.ghosts-report_writes-L-Group
ghosts-report_writes-L-Group g a = record { nodes = a.blank.parts; capacity = 100; limit = None }
