use Rattle.hlc_thread_tests.proofs.shared_calls.expect_all_calls.Given as goal

abbrev pub ghosts-with_settings-L-Ledger : goal.ghosts-with_settings-L-Ledger
ghosts-with_settings-L-Ledger g a = record { name = a.blank.name; parts = a.blank.parts }

abbrev pub ghosts-with_settings-L-Group : goal.ghosts-with_settings-L-Group
ghosts-with_settings-L-Group g a = record { nodes = a.blank.parts; capacity = 11; limit = a.limit }
