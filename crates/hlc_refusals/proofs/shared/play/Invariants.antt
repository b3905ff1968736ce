use Rattle.std.proofs.Common.{None}
use Rattle.hlc_refusals.proofs.shared.play.Given as goal

abbrev pub ghosts-played-L-Ledger : goal.ghosts-played-L-Ledger
ghosts-played-L-Ledger g a = record { name = a.blank.name; parts = a.blank.parts }

abbrev pub ghosts-played-L-Group : goal.ghosts-played-L-Group
ghosts-played-L-Group g a = record { nodes = a.blank.parts; capacity = 40; limit = None }
