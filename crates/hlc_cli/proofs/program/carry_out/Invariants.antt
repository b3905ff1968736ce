use Rattle.std.proofs.Common.{◌*◌}
use Rattle.hlc_cli.proofs.program.carry_out.Given as goal

abbrev pub ghosts-play-L-Ledger : goal.ghosts-play-L-Ledger
ghosts-play-L-Ledger g a = record { name = a.blank.name; parts = a.blank.parts }

abbrev pub ghosts-play-L-Group : goal.ghosts-play-L-Group
ghosts-play-L-Group g a = record { nodes = a.blank.parts; capacity = a.nodes * a.steps; limit = a.limit }
