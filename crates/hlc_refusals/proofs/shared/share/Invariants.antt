use Rattle.std.proofs.Common.{Some}
use Rattle.hlc_refusals.proofs.shared.share.Given as goal

abbrev pub ghosts-closed-L-Ledger : goal.ghosts-closed-L-Ledger
ghosts-closed-L-Ledger g a = record { name = a.blank.name; parts = a.blank.parts }

abbrev pub ghosts-closed-L-Group : goal.ghosts-closed-L-Group
ghosts-closed-L-Group g a = record { nodes = a.blank.parts; capacity = 16; limit = Some 6 }
