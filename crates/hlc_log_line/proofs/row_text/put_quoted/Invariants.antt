use Rattle.std.proofs.Common.{◌∷◌, take}
use Rattle.csv.specs.Writing.{escaped}
use Rattle.hlc_csv.specs.Rows.{row_setup}
use Rattle.hlc_log_line.specs.Room.{IsPut}
use Rattle.hlc_log_line.proofs.row_text.put_quoted.Given as goal

abbrev pub invariant-loop-byte : goal.invariant-loop-byte
invariant-loop-byte l = IsPut l.fn.room l.room l.at (34 ∷ escaped row_setup (take l.byte-index l.field)) l.end
