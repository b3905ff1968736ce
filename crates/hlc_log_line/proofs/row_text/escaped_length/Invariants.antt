use Rattle.std.proofs.Common.{◌≡◌, ◌*◌, ◌≤◌, length, take}
use Rattle.csv.specs.Writing.{escaped}
use Rattle.hlc_csv.specs.Rows.{row_setup}
use Rattle.hlc_log_line.proofs.row_text.escaped_length.Given as goal

abbrev pub invariant-loop-byte : goal.invariant-loop-byte
invariant-loop-byte l = record {
  so_far : l.length ≡ length (escaped row_setup (take l.byte-index l.field));
  most : l.length ≤ 2 * l.byte-index;
}
