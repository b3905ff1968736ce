use Rattle.hlc_json_lines.proofs.RowLaws.{lines_read_as_rows}
use Rattle.hlc_json_lines.proofs.laws.lines_read_as_rows.Goals as goal

pub returns : goal.returns
returns c = lines_read_as_rows
