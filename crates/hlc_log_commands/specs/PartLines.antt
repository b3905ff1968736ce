-- What of a log is drawn, by lines that are counted over all its files.
use Rattle.std.specs.Prelude.{ℕ, List, option_map, unwrap_or}
use Rattle.hlc_log_text.specs.Files.{line_at}
use Rattle.hlc_log_text.specs.declared.file_mark.FileMark.{FileMark}
use Rattle.hlc_command_line.specs.declared.drawn_part.DrawnPart.{DrawnPart}
use Rattle.hlc_command_line.specs.declared.drawn_part.DrawnPart.TheVariants.{Chain, Rows}
use Rattle.hlc_command_line.specs.declared.drawn_part.DrawnRows.{DrawnRows}
use Rattle.hlc_command_line.specs.declared.drawn_part.DrawnRows.TheVariants.{Around, Between}
use Rattle.hlc_command_line.specs.declared.line_order.LogLine.{LogLine}
use Rattle.hlc_command_line.specs.declared.line_order.LogLine.TheVariants.{Counted, Located}

-- the line that is named in a log of some files, or 0, on which no record begins, if the log doesn't have it
abbrev pub line_in : List FileMark → LogLine → ℕ
line_in files (Located location) = unwrap_or (line_at files location) 0
line_in files (Counted number) = number

-- the rows, by such lines
abbrev pub rows_in : List FileMark → DrawnRows LogLine → DrawnRows ℕ
rows_in files (Between first last) = Between (option_map (line_in files) first) (option_map (line_in files) last)
rows_in files (Around line number) = Around (line_in files line) number

-- what is drawn, by such lines
abbrev pub part_in : List FileMark → DrawnPart LogLine → DrawnPart ℕ
part_in files (Rows rows explained) = Rows (rows_in files rows) (option_map (line_in files) explained)
part_in files (Chain line) = Chain (line_in files line)
