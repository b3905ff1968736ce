use Rattle.hlc_csv.proofs.LineLaws.{lines_are_told}
use Rattle.hlc_csv.proofs.laws.lines_are_told.Goals as goal

pub returns-clause-told : goal.returns-clause-told
returns-clause-told c = lines_are_told
