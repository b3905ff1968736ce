use Rattle.std.proofs.Common.{None, lit<, sym}
use Rattle.std.proofs.lemmas.Str.Pattern.{split_once_first}
use Rattle.hlc_json_lines.proofs.PathFacts.{field-none}
use Rattle.hlc_json_lines.proofs.path_rule.field_in.Goals as goal

pub returns-in_err-name : goal.returns-in_err-name
returns-in_err-name c =
    let text = c.args.text.now in
    rw c.from_residual.ensures (sym (field-none text (split_once_first 61 text None c.in_err-name.ensures.cases (lit< tt))))
