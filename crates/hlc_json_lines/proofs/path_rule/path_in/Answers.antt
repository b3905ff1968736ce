use Rattle.std.proofs.Common.{None, lit<, sym}
use Rattle.std.proofs.lemmas.Str.Pattern.{strip_prefix_char}
use Rattle.hlc_json_lines.proofs.PathFacts.{path-none}
use Rattle.hlc_json_lines.proofs.path_rule.path_in.Goals as goal

pub returns-in_err-path : goal.returns-in_err-path
returns-in_err-path c =
    let text = c.args.text.now in
    rw c.from_residual.ensures (sym (path-none text (strip_prefix_char 46 text None c.in_err-path.ensures.cases (lit< tt))))
