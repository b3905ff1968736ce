use Rattle.std.proofs.Common.{◌∙◌, sym}
use Rattle.csv.proofs.WriteFacts.{slice-end}
use Rattle.hlc_json_lines.proofs.MarkFacts.{with-mark, without-mark}
use Rattle.hlc_json_lines.proofs.event_row.without_mark.Goals as goal

pub returns-then-starts_with : goal.returns-then-starts_with
returns-then-starts_with c =
    slice-end c.args.line.now 3 ∙ sym (with-mark c.args.line.now c.starts_with.result c.starts_with.ensures.value c.if-starts_with.true)

pub returns-else-starts_with : goal.returns-else-starts_with
returns-else-starts_with c = sym (without-mark c.args.line.now c.starts_with.result c.starts_with.ensures.value c.if-starts_with.false)
