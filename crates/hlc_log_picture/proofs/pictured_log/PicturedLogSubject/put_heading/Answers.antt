use Rattle.std.proofs.Common.{◌∙◌, ◌++◌, ap, string_bytes}
use Rattle.std.proofs.lemmas.Result.{on_ok_weaker}
use Rattle.hlc_svg.specs.declared.numbers.FirstDigits.{FirstDigits}
use Rattle.hlc_log_picture.specs.Cells.{heading_at}
use Rattle.hlc_log_picture.specs.Drawn.{DrawnLog}
use Rattle.hlc_log_picture.specs.SharedDigits.{first_digits_of}
use Rattle.hlc_log_picture.proofs.pictured_log.PicturedLogSubject.put_heading.Goals as goal

pub returns : goal.returns
returns c =
    let old = string_bytes c.args.text.now in
    let first_is = c.self.invariant.first ∙ ap (λ (drawn : DrawnLog). first_digits_of drawn.log) c.self.view_is in
    on_ok_weaker c.put_heading.result (λ is. is ∙ ap (λ (first : FirstDigits). old ++ heading_at first c.args.column) first_is) c.put_heading.ensures
