use Rattle.std.proofs.Common.{◌==◌, ◌∙◌, ◌+◌, ℕ, arith, ap, drop, length, sym}
use Rattle.std.proofs.lemmas.List.{drop_all}
use Rattle.csv.proofs.WriteFacts.{slice-end}
use Rattle.hlc_json_lines.proofs.PartFacts.{first-place, no-place}
use Rattle.hlc_json_lines.proofs.field_text.after_point.Goals as goal

pub returns-in-Some : goal.returns-in-Some
returns-in-Some c =
    let text = c.args.text.now in
    let at = c.in-Some.at in
    slice-end text (at + 1) ∙ ap (λ (n : ℕ). drop (n + 1) text) (sym (first-place (λ b. b == 46) text at c.in-Some.ensures))

pub returns-in-None : goal.returns-in-None
returns-in-None c =
    let text = c.args.text.now in
    sym (ap (λ (n : ℕ). drop (n + 1) text) (no-place (λ b. b == 46) text c.in-None.ensures) ∙ drop_all (length text + 1) text (omega arith))
