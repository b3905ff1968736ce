use Rattle.std.proofs.Common.{◌==◌, ◌∙◌, ℕ, arith, ap, length, sym, take}
use Rattle.std.proofs.lemmas.List.{take_all}
use Rattle.hlc_json_lines.proofs.PartFacts.{first-place, no-place}
use Rattle.hlc_json_lines.proofs.field_text.before_byte.Goals as goal

pub returns-in-Some : goal.returns-in-Some
returns-in-Some c = ap (λ (n : ℕ). take n c.args.text.now) (sym (first-place (λ b. b == c.args.byte) c.args.text.now c.in-Some.at c.in-Some.ensures))

pub returns-in-None : goal.returns-in-None
returns-in-None c =
    let text = c.args.text.now in
    sym (ap (λ (n : ℕ). take n text) (no-place (λ b. b == c.args.byte) text c.in-None.ensures) ∙ take_all (length text) text (omega arith))
