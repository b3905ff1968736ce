use Rattle.std.proofs.Common.{◌≡◌, ◌∙◌, ◌++◌, ℕ, List, ap, codes, decimal, rules, string_bytes}
use Rattle.std.specs.Prelude.{if◌then◌else◌}
use Rattle.std.proofs.lemmas.Result.{on_ok_weaker}
use Rattle.hlc_svg.specs.Shapes.{dot_begins}
use Rattle.hlc_svg.proofs.dot.put_dot_start.Goals as goal

pub returns : goal.returns
unfolding dot_begins
returns c =
    let s = c.args.dot in
    let old = string_bytes c.args.text.now in
    let class : c.if-dot.class.now ≡ (if s.is_marked then codes "k" else codes "d") = search rules in
    let at = decimal s.at.x ++ (codes "," ++ (decimal s.at.y ++ codes ")\">")) in
    on_ok_weaker c.write.result (λ e.
    e ∙ ap (λ (t : List ℕ). old ++ (codes "<g id=\"e" ++ (decimal s.number ++ (codes "\" class=\"" ++ (t ++ (codes "\" tabindex=\"0\" transform=\"translate("
    ++ at)))))) class) c.write.ensures.bytes
