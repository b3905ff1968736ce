use Rattle.std.proofs.Common.{◌≡◌, ◌∙◌, ◌++◌, ℕ, List, ap, codes, rules, string_bytes}
use Rattle.std.specs.Prelude.{if◌then◌else◌}
use Rattle.std.proofs.lemmas.Result.{on_ok_weaker}
use Rattle.hlc_svg.proofs.arrow.put_start.Goals as goal

pub returns : goal.returns
returns c =
    let old = string_bytes c.args.text.now in
    let class : c.if-arrow.class.now ≡ (if c.args.arrow.is_marked then codes "p" else codes "m") = search rules in
    on_ok_weaker c.write.result (λ e. e ∙ ap (λ (t : List ℕ). old ++ (codes "<polyline class=\"" ++ (t ++ codes "\" points=\""))) class)
    c.write.ensures.bytes
