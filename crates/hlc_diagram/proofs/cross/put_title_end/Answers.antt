use Rattle.std.proofs.Common.{◌≡◌, ◌∙◌, ◌+◌, ◌++◌, Bool, ℕ, ap, arith, codes, cond, false, string_bytes, sym}
use Rattle.std.specs.Prelude.{nat_le}
use Rattle.std.proofs.lemmas.Bool.Decides.{nat_tests}
use Rattle.std.proofs.lemmas.Result.{on_ok_weaker}
use Rattle.hlc_svg.specs.Frame.{x_of}
use Rattle.hlc_svg.specs.Path.{end_y}
use Rattle.hlc_diagram.specs.Cross.{times_text}
use Rattle.hlc_diagram.proofs.cross.put_title_end.Goals as goal

pub returns : goal.returns
returns c =
    let s = c.args.cross in
    let times : ℕ = s.failed.times in
    let old = string_bytes c.args.text.now in
    let x : ℕ = x_of s.route.frame s.route.to.0 in
    let y : ℕ = c.row_y.result + c.from.result + 4 in
    let more : nat_le s.failed.times 1 ≡ false = grind (arith, nat_tests, c.if-times-le1.false) in
    let height : c.row_y.result + c.from.result + 4 ≡ end_y s.route + 4 = omega (arith, c.row_y.ensures, c.from.ensures) in
    on_ok_weaker c.write.result (λ e.
    e ∙ ap (λ (x : ℕ). old ++ times_text times x y) c.x-x.ensures ∙ ap (λ (y : ℕ). old ++ times_text times x y) height
    ∙ ap (λ (b : Bool). old ++ cond b (codes "</title></polyline>\n") (times_text times x (end_y s.route + 4))) (sym more)) c.write.ensures.bytes
