use Rattle.std.proofs.Common.{◌≡◌, ◌∙◌, ◌<◌, List, ℕ, ap, arith, drop, false, length, length-drop, true}
use Rattle.std.proofs.lemmas.Bool.Decides.{nat_tests}
use Rattle.hlc_svg.specs.CutLabel.{end_within, fits}
use Rattle.hlc_svg.proofs.CutLabels.{end_is_here, end_is_later, some_do_not_fit}
use Rattle.hlc_svg.proofs.cut_label.end_within.Goals as goal

pub tail-end-requires : goal.tail-end-requires
tail-end-requires c =
    let cut : fits c.args.room c.end.end.now ≡ false = grind (arith, nat_tests, c.fits.ensures) in
    some_do_not_fit c.args.room c.end.end.now cut

pub end-preserved : goal.end-preserved
end-preserved c =
    let cut : fits c.args.room c.end.end.now ≡ false = grind (arith, nat_tests, c.fits.ensures) in
    ap (λ (bytes : List ℕ). end_within c.args.room bytes) c.tail-end.ensures ∙ end_is_later c.args.room c.end.end.now cut ∙ c.end.invariant

pub end-smaller : goal.end-smaller
end-smaller c =
    let cut : fits c.args.room c.end.end.now ≡ false = grind (arith, nat_tests, c.fits.ensures) in
    let some : 0 < length c.end.end.now = some_do_not_fit c.args.room c.end.end.now cut in
    let size : length c.tail-end.result.now ≡ length (drop 1 c.end.end.now) = ap (λ (bytes : List ℕ). length bytes) c.tail-end.ensures in
    omega (arith, length-drop 1 c.end.end.now)

pub returns : goal.returns
returns c =
    let fit : fits c.args.room c.end.end.now ≡ true = grind (arith, nat_tests, c.fits.ensures) in
    end_is_here c.args.room c.end.end.now fit ∙ c.end.invariant
