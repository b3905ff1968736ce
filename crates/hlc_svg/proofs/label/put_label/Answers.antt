use Rattle.std.proofs.Common.{◌∙◌, ◌++◌, ◌-◌, ◌<◌, List, ℕ, ap, append_assoc, arith, length, string_bytes}
use Rattle.std.proofs.lemmas.Bool.Decides.{nat_tests}
use Rattle.std.proofs.lemmas.Grind.{common_steps}
use Rattle.hlc_svg.specs.Label.{label_text, shown_text}
use Rattle.hlc_svg.proofs.Labels.{text_ends_with, text_goes_on_with}
use Rattle.hlc_svg.proofs.label.put_label.Goals as goal

pub returns-then-left-width : goal.returns-then-left-width
returns-then-left-width c =
    let some : 0 < length c.rest.rest.now = grind (arith, nat_tests, c.is_empty.ensures) in
    let is = c.shown_first-shown.ensures in
    let wide = c.shown_width-width.ensures in
    let ends = text_ends_with c.rest.left c.rest.rest.now c.shown_first-shown.result c.shown_width-width.result some is wide c.if-left-width.true in
    grind (arith, common_steps, ends)

pub rest-preserved : goal.rest-preserved
rest-preserved c =
    let some : 0 < length c.rest.rest.now = grind (arith, nat_tests, c.is_empty.ensures) in
    let is = c.shown_first-shown.ensures in
    let wide = c.shown_width-width.ensures in
    let rest = c.rest_after-rest.result.now in
    let goes_on = text_goes_on_with c.rest.left c.rest.rest.now c.shown_first-shown.result c.shown_width-width.result some is wide rest
    c.if-left-width.false c.rest_after-rest.ensures in
    let text = string_bytes c.rest.text in
    let shown = shown_text c.shown_first-shown.result in
    let left = label_text (c.rest.left - c.shown_width-width.result) rest in
    ap (λ (t : List ℕ). t ++ left) c.in_ok-put_shown.ensures ∙ append_assoc text shown left ∙ ap (λ (t : List ℕ). text ++ t) goes_on ∙ c.rest.invariant
