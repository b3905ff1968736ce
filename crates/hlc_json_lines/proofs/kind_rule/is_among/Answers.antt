use Rattle.std.proofs.Common.{◌≡◌, ◌∙◌, ◌==◌, ◌||◌, ℕ, Bool, true, List, None, Some, ap, lit<, sym}
use Rattle.std.specs.Prelude.{bytes_eq}
use Rattle.std.specs.List.{list_any, slice_split}
use Rattle.hlc_json_lines.specs.Rules.{is_among}
use Rattle.hlc_json_lines.proofs.PartFacts.{or-false, split-once, text-after}
use Rattle.hlc_json_lines.proofs.kind_rule.is_among.Goals as goal

values : List ℕ → List (List ℕ)
values text = slice_split (λ byte. byte == 44) text

pub loop-value-preserved : goal.loop-value-preserved
unfolding values
loop-value-preserved c =
    let text = c.args.text.now in
    let inv = c.loop-value.invariant in
    let rest = c.loop-value.rest.now in
    let after = c.in-Some.after.now in
    let split = split-once 44 rest (Some (c.in-Some.value, c.in-Some.after)) c.in-Some.ensures.cases (lit< tt) in
    let other = rw c.as_bytes.ensures.value at (sym c.eq.ensures ∙ c.if-eq.false) in
    let step : is_among (values rest) text ≡ is_among (values after) text =
    ap (list_any (λ (value : List ℕ). bytes_eq value text)) split ∙ ap (λ (b : Bool). b || is_among (values after) text) other in
    (sym step ∙ inv.0, text-after 44 rest (c.in-Some.value, c.in-Some.after) c.in-Some.ensures.cases inv.1)

pub returns-then-eq : goal.returns-then-eq
unfolding values
returns-then-eq c =
    let text = c.args.text.now in
    let rest = c.loop-value.rest.now in
    let after = c.in-Some.after.now in
    let split = split-once 44 rest (Some (c.in-Some.value, c.in-Some.after)) c.in-Some.ensures.cases (lit< tt) in
    let same = rw c.as_bytes.ensures.value at (sym c.eq.ensures ∙ c.if-eq.true) in
    let step : is_among (values rest) text ≡ true =
    ap (list_any (λ (value : List ℕ). bytes_eq value text)) split ∙ ap (λ (b : Bool). b || is_among (values after) text) same in
    sym step ∙ c.loop-value.invariant.0

pub returns : goal.returns
returns c =
    let text = c.args.text.now in
    let rest = c.loop-value.rest.now in
    let split = split-once 44 rest None c.in_default.ensures.cases (lit< tt) in
    let same = rw c.as_bytes-2.ensures.value at c.eq-2.ensures in
    same ∙ sym (or-false (bytes_eq rest text)) ∙ sym (ap (list_any (λ (value : List ℕ). bytes_eq value text)) split) ∙ c.loop-value.invariant.0
