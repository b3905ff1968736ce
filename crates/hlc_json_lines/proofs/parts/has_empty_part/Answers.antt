use Rattle.std.proofs.Common.{◌≡◌, ◌∙◌, ◌==◌, ◌||◌, ℕ, Bool, List, None, Some, ap, length, sym}
use Rattle.std.specs.List.{list_any}
use Rattle.hlc_json_lines.specs.Paths.{has_empty_part}
use Rattle.hlc_json_lines.proofs.PartFacts.{or-false, split-once, text-after}
use Rattle.hlc_json_lines.proofs.parts.has_empty_part.Goals as goal

pub loop-part-preserved : goal.loop-part-preserved
loop-part-preserved c =
    let mark = c.args.mark in
    let inv = c.loop-part.invariant in
    let rest = c.loop-part.rest.now in
    let parts = Some (c.in-Some.part, c.in-Some.after) in
    let split = split-once mark rest parts c.in-Some.ensures.cases c.requires in
    let some = sym c.is_empty.ensures ∙ c.if-is_empty.false in
    let step : has_empty_part mark rest ≡ has_empty_part mark c.in-Some.after.now =
    ap (list_any (λ (part : List ℕ). length part == 0)) split ∙ ap (λ (b : Bool). b || has_empty_part mark c.in-Some.after.now) some in
    (sym step ∙ inv.0, text-after mark rest (c.in-Some.part, c.in-Some.after) c.in-Some.ensures.cases inv.1)

pub returns : goal.returns
returns c =
    let mark = c.args.mark in
    let rest = c.loop-part.rest.now in
    let split = split-once mark rest None c.in_default.ensures.cases c.requires in
    c.is_empty-2.ensures ∙ sym (or-false (length rest == 0)) ∙ sym (ap (list_any (λ (part : List ℕ). length part == 0)) split) ∙ c.loop-part.invariant.0
