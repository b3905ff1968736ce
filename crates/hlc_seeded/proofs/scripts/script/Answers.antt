use Rattle.std.proofs.Common.{◌≡◌, ◌∙◌, ◌+◌, [], ◌∷◌, ap, arith, map, refl, rules, subst, sym}
use Rattle.std.proofs.lemmas.List.{map-append}
use Rattle.hlc_core.specs.Timed.{timed_request_of}
use Rattle.hlc_seeded.specs.Storm.{choice_for, draw_of, is_update, word_at}
use Rattle.hlc_seeded.proofs.ScriptGrowth.{IsLatest, drawn_at, latest-stays, latest-update, on-more, script-more}
use Rattle.hlc_seeded.proofs.Words.{on-none}
use Rattle.hlc_seeded.proofs.scripts.script.Goals as goal
use Rattle.hlc_seeded.proofs.scripts.script.Goals.{then-is_update, else-is_update}

pub loop-step-init : goal.loop-step-init
loop-step-init c =
    let empty = ap (map timed_request_of) c.in_ok-list.ensures.items in
    let none_drawn = on-none 0 c.args.generator.now refl in
    record {
      list = search (rules, empty);
      generator = search (rules, none_drawn);
      latest = λ lt. absurd (omega arith);
    }

pub loop-step-preserved : goal.loop-step-preserved
loop-step-preserved c =
    let g = c.args.generator.now in
    let draws = draw_of (word_at g) in
    let step = c.loop-step.step in
    let so_far = c.loop-step.invariant in
    let draw = c.next-draw.result in
    let drawn : draw ≡ draws step = drawn_at g c.loop-step.generator step so_far.generator draw c.next-draw.ensures.words in
    let updates : c.is_update.result ≡ is_update (choice_for step draw.b) = c.is_update.ensures ∙ ap is_update c.choice.ensures in
    let kept : IsLatest draws (step + 1) c.if-is_update.latest = elim c.if-is_update.branch [
      | then-is_update w ↦
          latest-update draws step draw c.if-is_update.latest drawn (sym updates ∙ w.if-is_update.true) (w.latest-is ∙ w.key-latest.ensures)
      | else-is_update w ↦
          let before = subst (IsLatest draws step) (sym w.latest-is) so_far.latest in
          latest-stays draws step draw c.if-is_update.latest drawn (sym updates ∙ w.if-is_update.false) before
    ] in
    record {
      list = ap (map timed_request_of) c.in_ok-push.ensures.items ∙ map-append timed_request_of c.loop-step.list.items (_ ∷ [])
          ∙ script-more draws c.args.nodes c.args.node step _ c.loop-step.latest draw _ _ so_far.list so_far.latest drawn
          c.reading-reading.ensures c.in_ok-action.ensures;
      generator = on-more g c.loop-step.generator step so_far.generator c.next-draw.new.generator c.next-draw.ensures.rest;
      latest = kept;
    }
