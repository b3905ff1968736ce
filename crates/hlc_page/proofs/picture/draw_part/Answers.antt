use Rattle.std.proofs.Common.{arith, inl, inr, refl}
use Rattle.hlc_script_commands.specs.Drawn.{IsDrawnWhole, IsDrawnWithout}
use Rattle.hlc_page.proofs.Drawings.{done_by_numbers}
use Rattle.hlc_page.proofs.Statuses.{status_of_answer}
use Rattle.hlc_page.proofs.picture.draw_part.Goals as goal

pub returns-in-Ok-clause-status : goal.returns-in-Ok-clause-status
returns-in-Ok-clause-status c =
    let put = c.put.ensures in
    let drawn =
    done_by_numbers (λ s. IsDrawnWhole s c.args.part) _ _ _ _ _ _ c.deref.result.now c.in-Some.ensures.numbers c.new-picture.ensures.items
    (rw c.deref.ensures.value c.in-Ok.ensures.done) in
    status_of_answer _ _ _ c.deref.result.now _ _ _ _ (inl (refl, drawn)) (inl (omega arith)) put.told put.put put.room put.unchanged

pub returns-in-Err-NoEvent-clause-status : goal.returns-in-Err-NoEvent-clause-status
returns-in-Err-NoEvent-clause-status c =
    let put = c.put-in-Err-NoEvent.ensures in
    let drawn =
    done_by_numbers (λ s. IsDrawnWithout s c.args.part) _ _ _ _ _ _ c.deref-in-Err-NoEvent.result.now c.in-Some.ensures.numbers
    c.new-picture.ensures.items
    (rw c.deref-in-Err-NoEvent.ensures.value (rw c.in-Err-NoEvent.field-0-is at c.in-Err-NoEvent.ensures.told tt)) in
    status_of_answer _ _ _ c.deref-in-Err-NoEvent.result.now _ _ _ _ (inr (refl, drawn)) (inl (omega arith)) put.told put.put put.room put.unchanged
