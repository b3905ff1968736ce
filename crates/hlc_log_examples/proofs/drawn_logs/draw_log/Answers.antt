use Rattle.std.proofs.Common.{◌∙◌, ◌++◌, List, ℕ, ap, subst, sym}
use Rattle.hlc_diagram.specs.Picture.{picture_text}
use Rattle.hlc_diagram.specs.declared.view.View.{View}
use Rattle.hlc_log_picture.specs.Drawn.{drawn_log}
use Rattle.hlc_log_picture.specs.StampOrder.{IsInStampOrder}
use Rattle.hlc_ordered_log.specs.InOrder.{LogInOrder}
use Rattle.hlc_log_examples.proofs.drawn_logs.draw_log.Goals as goal

pub returns : goal.returns
returns c =
    let drawn = c.in_ok-pictured.pictured in
    let same = c.in_ok-pictured.ensures.log in (
      drawn,
      ap (λ (log : LogInOrder). log.events) same ∙ c.in_ok-put_in_row_order.ensures.same.events,
      λ ticks. subst (λ (log : LogInOrder). IsInStampOrder log) (sym same) (c.in_ok-put_in_row_order.ensures.by_stamp ticks),
      c.in_ok-draw.ensures.drawn ∙ ap (λ (items : List ℕ). items ++ picture_text (drawn_log drawn c.between.result)) c.new-svg.ensures.items
          ∙ ap (λ (view : View). picture_text (drawn_log drawn view)) c.between.ensures,
    )
