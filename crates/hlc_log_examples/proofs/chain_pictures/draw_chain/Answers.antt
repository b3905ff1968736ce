use Rattle.std.proofs.Common.{◌∙◌, ◌++◌, List, ℕ, ap}
use Rattle.hlc_arena.specs.Arena.{history_of}
use Rattle.hlc_diagram.specs.Picture.{picture_text}
use Rattle.hlc_diagram.specs.declared.view.View.{View}
use Rattle.hlc_picture.specs.Drawn.{drawn}
use Rattle.hlc_log_examples.proofs.chain_pictures.draw_chain.Goals as goal

pub returns-clause-drawn : goal.returns-clause-drawn
returns-clause-drawn c =
    c.in_ok-draw.ensures.drawn
    ∙ ap (λ (before : List ℕ). before ++ picture_text (drawn (history_of c.args.history.now) c.between-view.result)) c.new-svg.ensures.items
    ∙ ap (λ (view : View). picture_text (drawn (history_of c.args.history.now) view)) c.between-view.ensures
