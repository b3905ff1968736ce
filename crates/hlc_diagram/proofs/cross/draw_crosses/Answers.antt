use Rattle.std.proofs.Common.{◌≤◌, List, ℕ, arith, length}
use Rattle.hlc_diagram.specs.Cross.{cross_of, cross_text}
use Rattle.hlc_svg.specs.Shapes.{if_drawn}
use Rattle.hlc_diagram.specs.declared.failed.Failed.{Failed}
use Rattle.hlc_diagram.proofs.Texts.{adds_none, all_taken, taken_added}
use Rattle.hlc_diagram.proofs.cross.draw_crosses.Goals as goal

pub loop-message-init : goal.loop-message-init
loop-message-init g c =
    let s = c.args.scene.now in
    let text : Failed → List ℕ = λ m. if_drawn cross_text (cross_of (g.S.Subject.content c.args.subject.now) s.frame s.lanes.now m) in
    adds_none text _ _

pub loop-message-preserved : goal.loop-message-preserved
loop-message-preserved g c =
    let s = c.args.scene.now in
    let text : Failed → List ℕ = λ m. if_drawn cross_text (cross_of (g.S.Subject.content c.args.subject.now) s.frame s.lanes.now m) in
    taken_added text c.args.messages.now c.loop-message.message-index _ _ _ _ _ _ _ _ (omega arith) c.loop-message.invariant
    c.in_ok-put_message.ensures c.in_ok-spill.ensures.kept

pub returns-clause-text : goal.returns-clause-text
returns-clause-text g c =
    let s = c.args.scene.now in
    let text : Failed → List ℕ = λ m. if_drawn cross_text (cross_of (g.S.Subject.content c.args.subject.now) s.frame s.lanes.now m) in
    let all : length c.args.messages.now ≤ c.loop-message.message-index = omega arith in
    all_taken text c.args.messages.now c.loop-message.message-index _ _ _ _ all c.loop-message.invariant
