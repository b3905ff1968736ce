use Rattle.std.proofs.Common.{◌≡◌, ◌↔◌, ◌∷◌, [], IsTrue, List, arith, rules, subst}
use Rattle.std.specs.Prelude.{IfOk}
use Rattle.std.proofs.lemmas.Grind.{common_steps}
use Rattle.std.proofs.lemmas.Result.{IfOk-weaker}
use Rattle.hlc_core.specs.Request.{Request, ToWrite}
use Rattle.hlc_held.specs.Agreement.{Agrees, IsAnswerTo, places_of_node}
use Rattle.hlc_held.specs.LogEntry.{DidAct, LogEntry, log_of}
use Rattle.hlc_examples.proofs.OneEntry.{agrees-one}
use Rattle.hlc_examples.proofs.reported_writes.wrote_only.Goals as goal

-- the log has the write alone
pub returns : goal.returns
returns c =
    let events = c.args.history.now.events in
    let node = c.args.node.0 in
    let event = c.args.event.0 in
    let request : Request = ToWrite c.args.key.now c.args.value.now in
    let one : List LogEntry = DidAct c.args.reading request event c.args.stamp ∷ [] in
    let logged : log_of c.deref.result.now ≡ one =
    first_of (search rules, grind (arith, common_steps, c.deref.ensures.value, c.in_ok-push.ensures.items, c.new-log.ensures.items)) in
    let answered : IfOk c.agrees.result (λ b. IsTrue b ↔ Agrees events node one) =
    subst (λ (log : List LogEntry). IfOk c.agrees.result (λ b. IsTrue b ↔ Agrees events node log)) logged c.agrees.ensures in
    let means = agrees-one events node c.args.reading request event c.args.stamp in
    IfOk-weaker c.agrees.result (λ b. IsTrue b ↔ Agrees events node one)
    (λ b. IsTrue b ↔ ((places_of_node events node ≡ event ∷ []) × IsAnswerTo events c.args.reading request event c.args.stamp))
    (λ b h. (λ t. means.0 (h.0 t), λ both. h.1 (means.1 both))) answered
