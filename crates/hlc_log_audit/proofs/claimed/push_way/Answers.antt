use Rattle.std.proofs.Common.{◌≡◌, ◌∙◌, [], ◌∷◌, ℕ, List, ap, arith, length, map, subst}
use Rattle.std.specs.Prelude.{codes, decimal}
use Rattle.std.proofs.lemmas.List.{append-nil}
use Rattle.std.proofs.lemmas.Result.{on_ok_weaker}
use Rattle.hlc_causality.specs.Assignment.{pair_at}
use Rattle.hlc_explain.specs.Answer.{Answer, answer_row, plain_answer, way_answer}
use Rattle.hlc_csv.specs.Rows.{AddsRow, Fields}
use Rattle.hlc_ordered_log.specs.InOrder.{claimed_of, line_in, skeleton_of}
use Rattle.hlc_ordered_log.proofs.EventsInOrder.{length-claimed_of, length-skeleton_of}
use Rattle.hlc_log_text.specs.Files.{line_text}
use Rattle.hlc_log_audit.specs.Answers.{TellsAnswer, claimed_fields}
use Rattle.hlc_log_audit.specs.ClaimedWay.{claimed_way}
use Rattle.hlc_log_audit.proofs.claimed.push_way.Goals as goal

pub stamp-requires : goal.stamp-requires
stamp-requires g c =
    let log = c.args.log.now in
    let size : length (claimed_of log) ≡ length log.events = length-claimed_of log ∙ length-skeleton_of log c.requires.ordered in
    let exists = c.requires.exists in
    omega arith

pub returns : goal.returns
returns g c =
    let files = c.args.files.now in
    let log = c.args.log.now in
    let k = c.args.event.0 in
    let asked = line_text files c.args.line ∷ [] in
    let p = pair_at (claimed_of log) k in
    let way = claimed_way (skeleton_of log) (claimed_of log) k in
    let found : plain_answer c.in_ok-found.found ≡ way_answer p way =
    c.in_ok-found.ensures ∙ (λ i. way_answer (c.stamp.ensures i) (c.in_ok-way.ensures.way i)) in
    on_ok_weaker c.push_found.result (λ tells.
    let told : TellsAnswer files log (codes "claimed") asked (way_answer p way) tells.0 =
    subst (λ (a : Answer). TellsAnswer files log (codes "claimed") asked a tells.0) found
    (subst (λ (text : List ℕ). TellsAnswer files log (codes "claimed") (text ∷ []) (plain_answer c.in_ok-found.found) tells.0) c.in_ok-text.ensures tells.1) in
    let is : tells.0 ≡ claimed_fields files log c.args.line k =
    told.2 ∙ ap (λ (lines : List ℕ). answer_row (codes "claimed") asked (map (line_text files) lines) (way_answer p way)) told.1
    ∙ ap (λ (texts : Fields). codes "claimed" ∷ line_text files c.args.line ∷ decimal p.l ∷ decimal p.c ∷ texts)
    (append-nil (map (line_text files) (map (line_in log) way))) in
    subst (λ (row : Fields). AddsRow g.W.Write.contents c.args.writer.now c.push_found.new.writer c.args.rows.now c.push_found.new.rows row) is tells.2)
    c.push_found.ensures
