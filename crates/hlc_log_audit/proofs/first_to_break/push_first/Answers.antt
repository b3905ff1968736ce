use Rattle.std.proofs.Common.{◌≡◌, ◌∙◌, ℕ, List, [], ◌∷◌, Option, Some, None, ap, subst, sym}
use Rattle.std.specs.Prelude.{codes, position}
use Rattle.std.specs.Str.{bytes_eq}
use Rattle.std.proofs.lemmas.Result.{on_ok_weaker}
use Rattle.hlc_ordered_log.specs.InOrder.{LogInOrder}
use Rattle.hlc_log_audit.specs.Answers.{AnswersFirst}
use Rattle.hlc_log_audit.specs.FirstToBreak.{NamesFirstToBreak}
use Rattle.hlc_log_audit.proofs.first_to_break.push_first.Goals as goal

pub returns-in-None : goal.returns-in-None
returns-in-None g c =
    let log = c.args.log.now in
    let name = c.args.name.now in
    let rule = c.args.rule in
    let node = c.in-Some.node in
    let row = λ (told : List ℕ). codes "first" ∷ name ∷ told ∷ codes "none" ∷ [] in
    let at : position (bytes_eq name) log.nodes ≡ Some node =
    ap (λ (nodes : List (List ℕ)). position (bytes_eq name) nodes) (sym c.nodes.ensures.value) ∙ sym c.in-Some.ensures.number in
    let names : NamesFirstToBreak log.log log.full rule node None =
    subst (λ (full : ℕ). NamesFirstToBreak log.log full rule node None) c.full.ensures
    (subst (λ (x : LogInOrder). NamesFirstToBreak x c.full.result rule node None) c.ordered-ordered.ensures.value c.in-None.ensures.first) in
    let answers : AnswersFirst log.files log.log log.full name rule (position (bytes_eq name) log.nodes) (row c.text.result.now) =
    subst (λ (o : Option ℕ). AnswersFirst log.files log.log log.full name rule o (row c.text.result.now)) (sym at) (None, names, ap row c.text.ensures) in
    on_ok_weaker c.push.result (λ adds. (row c.text.result.now, answers, adds)) c.push.ensures.added
