use Rattle.std.proofs.Common.{◌≡◌, ◌∙◌, ◌++◌, [], ◌∷◌, ◌+◌, List, ap, get_or, map, subst, sym, take}
use Rattle.std.proofs.lemmas.List.{map_push, take_more}
use Rattle.hlc_log_text.specs.Question.{Asked, plain_asked}
use Rattle.hlc_log_text.specs.declared.question.LogQuestion.{LogQuestion}
use Rattle.hlc_log_audit.specs.Answers.{AreAnswers}
use Rattle.hlc_log_audit.proofs.AnswerFacts.{answers_push}
use Rattle.hlc_log_text.proofs.RowsAdded.{adds_joined, adds_one}
use Rattle.hlc_log_audit.proofs.answer.push_answers.Goals as goal

pub loop-question-preserved : goal.loop-question-preserved
loop-question-preserved g c =
    let a = c.args in
    let i = c.loop-question.question-index in
    let questions = a.questions.now in
    let before = c.loop-question.invariant in
    let one = c.in_ok-push_tallied.ensures in
    let q = c.question-item.result in
    let so_far = map plain_asked (take i questions) in
    let more : map plain_asked (take (i + 1) questions) ≡ so_far ++ plain_asked q ∷ [] =
    ap (map plain_asked) (take_more questions i q c.loop-question-test.true) ∙ map_push plain_asked (take i questions) (get_or questions i q)
    ∙ ap (λ (x : LogQuestion). so_far ++ plain_asked x ∷ []) (sym c.question-item.is) in (
      before.0 ++ one.0 ∷ [],
      subst (λ (asked : List Asked). AreAnswers a.log.now.files a.log.now.nodes a.log.now.labels a.log.now.log a.log.now.full asked (before.0 ++ one.0 ∷ [])) (sym more)
          (answers_push a.log.now.files a.log.now.nodes a.log.now.labels a.log.now.log a.log.now.full so_far before.0 (plain_asked q) one.0 before.1 one.1),
      adds_joined _ _ _ _ _ _ before.0 (one.0 ∷ []) before.2 (adds_one _ _ _ _ one.0 one.2),
    )
