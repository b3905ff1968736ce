use Rattle.std.proofs.Common.{◌∙◌, List, ℕ, ap, inl, inr, subst}
use Rattle.std.proofs.lemmas.Result.{err_from_is_err_and}
use Rattle.hlc_command_line.specs.Asked.{AreAsked, AsksNothing}
use Rattle.hlc_page.specs.Given.{texts_in}
use Rattle.hlc_page.proofs.GivenFacts.{question_mistake}
use Rattle.hlc_page.proofs.given.asked_questions.Goals as goal

pub returns-in_err-texts-clause-mistaken : goal.returns-in_err-texts-clause-mistaken
returns-in_err-texts-clause-mistaken c =
    let from = err_from_is_err_and c.from_residual.result c.from_residual.ensures.1 in
    rw (from.1, from.2) (λ is. inl (c.in_err-texts.ensures.other is))

pub returns-in_err-questions-clause-mistaken : goal.returns-in_err-questions-clause-mistaken
returns-in_err-questions-clause-mistaken c =
    let from = err_from_is_err_and c.from_residual-in_err-questions.result c.from_residual-in_err-questions.ensures.1 in
    let same = ap texts_in c.deref.ensures.value ∙ c.in_ok-texts.ensures.texts in
    rw (from.1, from.2)
    (λ is. inr (subst (λ (ts : List (List ℕ)). AsksNothing ts) same (question_mistake _ c.in_err-questions.field-0.0 c.in_err-questions.ensures.other is)))

pub returns-clause-asked : goal.returns-clause-asked
returns-clause-asked c =
    let same = ap texts_in c.deref.ensures.value ∙ c.in_ok-texts.ensures.texts in
    subst (λ (ts : List (List ℕ)). AreAsked ts c.in_ok-questions.field-0.items) same c.in_ok-questions.ensures.asked
