use Rattle.std.proofs.Common.{◌≡◌, ◌∙◌, ◌++◌, ◌∷◌, [], List, ap, subst, sym}
use Rattle.std.specs.Prelude.{option_map}
use Rattle.clap.specs.Words.{Text}
use Rattle.hlc_log_text.specs.Question.{IsQuestionText, plain_asked}
use Rattle.hlc_log_text.specs.declared.question.LogQuestion.{LogQuestion}
use Rattle.hlc_command_line.specs.Asked.{AreAsked}
use Rattle.hlc_command_line.proofs.AskedFacts.{asked_push, none_asked}
use Rattle.hlc_command_line.proofs.asked.add_question.Goals as goal

pub returns-clause-added : goal.returns-clause-added
returns-clause-added c before are =
    let old = c.args.asked.now.items in
    let text = c.args.value.now in
    let q = c.in-Some.question in
    let asks : IsQuestionText c.as_bytes.result.now (plain_asked q) =
    (c.in_ok-question.ensures (plain_asked q)).0 (ap (option_map plain_asked) c.in-Some.is) in
    let pushed : c.push_reserved.new.self.items ≡ old ++ q ∷ [] =
    c.push_reserved.ensures.items ∙ ap (λ (qs : List LogQuestion). qs ++ q ∷ []) c.in_ok-reserve.ensures.items in
    subst (λ (qs : List LogQuestion). AreAsked (before ++ text ∷ []) qs) (sym pushed)
    (asked_push before old text q are (subst (λ (t : Text). IsQuestionText t (plain_asked q)) c.as_bytes.ensures.value asks))

pub returns-in_default-clause-other : goal.returns-in_default-clause-other
returns-in_default-clause-other c asked is =
    none_asked c.in_ok-question.field-0 c.in_default.not-Some asked
    ((c.in_ok-question.ensures asked).1 (subst (λ (t : Text). IsQuestionText t asked) (sym c.as_bytes.ensures.value) is))
