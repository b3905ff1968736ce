use Rattle.std.proofs.Common.{◌≡◌, ◌∙◌, ◌++◌, ◌∷◌, [], List, ap, refl, sym}
use Rattle.std.specs.Prelude.{option_map}
use Rattle.hlc_log_text.specs.Question.{plain_asked}
use Rattle.hlc_log_text.specs.declared.question.LogQuestion.{LogQuestion}
use Rattle.hlc_command_line.proofs.AskedFacts.{none_asked}
use Rattle.hlc_log_commands.proofs.FollowingFacts.{added-one}
use Rattle.hlc_log_commands.proofs.following.add_line.Goals as goal

pub returns-clause-added : goal.returns-clause-added
returns-clause-added c =
    let before = c.args.questions.now.items in
    let q = c.in-Some.question in
    let pushed : c.push_reserved.new.self.items ≡ before ++ q ∷ [] =
    c.push_reserved.ensures.items ∙ ap (λ (qs : List LogQuestion). qs ++ q ∷ []) c.in_ok-reserve.ensures.items in
    added-one c.args.line.now before c.push_reserved.new.self.items q (sym c.is_blank.ensures ∙ c.if-is_blank.false) pushed
    ((c.in_ok-question.ensures (plain_asked q)).0 (ap (option_map plain_asked) c.in-Some.is))

pub returns-in_default-clause-other : goal.returns-in_default-clause-other
returns-in_default-clause-other c = (
  refl,
  (
    sym c.is_blank.ensures ∙ c.if-is_blank.false,
    λ asked is. none_asked c.in_ok-question.field-0 c.in_default.not-Some asked ((c.in_ok-question.ensures asked).1 is),
  ),
)
