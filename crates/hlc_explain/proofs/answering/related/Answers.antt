use Rattle.std.proofs.Common.{◌∙◌, ap}
use Rattle.hlc_explain.specs.Words.{relation_word}
use Rattle.hlc_explain.specs.declared.answers.Relation.{Relation}
use Rattle.hlc_explain.specs.Answer.{word_answer}
use Rattle.hlc_explain.proofs.Found.{relation_found}
use Rattle.hlc_explain.proofs.answering.related.Goals as goal

pub returns-clause-answer : goal.returns-clause-answer
returns-clause-answer c =
    let found = c.in_ok-relation.ensures in
    c.of_word.ensures ∙ ap word_answer c.word.ensures
    ∙ ap (λ (r : Relation). word_answer (relation_word r))
    (relation_found c.args.execution.now.events c.args.first c.args.second c.in_ok-relation.relation found.before found.after found.same)
