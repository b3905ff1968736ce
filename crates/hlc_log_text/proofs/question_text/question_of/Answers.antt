use Rattle.hlc_log_text.proofs.QuestionTexts.{finds-if_ok}
use Rattle.hlc_log_text.proofs.question_text.question_of.Goals as goal

pub returns : goal.returns
returns c = finds-if_ok c.args.text.now _ c.read_question.result c.in-Ok.ensures c.read_question.ensures
