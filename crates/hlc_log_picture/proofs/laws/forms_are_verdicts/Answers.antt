use Rattle.hlc_log_picture.proofs.PictureLaws.{forms_are_verdicts, forms_tell_words, legend_tells_forms}
use Rattle.hlc_log_picture.proofs.laws.forms_are_verdicts.Goals as goal

pub returns-clause-verdicts : goal.returns-clause-verdicts
returns-clause-verdicts c = forms_are_verdicts

pub returns-clause-words : goal.returns-clause-words
returns-clause-words c = forms_tell_words

pub returns-clause-legend : goal.returns-clause-legend
returns-clause-legend c = legend_tells_forms
