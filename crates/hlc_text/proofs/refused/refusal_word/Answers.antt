use Rattle.std.proofs.Common.{rules}
use Rattle.hlc_text.proofs.refused.refusal_word.Goals as goal

pub returns-in-ValueSize : goal.returns-in-ValueSize
returns-in-ValueSize c = search rules
