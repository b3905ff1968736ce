use Rattle.std.proofs.Common.{rules}
use Rattle.hlc_seeded.proofs.Words.{drawn}
use Rattle.hlc_seeded.proofs.draw.Draw.next.Goals as goal

pub returns-clause-words : goal.returns-clause-words
returns-clause-words c =
    let words = (drawn _ _ _ _ _ c.next_word-a.ensures c.next_word-b.ensures).0 in
    search (rules, words)

pub returns-clause-rest : goal.returns-clause-rest
returns-clause-rest c = (drawn _ _ _ _ _ c.next_word-a.ensures c.next_word-b.ensures).1
