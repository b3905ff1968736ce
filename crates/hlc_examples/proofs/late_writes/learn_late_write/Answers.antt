use Rattle.std.proofs.Common.{◌≡◌, false, [], arith}
use Rattle.std.proofs.lemmas.Bool.Decides.{nat_tests}
use Rattle.hlc_table.specs.Rows.{ranks_below}
use Rattle.hlc_table.proofs.Learning.{entry_at-learn_entry}
use Rattle.hlc_examples.proofs.late_writes.learn_late_write.Goals as goal

-- the first write is the entry, and the second, which it outranks, leaves it
pub returns : goal.returns
returns c =
    let no_news : ranks_below c.args.greater c.args.late ≡ false = grind (arith, nat_tests, c.requires.outranked) in
    let first = entry_at-learn_entry [] c.args.key.now c.args.greater in
    let second = entry_at-learn_entry c.learn.new.self c.args.key.now c.args.late in
    record { shown = grind (arith, first, second, no_news, c.new-table.ensures, c.in_ok-learn.ensures.learnt, c.in_ok-learn-2.ensures.learnt) }
