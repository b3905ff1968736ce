use Rattle.std.proofs.Common.{◌∙◌}
use Rattle.std.proofs.lemmas.Result.{err_from_is_err_and}
use Rattle.hlc_csv.proofs.RowFacts.{text_of-one}
use Rattle.hlc_text.proofs.TableFacts.{left-more, table_text-more, table_text-whole}
use Rattle.hlc_text.proofs.reply.push_table.Goals as goal

pub loop-key-init : goal.loop-key-init
loop-key-init g c =
    record {
      left = c.into_iter-key-iterator.ensures.into_iter_gives ∙ c.entries-key-items.ensures.all;
      text = rw text_of-one (rw (c.from.ensures, c.len.ensures.len) at c.in_ok-push_numbers.ensures.added);
    }

pub loop-key-preserved : goal.loop-key-preserved
loop-key-preserved g c =
    let table = c.args.table.now in
    let yielded = c.loop-key.yielded in
    let h = c.loop-key.invariant in
    record {
      left = left-more table c.loop-key.key-iterator c.next.new.self yielded (c.in-Some.key, c.in-Some.entry) h.left c.in-Some.ensures.steps;
      text = table_text-more _ _ _ _ _ _ _ _ _ table yielded (c.in-Some.key, c.in-Some.entry) h.text c.in_ok-push_entry.ensures;
    }

pub returns : goal.returns
returns g c =
    let h = c.loop-key.invariant in
    table_text-whole _ _ _ _ _ _ _ c.args.table.now c.loop-key.key-iterator c.loop-key.yielded h.left c.in-None.ensures.steps.0 h.text

pub returns-in_err-push_numbers : goal.returns-in_err-push_numbers
returns-in_err-push_numbers g c = rw (err_from_is_err_and c.from_residual.result c.from_residual.ensures.1).1 tt

pub returns-in_err-push_entry : goal.returns-in_err-push_entry
returns-in_err-push_entry g c = rw (err_from_is_err_and c.from_residual-in_err-push_entry.result c.from_residual-in_err-push_entry.ensures.1).1 tt
