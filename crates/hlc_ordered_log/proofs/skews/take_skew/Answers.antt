use Rattle.std.proofs.Common.{◌≡◌, ◌∙◌, true, false, ap, sym}
use Rattle.hlc_ordered_log.specs.Skew.{is_greater, skew_between}
use Rattle.hlc_ordered_log.proofs.SkewOrder.{not_at}
use Rattle.hlc_ordered_log.proofs.skews.take_skew.Goals as goal

pub returns-in_ok-insert : goal.returns-in_ok-insert
returns-in_ok-insert c =
    let skews = c.args.skews.now.entries in
    let nodes = c.args.nodes in
    let found : c.copied-first.result ≡ skew_between skews nodes = c.copied-first.ensures ∙ c.get.ensures.value in
    let greater : is_greater c.args.skew (skew_between skews nodes) ≡ true =
    sym (ap (is_greater c.args.skew) found) ∙ sym c.is_greater.ensures ∙ c.if-is_greater.true in
    record {
      sorted = λ before. c.in_ok-insert.ensures.ordered;
      greater = λ is. c.in_ok-insert.ensures.updates.1;
      first = λ is. (let both : true ≡ false = sym greater ∙ is in absurd cc);
      others = λ other ne. c.in_ok-insert.ensures.updates.2 other (not_at nodes other ne);
    }
