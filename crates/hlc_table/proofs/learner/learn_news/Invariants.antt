use Rattle.std.proofs.Common.{◌≡◌, drop, fold}
use Rattle.hlc_table.specs.Rows.{keys_in, learn_entry}
use Rattle.hlc_table.specs.TableNews.{key_in, rows_with_news}
use Rattle.hlc_table.proofs.learner.learn_news.Given as goal

-- what is left of the news makes of the table what all made of the first, whose keys it has
abbrev pub invariant-loop-one : goal.invariant-loop-one
invariant-loop-one l = record {
  left :
      fold (λ before n. learn_entry before (key_in l.fn.table n.place) n.entry) l.table (drop l.one-index l.news)
      ≡ rows_with_news l.fn.table l.news;
  keys : keys_in l.table ≡ keys_in l.fn.table;
}
