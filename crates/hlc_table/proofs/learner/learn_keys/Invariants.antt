use Rattle.std.proofs.Common.{◌≡◌, drop, length, map, take}
use Rattle.hlc_table.specs.TableNews.{HavePlaces, rows_with_news}
use Rattle.hlc_table.specs.Tables.{rows_with}
use Rattle.hlc_table.proofs.NewsLearnt.{KeepRanks}
use Rattle.hlc_table.proofs.learner.learn_keys.Given as goal

-- what is left of the writes makes of the rows with the news so far what all make of the first table, which the table begins with
abbrev pub invariant-loop-write : goal.invariant-loop-write
invariant-loop-write l = record {
  left :
      rows_with l.history.events (rows_with_news l.table l.news.items) (map (λ w. w.0) (drop l.write-index l.writes))
      ≡ rows_with l.history.events l.fn.table (map (λ w. w.0) l.writes);
  places : HavePlaces l.table l.news.items;
  ranks : KeepRanks l.table (rows_with_news l.table l.news.items);
  stays : take (length l.fn.table) l.table ≡ l.fn.table;
}
