use Rattle.std.proofs.Common.{◌≡◌}
use Rattle.std.proofs.lemmas.Option.{MatchOption-at_some}
use Rattle.hlc_arena.specs.Known.{key_at}
use Rattle.hlc_table.proofs.learner.key_and_rank.Goals as goal

pub unwrap-requires : goal.unwrap-requires
unwrap-requires c = c.key.ensures.written.1 c.requires.write

pub returns : goal.returns
returns c = record {
  key =
      MatchOption-at_some (Unit {0}) (λ k. k.now ≡ key_at c.args.history.now.events c.args.write.0) c.unwrap.result c.unwrap.ensures c.key.ensures.key;
  rank = c.rank.ensures;
}
