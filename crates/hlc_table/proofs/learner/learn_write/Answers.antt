use Rattle.std.proofs.Common.{◌≡◌, subst, sym}
use Rattle.std.specs.Prelude.{IfSome}
use Rattle.hlc_stamp.specs.declared.rank.Rank.{Rank}
use Rattle.hlc_table.specs.Rows.{entry_at}
use Rattle.hlc_table.proofs.learner.learn_write.Goals as goal

pub learn-requires : goal.learn-requires
learn-requires c =
    let w = c.args.write in
    let key = c.key_and_rank.result.0.now in
    record {
      one_write_a_rank = subst (λ (r : Rank). IfSome (entry_at c.args.table.now key) (λ held. held.rank ≡ r → held.write ≡ w))
          (sym c.key_and_rank.ensures.rank)
          (c.requires.one_write_a_rank key w.0 c.requires.exists);
    }
