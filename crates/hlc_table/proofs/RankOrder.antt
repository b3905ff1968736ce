-- The order of entries by their ranks.
use Rattle.std.proofs.Common.{◌≡◌, true, false, arith}
use Rattle.std.proofs.lemmas.Bool.Decides.{nat_tests}
use Rattle.hlc_table.specs.declared.entry.Entry.{Entry}
use Rattle.hlc_table.specs.Rows.{ranks_below}

pub below_below : (a b d : Entry) → ranks_below a b ≡ true → ranks_below b d ≡ true → ranks_below a d ≡ true
below_below a b d h k = grind (arith, nat_tests)

pub not_above_below : (a b d : Entry) → ranks_below b a ≡ false → ranks_below b d ≡ true → ranks_below a d ≡ true
not_above_below a b d h k = grind (arith, nat_tests)

-- two entries neither of which is below the other have the same rank
pub same_rank : (a b : Entry) → ranks_below a b ≡ false → ranks_below b a ≡ false → a.rank ≡ b.rank
same_rank a b h k =
    let l : a.rank.stamp.l ≡ b.rank.stamp.l = grind (arith, nat_tests) in
    let c : a.rank.stamp.c ≡ b.rank.stamp.c = grind (arith, nat_tests) in
    let node : a.rank.node.0 ≡ b.rank.node.0 = grind (arith, nat_tests) in
    λ i. record { stamp = record { l = l i; c = c i }; node = record { 0 = node i } }
