-- The cut at a stamp.
use Rattle.std.proofs.Common.{◌≡◌, true, arith, subst, sym}
use Rattle.std.specs.Ordering.{is_le}
use Rattle.std.proofs.lemmas.Bool.Decides.{nat_tests}
use Rattle.hlc_stamp.specs.Order.{IsAtMost, Pair, stamp_cmp}
use Rattle.hlc_arena.specs.History.{causality_of, stamps_of}
use Rattle.hlc_arena.proofs.Histories.{pair_at_place}
use Rattle.hlc_causality.proofs.LeastPairs.{cuts_are_closed}
use Rattle.hlc_table.specs.CutLaws.{CutsAreConsistent}

pub at_most_tested : (p q : Pair) → is_le (stamp_cmp p q) ≡ true → IsAtMost p q
at_most_tested p q h = grind (arith, nat_tests)

pub test_at_most : (p q : Pair) → IsAtMost p q → is_le (stamp_cmp p q) ≡ true
test_at_most p q h = grind (arith, nat_tests)

pub cuts_are_consistent : CutsAreConsistent
cuts_are_consistent events s allowed e f before inside =
    let later = subst (λ (p : Pair). IsAtMost p s) (sym (pair_at_place events f)) (at_most_tested _ s inside) in
    let earlier = cuts_are_closed (causality_of events) (stamps_of events) s allowed e f before later in
    test_at_most _ s (subst (λ (p : Pair). IsAtMost p s) (pair_at_place events e) earlier)
