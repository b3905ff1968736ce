use Rattle.std.proofs.Common.{◌≡◌, ◌∙◌, ◌<◌, ◌≤◌, ℕ, List, Option, Some, None, false, sym, subst, ap, arith}
use Rattle.std.proofs.lemmas.Bool.{false≢true}
use Rattle.hlc_arena.specs.Known.{cut_at}
use Rattle.hlc_arena.proofs.StampsRise.{allowed_stamps_rise}
use Rattle.hlc_arena.specs.History.{StampedEvent}
use Rattle.hlc_arena.specs.NodeEvents.{IsEventOf}
use Rattle.hlc_table.specs.NodeEvents.{NamesNextFrom}
use Rattle.hlc_stamp.specs.declared.id.EventId.{EventId}
use Rattle.hlc_table.specs.NodeWalk.{place_of_next}
use Rattle.hlc_table.specs.Tables.{rows_before}
use Rattle.hlc_table.proofs.SnapshotCuts.{off_cut_from, place_exists, rows_of_cut}
use Rattle.hlc_table.proofs.snapshots.snapshot.Goals as goal

-- no event of the node comes before its first
none_before :
    (events : List StampedEvent) (node : ℕ) (next : Option EventId) → NamesNextFrom events node 0 next →
    (d : ℕ) → IsEventOf events node d → d < place_of_next events next → ⊥
none_before events node None names d of before = let none = names d of in omega arith
none_before events node (Some next) names d of before = let after = names.first d of (omega arith) in omega arith

pub loop-stamp-init : goal.loop-stamp-init
loop-stamp-init c =
    let none = none_before c.args.history.now.events c.args.node.0 c.new-walk.result.next c.new-walk.ensures.first in
    record { node = c.new-walk.ensures.node; stands = c.new-walk.ensures.stands; in_cut = λ d of before. absurd (none d of before) }

pub returns-clause-rows : goal.returns-clause-rows
returns-clause-rows c =
    let events = c.args.history.now.events in
    let node = c.args.node.0 in
    let walk = c.loop-stamp.walk in
    let n = place_of_next events walk.next in
    let off = off_cut_from events c.args.stamp walk (allowed_stamps_rise events c.requires.allowed) c.loop-stamp.invariant.stands
    (λ next. false≢true (sym c.loop-stamp-test.false ∙ c.is_next_in_cut.ensures.1 next)) in
    let off_here : (d : ℕ) → IsEventOf events node d → n ≤ d → cut_at events c.args.stamp d ≡ false =
    subst (λ (m : ℕ). (d : ℕ) → IsEventOf events m d → n ≤ d → cut_at events c.args.stamp d ≡ false) c.loop-stamp.invariant.node off in
    c.into_known.ensures
    ∙ c.loop-stamp.invariant.stands.known_is
    ∙ ap (λ (m : ℕ). rows_before events m n) c.loop-stamp.invariant.node
    ∙ rows_of_cut events c.args.stamp node n (place_exists events walk c.loop-stamp.invariant.stands) c.loop-stamp.invariant.in_cut off_here
