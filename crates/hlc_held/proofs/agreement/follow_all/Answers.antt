use Rattle.std.proofs.Common.{◌≡◌, ◌∙◌, ◌≤◌, ℕ, [], length, ap, arith, refl, rules, subst, sym}
use Rattle.std.proofs.lemmas.List.{length-map}
use Rattle.std.proofs.lemmas.Bool.{MatchBool-at_false, MatchBool-at_true, false≢true}
use Rattle.std.specs.Prelude.{◌↔◌, IsTrue, is_some}
use Rattle.hlc_held.specs.Agreement.{Agrees}
use Rattle.hlc_held.specs.LogEntry.{log_entry_of, log_of}
use Rattle.hlc_table.specs.NodeWalk.{StandsAt, walk_of}
use Rattle.hlc_held.specs.Walks.{GoesOn, Strays, places_passed}
use Rattle.hlc_held.proofs.Walks.{passed_from}
use Rattle.hlc_held.proofs.LogWalks.{entry_there, followed_more, followed_to_end, not_other, strayed}
use Rattle.hlc_held.proofs.agreement.follow_all.Goals as goal

pub returns-then-not-branch : goal.returns-then-not-branch
returns-then-not-branch c =
    let events = c.args.history.now.events in
    let i = c.loop-entry.entry-index in
    let walk = c.loop-entry.walk in
    let item = c.entry-item.result in
    let strays = subst (λ (n : ℕ). Strays events n (log_entry_of item) walk.next) c.loop-entry.invariant.node (MatchBool-at_false _ _ c.if-not-branch.true c.in_ok-follow.ensures.goes_on) in (
      λ t. absurd (false≢true t),
      λ agrees. absurd (strayed events c.args.walk.now.node (log_of c.args.log.now) i (log_entry_of item) walk.next
          (entry_there c.args.log.now i item c.loop-entry-test.true c.entry-item.is) c.loop-entry.invariant.followed strays agrees),
    )

pub loop-entry-preserved : goal.loop-entry-preserved
loop-entry-preserved c =
    let events = c.args.history.now.events in
    let i = c.loop-entry.entry-index in
    let walk = c.loop-entry.walk in
    let new = c.follow.new.walk in
    let item = c.entry-item.result in
    let same_node = c.loop-entry.invariant.node in
    let goes =
    subst (λ (n : ℕ). GoesOn events n (log_entry_of item) walk.next new.next) same_node
    (MatchBool-at_true _ _ c.if-not-branch.false c.in_ok-follow.ensures.goes_on) in
    record {
      node = c.in_ok-follow.ensures.node ∙ same_node;
      stands = c.in_ok-follow.ensures.stands;
      followed = followed_more events c.args.walk.now.node (log_of c.args.log.now) i (log_entry_of item) walk.next new.next
          (entry_there c.args.log.now i item c.loop-entry-test.true c.entry-item.is) c.loop-entry.invariant.followed goes;
    }

pub returns : goal.returns
returns c =
    let past : length (log_of c.args.log.now) ≤ c.loop-entry.entry-index =
    omega (arith, length-map c.args.log.now log_entry_of, c.loop-entry-test.false) in
    let stands =
    subst (λ (n : ℕ). StandsAt c.args.history.now.events (walk_of n c.loop-entry.walk.known c.loop-entry.walk.next))
    c.loop-entry.invariant.node c.loop-entry.invariant.stands in
    let ends =
    followed_to_end c.args.history.now.events c.args.walk.now.node (log_of c.args.log.now) c.loop-entry.entry-index c.loop-entry.walk.known
    c.loop-entry.walk.next past stands c.loop-entry.invariant.followed in
    let tells = not_other (is_some c.loop-entry.walk.next) c.is_none.result (ap is_some (sym c.next_event.ensures) ∙ c.is_none.ensures) in
    let at_end : IsTrue c.is_none.result ↔ Agrees c.args.history.now.events c.args.walk.now.node (log_of c.args.log.now) =
    (λ none. ends.0 (tells ∙ none), λ agrees. sym tells ∙ ends.1 agrees) in
    search (rules, at_end)

pub loop-entry-init : goal.loop-entry-init
loop-entry-init c =
    let none : places_passed c.args.history.now.events c.args.walk.now.node c.args.walk.now.next ≡ [] =
    passed_from c.args.history.now.events c.args.walk.now.node 0 c.args.walk.now.next c.requires.first (omega arith) in
    record {
      node = refl;
      stands = c.requires.stands;
      followed = (sym none, λ k lt. absurd (omega arith));
    }
