use Rattle.std.proofs.Common.{◌≡◌, ◌++◌, ◌∷◌, [], arith, Some, rules, subst, sym}
use Rattle.std.proofs.lemmas.Bool.{both_ways}
use Rattle.std.proofs.lemmas.Grind.{common_steps}
use Rattle.hlc_held.specs.declared.logged.Logged.{Logged}
use Rattle.hlc_held.specs.Agreement.{FitsThere, places_of_node}
use Rattle.hlc_held.specs.LogEntry.{events_named, log_entry_of}
use Rattle.hlc_held.specs.Walks.{places_passed}
use Rattle.hlc_held.proofs.Walks.{named_is_next, next_passed}
use Rattle.hlc_held.proofs.agreement.follow.Goals as goal
use Rattle.hlc_held.proofs.agreement.follow.Goals.{then-ne-via-then-ne, then-ne-via-else-ne+then-not-is_answer}

pub returns-then-ne-clause-goes_on : goal.returns-then-ne-clause-goes_on
returns-then-ne-clause-goes_on c = λ fits rest names.
    let events = c.args.history.now.events in
    let node = c.args.walk.now.node in
    let next = c.args.walk.now.next in
    let named : (places_passed events node next ++ c.in-Acted.event.0 ∷ []) ++ rest ≡ places_of_node events node =
    subst (λ (x : Logged). (places_passed events node next ++ events_named (log_entry_of x ∷ [])) ++ rest ≡ places_of_node events node)
    c.in-Acted.is names in
    let there = subst (λ (x : Logged). FitsThere events node (places_passed events node next) (log_entry_of x)) c.in-Acted.is fits in
    let is_next = named_is_next events node c.args.walk.now.known next c.in-Acted.event rest c.requires.stands named in
    elim c.then-ne.branch [
      | then-ne-via-then-ne w ↦ absurd (grind (arith, common_steps, is_next))
      | then-ne-via-else-ne+then-not-is_answer w ↦ absurd (both_ways w.is_answer.result w.if-not-is_answer.true (w.is_answer.ensures.1 there))
    ]

pub returns-in_ok-pass-in-Acted-clause-goes_on : goal.returns-in_ok-pass-in-Acted-clause-goes_on
returns-in_ok-pass-in-Acted-clause-goes_on c =
    let events = c.args.history.now.events in
    let node = c.args.walk.now.node in
    let next = c.args.walk.now.next in
    let is : next ≡ Some c.in-Acted.event = search rules in
    let fits = c.is_answer.ensures.0 (search rules) in
    record {
      fits = subst (λ (x : Logged). FitsThere events node (places_passed events node next) (log_entry_of x)) (sym c.in-Acted.is) fits;
      names = subst (λ (x : Logged). places_passed events node next ++ events_named (log_entry_of x ∷ []) ≡ places_passed events node c.pass.new.self.next) (sym c.in-Acted.is)
          (sym (next_passed events node next c.pass.new.self.next c.in-Acted.event c.requires.stands.next_is is c.in_ok-pass-in-Acted.ensures.next));
    }
