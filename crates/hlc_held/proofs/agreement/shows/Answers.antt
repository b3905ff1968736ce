use Rattle.std.proofs.Common.{◌≡◌, ◌∙◌, List, sym, ap, refl, Some, None}
use Rattle.std.specs.Prelude.{IsTrue, option_map}
use Rattle.std.proofs.lemmas.Bool.{false≢true}
use Rattle.hlc_table.specs.Rows.{Row, entry_at}
use Rattle.hlc_held.specs.LogEntry.{sight_of}
use Rattle.hlc_held.proofs.Walks.{compared, same_sight, sight_from_table, sight_with}
use Rattle.hlc_held.proofs.agreement.shows.Goals as goal

pub returns-in-None-None : goal.returns-in-None-None
returns-in-None-None c =
    let events = c.args.history.now.events in
    let shown = sight_from_table events c.args.walk.now.node c.args.walk.now.known c.args.walk.now.next c.args.key.now c.requires
    ∙ ap (option_map (sight_with events))
    (ap (λ (t : List Row). entry_at t c.args.key.now) (sym c.known.ensures) ∙ sym c.get.ensures.entry ∙ c.in-None-None.is-0) in
    (λ t. ap (option_map sight_of) c.in-None-None.is-1 ∙ sym shown, λ is. refl)

pub returns-in-Some-Some : goal.returns-in-Some-Some
returns-in-Some-Some c =
    let events = c.args.history.now.events in
    let shown = sight_from_table events c.args.walk.now.node c.args.walk.now.known c.args.walk.now.next c.args.key.now c.requires
    ∙ ap (option_map (sight_with events))
    (ap (λ (t : List Row). entry_at t c.args.key.now) (sym c.known.ensures) ∙ sym c.get.ensures.entry ∙ c.in-Some-Some.is-0) in
    let answered = ap (option_map sight_of) c.in-Some-Some.is-1 in
    compared (option_map sight_of c.args.answer.now) _ (Some (sight_of c.in-Some-Some.seen)) (Some (sight_with events c.in-Some-Some.entry))
    (IsTrue c.is_sight.result) answered shown
    (same_sight events c.in-Some-Some.seen c.in-Some-Some.entry (IsTrue c.is_sight.result) c.is_sight.ensures)

pub returns-in_default : goal.returns-in_default
returns-in_default c =
    let events = c.args.history.now.events in
    let shown = sight_from_table events c.args.walk.now.node c.args.walk.now.known c.args.walk.now.next c.args.key.now c.requires
    ∙ ap (option_map (sight_with events))
    (ap (λ (t : List Row). entry_at t c.args.key.now) (sym c.known.ensures) ∙ sym c.get.ensures.entry ∙ c.in_default.is-0) in
    let answered = ap (option_map sight_of) c.in_default.is-1 in
    (λ t. absurd (false≢true t), λ is. let none : None ≡ Some (sight_with events c.in_default.field-0-0) = sym answered ∙ is ∙ shown in absurd (cc none))

pub returns-in_default-2 : goal.returns-in_default-2
returns-in_default-2 c =
    let events = c.args.history.now.events in
    let shown = sight_from_table events c.args.walk.now.node c.args.walk.now.known c.args.walk.now.next c.args.key.now c.requires
    ∙ ap (option_map (sight_with events))
    (ap (λ (t : List Row). entry_at t c.args.key.now) (sym c.known.ensures) ∙ sym c.get.ensures.entry ∙ c.in_default.is-0) in
    let answered = ap (option_map sight_of) c.in_default.is-1 in
    (λ t. absurd (false≢true t), λ is. let none : Some (sight_of c.in_default.field-0-1) ≡ None = sym answered ∙ is ∙ shown in absurd (cc none))
