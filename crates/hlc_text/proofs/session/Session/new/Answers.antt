use Rattle.std.proofs.Common.{◌≡◌, ◌∙◌, [], Bool, true, false, List, Some, arith, ap, refl, sym}
use Rattle.std.specs.Prelude.{option_map}
use Rattle.hlc_causality.specs.Assignment.{IsLeast}
use Rattle.hlc_causality.proofs.Allowed.{least_from_each}
use Rattle.hlc_text.specs.Undelivered.{noted, notes_if}
use Rattle.hlc_text.specs.declared.undelivered.Undelivered.{Undelivered}
use Rattle.hlc_text.proofs.session.Session.new.Goals.{then-notes, else-notes}
use Rattle.hlc_text.proofs.session.Session.new.Goals as goal

-- no event has no stamp
least_none : IsLeast [] []
least_none = least_from_each [] [] refl (λ f within. absurd (omega arith))

-- if notes are kept, there is none at first
no_note : (notes : Bool) → notes_if notes [] ≡ option_map (λ (_ : List Undelivered). []) (notes_if notes [])
no_note true = refl
no_note false = refl

notes_are : (c : goal.Joined-notes) → noted c.if-notes.result ≡ notes_if c.args.notes []
notes_are c = elim c.if-notes.branch [
  | then-notes w ↦ ap noted w.result-is ∙ ap (λ (list : List Undelivered). Some list) w.new-then-notes.ensures.items
      ∙ sym (ap (λ (notes : Bool). notes_if notes []) w.if-notes.true)
  | else-notes w ↦ ap noted w.result-is ∙ sym (ap (λ (notes : Bool). notes_if notes []) w.if-notes.false)
]

pub returns-clause-unused : goal.returns-clause-unused
returns-clause-unused c = record {
  unused = c.new.ensures;
  least = rw c.in_ok-with_settings.ensures.1 least_none;
  no_note = notes_are c ∙ no_note c.args.notes ∙ sym (ap (option_map (λ (_ : List Undelivered). [])) (notes_are c));
}

pub returns-clause-made : goal.returns-clause-made
returns-clause-made c = c.in_ok-with_settings.ensures

pub returns-clause-notes : goal.returns-clause-notes
returns-clause-notes c = notes_are c
