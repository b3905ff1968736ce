use Rattle.std.proofs.Common.{◌≡◌, ◌∙◌, List, ℕ, Some, ap, slice_get, subst, sym}
use Rattle.hlc_log_text.specs.Names.{EachNameOnce}
use Rattle.hlc_log_text.proofs.NumberedNames.{number_is}
use Rattle.hlc_log_text.proofs.name_set.NameSet.has_number.Goals as goal

pub returns : goal.returns
returns c =
    number_is c.args.self.now c.args.name.now c.args.number (subst EachNameOnce c.self.view_is c.self.invariant) c.deref.result.now
    (subst (λ (names : List (List ℕ)). slice_get names c.args.number ≡ Some c.deref.result.now) c.self.view_is
    (sym c.in-Some.ensures.key ∙ ap (λ (name : List ℕ). Some name) (sym c.deref.ensures)))
    c.eq.result c.eq.ensures
