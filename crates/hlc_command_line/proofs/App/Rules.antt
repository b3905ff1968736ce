-- What clap's builder makes of an argument.
use Rattle.std.proofs.Common.{◌≡◌, ◌∙◌, inl, inr, Bool, Option, Some, ap, ap₂, refl, sym}
use Rattle.std.specs.Prelude.{◌⊎◌}
use Rattle.std.specs.Borrow.{Bor}
use Rattle.clap.specs.Words.{Rule, Text, new_rule, rule_of}
use Rattle.clap.specs.declared.builder.action.ArgAction.{ArgAction}
use Rattle.clap.specs.declared.builder.arg.Arg.{Arg}
use Rattle.clap.specs.declared.builder.texts.Texts.TheVariants.{One}
use Rattle.clap.specs.declared.builder.value_parser.ValueParser.{ValueParser}
use Rattle.hlc_command_line.specs.Rules.{IsArgument, bare_rule, rule_taking}
use Rattle.hlc_command_line.specs.declared.option_rule.Takes.{Takes}
use Rattle.hlc_command_line.specs.declared.option_rule.Takes.TheVariants as takes

module _ (old new : Arg) (r : Rule) (is : IsArgument old r) where
  pub has_long : (name : Bor Text) → new ≡ record old { long = Some name } → IsArgument new (record r { long = Some name.now })
  has_long name e = (ap rule_of e ∙ ap (λ (x : Rule). record x { long = Some name.now }) is.0, ap (λ (a : Arg). a.global) e ∙ is.1)

  pub has_value_name : (name : Bor Text) → new ≡ record old { val_names = One name } → IsArgument new (record r { value_names = 1 })
  has_value_name name e = (ap rule_of e ∙ ap (λ (x : Rule). record x { value_names = 1 }) is.0, ap (λ (a : Arg). a.global) e ∙ is.1)

  pub has_help : (text : Bor Text) → new ≡ record old { help = Some text } → IsArgument new r
  has_help text e = (ap rule_of e ∙ is.0, ap (λ (a : Arg). a.global) e ∙ is.1)

  pub is_required : (needed : Bool) → new ≡ record old { required = needed } → IsArgument new (record r { required = needed })
  is_required needed e = (ap rule_of e ∙ ap (λ (x : Rule). record x { required = needed }) is.0, ap (λ (a : Arg). a.global) e ∙ is.1)

  pub has_action : (action : ArgAction) → new ≡ record old { action = Some action } → IsArgument new (record r { action = Some action })
  has_action action e = (ap rule_of e ∙ ap (λ (x : Rule). record x { action = Some action }) is.0, ap (λ (a : Arg). a.global) e ∙ is.1)

  pub has_parser : (given : Option ValueParser) → given ≡ new.value_parser → new ≡ record old { value_parser = new.value_parser }
      → IsArgument new (record r { parser = given })
  has_parser given same e = (
    ap rule_of e ∙ ap (λ (x : Rule). record x { parser = new.value_parser }) is.0
        ∙ ap (λ (p : Option ValueParser). record r { parser = p }) (sym same),
    ap (λ (a : Arg). a.global) e ∙ is.1,
  )

module _ (name : Text) (t : Takes) where
  -- what an option takes says whether it is required, and what is done where it is given
  pub told_bare : (required : Bool) (action : ArgAction) → ((n : Text) → (rule_taking n t).required ≡ required)
      → ((n : Text) → (rule_taking n t).action ≡ Some action)
      → record (new_rule name) { long = Some name; required = required; action = Some action } ≡ bare_rule name t
  told_bare required action needed acts =
      sym (ap₂ (λ (r : Bool) (a : Option ArgAction). record (new_rule name) { long = Some name; required = r; action = a }) (needed name) (acts name))

  pub takes_nothing : t ≡ takes.Nothing → bare_rule name t ≡ rule_taking name t
  takes_nothing is = rw is refl

  pub takes_some : (value : Bor Text) (parser read : ValueParser) → read ≡ parser
      → ((r : Bool) × (t ≡ takes.One value parser r)) ⊎ (t ≡ takes.Many value parser)
      → record (record (bare_rule name t) { value_names = 1 }) { parser = Some read } ≡ rule_taking name t
  takes_some value parser read same (inl is) = rw same (rw is.1 refl)
  takes_some value parser read same (inr is) = rw same (rw is refl)
