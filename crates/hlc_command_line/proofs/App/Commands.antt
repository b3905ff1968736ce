-- What clap's builder makes of a command.
use Rattle.std.proofs.Common.{◌≡◌, ◌∙◌, ◌||◌, ◌+◌, ◌<◌, ℕ, ap, ap₂, sym, subst, Bool, false, refl, Some, Ok, Err, Result, List, get_or, length, take}
use Rattle.std.specs.Prelude.{IfOk, fold}
use Rattle.std.specs.Borrow.{Bor}
use Rattle.std.proofs.lemmas.List.Sums.{fold_more}
use Rattle.clap.specs.Built.{AddsArg, AddsSubcommand}
use Rattle.clap.specs.Words.{App, Text, with_rule, with_subcommand}
use Rattle.clap.specs.Simple.{app_of_fields}
use Rattle.clap.specs.declared.builder.arg.Arg.{Arg}
use Rattle.clap.specs.declared.builder.command.Command.{Command}
use Rattle.clap.specs.declared.builder.command.Command.TheOpen.{Command-F}
use Rattle.clap.specs.declared.builder.command.Command.TheViews.{out-Command as fields_of}
use Rattle.hlc_command_line.specs.Line.{subcommand_named}
use Rattle.hlc_command_line.specs.Rules.{IsArgument, rule_of_option, with_options_of}
use Rattle.hlc_command_line.specs.Subcommand.{IsCommand, app_of_subcommand, with_version}
use Rattle.hlc_command_line.specs.declared.option_rule.OptionRule.{OptionRule}
use Rattle.hlc_command_line.specs.declared.subcommand_rule.SubcommandName.{SubcommandName}

module _ (old new : Command) (a : App) (is : IsCommand old a) where
  pub has_about : (text : Bor Text) → fields_of new ≡ record (fields_of old) { about = Some text } → IsCommand new a
  has_about text e = (ap app_of_fields e ∙ is.0, ap (λ (f : Command-F Command). f.has_globals) e ∙ is.1)

  pub has_after_help : (text : Bor Text) → fields_of new ≡ record (fields_of old) { after_help = Some text } → IsCommand new a
  has_after_help text e = (ap app_of_fields e ∙ is.0, ap (λ (f : Command-F Command). f.has_globals) e ∙ is.1)

  pub has_version : (text : Bor Text) → fields_of new ≡ record (fields_of old) { version = Some text } → IsCommand new (with_version a)
  has_version text e = (ap app_of_fields e ∙ ap with_version is.0, ap (λ (f : Command-F Command). f.has_globals) e ∙ is.1)

  pub requires_subcommand : (needed : Bool) → fields_of new ≡ record (fields_of old) { subcommand_required = needed }
      → IsCommand new (record a { top = record a.top { subcommand_required = needed } })
  requires_subcommand needed e = (
    ap app_of_fields e ∙ ap (λ (x : App). record x { top = record x.top { subcommand_required = needed } }) is.0,
    ap (λ (f : Command-F Command). f.has_globals) e ∙ is.1,
  )

-- what is told of the name of the binary, if there is memory for it
pub has_bin_name : {E : Type 0} (Named : Command → Type 0) (old : Command) (a : App) (told : Result Command E) → IsCommand old a
    → IfOk told (λ new. (fields_of new ≡ record (fields_of old) { bin_name = (fields_of new).bin_name }) × Named new)
    → IfOk told (λ new. IsCommand new a)
has_bin_name Named old a (Ok new) is h = (ap app_of_fields h.0 ∙ is.0, ap (λ (f : Command-F Command). f.has_globals) h.0 ∙ is.1)
has_bin_name Named old a (Err fault) is h = h

neither : (a b c : Bool) → a ≡ (b || c) → b ≡ false → c ≡ false → a ≡ false
neither a b c e f g = rw (e, f, g) refl

-- a command that takes in the next of several options
pub option_more : (old new : Command) (a : App) (arg : Arg) (rules : List OptionRule) (i : ℕ) (d : OptionRule) → i < length rules
    → IsCommand old (with_options_of (take i rules) a) → IsArgument arg (rule_of_option (get_or rules i d)) → AddsArg old arg new
    → IsCommand new (with_options_of (take (i + 1) rules) a)
option_more old new a arg rules i d within is told adds =
    subst (IsCommand new) (sym (fold_more (λ (x : App) (o : OptionRule). with_rule x (rule_of_option o)) a rules i d within))
    (adds.shape told.1 ∙ ap₂ with_rule is.0 told.0, neither _ _ _ adds.globals is.1 told.1)

-- a command with the subcommands of these names as well
abbrev pub with_named : List SubcommandName → App → App
with_named names a = fold (λ x name. with_subcommand x (app_of_subcommand (subcommand_named name)).top) a names

-- a command that takes in the next of several subcommands
pub subcommand_more : (old sub new : Command) (a : App) (names : List SubcommandName) (i : ℕ) (d : SubcommandName) → i < length names
    → IsCommand old (with_named (take i names) a) → IsCommand sub (app_of_subcommand (subcommand_named (get_or names i d)))
    → AddsSubcommand old sub new → IsCommand new (with_named (take (i + 1) names) a)
subcommand_more old sub new a names i d within is told adds =
    let step = λ (x : App) (name : SubcommandName). with_subcommand x (app_of_subcommand (subcommand_named name)).top in
    subst (IsCommand new) (sym (fold_more step a names i d within)) (
      adds.shape told.1 ∙ ap₂ (λ (x below : App). with_subcommand x below.top) is.0 told.0,
      neither _ _ _ adds.globals is.1 told.1,
    )

-- what holds of a result that is there
pub if_ok : {T E : Type 0} {P Q : T → Type 0} (r : Result T E) → IfOk r P → ((x : T) → P x → Q x) → IfOk r Q
if_ok (Ok x) p step = step x p
if_ok (Err e) p step = tt
