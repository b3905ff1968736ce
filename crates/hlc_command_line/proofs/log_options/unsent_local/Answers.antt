use Rattle.std.proofs.Common.{◌∙◌, Option, Some, ap, refl}
use Rattle.std.specs.Prelude.{option_map}
use Rattle.std.specs.Borrow.{Bor}
use Rattle.clap.specs.Matches.{found_of}
use Rattle.clap.specs.Walk.{Text}
use Rattle.hlc_command_line.specs.Line.{unsent}
use Rattle.hlc_command_line.proofs.App.Options.{text_is}
use Rattle.hlc_command_line.proofs.log_options.unsent_local.Goals as goal

pub returns-in-None-clause-found : goal.returns-in-None-clause-found
returns-in-None-clause-found c =
    text_is (found_of c.args.options.now) unsent c.get_str.result c.get_str.ensures
    ∙ ap (λ (r : Option (Bor Text)). option_map (λ s. s.now) r) c.in-None.is

pub returns-in-Some-local-clause-found : goal.returns-in-Some-local-clause-found
returns-in-Some-local-clause-found c =
    text_is (found_of c.args.options.now) unsent c.get_str.result c.get_str.ensures
    ∙ ap (λ (r : Option (Bor Text)). option_map (λ s. s.now) r) c.in-Some-local.is ∙ ap Some c.in-Some-local.is-local

pub returns-in-Some-clause-other : goal.returns-in-Some-clause-other
returns-in-Some-clause-other c =
    let first =
    text_is (found_of c.args.options.now) unsent c.get_str.result c.get_str.ensures
    ∙ ap (λ (r : Option (Bor Text)). option_map (λ s. s.now) r) c.in-Some.is in
    (refl, (c.in-Some.field-0.now, first, c.in-Some.not-local))
