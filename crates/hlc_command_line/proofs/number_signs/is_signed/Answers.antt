use Rattle.std.proofs.Common.{◌∙◌, Option, ap}
use Rattle.std.specs.Prelude.{option_map}
use Rattle.std.specs.Borrow.{Bor}
use Rattle.clap.specs.Matches.{found_of}
use Rattle.clap.specs.Walk.{Text, rows_of}
use Rattle.hlc_command_line.proofs.App.Options.{given_signed, not_given, text_is}
use Rattle.hlc_command_line.proofs.number_signs.is_signed.Goals as goal

pub returns-in-Some : goal.returns-in-Some
returns-in-Some c =
    given_signed (rows_of (found_of c.args.options.now)) c.args.name.now c.in-Some.text.now c.starts_with.result
    (text_is (found_of c.args.options.now) c.args.name.now c.get_str.result c.get_str.ensures
    ∙ ap (λ (r : Option (Bor Text)). option_map (λ s. s.now) r) c.in-Some.is)
    c.starts_with.ensures.cases

pub returns-in-None : goal.returns-in-None
returns-in-None c =
    not_given (rows_of (found_of c.args.options.now)) c.args.name.now
    (text_is (found_of c.args.options.now) c.args.name.now c.get_str.result c.get_str.ensures
    ∙ ap (λ (r : Option (Bor Text)). option_map (λ s. s.now) r) c.in-None.is)
