use Rattle.std.proofs.Common.{◌≢◌, ◌∙◌, Option, Some, ap, codes}
use Rattle.std.specs.Prelude.{option_map}
use Rattle.std.specs.Borrow.{Bor}
use Rattle.clap.specs.Matches.{found_of}
use Rattle.clap.specs.Walk.{Text}
use Rattle.hlc_log.specs.declared.resent.Resent.{Resent}
use Rattle.hlc_log.specs.declared.resent.Resent.TheVariants as which
use Rattle.hlc_command_line.specs.ResentOption.{resent, resent_word}
use Rattle.hlc_command_line.proofs.App.Options.{text_is}
use Rattle.hlc_command_line.proofs.resent_option.resent.Goals as goal

pub returns-in-None-clause-found : goal.returns-in-None-clause-found
returns-in-None-clause-found c =
    text_is (found_of c.args.options.now) resent c.get_str.result c.get_str.ensures
    ∙ ap (λ (r : Option (Bor Text)). option_map (λ s. s.now) r) c.in-None.is

pub returns-in-Some-first-clause-found : goal.returns-in-Some-first-clause-found
returns-in-Some-first-clause-found c =
    text_is (found_of c.args.options.now) resent c.get_str.result c.get_str.ensures
    ∙ ap (λ (r : Option (Bor Text)). option_map (λ s. s.now) r) c.in-Some-first.is ∙ ap Some c.in-Some-first.is-first

pub returns-in-Some-last-clause-found : goal.returns-in-Some-last-clause-found
returns-in-Some-last-clause-found c =
    text_is (found_of c.args.options.now) resent c.get_str.result c.get_str.ensures
    ∙ ap (λ (r : Option (Bor Text)). option_map (λ s. s.now) r) c.in-Some-last.is ∙ ap Some c.in-Some-last.is-last

tells_none : (text : Text) → text ≢ codes "first" → text ≢ codes "last" → (given : Resent) → text ≢ resent_word given
tells_none text no_first no_last which.First = no_first
tells_none text no_first no_last which.Last = no_last

pub returns-in-Some-clause-mistaken : goal.returns-in-Some-clause-mistaken
returns-in-Some-clause-mistaken c =
    let first =
    text_is (found_of c.args.options.now) resent c.get_str.result c.get_str.ensures
    ∙ ap (λ (r : Option (Bor Text)). option_map (λ s. s.now) r) c.in-Some.is in
    (c.in-Some.field-0.now, first, tells_none c.in-Some.field-0.now c.in-Some.not-first c.in-Some.not-last)
