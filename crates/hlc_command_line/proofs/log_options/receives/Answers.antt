use Rattle.std.proofs.Common.{◌∙◌, Option, Some, ap, codes, refl}
use Rattle.std.specs.Prelude.{option_map, unwrap_or}
use Rattle.std.specs.Borrow.{Bor}
use Rattle.clap.specs.Matches.{found_of}
use Rattle.clap.specs.Walk.{Text}
use Rattle.hlc_command_line.specs.Line.{receives}
use Rattle.hlc_command_line.proofs.App.Options.{text_is}
use Rattle.hlc_command_line.proofs.LineFacts.{tells_no_receives}
use Rattle.hlc_command_line.proofs.log_options.receives.Goals as goal

pub returns-in-None-clause-found : goal.returns-in-None-clause-found
returns-in-None-clause-found c =
    let first =
    text_is (found_of c.args.options.now) receives c.get_str.result c.get_str.ensures
    ∙ ap (λ (r : Option (Bor Text)). option_map (λ s. s.now) r) c.in-None.is in
    ap (λ (o : Option Text). unwrap_or o (codes "tick")) first

pub returns-in-Some-tick-clause-found : goal.returns-in-Some-tick-clause-found
returns-in-Some-tick-clause-found c =
    let first =
    text_is (found_of c.args.options.now) receives c.get_str.result c.get_str.ensures
    ∙ ap (λ (r : Option (Bor Text)). option_map (λ s. s.now) r) c.in-Some-tick.is ∙ ap Some c.in-Some-tick.is-tick in
    ap (λ (o : Option Text). unwrap_or o (codes "tick")) first

pub returns-in-Some-merge-clause-found : goal.returns-in-Some-merge-clause-found
returns-in-Some-merge-clause-found c =
    let first =
    text_is (found_of c.args.options.now) receives c.get_str.result c.get_str.ensures
    ∙ ap (λ (r : Option (Bor Text)). option_map (λ s. s.now) r) c.in-Some-merge.is ∙ ap Some c.in-Some-merge.is-merge in
    ap (λ (o : Option Text). unwrap_or o (codes "tick")) first

pub returns-in-Some-text-clause-found : goal.returns-in-Some-text-clause-found
returns-in-Some-text-clause-found c =
    let first =
    text_is (found_of c.args.options.now) receives c.get_str.result c.get_str.ensures
    ∙ ap (λ (r : Option (Bor Text)). option_map (λ s. s.now) r) c.in-Some-text.is ∙ ap Some c.in-Some-text.is-text in
    ap (λ (o : Option Text). unwrap_or o (codes "tick")) first

pub returns-in-Some-clause-other : goal.returns-in-Some-clause-other
returns-in-Some-clause-other c =
    let first =
    text_is (found_of c.args.options.now) receives c.get_str.result c.get_str.ensures
    ∙ ap (λ (r : Option (Bor Text)). option_map (λ s. s.now) r) c.in-Some.is in
    let none = tells_no_receives c.in-Some.field-0.now c.in-Some.not-tick c.in-Some.not-merge c.in-Some.not-text in
    (refl, (c.in-Some.field-0.now, first, none))
