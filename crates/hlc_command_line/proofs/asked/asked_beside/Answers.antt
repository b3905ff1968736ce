use Rattle.std.proofs.Common.{◌≡◌, ◌∙◌, [], List, Option, ap, subst, sym}
use Rattle.std.specs.Prelude.{IfErr, IfOk, option_map, unwrap_or}
use Rattle.std.specs.Borrow.{Bor}
use Rattle.clap.specs.Matches.{found_of}
use Rattle.clap.specs.Walk.{Text, rows_of, texts}
use Rattle.hlc_command_line.specs.Asked.{AreBeside, AskNeither, ask, texts_of_option}
use Rattle.hlc_command_line.proofs.AskedFacts.{texts_are}
use Rattle.hlc_command_line.proofs.asked.asked_beside.Goals as goal

-- the texts that are read, or none
abbrev read : Option (Bor (List (Bor Text))) → List Text
read found = unwrap_or (option_map (λ s. texts s.now) found) []

pub returns-in-Some-clause-asked : goal.returns-in-Some-clause-asked
returns-in-Some-clause-asked c =
    let found = found_of c.args.options.now in
    let same : texts c.in-Some.values.now ≡ texts_of_option (rows_of found) ask =
    ap read (sym c.in-Some.is) ∙ texts_are found ask c.get_strs.result c.get_strs.ensures in
    subst (λ (ts : List Text). IfOk c.asked_by.result (AreBeside ts)) same c.asked_by.ensures.asked

pub returns-in-Some-clause-other : goal.returns-in-Some-clause-other
returns-in-Some-clause-other c =
    let found = found_of c.args.options.now in
    let same : texts c.in-Some.values.now ≡ texts_of_option (rows_of found) ask =
    ap read (sym c.in-Some.is) ∙ texts_are found ask c.get_strs.result c.get_strs.ensures in
    subst (λ (ts : List Text). IfErr c.asked_by.result (AskNeither ts)) same c.asked_by.ensures.other

pub returns-in-None-clause-asked : goal.returns-in-None-clause-asked
returns-in-None-clause-asked c =
    let found = found_of c.args.options.now in
    let same : [] ≡ texts_of_option (rows_of found) ask = ap read (sym c.in-None.is) ∙ texts_are found ask c.get_strs.result c.get_strs.ensures in
    subst (λ (ts : List Text). IfOk c.asked_by-in-None.result (AreBeside ts)) same c.asked_by-in-None.ensures.asked

pub returns-in-None-clause-other : goal.returns-in-None-clause-other
returns-in-None-clause-other c =
    let found = found_of c.args.options.now in
    let same : [] ≡ texts_of_option (rows_of found) ask = ap read (sym c.in-None.is) ∙ texts_are found ask c.get_strs.result c.get_strs.ensures in
    subst (λ (ts : List Text). IfErr c.asked_by-in-None.result (AskNeither ts)) same c.asked_by-in-None.ensures.other
