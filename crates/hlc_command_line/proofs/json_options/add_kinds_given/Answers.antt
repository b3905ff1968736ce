use Rattle.std.proofs.Common.{◌≡◌, ◌∙◌, [], List, Option, ap, append-nil, refl, subst, sym}
use Rattle.std.specs.Prelude.{IfErr, OnOk, option_map, unwrap_or}
use Rattle.std.specs.Borrow.{Bor}
use Rattle.clap.specs.Matches.{found_of}
use Rattle.clap.specs.Walk.{Text, rows_of, texts}
use Rattle.hlc_command_line.specs.Asked.{texts_of_option}
use Rattle.hlc_command_line.specs.JsonOptions.{AddKinds, IsNoKind, kind}
use Rattle.hlc_command_line.proofs.AskedFacts.{texts_are}
use Rattle.hlc_command_line.proofs.json_options.add_kinds_given.Goals as goal

-- the texts that are read, or none
abbrev read : Option (Bor (List (Bor Text))) → List Text
read found = unwrap_or (option_map (λ s. texts s.now) found) []

pub returns-in-Some-clause-added : goal.returns-in-Some-clause-added
returns-in-Some-clause-added c =
    let found = found_of c.args.options.now in
    let same : texts c.in-Some.values.now ≡ texts_of_option (rows_of found) kind =
    ap read (sym c.in-Some.is) ∙ texts_are found kind c.get_strs.result c.get_strs.ensures in
    subst (λ (ts : List Text). OnOk c.add_kinds.result (AddKinds ts c.args.rules.now c.add_kinds.new.rules)) same c.add_kinds.ensures.added

pub returns-in-Some-clause-other : goal.returns-in-Some-clause-other
returns-in-Some-clause-other c =
    let found = found_of c.args.options.now in
    let same : texts c.in-Some.values.now ≡ texts_of_option (rows_of found) kind =
    ap read (sym c.in-Some.is) ∙ texts_are found kind c.get_strs.result c.get_strs.ensures in
    subst (λ (ts : List Text). IfErr c.add_kinds.result (IsNoKind ts)) same c.add_kinds.ensures.other

pub returns-in-None-clause-added : goal.returns-in-None-clause-added
returns-in-None-clause-added c =
    let found = found_of c.args.options.now in
    let same : [] ≡ texts_of_option (rows_of found) kind = ap read (sym c.in-None.is) ∙ texts_are found kind c.get_strs.result c.get_strs.ensures in
    let old = c.args.rules.now in
    subst (λ (ts : List Text). AddKinds ts old old) same
    (record { kinds = []; meant = refl; added = λ i. record old { kinds = sym (append-nil old.kinds) i } })
