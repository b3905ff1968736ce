use Rattle.std.proofs.Common.{List, subst}
use Rattle.std.specs.List.{AllByRecursion}
use Rattle.clap.specs.Matches.{found_of}
use Rattle.clap.specs.Walk.{Text, rows_of}
use Rattle.clap.specs.Simple.{subcommand_rows_of}
use Rattle.hlc_command_line.specs.Line.{IsMistakeOf, IsOrderFound, IsOrderOf, IsRefusedFound, UnlessMemory}
use Rattle.hlc_command_line.specs.NumberOption.{IsSigned, IsSignedAmong}
use Rattle.hlc_command_line.proofs.App.Commands.{if_ok}
use Rattle.hlc_command_line.proofs.LineFacts.{entered_has, entered_is, if_err, unsigned_entered}
use Rattle.hlc_command_line.proofs.line.entered.Goals as goal

pub order_of-requires : goal.order_of-requires
order_of-requires c =
    let name = c.in-Some.name.now in
    let rows = rows_of (found_of c.in-Some.options.now) in
    unsigned_entered name rows
    (subst (AllByRecursion (λ (option : Text). ¬ IsSigned rows option)) c.number_names.ensures c.in-None-signed_option.ensures.none)
    (entered_has c.args.matches.now name rows c.in-Some.ensures.name c.in-Some.ensures.rows c.requires)

pub returns-in-Some-signed_option-clause-mistaken : goal.returns-in-Some-signed_option-clause-mistaken
returns-in-Some-signed_option-clause-mistaken c =
    let name = c.in-Some.name.now in
    let rows = rows_of (found_of c.in-Some.options.now) in
    let found = entered_is c.args.matches.now name rows c.in-Some.ensures.name c.in-Some.ensures.rows in (
      name,
      rows,
      found,
      subst (λ (names : List Text). IsSignedAmong rows names c.in-Some-signed_option.signed.now) c.number_names.ensures c.in-Some-signed_option.ensures.signed,
    )

pub returns-in-None-signed_option-clause-mistaken : goal.returns-in-None-signed_option-clause-mistaken
returns-in-None-signed_option-clause-mistaken c =
    let m = c.args.matches.now in
    let name = c.in-Some.name.now in
    let rows = rows_of (found_of c.in-Some.options.now) in
    let found = entered_is m name rows c.in-Some.ensures.name c.in-Some.ensures.rows in
    if_err {P = UnlessMemory (IsMistakeOf name rows)} {Q = IsRefusedFound (subcommand_rows_of m)} c.order_of.result c.order_of.ensures.mistaken
    (λ e is. (name, rows, found, is))

pub returns-in-None-signed_option-clause-found : goal.returns-in-None-signed_option-clause-found
returns-in-None-signed_option-clause-found c =
    let m = c.args.matches.now in
    let name = c.in-Some.name.now in
    let rows = rows_of (found_of c.in-Some.options.now) in
    let found = entered_is m name rows c.in-Some.ensures.name c.in-Some.ensures.rows in
    if_ok {P = IsOrderOf name rows} {Q = IsOrderFound (subcommand_rows_of m)} c.order_of.result c.order_of.ensures.found
    (λ o is. (name, rows, found, is))
