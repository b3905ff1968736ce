use Rattle.std.proofs.Common.{[], List, get_or, refl, subst, sym, take}
use Rattle.std.specs.Borrow.{Bor}
use Rattle.std.specs.List.{AllByRecursion}
use Rattle.std.proofs.lemmas.List.{take_all}
use Rattle.clap.specs.Matches.{found_of}
use Rattle.clap.specs.Walk.{Text, rows_of, texts}
use Rattle.hlc_command_line.specs.NumberOption.{IsSigned}
use Rattle.hlc_command_line.proofs.App.Each.{all_push}
use Rattle.hlc_command_line.proofs.AskedFacts.{text_at, texts_more}
use Rattle.hlc_command_line.proofs.number_signs.signed_option.Goals as goal

abbrev no_name : Bor Text
no_name = record { ref_ptr = (0, 0); now = [] }

pub loop-name-preserved : goal.loop-name-preserved
loop-name-preserved c =
    let rows = rows_of (found_of c.args.options.now) in
    let names = c.args.names.now in
    let i = c.loop-name.name-index in
    let name = (get_or names i no_name).now in
    let unsigned : ¬ IsSigned rows name = λ signed. let yes = c.is_signed.ensures.1 signed in let no = c.if-is_signed.false in cc in
    subst (AllByRecursion (λ (name : Text). ¬ IsSigned rows name)) (sym (texts_more names i no_name c.loop-name-test.true))
    (all_push (λ (name : Text). ¬ IsSigned rows name) (texts (take i names)) name c.loop-name.invariant unsigned)

pub returns-then-is_signed-clause-signed : goal.returns-then-is_signed-clause-signed
returns-then-is_signed-clause-signed c = record {
  place = c.loop-name.name-index;
  named = text_at c.args.names.now c.loop-name.name-index no_name (get_or c.args.names.now c.loop-name.name-index no_name).now c.loop-name-test.true refl;
  signed = c.is_signed.ensures.0 c.if-is_signed.true;
}

pub returns-clause-none : goal.returns-clause-none
returns-clause-none c =
    subst (λ (names : List (Bor Text)). AllByRecursion (λ (name : Text). ¬ IsSigned (rows_of (found_of c.args.options.now)) name) (texts names))
    (take_all c.loop-name.name-index c.args.names.now c.loop-name-test.false) c.loop-name.invariant
