use Rattle.std.proofs.Common.{◌≡◌, arith, true}
use Rattle.std.specs.Prelude.{nat_lt}
use Rattle.std.proofs.lemmas.Bool.Decides.{nat_tests}
use Rattle.hlc_svg.specs.Letters.{is_letter}
use Rattle.hlc_svg.specs.declared.letters.TheConstants.{SURROGATES}
use Rattle.hlc_svg.proofs.letters.is_letter.Goals as goal

pub returns-then-code-lt-SURROGATES : goal.returns-then-code-lt-SURROGATES
unfolding is_letter
returns-then-code-lt-SURROGATES c =
    let test : nat_lt c.args.code SURROGATES ≡ true = grind (arith, nat_tests, c.if-code-lt-SURROGATES.true) in rw test c.is_among.ensures
