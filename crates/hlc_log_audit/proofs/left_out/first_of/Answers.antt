use Rattle.std.proofs.Common.{Bor, ap, rules, tests, ◌≡◌, ◌∙◌}
use Rattle.std.specs.Prelude.{option_map}
use Rattle.std.specs.List.{find}
use Rattle.std.proofs.lemmas.Iterator.{YieldsList-from_slice}
use Rattle.std.proofs.lemmas.Iterator.Search.{find_from_yields_List}
use Rattle.hlc_log_text.specs.declared.bad_log.BadLine.{BadLine}
use Rattle.hlc_log_audit.specs.LeftOut.{has_word}
use Rattle.hlc_log_audit.proofs.left_out.first_of.Goals as goal

pub returns : goal.returns
returns c =
    let items = c.iter.result.rest.now in
    let is = has_word c.args.word.now in
    let chosen = option_map (λ (x : Bor BadLine). x.now) c.find.result in
    let found : chosen ≡ find is items =
    find_from_yields_List is _ _ _ c.find.ensures.ran (YieldsList-from_slice items cc) (λ x b q k. search (rules, tests)) in
    let copied : c.copied.result ≡ chosen = search rules in
    copied ∙ found ∙ ap (find is) c.iter.ensures.rest
