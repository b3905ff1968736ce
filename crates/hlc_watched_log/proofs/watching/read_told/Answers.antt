use Rattle.std.proofs.Common.{[], get_or, subst, sym}
use Rattle.std.proofs.lemmas.Result.{IfOk-weaker}
use Rattle.hlc_log_text.specs.LogHeader.{IsHeaderAfter}
use Rattle.hlc_log_text.specs.declared.log_header.LogHeader.{LogHeader}
use Rattle.hlc_watched_log.proofs.Headers.{header_at, header_set}
use Rattle.hlc_watched_log.proofs.watching.read_told.Goals as goal

pub returns-clause-said : goal.returns-clause-said
returns-clause-said c =
    let headers = c.args.headers.now.items in
    let file = c.args.file in
    IfOk-weaker c.read.result _ _ (λ said says items are.
    let before = get_or items file [] in
    let here = c.index_mut.result.now in
    let is = subst (λ (header : LogHeader). IsHeaderAfter before header) (sym c.index_mut.ensures.value) (header_at items headers here are file c.requires) in
    let told = says before is in
    (told.0, header_set items headers are file _ c.read.new.self told.1)) (rw c.read_rules.ensures at c.read.ensures.said)
