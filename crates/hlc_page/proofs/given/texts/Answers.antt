use Rattle.std.proofs.Common.{◌∙◌, ◌++◌, ◌∷◌, [], ap}
use Rattle.hlc_page.proofs.GivenFacts.{no_text_at, texts_more}
use Rattle.hlc_page.proofs.given.texts.Goals as goal

pub loop-bytes-preserved : goal.loop-bytes-preserved
loop-bytes-preserved c =
    let given = c.args.given.now in
    let text = c.in-Ok.text in
    let pushed = c.push_reserved.ensures.items ∙ ap (λ texts. texts ++ text ∷ []) c.in_ok-reserve.ensures.items in
    texts_more given c.loop-bytes.bytes-index _ c.loop-bytes.texts.items c.push_reserved.new.self.items text c.loop-bytes-test.true c.loop-bytes.invariant pushed
    c.in-Ok.ensures.cases.0

pub returns-in_default-clause-other : goal.returns-in_default-clause-other
returns-in_default-clause-other c is = no_text_at c.args.given.now c.loop-bytes.bytes-index _ c.loop-bytes-test.true c.in_default.ensures.cases.0
