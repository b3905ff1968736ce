use Rattle.std.proofs.Common.{List, refl, subst, sym, take}
use Rattle.clap.specs.Walk.{Text, texts}
use Rattle.hlc_command_line.specs.JsonOptions.{AddPaths}
use Rattle.hlc_command_line.proofs.AskedFacts.{text_at, texts_more}
use Rattle.hlc_command_line.proofs.JsonFacts.{lacks_path, path_added}
use Rattle.hlc_command_line.proofs.json_options.add_fields.Goals as goal

pub loop-value-preserved : goal.loop-value-preserved
loop-value-preserved c =
    let values = c.args.values.now in
    let i = c.loop-value.value-index in
    let told = c.in_ok-add_field.ensures in
    subst (λ (ts : List Text). AddPaths ts c.args.rules.now c.add_field.new.self) (sym (texts_more values i _ c.loop-value-test.true))
    (path_added (texts (take i values)) c.args.rules.now c.loop-value.rules c.add_field.new.self _ c.in_ok-add_field.field-0 c.if-not-branch.false c.loop-value.invariant
    told.told told.added)

pub returns-then-not-branch-clause-other : goal.returns-then-not-branch-clause-other
returns-then-not-branch-clause-other c =
    let values = c.args.values.now in
    let i = c.loop-value.value-index in
    lacks_path (texts values) i _ c.in_ok-add_field.field-0 c.in_ok-add_field.ensures.told c.if-not-branch.true
    (text_at values i _ _ c.loop-value-test.true refl)
