use Rattle.std.proofs.Common.{List, subst, sym, take}
use Rattle.clap.specs.Walk.{Text, texts}
use Rattle.hlc_command_line.specs.JsonOptions.{AddKinds}
use Rattle.hlc_command_line.proofs.AskedFacts.{texts_more}
use Rattle.hlc_command_line.proofs.JsonFacts.{kind_added}
use Rattle.hlc_command_line.proofs.json_options.add_kinds.Goals as goal

pub loop-value-preserved : goal.loop-value-preserved
loop-value-preserved c =
    let values = c.args.values.now in
    let i = c.loop-value.value-index in
    let told = c.in_ok-add_kind.ensures in
    subst (λ (ts : List Text). AddKinds ts c.args.rules.now c.add_kind.new.self) (sym (texts_more values i _ c.loop-value-test.true))
    (kind_added (texts (take i values)) c.args.rules.now c.loop-value.rules c.add_kind.new.self _ c.in_ok-add_kind.field-0 c.if-not-branch.false c.loop-value.invariant
    told.told told.added)
