use Rattle.std.proofs.Common.{◌≡◌, ◌∙◌, false, inl, refl, sym, true}
use Rattle.std.proofs.lemmas.Result.{on_ok_weaker}
use Rattle.hlc_command_line.specs.declared.drawn_part.DrawnPart.TheVariants.{Rows}
use Rattle.hlc_log_commands.specs.DrawnLog.{LacksNamed}
use Rattle.hlc_log_commands.proofs.DrawnLogs.{explained_absent}
use Rattle.hlc_log_commands.proofs.drawn_log.draw_rows.Goals as goal

pub returns-then-lacks_named-clause-without : goal.returns-then-lacks_named-clause-without
returns-then-lacks_named-clause-without g c = λ _. (c.lacks_named.ensures.0 c.if-lacks_named.true, refl)

pub returns-clause-done : goal.returns-clause-done
returns-clause-done g c =
    let there : ¬ LacksNamed c.args.log.now (Rows c.args.rows c.args.explained) =
    λ lacks. let told : false ≡ true = sym c.if-lacks_named.false ∙ c.lacks_named.ensures.1 lacks in cc in
    on_ok_weaker c.draw.result (λ picture. ((c.view_of.result, c.view_of.ensures, picture), there)) c.draw.ensures.drawn

pub returns-clause-without : goal.returns-clause-without
returns-clause-without g c =
    λ is.
    let absent =
    explained_absent c.args.log.now c.args.rows c.args.explained c.view_of.result c.view_of.ensures (c.draw.ensures.no_event is) in
    let told : false ≡ true = sym c.if-lacks_named.false ∙ c.lacks_named.ensures.1 (inl absent) in cc
