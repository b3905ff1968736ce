use Rattle.std.proofs.Common.{◌≡◌, ◌∙◌, ℕ, Option, refl, subst, sym}
use Rattle.hlc_arena.specs.Arena.{history_of}
use Rattle.hlc_core.specs.Limit.{AreWithinLimit}
use Rattle.hlc_held.specs.Seats.{fresh_seats, log_at}
use Rattle.hlc_core.specs.Timed.{requests_in}
use Rattle.hlc_seeded.specs.Storm.{storm_of}
use Rattle.hlc_script_commands.proofs.PlayedScripts.{played}
use Rattle.hlc_script_commands.proofs.played_script.play.Goals as goal

pub returns-clause-done : goal.returns-clause-done
returns-clause-done g c =
    let run = c.in_ok-history.ensures in
    let same : g.L.Group.nodes ≡ c.args.nodes = sym c.requires.parts.1 ∙ c.requires.parts.2 in
    played g.L.Group.nodes c.args.nodes c.args.steps c.args.limit
    (storm_of c.args.seed c.args.nodes c.args.steps) (requests_in c.in-Ok.scripts.items) (fresh_seats c.args.nodes)
    (history_of c.in_ok-history.field-0.history) (log_at c.in_ok-history.field-0.logs.items)
    (g.O.Write.contents c.args.writer.now) (g.O.Write.contents c.tell_history.new.writer)
    same c.in-Ok.ensures.scripts refl run.lawful run.least run.nodes (run.capacity ∙ c.requires.capacity)
    (subst (λ (l : Option ℕ). AreWithinLimit l c.in_ok-history.field-0.history.events) c.requires.limit run.within)
    run.agree run.followed c.in_ok-tell_history.ensures

pub play_scripts-requires-clause-capacity : goal.play_scripts-requires-clause-capacity
play_scripts-requires-clause-capacity g c = λ _ _. rw c.from.ensures (sym c.requires.capacity)

pub play_scripts-requires-clause-limit : goal.play_scripts-requires-clause-limit
play_scripts-requires-clause-limit g c = λ _ _. sym c.requires.limit
