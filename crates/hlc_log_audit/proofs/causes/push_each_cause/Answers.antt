use Rattle.std.proofs.Common.{◌≡◌, ◌++◌, ◌∷◌, [], ℕ, length, arith, subst}
use Rattle.std.specs.List.{flat_map}
use Rattle.hlc_causality.specs.Places.{places_below}
use Rattle.hlc_csv.specs.Rows.{AddsText, text_of}
use Rattle.hlc_ordered_log.specs.Found.{AreCausesBefore}
use Rattle.hlc_ordered_log.proofs.PlacedCauses.{causes_push, no_answers}
use Rattle.hlc_log_audit.proofs.CauseRows.{adds_cause, row_at}
use Rattle.hlc_log_text.proofs.RowsAdded.{adds_none}
use Rattle.hlc_log_audit.proofs.causes.push_each_cause.Goals as goal

pub loop-place-init : goal.loop-place-init
loop-place-init g c = ([], no_answers c.args.log.now c.args.full, adds_none (g.W.Write.contents c.args.writer.now) c.args.rows.now)

pub loop-place-preserved : goal.loop-place-preserved
loop-place-preserved g c =
    let log = c.args.log.now in
    let before = c.loop-place.invariant in
    let place = c.loop-place.place in
    let found = c.causes_of-found.result in (
      before.0 ++ found ∷ [],
      causes_push log c.args.full place before.0 found before.1 c.causes_of-found.ensures.causes,
      adds_cause log c.args.files.now c.args.nodes.now c.args.full _ _ _ _ _ _ place before.0 found before.1.one_each before.2 c.in_ok-push_causes_of.ensures,
    )

pub returns : goal.returns
returns g c =
    let log = c.args.log.now in
    let told = c.loop-place.invariant in
    let at = g.W.Write.contents in
    let all : c.loop-place.place ≡ length log.events = omega (arith, c.len-place-end.ensures.value) in (
      told.0,
      subst (λ (n : ℕ). AreCausesBefore log c.args.full n told.0) all told.1,
      subst (λ (n : ℕ). AddsText (at c.args.writer.now) (at c.loop-place.writer) c.args.rows.now c.loop-place.rows
          (text_of (flat_map (row_at log c.args.files.now c.args.nodes.now c.args.full told.0) (places_below n)))) all told.2,
    )
