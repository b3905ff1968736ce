use Rattle.std.proofs.Common.{[], ◌∷◌, map, subst, sym}
use Rattle.std.proofs.lemmas.Result.{on_ok_weaker}
use Rattle.hlc_csv.specs.Rows.{AddsText, text_of}
use Rattle.hlc_log_text.proofs.RowsAdded.{adds_joined, adds_one}
use Rattle.hlc_log_groups.specs.GroupRows.{first_places, group_row, group_rows, place_row}
use Rattle.hlc_log_groups.specs.declared.group_detail.GroupDetail.{GroupDetail}
use Rattle.hlc_log_groups.proofs.group_rows.push_told.Goals as goal

pub returns-in_ok-push_group-in-Places : goal.returns-in_ok-push_group-in-Places
returns-in_ok-push_group-in-Places g c =
    let at = g.W.Write.contents in
    let log = c.args.log.now in
    let key = c.args.key in
    let group = c.args.group in
    let before = at c.args.writer.now in
    let between = at c.push_group-in-Places.new.writer in
    let after = at c.push_places.new.writer in
    let row = group_row log.files log.nodes log.log (key, group) in
    let places = map (place_row log.files log.log key.rule) (first_places group) in
    on_ok_weaker c.push_places.result (λ more.
    subst (λ (told : GroupDetail). AddsText before after c.args.rows.now c.push_places.new.rows (text_of (group_rows told log (key, group)))) (sym c.in-Places.is)
    (adds_joined before between after c.args.rows.now c.push_group-in-Places.new.rows c.push_places.new.rows (row ∷ []) places
    (adds_one before between c.args.rows.now c.push_group-in-Places.new.rows row c.in_ok-push_group-in-Places.ensures) more)) c.push_places.ensures
