use Rattle.std.proofs.Common.{◌++◌, [], ◌∷◌, List, ap, map, option_to_list, subst, sym}
use Rattle.std.proofs.lemmas.List.{map-append}
use Rattle.std.proofs.lemmas.Result.{on_ok_weaker}
use Rattle.hlc_csv.specs.Rows.{AddsText, Fields, text_of}
use Rattle.hlc_log_text.proofs.RowsAdded.{adds_joined, adds_one}
use Rattle.hlc_log_groups.specs.GroupRows.{place_row}
use Rattle.hlc_log_groups.proofs.group_rows.push_places.Goals as goal

pub returns : goal.returns
returns g c =
    let group = c.args.group in
    let row = place_row c.args.log.now.files c.args.log.now.log c.args.rule in
    let first = row group.first in
    let second = option_to_list group.second in
    let third = option_to_list group.third in
    on_ok_weaker c.push_place_if-2.result (λ last.
    subst (λ (rows : List Fields). AddsText (g.W.Write.contents c.args.writer.now) (g.W.Write.contents c.push_place_if-2.new.writer) c.args.rows.now
    c.push_place_if-2.new.rows (text_of (first ∷ rows))) (sym (map-append row second third))
    (adds_joined _ _ _ _ _ _ (first ∷ []) (map row second ++ map row third) (adds_one _ _ _ _ first c.in_ok-push_place.ensures)
    (adds_joined _ _ _ _ _ _ (map row second) (map row third) c.in_ok-push_place_if.ensures last))) c.push_place_if-2.ensures
