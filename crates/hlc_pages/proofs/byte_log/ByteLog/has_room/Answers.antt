use Rattle.std.proofs.Common.{List, ◌-◌, length, arith, sym, ap, ◌∙◌}
use Rattle.std.proofs.lemmas.Bool.Decides.{nat_tests}
use Rattle.std.specs.Prelude.{slice_get}
use Rattle.hlc_pages.specs.Log.{Log, LogPage}
use Rattle.hlc_pages.proofs.LogPages.{room_by_last}
use Rattle.hlc_pages.proofs.byte_log.ByteLog.has_room.Goals as goal

pub returns-in-Some : goal.returns-in-Some
returns-in-Some c =
    let pages = c.self.inside.pages.items in
    let page = c.in-Some.page.now in
    let read = ap (λ (xs : List LogPage). slice_get xs (length xs - 1)) (sym c.deref.ensures.value) in
    let room = room_by_last pages page (read ∙ sym c.in-Some.ensures.value) in
    let shown = ap (λ (a : Log). a.room) c.self.view_is in
    let size = page.ok.0 in
    grind (arith, nat_tests, room, shown, size)
