use Rattle.std.proofs.Common.{◌≡◌, ◌⊎◌, arith, subst}
use Rattle.std.proofs.lemmas.Result.{on_err_weaker, on_ok_weaker}
use Rattle.hlc_pages.specs.Growth.{HasNewPage}
use Rattle.hlc_pages.specs.Log.{Extends, Log, bytes_of}
use Rattle.hlc_pages.proofs.PageGrowth.{grown_or_same, no_room}
use Rattle.hlc_pages.proofs.LogPages.{extends-grown, log_pages-grown, room_in_new_page}
use Rattle.hlc_pages.proofs.byte_log.ByteLog.reserve.Goals as goal

grown : (c : goal.After-add_page) → HasNewPage 65536 c.self.inside.pages.items c.add_page.new.pages.items
    ⊎ (c.add_page.new.pages.items ≡ c.self.inside.pages.items)
grown c = grown_or_same c.add_page.result c.add_page.ensures.added c.add_page.ensures.unchanged

pub invariant_of-self : goal.invariant_of-self
invariant_of-self c = log_pages-grown (grown c) (omega (arith, c.self.inside.pages.ok.0)) c.self.invariant

pub returns : goal.returns
returns c =
    let full = no_room c.has_room.result c.args.self.now.room c.has_room.ensures c.if-has_room.false in
    record {
      room = on_ok_weaker c.add_page.result room_in_new_page c.add_page.ensures.added;
      full = on_err_weaker c.add_page.result (λ _. full) c.add_page.ensures.unchanged;
      extends = subst (λ (a : Log). Extends a.pages (bytes_of c.add_page.new.pages.items)) c.self.view_is (extends-grown (grown c));
      keeps_room = omega (arith, full);
    }
