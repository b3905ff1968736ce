use Rattle.std.proofs.Common.{List, subst, ap, ◌∙◌}
use Rattle.hlc_pages.specs.Copies.{AreCopies}
use Rattle.hlc_pages.specs.Log.{Log, LogPage}
use Rattle.hlc_pages.proofs.PageCopies.{copies_are_log_pages}
use Rattle.hlc_pages.proofs.byte_log.ByteLog.copy.Goals as goal

copies_are : (c : goal.In_ok-copy_pages) → AreCopies 65536 c.self.inside.pages.items c.in_ok-copy_pages.field-0.items
copies_are c =
    subst (λ (pages : List LogPage). AreCopies 65536 pages c.in_ok-copy_pages.field-0.items) c.deref.ensures.value c.in_ok-copy_pages.ensures

pub invariant_of-result : goal.invariant_of-result
invariant_of-result c = copies_are_log_pages c.self.inside.pages.items c.in_ok-copy_pages.field-0.items (copies_are c) c.self.invariant

pub returns : goal.returns
returns c = (copies_are c).items ∙ ap (λ (a : Log). a.pages) c.self.view_is
