use Rattle.std.proofs.Common.{take}
use Rattle.hlc_pages.specs.Copies.{AreCopies}
use Rattle.hlc_pages.proofs.copies.copy_pages.Given as goal

abbrev pub invariant-loop-page : goal.invariant-loop-page
invariant-loop-page g l = AreCopies l.page_len (take l.page-index l.pages) l.copies.items
