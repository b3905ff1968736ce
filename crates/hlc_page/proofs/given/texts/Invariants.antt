use Rattle.std.proofs.Common.{◌≡◌, take}
use Rattle.hlc_page.specs.Given.{texts_in}
use Rattle.hlc_page.proofs.given.texts.Given as goal

-- the texts so far are those of the bytes so far
abbrev pub invariant-loop-bytes : goal.invariant-loop-bytes
invariant-loop-bytes l = texts_in l.texts.items ≡ texts_in (take l.bytes-index l.given)
