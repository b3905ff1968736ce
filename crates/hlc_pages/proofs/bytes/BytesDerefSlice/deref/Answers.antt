use Rattle.std.proofs.Common.{ap, sym, ◌∙◌}
use Rattle.hlc_pages.specs.Bytes.{stored_bytes}
use Rattle.hlc_pages.proofs.bytes.BytesDerefSlice.deref.Goals as goal

pub returns-in-Inline : goal.returns-in-Inline
returns-in-Inline c = ap stored_bytes (sym c.in-Inline.is) ∙ c.self.view_is
