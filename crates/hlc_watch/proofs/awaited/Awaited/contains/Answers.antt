use Rattle.std.proofs.Common.{◌∙◌, ap, sym}
use Rattle.std.specs.Prelude.{bytes_eq, is_some}
use Rattle.std.specs.Map.{lookup}
use Rattle.hlc_watch.proofs.ListsKept.{is_some_lists}
use Rattle.hlc_watch.proofs.awaited.Awaited.contains.Goals as goal

pub returns-then-not-is_empty : goal.returns-then-not-is_empty
returns-then-not-is_empty g c =
    let m = c.args.message.now in
    c.contains.ensures ∙ sym (is_some_lists m c.self.inside.receives.entries) ∙ ap (λ ls. is_some (lookup (bytes_eq m) ls)) c.self.view_is
