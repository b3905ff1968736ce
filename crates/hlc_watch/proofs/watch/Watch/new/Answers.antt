use Rattle.std.proofs.Common.{◌≡◌, ◌∙◌, List, None, Option, Some, ap, refl, replicate}
use Rattle.hlc_watch.specs.declared.records.Claimed.{Claimed}
use Rattle.hlc_watch.specs.Kept.{KeptMessages}
use Rattle.hlc_watch.proofs.watch.Watch.new.Goals as goal

pub returns : goal.returns
returns g c =
    let last : c.in_ok-vec.field-0.items ≡ replicate 65536 None =
    c.in_ok-vec.ensures.items_if_clones_equal (elim [ None ↦ λ same. refl | Some claimed ↦ λ same. absurd same ]) in
    ap (λ (l : List (Option Claimed)). record { last = l; messages = c.in_ok-new.field-0 }) last
    ∙ ap (λ (m : KeptMessages). record { last = replicate 65536 None; messages = m }) c.in_ok-new.ensures
