use Rattle.std.proofs.Common.{◌∙◌, List, ℕ, ap, sym}
use Rattle.std.specs.Prelude.{bytes_eq}
use Rattle.std.specs.Map.{lookup}
use Rattle.hlc_watch.specs.Kept.{KeptSends, send_of}
use Rattle.hlc_watch.proofs.Rings.{find_in_ring}
use Rattle.hlc_watch.proofs.latest_sends.LatestSends.get.Goals as goal

pub returns : goal.returns
returns g c =
    let inside = c.self.inside in
    let m = c.args.message.now in
    c.copied.ensures ∙ c.get-2.ensures.value ∙ ap (λ (x : List ℕ). lookup (bytes_eq x) inside.claims.entries) c.borrowed.ensures
    ∙ sym (find_in_ring m inside.keep inside.first inside.claims.entries c.self.invariant)
    ∙ ap (λ (kept : KeptSends). send_of kept m) c.self.view_is
