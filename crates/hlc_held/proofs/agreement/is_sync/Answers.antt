use Rattle.std.proofs.Common.{◌≡◌, ◌∙◌, ℕ, ap, sym}
use Rattle.std.proofs.lemmas.Bool.{eq-eqb, eqb-true}
use Rattle.hlc_stamp.specs.Ids.{places_of}
use Rattle.hlc_arena.specs.History.{Synced}
use Rattle.hlc_arena.specs.Kinds.{event_kind_of}
use Rattle.hlc_held.proofs.agreement.is_sync.Goals as goal

pub returns-in-Sync : goal.returns-in-Sync
returns-in-Sync c =
    let target = c.in-Sync.target.0 in
    let to = c.args.to.0 in
    let writes = places_of c.in-Sync.writes.now in
    let is : event_kind_of c.args.kind ≡ Synced target writes = ap event_kind_of c.in-Sync.is in (
      λ same. (writes, is ∙ ap (λ (n : ℕ). Synced n writes) (eqb-true target to (sym c.eq.ensures ∙ same))),
      λ found.
          let both : Synced target writes ≡ Synced to found.0 = sym is ∙ found.1 in
          let same : target ≡ to = cc both in
          c.eq.ensures ∙ eq-eqb target to same,
    )
