use Rattle.std.proofs.Common.{◌≡◌, ◌∙◌, ℕ, ◌↔◌, List, [], ◌∷◌, arith, refl, sym, ap, subst}
use Rattle.std.proofs.lemmas.Option.{none-some}
use Rattle.std.specs.List.{Contains}
use Rattle.hlc_causality.specs.Causality.{IsSendOf, Skeleton}
use Rattle.hlc_arena.specs.Arena.{IsWellFormed, StoredHistory, history_of}
use Rattle.hlc_arena.specs.History.{causality_of}
use Rattle.hlc_arena.proofs.Following.{delivered_is_sent}
use Rattle.hlc_arena.proofs.arena.Arena.deliveries.Goals as goal

pub returns-clause-complete : goal.returns-clause-complete
returns-clause-complete c =
    let same = sym c.self.invariant.kept.events ∙ ap (λ (a : StoredHistory). causality_of a.events) c.self.view_is in
    subst (λ (s : Skeleton). (f : ℕ) → Contains c.deliveries.result f ↔ IsSendOf s c.args.id.0 f) same c.deliveries.ensures.complete

empty_from_none : (xs : List ℕ) → ((x : ℕ) → Contains xs x → ⊥) → xs ≡ []
empty_from_none [] none = refl
empty_from_none (x ∷ xs) none = absurd (none x (0, omega arith, refl))

pub returns-clause-only_of_sends : goal.returns-clause-only_of_sends
returns-clause-only_of_sends c = λ no_target.
    let well = subst (λ (a : StoredHistory). IsWellFormed (history_of a)) c.self.view_is c.self.invariant.well_formed in
    empty_from_none _ (λ f among.
    let target = delivered_is_sent (history_of c.args.self.now) well c.args.id.0 f ((returns-clause-complete c f).0 among) in
    none-some _ (sym no_target ∙ target))
