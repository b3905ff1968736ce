use Rattle.std.proofs.Common.{arith, refl}
use Rattle.hlc_pages.proofs.Paging.{length_shown}
use Rattle.hlc_pages.proofs.pages.Pages.get.Goals as goal

pub at-requires : goal.at-requires
at-requires g c =
    let size = length_shown c.args.self.now c.self.inside.pages.items c.self.inside.len c.self.view_is c.self.invariant in
    omega (arith, c.if-place-self.true, size)

pub returns-then-place-self-clause-none : goal.returns-then-place-self-clause-none
returns-then-place-self-clause-none g c =
    let size = length_shown c.args.self.now c.self.inside.pages.items c.self.inside.len c.self.view_is c.self.invariant in
    (λ bad. cc, λ le. absurd (omega (arith, c.if-place-self.true, size)))

pub returns-else-place-self-clause-none : goal.returns-else-place-self-clause-none
returns-else-place-self-clause-none g c =
    let size = length_shown c.args.self.now c.self.inside.pages.items c.self.inside.len c.self.view_is c.self.invariant in
    (λ none. omega (arith, c.if-place-self.false, size), λ le. refl)

pub returns-then-place-self-clause-exists : goal.returns-then-place-self-clause-exists
returns-then-place-self-clause-exists g c =
    let size = length_shown c.args.self.now c.self.inside.pages.items c.self.inside.len c.self.view_is c.self.invariant in
    omega (arith, c.if-place-self.true, size)
