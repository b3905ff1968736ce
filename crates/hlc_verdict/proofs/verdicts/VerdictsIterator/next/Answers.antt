use Rattle.std.proofs.Common.{◌≡◌, ◌∙◌, ◌+◌, ◌<◌, List, [], ◌∷◌, ◌++◌, ap, arith, length, map, subst, sym, take}
use Rattle.std.proofs.lemmas.List.{length-map}
use Rattle.hlc_stamp.specs.Order.{Pair}
use Rattle.hlc_causality.specs.Assignment.{IsLeast}
use Rattle.hlc_verdict.specs.declared.claim.Claim.{Claim}
use Rattle.hlc_verdict.specs.Trace.{trace_skeleton}
use Rattle.hlc_verdict.proofs.OneMoreVerdict.{next_before, next_exists, next_has_room, next_is_sound, next_node, next_previous, none_left, under_way-next, verdict_is_next}
use Rattle.hlc_verdict.proofs.verdicts.VerdictsIterator.next.Goals as goal

pub returns-then-place-claims-clause-steps : goal.returns-then-place-claims-clause-steps
returns-then-place-claims-clause-steps g c =
    let i = c.self.inside in
    let claims = map g.C.AsClaim.claim_of i.claims.now in
    let size = length-map i.claims.now g.C.AsClaim.claim_of in
    let all : length i.least.items ≡ length claims = sym i.least.ok.0 ∙ sym c.len-place.ensures ∙ c.if-place-claims.true ∙ sym size in
    let none : c.args.self.now ≡ [] = sym c.self.view_is ∙ none_left claims (length i.least.items) all in
    (none, none)

-- the claim that comes next, and what is known of it
pub claim_in-claim-requires : goal.claim_in-claim-requires
claim_in-claim-requires g c =
    let i = c.self.inside in
    next_exists g.C.AsClaim.claim_of i.claims.now i.last i.least.items _ c.len-place.result (c.len-place.ensures ∙ i.least.ok.0)
    c.self.invariant c.if-place-claims.false

pub bounds-self-inside-node : goal.bounds-self-inside-node
bounds-self-inside-node g c =
    let i = c.self.inside in
    next_node g.C.AsClaim.claim_of i.claims.now i.last i.least.items _ c.len-place.result (c.len-place.ensures ∙ i.least.ok.0)
    c.self.invariant c.if-place-claims.false c.claim_in-claim.result c.claim_in-claim.ensures

pub overflow_cast-self : goal.overflow_cast-self
overflow_cast-self g c =
    let i = c.self.inside in
    let sound = next_is_sound g.C.AsClaim.claim_of i.claims.now i.last i.least.items _ c.len-place.result (c.len-place.ensures ∙ i.least.ok.0)
    c.self.invariant c.if-place-claims.false in
    omega (arith, sound.few)

pub least_stamp-stamp-requires-clause-exists : goal.least_stamp-stamp-requires-clause-exists
least_stamp-stamp-requires-clause-exists g c =
    let i = c.self.inside in
    next_exists g.C.AsClaim.claim_of i.claims.now i.last i.least.items _ c.len-place.result (c.len-place.ensures ∙ i.least.ok.0)
    c.self.invariant c.if-place-claims.false

pub least_stamp-stamp-requires-clause-sound : goal.least_stamp-stamp-requires-clause-sound
least_stamp-stamp-requires-clause-sound g c =
    let i = c.self.inside in
    next_is_sound g.C.AsClaim.claim_of i.claims.now i.last i.least.items _ c.len-place.result (c.len-place.ensures ∙ i.least.ok.0)
    c.self.invariant c.if-place-claims.false

pub least_stamp-stamp-requires-clause-previous : goal.least_stamp-stamp-requires-clause-previous
least_stamp-stamp-requires-clause-previous g c =
    let i = c.self.inside in
    next_previous g.C.AsClaim.claim_of i.claims.now i.last i.least.items _ c.len-place.result (c.len-place.ensures ∙ i.least.ok.0)
    c.self.invariant c.if-place-claims.false c.claim_in-claim.result c.claim_in-claim.ensures

pub least_stamp-stamp-requires-clause-before : goal.least_stamp-stamp-requires-clause-before
least_stamp-stamp-requires-clause-before g c =
    let i = c.self.inside in
    subst (IsLeast (take c.len-place.result (trace_skeleton (map g.C.AsClaim.claim_of i.claims.now)))) (sym c.deref.ensures.value)
    (next_before g.C.AsClaim.claim_of i.claims.now i.last i.least.items _ c.len-place.result (c.len-place.ensures ∙ i.least.ok.0)
    c.self.invariant c.if-place-claims.false)

pub push_reserved-requires : goal.push_reserved-requires
push_reserved-requires g c =
    let i = c.self.inside in
    let room = next_has_room g.C.AsClaim.claim_of i.claims.now i.last i.least.items _ c.len-place.result (c.len-place.ensures ∙ i.least.ok.0)
    c.self.invariant c.if-place-claims.false in
    omega (arith, room, i.least.ok.0)

pub verdict-requires-clause-exists : goal.verdict-requires-clause-exists
verdict-requires-clause-exists g c =
    let i = c.self.inside in
    next_exists g.C.AsClaim.claim_of i.claims.now i.last i.least.items _ c.len-place.result (c.len-place.ensures ∙ i.least.ok.0)
    c.self.invariant c.if-place-claims.false

pub verdict-requires-clause-sound : goal.verdict-requires-clause-sound
verdict-requires-clause-sound g c =
    let i = c.self.inside in
    next_is_sound g.C.AsClaim.claim_of i.claims.now i.last i.least.items _ c.len-place.result (c.len-place.ensures ∙ i.least.ok.0)
    c.self.invariant c.if-place-claims.false

pub verdict-requires-clause-previous : goal.verdict-requires-clause-previous
verdict-requires-clause-previous g c =
    let i = c.self.inside in
    next_previous g.C.AsClaim.claim_of i.claims.now i.last i.least.items _ c.len-place.result (c.len-place.ensures ∙ i.least.ok.0)
    c.self.invariant c.if-place-claims.false c.claim_in-claim.result c.claim_in-claim.ensures

-- the place of the claim that is judged
is_place : (g : _) (c : goal.After-verdict g) → c.len-place.result ≡ length c.self.inside.least.items
is_place g c = c.len-place.ensures ∙ c.self.inside.least.ok.0

-- its least stamp is pushed to those before it
is_least : (g : _) (c : goal.After-verdict g)
    → IsLeast (take (c.len-place.result + 1) (trace_skeleton (map g.C.AsClaim.claim_of c.self.inside.claims.now))) c.push_reserved.new.self.items
is_least g c =
    let stamp = c.least_stamp-stamp in
    subst (IsLeast (take (c.len-place.result + 1) (trace_skeleton (map g.C.AsClaim.claim_of c.self.inside.claims.now))))
    (ap (λ (pairs : List Pair). pairs ++ stamp.result ∷ []) c.deref.ensures.value ∙ sym c.push_reserved.ensures.items) stamp.ensures

pub invariant_of-self : goal.invariant_of-self
invariant_of-self g c =
    let i = c.self.inside in
    let claims = map g.C.AsClaim.claim_of i.claims.now in
    let pushed = c.push_reserved.ensures in
    let node = ap (λ (claim : Claim). claim.node.0) c.claim_in-claim.ensures in
    under_way-next claims i.least.items _ c.least_stamp-stamp.result c.len-place.result (is_place g c) pushed.items (is_least g c) i.last _ _
    c.claim_in-claim.result.node.0 c.self.invariant node (omega (arith, pushed.capacity))

pub returns-clause-steps : goal.returns-clause-steps
returns-clause-steps g c =
    let i = c.self.inside in
    let claims = map g.C.AsClaim.claim_of i.claims.now in
    let place = c.len-place.result in
    let size = length-map i.claims.now g.C.AsClaim.claim_of in
    let next = next_exists g.C.AsClaim.claim_of i.claims.now i.last i.least.items _ place (is_place g c) c.self.invariant c.if-place-claims.false in
    let exists : place < length claims = omega arith in
    sym c.self.view_is
    ∙ verdict_is_next claims i.least.items _ c.least_stamp-stamp.result place (is_place g c) c.push_reserved.ensures.items (is_least g c)
    c.verdict.result exists c.verdict.ensures

pub returns-clause-goes : goal.returns-clause-goes
returns-clause-goes g c =
    let more = returns-clause-steps g c in
    record { on = λ _. (tt, tt, omega (arith, ap length more)); keeps = tt; rests = λ _. tt }
