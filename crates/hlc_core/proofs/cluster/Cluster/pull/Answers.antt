use Rattle.std.proofs.Common.{◌≡◌, ◌∙◌, ℕ, List, [], refl, sym, ap, Some}
use Rattle.std.specs.Prelude.{slice_get}
use Rattle.hlc_core.specs.State.{inbox_of, sends_to}
use Rattle.hlc_core.specs.Step.{pulled_kind, without_first}
use Rattle.hlc_core.proofs.Answering.{first_delivered, may_be_written}
use Rattle.hlc_core.proofs.Messages.{first_of_filter, inbox_in_state}
use Rattle.hlc_core.proofs.Passed.{good_sizes}
use Rattle.hlc_core.proofs.cluster.Cluster.pull.Goals as goal

pub returns-in-Some-oldest : goal.returns-in-Some-oldest
returns-in-Some-oldest c =
    let s = c.args.self.now in
    let node = c.args.node.0 in
    let sent = c.in-Some-oldest.sent.0 in
    let good = good_sizes c.args.key.now c.args.value.now (sym c.size_refusal.ensures ∙ c.in_default.is) in
    let own = inbox_in_state c.self.invariant c.self.view_is node in
    let first : slice_get (inbox_of s node) 0 ≡ Some sent =
    ap (λ (xs : List ℕ). slice_get xs 0) (sym own) ∙ c.in-Some-oldest.ensures.first in
    let pulled = first_delivered (inbox_of s node) s.live sent c.args.key.now c.args.value.now first in
    record {
      passes = may_be_written s node c.args.key.now c.args.value.now good.0 good.1;
      kind = sym pulled.0;
      live = sym pulled.1;
      ends = (first_of_filter (sends_to s.history.events node) s.live sent first).0;
    }

pub returns-in-None : goal.returns-in-None
returns-in-None c =
    let s = c.args.self.now in
    let node = c.args.node.0 in
    let good = good_sizes c.args.key.now c.args.value.now (sym c.size_refusal.ensures ∙ c.in_default.is) in
    let own = inbox_in_state c.self.invariant c.self.view_is node in
    let empty : inbox_of s node ≡ [] = sym own ∙ c.in-None.ensures.none.0 refl in
    record {
      passes = may_be_written s node c.args.key.now c.args.value.now good.0 good.1;
      kind = sym (ap (λ (inbox : List ℕ). pulled_kind inbox c.args.key.now c.args.value.now) empty);
      live = sym (ap (λ (inbox : List ℕ). without_first inbox s.live) empty);
      ends = tt;
    }
