use Rattle.std.proofs.Common.{◌≡◌, ◌∙◌, false, arith, refl, sym, ap, Some, None}
use Rattle.std.specs.Prelude.{option_map, unwrap_or}
use Rattle.hlc_stamp.specs.declared.id.EventId.{EventId}
use Rattle.hlc_arena.specs.History.{Sent}
use Rattle.hlc_core.specs.Step.{entry_in, is_bad_key}
use Rattle.hlc_core.proofs.Answering.{bad_target, may_be_sent, no_entry}
use Rattle.hlc_core.proofs.cluster.Cluster.send.Goals as goal

pub returns-in-Some : goal.returns-in-Some
returns-in-Some c =
    let good = sym c.is_bad.ensures ∙ c.if-is_bad.false in
    let refused = sym c.target_refusal.ensures ∙ c.in-Some.is in
    bad_target c.args.self.now c.args.node.0 c.args.to.0 c.args.key.now c.in-Some.refusal good refused

pub returns-in_default-find_entry : goal.returns-in_default-find_entry
returns-in_default-find_entry c =
    let s = c.args.self.now in
    let node = c.args.node.0 in
    let key = c.args.key.now in
    let good = sym c.is_bad.ensures ∙ c.if-is_bad.false in
    let target = sym c.target_refusal.ensures ∙ c.in_default.is in
    let found = ap (option_map (λ (w : EventId). w.0)) c.in_default-find_entry.is in
    let none : entry_in s node key ≡ None = grind (arith, c.find_entry.ensures, found) in
    no_entry s node c.args.to.0 key good target none

pub returns : goal.returns
returns c =
    let s = c.args.self.now in
    let node = c.args.node.0 in
    let key = c.args.key.now in
    let write = c.in-Some-find_entry.write.0 in
    let good : is_bad_key key ≡ false = sym c.is_bad.ensures ∙ c.if-is_bad.false in
    let target = sym c.target_refusal.ensures ∙ c.in_default.is in
    let found = ap (option_map (λ (w : EventId). w.0)) c.in-Some-find_entry.is in
    let is : entry_in s node key ≡ Some write = grind (arith, c.find_entry.ensures, found) in
    record {
      passes = may_be_sent s node c.args.to.0 write key good target is;
      kind = ap (λ o. Sent c.args.to.0 (unwrap_or o 0)) (sym is);
      live = refl;
      ends = tt;
    }
