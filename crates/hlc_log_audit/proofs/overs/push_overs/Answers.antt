use Rattle.std.proofs.Common.{◌≡◌, List, Option, ℕ, length, refl, subst, sym}
use Rattle.std.proofs.lemmas.Result.{on_ok_weaker}
use Rattle.hlc_ordered_log.specs.InOrder.{LogInOrder}
use Rattle.hlc_log_audit.specs.OverLimit.{AreOvers}
use Rattle.hlc_log_audit.specs.Report.{AreOverRows, over_rows}
use Rattle.hlc_log_audit.specs.declared.over.Over.{Over}
use Rattle.hlc_log_audit.proofs.overs.push_overs.Goals as goal

-- the nodes have names
named : (limit : ℕ) (log lent : LogInOrder) (names : ℕ) (overs : List (Option Over)) → lent ≡ log → log.nodes ≡ names → AreOvers limit lent.nodes lent.events overs
    → AreOvers limit names log.events overs
named limit log lent names overs same nodes are =
    subst (λ (n : ℕ). AreOvers limit n log.events overs) nodes (subst (λ (l : LogInOrder). AreOvers limit l.nodes l.events overs) same are)

pub push_each_over-requires : goal.push_each_over-requires
push_each_over-requires g c =
    let opened = c.args.log.now in
    subst (AreOvers c.in-Some.limit (length opened.nodes) opened.log.events) (sym c.deref.ensures.value)
    (named c.in-Some.limit opened.log c.ordered.result.now (length opened.nodes) c.in_ok-overs-in-Some.overs.items c.ordered.ensures.value
    c.ordered.ensures.open.nodes_are c.in_ok-overs-in-Some.ensures)

pub returns-in_ok-overs-in-Some : goal.returns-in_ok-overs-in-Some
returns-in_ok-overs-in-Some g c =
    let opened = c.args.log.now in
    let overs = c.deref.result.now in
    on_ok_weaker c.push_each_over.result (λ added. (
      over_rows opened.files opened.nodes opened.log overs,
      subst (λ (limit : Option ℕ). AreOverRows opened.files opened.nodes opened.log limit (over_rows opened.files opened.nodes opened.log overs)) (sym c.in-Some.is) (
        overs,
        subst (AreOvers c.in-Some.limit (length opened.nodes) opened.log.events) (sym c.deref.ensures.value)
            (named c.in-Some.limit opened.log c.ordered.result.now (length opened.nodes) c.in_ok-overs-in-Some.overs.items c.ordered.ensures.value
            c.ordered.ensures.open.nodes_are c.in_ok-overs-in-Some.ensures),
        refl,
      ),
      added,
    )) c.push_each_over.ensures
