use Rattle.std.proofs.Common.{◌≡◌, ◌∙◌, ◌∷◌, [], List, ap, arith, length, length-append, subst, sym}
use Rattle.std.specs.Prelude.{All}
use Rattle.std.proofs.lemmas.List.Elements.{All-append, All-cons, All-nil}
use Rattle.hlc_table.specs.Rows.{Row}
use Rattle.hlc_core.proofs.cluster.empty_tables.Goals as goal

-- a table with no row
abbrev IsEmpty : List Row → Type 0
IsEmpty table = table ≡ []

pub loop-node-init : goal.loop-node-init
loop-node-init c =
    let none = c.in_ok-tables.ensures.items in
    record {
      one_each = ap length none;
      empty = subst (All IsEmpty) (sym none) (All-nil IsEmpty);
      space = c.in_ok-tables.ensures.capacity;
    }

pub loop-node-preserved : goal.loop-node-preserved
loop-node-preserved c =
    let before = c.loop-node.tables.items in
    let table = c.new.result in
    let more = c.push_reserved.ensures.items in
    let counts = length-append before (table ∷ []) in
    let one = All-cons IsEmpty table [] c.new.ensures (All-nil IsEmpty) in
    record {
      one_each = ap length more ∙ omega (arith, counts, c.loop-node.invariant.one_each);
      empty = subst (All IsEmpty) (sym more) (All-append IsEmpty before (table ∷ []) c.loop-node.invariant.empty one);
      space = omega (arith, c.loop-node.invariant.space, c.push_reserved.ensures.capacity);
    }

pub returns-clause-one_each : goal.returns-clause-one_each
returns-clause-one_each c = omega (arith, c.loop-node.invariant.one_each, c.loop-node-test.false, c.loop-node.auto.node-end)
