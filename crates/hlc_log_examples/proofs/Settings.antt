-- The settings that a command line gives.
use Rattle.std.proofs.Common.{◌≡◌, ◌∙◌, List, Option, None, Some, ap, arith, codes, false, refl, subst, sym}
use Rattle.std.specs.Prelude.{nat_lt}
use Rattle.std.proofs.lemmas.Bool.Decides.{nat_tests}
use Rattle.clap.specs.Words.{Row, Text}
use Rattle.hlc_stamp.specs.declared.limits.TheConstants.{MAX_CAPACITY, MAX_NODES, MIN_NODES}
use Rattle.hlc_stamp.specs.declared.settings.Settings.{Settings}
use Rattle.hlc_core.specs.State.{new_refusal}
use Rattle.hlc_command_line.specs.Line.{AreSettings, IsOrderFound, IsOrderOf}
use Rattle.hlc_command_line.specs.declared.line_order.Order.{Order}
use Rattle.hlc_command_line.specs.declared.line_order.Order.TheVariants as order

-- the numbers of the options are within the limits of a cluster's
settings_pass : (rows : List Row) (settings : Settings) → AreSettings rows settings → new_refusal settings.nodes settings.capacity ≡ None
settings_pass rows settings are =
    let a : nat_lt settings.nodes MIN_NODES ≡ false = grind (arith, nat_tests, are.nodes_is.least) in
    let b : nat_lt MAX_NODES settings.nodes ≡ false = grind (arith, nat_tests, are.nodes_is.most) in
    let c : nat_lt settings.capacity 1 ≡ false = grind (arith, nat_tests, are.capacity_is.least) in
    let d : nat_lt MAX_CAPACITY settings.capacity ≡ false = grind (arith, nat_tests, are.capacity_is.most) in
    rw (a, b, c, d) refl

pub found_settings_pass : (found : Option (Text × List Row)) (o : Order) (settings : Settings) → IsOrderFound found o
    → o ≡ order.Run settings →
    new_refusal settings.nodes settings.capacity ≡ None
found_settings_pass found o settings is_found same =
    let run : IsOrderFound found (order.Run settings) = rw same at is_found in
    settings_pass run.1 settings run.3.1

-- ---- one order

same_name : (found : Option (Text × List Row)) (a b : Text) (r s : List Row) → found ≡ Some (a, r) → found ≡ Some (b, s) → a ≡ b
same_name found a b r s e f =
    let both : ◌≡◌ {A = Text × List Row} (a, r) (b, s) = let some = sym e ∙ f in cc in
    ap (λ (p : Text × List Row). p.0) both

is_run : (rows : List Row) (o : Order) → IsOrderOf (codes "run") rows o → (settings : Settings) × (o ≡ order.Run settings)
is_run rows (order.Run settings) is = (settings, refl)
is_run rows (order.Draw settings part) is = let name = is.0 in cc
is_run rows (order.Trace settings vector) is = let name = is.0 in cc
is_run rows order.Judge is = cc
is_run rows (order.Audit options asked json) is = let name = is.0 in cc
is_run rows (order.Watch options json) is = let name = is.0 in cc
is_run rows (order.DrawLog options json) is = let name = is.0 in cc
is_run rows (order.Vectors records json) is = let name = is.0 in cc
is_run rows (order.Storm n k s) is = let name = is.0 in cc
is_run rows (order.Threads n k s l) is = let name = is.0 in cc

-- if the order is another one, the command line asks for no run
pub found_other : (found : Option (Text × List Row)) (o : Order) (settings : Settings) → IsOrderFound found o
    → ((other : Settings) → o ≡ order.Run other → ⊥) → IsOrderFound found (order.Run settings) → ⊥
found_other found o settings is not run =
    let name : is.0 ≡ codes "run" = same_name found is.0 run.0 is.1 run.1 is.2 run.2 ∙ run.3.0 in
    let at = is_run is.1 o (subst (λ n. IsOrderOf n is.1 o) name is.3) in
    not at.0 at.1
