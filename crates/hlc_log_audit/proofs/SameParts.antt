-- What is opened of a log is one thing, if some order has it.
use Rattle.std.proofs.Common.{◌≡◌, ◌≢◌, ◌∙◌, ℕ, List, [], ◌∷◌, Option, None, Some, ap, arith, refl, sym, subst}
use Rattle.std.specs.Prelude.{Contains, map}
use Rattle.hlc_explain.proofs.Findings.{rising_is_unique}
use Rattle.hlc_stamp.specs.declared.id.EventId.{EventId}
use Rattle.hlc_log.specs.CausalOrder.{IsCausalOrder}
use Rattle.hlc_log.specs.Faults.{IsFaultOf}
use Rattle.hlc_log.specs.Parted.{AreThoseWith}
use Rattle.hlc_log.specs.StandingOrder.{arranged}
use Rattle.hlc_log.specs.declared.log_event.LogEvent.{LogEvent}
use Rattle.hlc_log.specs.declared.order_fault.OrderFault.{OrderFault}
use Rattle.hlc_log.specs.declared.order_fault.OrderFault.TheVariants.{Cycle, Memory, SentTwice, Unsent}
use Rattle.hlc_log_text.specs.declared.bad_log.BadLine.{BadLine}
use Rattle.hlc_log_text.specs.declared.fault_rule.FaultRule.{FaultRule}
use Rattle.hlc_log_text.specs.declared.fault_rule.FaultRule.TheVariants.{LeaveOut}
use Rattle.hlc_open_log.specs.Opened.{IsPartOf, IsRestOf, cycle_line}
use Rattle.hlc_open_log.specs.Unopened.{IsRefused}

same_places : (n : ℕ) (HasProperty : ℕ → Type 0) (a b : List ℕ) → AreThoseWith n HasProperty a → AreThoseWith n HasProperty b → b ≡ a
same_places n HasProperty a b a_are b_are =
    rising_is_unique b a b_are.rise a_are.rise (λ f. (λ has. (a_are.exactly f).1 ((b_are.exactly f).0 has), λ has. (b_are.exactly f).1 ((a_are.exactly f).0 has)))

first_of_some : (places : List ℕ) → places ≢ [] → (e : ℕ) × Contains places e
first_of_some [] some = absurd (some refl)
first_of_some (e ∷ places) some = (e, (0, omega arith, refl))

-- events that have an order aren't parted
not_parted : (rule : FaultRule) (events rest : List LogEvent) (kept : List ℕ) (lines : List BadLine) → IsRestOf rule events rest kept lines
    → (order : List ℕ) → IsCausalOrder events order → ⊥
not_parted rule events rest kept lines is order whole =
    let first = first_of_some is.left_out is.some in
    let waits = ((is.parted.left_are.exactly first.0).0 first.1).1 in
    waits.never order whole.causal (whole.all first.0 waits.exists)

pub one_part : (rule : FaultRule) (events rest other : List LogEvent) (kept other_kept : Option (List ℕ)) (lines other_lines : List BadLine)
    → IsPartOf rule events rest kept lines → IsPartOf rule events other other_kept other_lines
    → (order : List ℕ) → IsCausalOrder rest order → (other_order : List ℕ) → IsCausalOrder other other_order
    → (other_kept ≡ kept) × (other ≡ rest) × (other_lines ≡ lines)
one_part rule events rest other None None lines other_lines is other_is order whole other_order other_whole =
    (refl, other_is.0 ∙ sym is.0, other_is.1 ∙ sym is.1)
one_part rule events rest other None (Some kept) lines other_lines is other_is order whole other_order other_whole =
    absurd (not_parted rule events other kept other_lines other_is order (subst (λ (es : List LogEvent). IsCausalOrder es order) is.0 whole))
one_part rule events rest other (Some kept) None lines other_lines is other_is order whole other_order other_whole =
    absurd (not_parted rule events rest kept lines is other_order (subst (λ (es : List LogEvent). IsCausalOrder es other_order) other_is.0 other_whole))
one_part rule events rest other (Some kept) (Some other_kept) lines other_lines is other_is order whole other_order other_whole =
    let same = same_places _ _ kept other_kept is.parted.kept_are other_is.parted.kept_are in
    let same_left = same_places _ _ is.left_out other_is.left_out is.parted.left_are other_is.parted.left_are in (
      ap (λ (places : List ℕ). (let o : Option (List ℕ) = Some places in o)) same,
      other_is.rest_are ∙ ap (arranged events) same ∙ sym is.rest_are,
      other_is.lines_are ∙ ap (map (cycle_line events)) same_left ∙ sym is.lines_are,
    )

refused_other : (rule : FaultRule) (e : EventId) → rule ≡ LeaveOut → IsRefused rule (Cycle e) → ⊥
refused_other rule e leaves refused = subst (λ (r : FaultRule). IsRefused r (Cycle e)) leaves refused

-- a log that is opened in part has no fault for which it isn't opened
pub no_fault_of_part : (rule : FaultRule) (events rest : List LogEvent) (kept : List ℕ) (lines : List BadLine) → IsRestOf rule events rest kept lines
    → (fault : OrderFault) → IsFaultOf events fault → IsRefused rule fault → ¬ (fault ≡ Memory) → ⊥
no_fault_of_part rule events rest kept lines is (SentTwice e) fault refused known = is.parted.sound.once e.0 fault.has
no_fault_of_part rule events rest kept lines is (Unsent e) fault refused known = is.parted.sound.sent e.0 fault.1.has
no_fault_of_part rule events rest kept lines is (Cycle e) fault refused known = refused_other rule e is.leaves refused
no_fault_of_part rule events rest kept lines is Memory fault refused known = known refl
