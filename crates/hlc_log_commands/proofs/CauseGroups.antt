-- Groups have as many causes as the report has rows of causes.
use Rattle.std.proofs.Common.{◌≡◌, ◌∙◌, Bool, true, false, ℕ, ◌+◌, List, [], ◌∷◌, ◌++◌, length, Option, Some, None, length-append, refl, sym, ap}
use Rattle.std.specs.Prelude.{option_map, option_to_list, slice_index_or}
use Rattle.std.specs.Bool.{then_some}
use Rattle.std.specs.List.{flat_map}
use Rattle.hlc_stamp.specs.declared.id.EventId.{EventId}
use Rattle.hlc_stamp.specs.Order.{Pair}
use Rattle.hlc_causality.specs.Places.{places_below}
use Rattle.hlc_causes.specs.Causes.{no_causes}
use Rattle.hlc_causes.specs.declared.answers.Cause.TheVariants as cause
use Rattle.hlc_causes.specs.declared.answers.Causes.{Causes}
use Rattle.hlc_csv.specs.Rows.{Fields}
use Rattle.hlc_log.specs.OrderSkeleton.{index_in}
use Rattle.hlc_ordered_log.specs.Found.{wrong_at}
use Rattle.hlc_ordered_log.specs.InOrder.{LogInOrder}
use Rattle.hlc_log_text.specs.declared.file_mark.FileMark.{FileMark}
use Rattle.hlc_log_audit.specs.Report.{cause_row, cause_rows_at, wrong_row}
use Rattle.hlc_log_groups.specs.Followed.{followed_in}
use Rattle.hlc_log_groups.specs.Groups.{KeyedCauses, cause_at, id_of, keyed_at}
use Rattle.hlc_log_groups.specs.declared.broken_rule.BrokenRule.TheVariants as rule
use Rattle.hlc_log_commands.specs.Laws.{GroupsAddUp}

-- lists with as many items at each place are as long
same_lengths : (one : ℕ → KeyedCauses) (other : ℕ → List Fields) (places : List ℕ) → ((e : ℕ) → length (one e) ≡ length (other e))
    → length (flat_map one places) ≡ length (flat_map other places)
same_lengths one other [] same = refl
same_lengths one other (e ∷ es) same =
    length-append (one e) (flat_map one es)
    ∙ (λ i. same e i + same_lengths one other es same i)
    ∙ sym (length-append (other e) (flat_map other es))

-- five parts
five_long : {A : Type 0} (a b c d e : List A) → length (a ++ (b ++ (c ++ (d ++ e)))) ≡ length a + (length b + (length c + (length d + length e)))
five_long a b c d e =
    length-append a (b ++ (c ++ (d ++ e)))
    ∙ ap (λ (n : ℕ). length a + n) (length-append b (c ++ (d ++ e))
    ∙ ap (λ (n : ℕ). length b + n) (length-append c (d ++ e) ∙ ap (λ (n : ℕ). length c + n) (length-append d e)))

module _ (files : List FileMark) (nodes : List (List ℕ)) (log : LogInOrder) (full e : ℕ) where
  behind_long : (b : Bool) → length (option_to_list (then_some b (cause_at log e rule.Behind None))) ≡ length (cause_row files nodes log full e (then_some b cause.Behind))
  behind_long true = refl
  behind_long false = refl

  previous_long : (o : Option EventId) → length (option_to_list (option_map (λ d. cause_at log e rule.NotAbove (Some d)) o))
      ≡ length (cause_row files nodes log full e (option_map (λ d. cause.NotAbovePrevious d) o))
  previous_long None = refl
  previous_long (Some d) = refl

  send_long : (o : Option EventId) → length (option_to_list (option_map (λ d. cause_at log e rule.NotAbove (Some d)) o))
      ≡ length (cause_row files nodes log full e (option_map (λ d. cause.NotAboveSend d) o))
  send_long None = refl
  send_long (Some d) = refl

  ahead_long : (o : Option Pair) → length (option_to_list (option_map (λ p. cause_at log e rule.Ahead (id_of (followed_in log (index_in log.order e)))) o))
      ≡ length (cause_row files nodes log full e (option_map (λ p. cause.Ahead p) o))
  ahead_long None = refl
  ahead_long (Some p) = refl

  wrong_long : (o : Option ℕ) → length (option_to_list (option_map (λ d. cause_at log e rule.Carried (Some d)) (id_of o))) ≡ length (wrong_row files nodes log e o)
  wrong_long None = refl
  wrong_long (Some d) = refl

  as_many : (found : Causes) → length (keyed_at log e found) ≡ length (cause_rows_at files nodes log full e found)
  as_many found =
      five_long (option_to_list (then_some found.behind (cause_at log e rule.Behind None)))
      (option_to_list (option_map (λ d. cause_at log e rule.NotAbove (Some d)) found.not_above_previous))
      (option_to_list (option_map (λ d. cause_at log e rule.NotAbove (Some d)) found.not_above_send))
      (option_to_list (option_map (λ p. cause_at log e rule.Ahead (id_of (followed_in log (index_in log.order e)))) found.ahead))
      (option_to_list (option_map (λ d. cause_at log e rule.Carried (Some d)) (id_of (wrong_at log e))))
      ∙ (λ i. behind_long found.behind i + (previous_long found.not_above_previous i + (send_long found.not_above_send i
      + (ahead_long found.ahead i + wrong_long (wrong_at log e) i))))
      ∙ sym (five_long (cause_row files nodes log full e (then_some found.behind cause.Behind))
      (cause_row files nodes log full e (option_map (λ d. cause.NotAbovePrevious d) found.not_above_previous))
      (cause_row files nodes log full e (option_map (λ d. cause.NotAboveSend d) found.not_above_send))
      (cause_row files nodes log full e (option_map (λ p. cause.Ahead p) found.ahead)) (wrong_row files nodes log e (wrong_at log e)))

pub groups_add_up : GroupsAddUp
groups_add_up files nodes log full causes groups are =
    are.all
    ∙ same_lengths (λ e. keyed_at log e (slice_index_or causes e no_causes)) (λ e. cause_rows_at files nodes log full e (slice_index_or causes e no_causes))
    (places_below (length log.events)) (λ e. as_many files nodes log full e (slice_index_or causes e no_causes))
