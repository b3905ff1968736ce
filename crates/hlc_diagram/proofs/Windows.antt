-- So many events about one.
use Rattle.std.proofs.Common.{◌≡◌, ℕ, ◌+◌, ◌-◌, ◌/◌, ◌<◌, ◌≤◌, ◌⊎◌, inl, inr, arith, ⊎_elim}
use Rattle.std.proofs.lemmas.Bool.{cases_lt}
use Rattle.hlc_diagram.specs.View.{AreAround, ViewsAreAround, end_around, first_around}

module _ (event number count : ℕ) (exists : event < count) (some : 0 < number) where
  abbrev first : ℕ
  first = first_around event number count

  abbrev end : ℕ
  end = end_around event number count

  evenly_before : (event - first ≤ end - 1 - event) ⊎ (end ≡ count)
  evenly_before = ⊎_elim (λ (ends : first + number < count). inl (omega arith)) (λ (reaches : count ≤ first + number). inr (omega arith))
      (cases_lt (first + number) count)

  evenly_after : (end - 1 - event ≤ event - first + 1) ⊎ (first ≡ 0)
  evenly_after = ⊎_elim (λ (at_start : event < (number - 1) / 2). inr (omega arith))
      (λ (inside : (number - 1) / 2 ≤ event). inl (omega arith)) (cases_lt event ((number - 1) / 2))

  are_around : AreAround event number count first end
  are_around = record {
    begun = omega arith;
    not_ended = omega arith;
    exist = omega arith;
    as_many = omega arith;
    before = evenly_before;
    after = evenly_after;
  }

pub views_are_around : ViewsAreAround
views_are_around event number count exists some = are_around event number count exists some
