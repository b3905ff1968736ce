-- Which of two events stands before the other.
use Rattle.std.proofs.Common.{◌≡◌, ℕ, ◌<◌, ◌⊎◌, inl, inr, List, length, arith, sym, ap}
use Rattle.std.proofs.lemmas.Bool.{cases_order}
use Rattle.hlc_log.specs.declared.log_event.LogEvent.{LogEvent}
use Rattle.hlc_log.specs.Standing.{SeqsRise, StandsBefore, seq_at}

module _ (events : List LogEvent) where
  pub not_before_itself : (d e : ℕ) → d ≡ e → ¬ StandsBefore events d e
  not_before_itself d e same (inl lt) = let seqs : seq_at events d ≡ seq_at events e = ap (seq_at events) same in omega arith
  not_before_itself d e same (inr (seqs, lt)) = omega arith

  pub stands_one_way : (d e : ℕ) → StandsBefore events d e → ¬ StandsBefore events e d
  stands_one_way d e (inl lt) (inl gt) = omega arith
  stands_one_way d e (inl lt) (inr (seqs, gt)) = omega arith
  stands_one_way d e (inr (seqs, lt)) (inl gt) = omega arith
  stands_one_way d e (inr (seqs, lt)) (inr (same, gt)) = omega arith

  -- one of two different events stands before the other
  pub stands_either_way : (d e : ℕ) → ¬ (d ≡ e) → StandsBefore events d e ⊎ StandsBefore events e d
  stands_either_way d e differ = elim (cases_order (seq_at events d) (seq_at events e)) [
    | inl seqs ↦ elim (cases_order d e) [
      | inl same ↦ absurd (differ same)
      | inr places ↦ elim places [ inl lt ↦ inl (inr (seqs, lt)) | inr gt ↦ inr (inr (sym seqs, gt)) ]
    ]
    | inr seqs ↦ elim seqs [ inl lt ↦ inl (inl lt) | inr gt ↦ inr (inl gt) ]
  ]

  -- where no seq says otherwise, events stand by their places
  module _ (rise : SeqsRise events) where
    pub stands_by_place : (d e : ℕ) → d < length events → StandsBefore events d e → d < e
    stands_by_place d e lt (inr (seqs, before)) = before
    stands_by_place d e lt (inl seqs) = elim (cases_order d e) [
      | inl same ↦ absurd (not_before_itself d e same (inl seqs))
      | inr places ↦ elim places [ inl before ↦ before | inr after ↦ let bad = rise e d after lt in absurd (omega arith) ]
    ]

    pub place_stands : (d e : ℕ) → d < e → e < length events → StandsBefore events d e
    place_stands d e lt exists = elim (cases_order (seq_at events d) (seq_at events e)) [
      | inl seqs ↦ inr (seqs, lt)
      | inr seqs ↦ elim seqs [ inl below ↦ inl below | inr above ↦ let bad = rise d e lt exists in absurd (omega arith) ]
    ]

  pub no_seqs_rise : ((e : ℕ) → e < length events → seq_at events e ≡ 0) → SeqsRise events
  no_seqs_rise none e f lt exists = let first = none e (omega arith) in omega arith
