-- Where the records of a text end.
use Rattle.std.proofs.Common.{◌≡◌, ◌∙◌, ℕ, Bool, true, List, [], ◌∷◌, ◌++◌, Option, Some, None, ap, refl, sym, subst}
use Rattle.csv.specs.Machine.{Read, field_after, fields_after, is_end, next_record, step}
use Rattle.csv.specs.Reading.{Reached, default_config}
use Rattle.csv.specs.declared.parser.Action.{Action}
use Rattle.csv.specs.declared.parser.Action.TheVariants as act
use Rattle.csv.specs.declared.parser.State.{State}
use Rattle.csv.specs.declared.parser.State.TheVariants as st
use Rattle.hlc_csv.specs.Rows.{Fields}
use Rattle.hlc_csv.specs.RecordLines.{is_between}
use Rattle.hlc_csv.specs.TextEnd.{state_after}
use Rattle.hlc_csv.proofs.ByteFacts.{Begins, Between, Ends, IsWithin, Passes, Stays, Within, next-ends, next-stays, step_between, step_within}

within-step : (s : State) (f : Fields) (p : List ℕ) (c : ℕ) (xs : List ℕ) → Within (step default_config s c)
    → next_record default_config s f p (c ∷ xs) ≡ None
    → (IsWithin (step default_config s c).0
    → next_record default_config (step default_config s c).0 (fields_after (step default_config s c).1 f p) (field_after (step default_config s c).1 c p) xs ≡ None
    → ⊥) → ⊥
within-step s f p c xs (Ends end between) none more =
    (let bad : ◌≡◌ {A = Option Read} (Some (fields_after (step default_config s c).1 f p, (step default_config s c).0, xs)) None =
    sym (next-ends s f p c xs end) ∙ none in cc bad)
within-step s f p c xs (Stays on inside is) none more = more is (sym (next-stays s f p c xs on) ∙ none)

-- a record that is under way ends in any text
within_ends : (s : State) → IsWithin s → (f : Fields) (p xs : List ℕ) → next_record default_config s f p xs ≡ None → ⊥
unfolding next_record
within_ends st.StartRecord h f p [] none = absurd h
within_ends st.StartField h f p [] none = (let bad : ◌≡◌ {A = Option Read} (Some (f ++ p ∷ [], st.StartRecord, [])) None = none in cc bad)
within_ends st.InField h f p [] none = (let bad : ◌≡◌ {A = Option Read} (Some (f ++ p ∷ [], st.StartRecord, [])) None = none in cc bad)
within_ends st.InQuoted h f p [] none = (let bad : ◌≡◌ {A = Option Read} (Some (f ++ p ∷ [], st.StartRecord, [])) None = none in cc bad)
within_ends st.AfterQuote h f p [] none = (let bad : ◌≡◌ {A = Option Read} (Some (f ++ p ∷ [], st.StartRecord, [])) None = none in cc bad)
within_ends st.InEscape h f p [] none = absurd h
within_ends st.InComment h f p [] none = absurd h
within_ends st.AfterCr h f p [] none = absurd h
within_ends s h f p (c ∷ xs) none =
    within-step s f p c xs (step_within s c h) none
    (λ is. within_ends (step default_config s c).0 is (fields_after (step default_config s c).1 f p) (field_after (step default_config s c).1 c p) xs)

-- a byte that is passed over
next-passes : (s : State) (c : ℕ) (xs : List ℕ) → step default_config s c ≡ (st.StartRecord, act.Skip)
    → next_record default_config s [] [] (c ∷ xs) ≡ next_record default_config st.StartRecord [] [] xs
next-passes s c xs is =
    next-stays s [] [] c xs (ap (λ (q : State × Action). is_end q.1) is)
    ∙ (λ i. next_record default_config (is i).0 (fields_after (is i).1 [] []) (field_after (is i).1 c []) xs)

none-step : (s : State) (c : ℕ) (xs : List ℕ) {begins : Bool} → Between (step default_config s c) begins
    → next_record default_config s [] [] (c ∷ xs) ≡ None
    → (next_record default_config st.StartRecord [] [] xs ≡ None → is_between (state_after st.StartRecord xs) ≡ true)
    → is_between (state_after (step default_config s c).0 xs) ≡ true
none-step s c xs (Passes other is) none more =
    ap (λ (q : State × Action). is_between (state_after q.0 xs)) is ∙ more (sym (next-passes s c xs is) ∙ none)
none-step s c xs (Begins one on inside is) none more =
    absurd (within_ends (step default_config s c).0 is (fields_after (step default_config s c).1 [] []) (field_after (step default_config s c).1 c []) xs
    (sym (next-stays s [] [] c xs on) ∙ none))

-- if a text has no more records, it ends between them
pub none_ends : (s : State) → is_between s ≡ true → (xs : List ℕ) → next_record default_config s [] [] xs ≡ None → is_between (state_after s xs) ≡ true
none_ends s between [] none = between
none_ends s between (c ∷ xs) none = none-step s c xs (step_between s c between) none (none_ends st.StartRecord refl xs)

-- two ways to the same records end alike
pub same_end : (s : State) (xs : List ℕ) (records : List Fields) (s1 s2 : State) (y1 y2 : List ℕ) → Reached default_config s xs records s1 y1
    → Reached default_config s xs records s2 y2 → next_record default_config s2 [] [] y2 ≡ None → next_record default_config s1 [] [] y1 ≡ None
unfolding Reached
same_end s xs [] s1 s2 y1 y2 a b none =
    sym (λ i. next_record default_config (a.0 i) [] [] (a.1 i)) ∙ (λ i. next_record default_config (b.0 i) [] [] (b.1 i)) ∙ none
same_end s xs (r ∷ records) s1 s2 y1 y2 a b none =
    let both : ◌≡◌ {A = Option Read} (Some b.0) (Some a.0) = sym b.1 ∙ a.1 in
    let same : b.0 ≡ a.0 = cc both in
    let there = subst (λ (q : Read). Reached default_config q.1 q.2 records s2 y2) same b.3 in
    same_end a.0.1 a.0.2 records s1 s2 y1 y2 a.3 there none
