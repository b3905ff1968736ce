-- Lines rise from record to record, as far as they are counted.
use Rattle.std.proofs.Common.{◌≡◌, ◌∙◌, ◌==◌, ◌&&◌, ◌||◌, ◌⊎◌, ◌<◌, ◌≤◌, ◌+◌, ℕ, zero, suc, Bool, true, false, if◌then◌else◌, List, [], ◌∷◌, ◌++◌, Some, ap, arith, eqb-true, inl, inr, leb, leb-true, refl, sym}
use Rattle.std.specs.Prelude.{max, min, not, slice_get, slice_index_or}
use Rattle.std.proofs.lemmas.Bool.{leb-false}
use Rattle.csv.specs.Machine.{in_field, is_end, start_field, step}
use Rattle.csv.specs.Reading.{default_config, strip_bom}
use Rattle.csv.specs.declared.parser.Action.{Action}
use Rattle.csv.specs.declared.parser.Action.TheVariants as act
use Rattle.csv.specs.declared.parser.State.{State}
use Rattle.csv.specs.declared.parser.State.TheVariants as st
use Rattle.hlc_csv.specs.Laws.{LinesAreTold}
use Rattle.hlc_csv.specs.RecordLines.{begins_record, ends_line, is_between, line_after, lines_from, record_lines, rising}
use Rattle.hlc_csv.specs.declared.found_record.TheConstants.{LAST_LINE}
use Rattle.hlc_csv.proofs.ByteFacts.{Begins, Between, Ends, IsWithin, Passes, Stays, Within, step_between, step_within}

-- each line is greater than the one before it, or is past those that are counted
Climbs : (before : ℕ) → List ℕ → Type 0
Climbs before [] = Unit {0}
Climbs before (line ∷ lines) = ((before < line) ⊎ (LAST_LINE ≤ line)) × Climbs line lines

-- so the line of each is told, as far as they are counted
told_by : (told before : ℕ) (lines : List ℕ) → (told ≡ before) ⊎ (LAST_LINE ≤ before) → Climbs before lines → (place line : ℕ)
    → slice_get lines place ≡ Some line → line < LAST_LINE → slice_index_or (rising told lines) place 0 ≡ line
unfolding Climbs
told_by told before [] at climbs place line is low = absurd (cc is)
told_by told before (l ∷ lines) at climbs zero line is low = by at climbs.0 where
  same : l ≡ line
  same = cc is

  by : (told ≡ before) ⊎ (LAST_LINE ≤ before) → (before < l) ⊎ (LAST_LINE ≤ l) → max l (told + 1) ≡ line
  by (inl here) (inl less) = omega (arith, same, here, less)
  by (inl here) (inr last) = absurd (omega (arith, same, last, low))
  by (inr past) (inl less) = absurd (omega (arith, same, past, less, low))
  by (inr past) (inr last) = absurd (omega (arith, same, last, low))
told_by told before (l ∷ lines) at climbs (suc place) line is low =
    told_by (max l (told + 1)) l lines (by at climbs.0) climbs.1 place line is low where
      by : (told ≡ before) ⊎ (LAST_LINE ≤ before) → (before < l) ⊎ (LAST_LINE ≤ l) → (max l (told + 1) ≡ l) ⊎ (LAST_LINE ≤ l)
      by (inl here) (inl less) = inl (omega (arith, here, less))
      by (inl here) (inr last) = inr last
      by (inr past) (inl less) = inr (omega (arith, past, less))
      by (inr past) (inr last) = inr last

-- after a byte within a record no line end is under way, unless it stands in quotation marks
data Follows (s : State) (after_cr : Bool) : Type 0 where
  InQuotes : s ≡ st.InQuoted → Follows s after_cr
  NoReturn : after_cr ≡ false → Follows s after_cr

not_13 : (c n : ℕ) → (c == n) ≡ true → (n ≡ 13 → ⊥) → (c == 13) ≡ false
not_13 c n is other = by (c == 13) refl where
  by : (test : Bool) → (c == 13) ≡ test → test ≡ false
  by false e = refl
  by true e = (let both : n ≡ 13 = sym (eqb-true c n is) ∙ eqb-true c 13 e in absurd (other both))

-- what a byte does: it ends a record, with a line; or no line end is under way after it, unless in quotation marks
data Does (s : State) (c : ℕ) (q : State × Action) : Type 0 where
  EndsLine : is_end q.1 ≡ true → ((c == 13) || (c == 10)) ≡ true → (s ≡ st.InQuoted → ⊥) → Does s c q
  GoesOn : is_end q.1 ≡ false → Follows q.0 (c == 13) → Does s c q

in_field_does : (s : State) (c : ℕ) → (s ≡ st.InQuoted → ⊥) → Does s c (in_field default_config c)
in_field_does s c other = by (c == 44) (c == 13) (c == 10) refl refl refl where
  by : (comma cr lf : Bool) → (c == 44) ≡ comma → (c == 13) ≡ cr → (c == 10) ≡ lf
      → Does s c (if comma then (st.StartField, act.EndField) else if cr || lf then (if cr then st.AfterCr else st.StartRecord, act.EndRecord) else (st.InField, act.Copy))
  by true cr lf at_comma at_cr at_lf = GoesOn refl (NoReturn (not_13 c 44 at_comma (λ e. absurd (omega (arith, e)))))
  by false true lf at_comma at_cr at_lf = EndsLine refl (rw at_cr refl) other
  by false false true at_comma at_cr at_lf = EndsLine refl (rw (at_cr, at_lf) refl) other
  by false false false at_comma at_cr at_lf = GoesOn refl (NoReturn at_cr)

start_field_does : (s : State) (c : ℕ) → (s ≡ st.InQuoted → ⊥) → Does s c (start_field default_config c)
start_field_does s c other = by (c == 34) where
  by : (quote : Bool) → Does s c (if quote then (st.InQuoted, act.Skip) else in_field default_config c)
  by true = GoesOn refl (InQuotes refl)
  by false = in_field_does s c other

in_quoted_does : (c : ℕ) → Does st.InQuoted c (step default_config st.InQuoted c)
in_quoted_does c = by (c == 34) refl where
  by : (quote : Bool) → (c == 34) ≡ quote → Does st.InQuoted c (if quote then (st.AfterQuote, act.Skip) else (st.InQuoted, act.Copy))
  by true is = GoesOn refl (NoReturn (not_13 c 34 is (λ e. absurd (omega (arith, e)))))
  by false is = GoesOn refl (InQuotes refl)

after_quote_does : (c : ℕ) → Does st.AfterQuote c (step default_config st.AfterQuote c)
after_quote_does c = by (c == 34) where
  by : (quote : Bool) → Does st.AfterQuote c (if quote then (st.InQuoted, act.Copy) else in_field default_config c)
  by true = GoesOn refl (InQuotes refl)
  by false = in_field_does st.AfterQuote c (λ e. absurd (cc e))

does : (s : State) (c : ℕ) → IsWithin s → Does s c (step default_config s c)
does st.StartRecord c h = absurd h
does st.StartField c h = start_field_does st.StartField c (λ e. absurd (cc e))
does st.InField c h = in_field_does st.InField c (λ e. absurd (cc e))
does st.InQuoted c h = in_quoted_does c
does st.AfterQuote c h = after_quote_does c
does st.InEscape c h = absurd h
does st.InComment c h = absurd h
does st.AfterCr c h = absurd h

-- where the machine may stand, with the line of the last record
data Stands (s : State) (after_cr : Bool) (line before : ℕ) : Type 0 where
  Apart : is_between s ≡ true → (before < line) ⊎ (LAST_LINE ≤ line) → Stands s after_cr line before
  Inside : IsWithin s → before ≤ line → Follows s after_cr → Stands s after_cr line before

line_grows : (after_cr : Bool) (line c : ℕ) → line ≤ LAST_LINE → (line ≤ line_after after_cr line c) × (line_after after_cr line c ≤ LAST_LINE)
line_grows after_cr line c low = by (ends_line after_cr c) where
  by : (ends : Bool) → (line ≤ (if ends then min (line + 1) LAST_LINE else line)) × ((if ends then min (line + 1) LAST_LINE else line) ≤ LAST_LINE)
  by true = (omega (arith, low), omega (arith, low))
  by false = (omega arith, low)

line_ends : (after_cr : Bool) (line c : ℕ) → after_cr ≡ false → ((c == 13) || (c == 10)) ≡ true → line_after after_cr line c ≡ min (line + 1) LAST_LINE
line_ends after_cr line c none is = rw none (by (c == 13) (c == 10) is) where
  by : (cr lf : Bool) → (cr || lf) ≡ true → (if cr || (lf && true) then min (line + 1) LAST_LINE else line) ≡ min (line + 1) LAST_LINE
  by true lf e = refl
  by false true e = refl
  by false false e = absurd (cc e)

-- within a record the machine doesn't stand between two
not_between : (s : State) → IsWithin s → is_between s ≡ false
not_between st.StartRecord h = absurd h
not_between st.StartField h = refl
not_between st.InField h = refl
not_between st.InQuoted h = refl
not_between st.AfterQuote h = refl
not_between st.InEscape h = absurd h
not_between st.InComment h = absurd h
not_between st.AfterCr h = absurd h

not_both : {b : Bool} → b ≡ true → b ≡ false → ⊥
not_both is isnt = (let bad : true ≡ false = sym is ∙ isnt in cc bad)

first_of_two : (a b : Bool) → (not a && not b) ≡ true → a ≡ false
first_of_two false b is = refl
first_of_two true b is = absurd (cc is)

module _ (s : State) (after_cr : Bool) (line before c : ℕ) (xs : List ℕ) (low : line ≤ LAST_LINE) where
  q : State × Action
  q = step default_config s c

  next : ℕ
  next = line_after after_cr line c

  -- the same for the bytes after this one
  Rest : Type 0
  Rest = (s : State) (after_cr : Bool) (line before : ℕ) → line ≤ LAST_LINE → Stands s after_cr line before → Climbs before (lines_from s after_cr line xs)

  abbrev Goal : Type 0
  Goal = Climbs before ((if begins_record s c then line ∷ [] else []) ++ lines_from q.0 (c == 13) next xs)

  grows : (line ≤ next) × (next ≤ LAST_LINE)
  unfolding next
  grows = line_grows after_cr line c low

  apart : is_between s ≡ true → (before < line) ⊎ (LAST_LINE ≤ line) → Rest → Between q (not (c == 13) && not (c == 10)) → Goal
  unfolding q Rest next Climbs
  apart between ahead rest (Passes none is) =
      let more = grows.0 in
      let ahead_still : (before < next) ⊎ (LAST_LINE ≤ next) = by ahead in
      rw (between, none) (rest q.0 (c == 13) next before grows.1 (Apart (ap (λ (q : State × Action). is_between q.0) is) ahead_still)) where
        by : (before < line) ⊎ (LAST_LINE ≤ line) → (before < next) ⊎ (LAST_LINE ≤ next)
        by (inl less) = inl (let more = grows.0 in omega (arith, less, more))
        by (inr last) = inr (let more = grows.0 in omega (arith, last, more))
  apart between ahead rest (Begins one on inside is) =
      rw (between, one) (ahead, rest q.0 (c == 13) next line grows.1 (Inside is grows.0 (NoReturn (first_of_two (c == 13) (c == 10) one))))

  no_return : Follows s after_cr → (s ≡ st.InQuoted → ⊥) → after_cr ≡ false
  no_return (InQuotes is) other = absurd (other is)
  no_return (NoReturn is) other = is

  within : IsWithin s → before ≤ line → Follows s after_cr → Rest → Within q → Does s c q → Goal
  unfolding q Rest next
  within h from follows rest (Ends end between) (EndsLine e ends other) =
      let is = line_ends after_cr line c (no_return follows other) ends in
      rw (not_between s h) (rest q.0 (c == 13) next before grows.1 (Apart between (by (line_after after_cr line c) is))) where
        by : (next : ℕ) → next ≡ min (line + 1) LAST_LINE → (before < next) ⊎ (LAST_LINE ≤ next)
        by next is = decide (leb (line + 1) LAST_LINE) refl where
          decide : (test : Bool) → leb (line + 1) LAST_LINE ≡ test → (before < next) ⊎ (LAST_LINE ≤ next)
          decide true small = inl (let less = leb-true (line + 1) LAST_LINE small in omega (arith, is, less, from))
          decide false great = inr (let more = leb-false (line + 1) LAST_LINE great in omega (arith, is, more))
  within h from follows rest (Ends end between) (GoesOn on after) = absurd (not_both end on)
  within h from follows rest (Stays on between is) (EndsLine e ends other) = absurd (not_both e on)
  within h from follows rest (Stays on between is) (GoesOn e after) =
      let more = grows.0 in
      rw (not_between s h) (rest q.0 (c == 13) next before grows.1 (Inside is (omega (arith, from, more)) after))

  step_climbs : Stands s after_cr line before → Rest → Goal
  unfolding q
  step_climbs (Apart between ahead) rest = apart between ahead rest (step_between s c between)
  step_climbs (Inside h from follows) rest = within h from follows rest (step_within s c h) (does s c h)

climbs : (s : State) (after_cr : Bool) (line before : ℕ) (xs : List ℕ) → line ≤ LAST_LINE → Stands s after_cr line before
    → Climbs before (lines_from s after_cr line xs)
unfolding Rest q next Climbs
climbs s after_cr line before [] low at = tt
climbs s after_cr line before (c ∷ xs) low at =
    step_climbs s after_cr line before c xs low at (λ s after_cr line before low at. climbs s after_cr line before xs low at)

pub lines_are_told : LinesAreTold
lines_are_told text place line is low =
    told_by 0 0 (record_lines text) (inl refl)
    (climbs st.StartRecord false 1 0 (strip_bom text) (omega arith) (Apart refl (inl (omega arith)))) place line is low
