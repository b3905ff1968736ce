-- What a read of a record adds to those that were read.
use Rattle.std.proofs.Common.{◌≡◌, ℕ, ◌≤◌, List, [], ◌∷◌, ◌++◌, Option, Some, None, true, arith, length, refl, sym, ◌∙◌, ap}
use Rattle.std.specs.Prelude.{option_map}
use Rattle.csv.specs.Reading.{ReadRecord, ReadsOn, Reached, default_config, reader_state, source_of, strip_bom}
use Rattle.csv.specs.Machine.{Read, next_record}
use Rattle.csv.specs.declared.parser.Config.{Config}
use Rattle.csv.specs.declared.parser.State.{State}
use Rattle.csv.specs.declared.parser.State.TheVariants as st
use Rattle.csv.specs.declared.reader.Reader.{Reader}
use Rattle.csv.proofs.ReadFacts.{rows-more}
use Rattle.hlc_csv.specs.Rows.{Fields}
use Rattle.hlc_csv.specs.Records.{AreAllOf, BeginsWith, HasRead, IsOnly, IsScript}

pub has_read-start : {R : Type 0} (rem : R → Option (List ℕ)) (r : Reader R) (bytes : Option (List ℕ))
    → source_of rem r ≡ option_map strip_bom bytes → reader_state r ≡ st.StartRecord → HasRead rem r bytes []
unfolding Reached
has_read-start rem r None source start = tt
has_read-start rem r (Some xs) source start = (strip_bom xs, source, (sym start, refl))

pub has_read-more : {R : Type 0} (rem : R → Option (List ℕ)) (a b : Reader R) (f : Fields) (bytes : Option (List ℕ)) (rows : List Fields)
    → IsScript a → ReadRecord rem a b true f → HasRead rem a bytes rows → HasRead rem b bytes (rows ++ f ∷ [])
has_read-more rem a b f None rows s r h = tt
has_read-more rem a b f (Some xs) rows s r h = rows-more rem a b f default_config st.StartRecord (strip_bom xs) h.0 rows s.config h.1 h.2 r

-- what was read is what the bytes begin with
pub has_read-begins : {R : Type 0} (rem : R → Option (List ℕ)) (r : Reader R) (bytes : Option (List ℕ)) (rows : List Fields)
    → HasRead rem r bytes rows → BeginsWith bytes rows
has_read-begins rem r None rows h = tt
has_read-begins rem r (Some xs) rows h = (reader_state r, h.0, h.2)

-- two readings of one text are the same
reached-only : (cfg : Config) (s : State) (xs : List ℕ) (r1 r2 : List Fields) (s1 s2 : State) (y1 y2 : List ℕ)
    → Reached cfg s xs r1 s1 y1 → next_record cfg s1 [] [] y1 ≡ None → Reached cfg s xs r2 s2 y2 → next_record cfg s2 [] [] y2 ≡ None
    → r1 ≡ r2
unfolding Reached
reached-only cfg s xs [] [] s1 s2 y1 y2 a an b bn = refl
reached-only cfg s xs [] (r ∷ rs) s1 s2 y1 y2 a an b bn =
    let none : next_record cfg s [] [] xs ≡ None = rw (a.0, a.1) an in
    let bad : ◌≡◌ {A = Option Read} (Some b.0) None = sym b.1 ∙ none in cc bad
reached-only cfg s xs (r ∷ rs) [] s1 s2 y1 y2 a an b bn =
    let none : next_record cfg s [] [] xs ≡ None = rw (b.0, b.1) bn in
    let bad : ◌≡◌ {A = Option Read} (Some a.0) None = sym a.1 ∙ none in cc bad
reached-only cfg s xs (r ∷ rs) (t ∷ ts) s1 s2 y1 y2 a an b bn =
    let both : ◌≡◌ {A = Option Read} (Some a.0) (Some b.0) = sym a.1 ∙ b.1 in
    let same : a.0 ≡ b.0 = cc both in
    let here : r ≡ t = a.2 ∙ ap (λ (p : Read). p.0) same ∙ sym b.2 in
    let there : Reached cfg a.0.1 a.0.2 ts s2 y2 = rw same b.3 in
    let rest = reached-only cfg a.0.1 a.0.2 rs ts s1 s2 y1 y2 a.3 an there bn in
    rw (here, rest) refl

pub are_all-only : (bytes : Option (List ℕ)) (rows : List Fields) → AreAllOf bytes rows → IsOnly bytes rows
are_all-only None rows h = tt
are_all-only (Some xs) rows h =
    λ others o. reached-only default_config st.StartRecord (strip_bom xs) others rows o.0 h.0 o.1 h.1 o.2 o.3 h.2 h.3

-- what a text begins with is no longer than all of it
reached_within : (cfg : Config) (s : State) (xs : List ℕ) (r1 r2 : List Fields) (s1 s2 : State) (y1 y2 : List ℕ)
    → Reached cfg s xs r1 s1 y1 → Reached cfg s xs r2 s2 y2 → next_record cfg s2 [] [] y2 ≡ None → length r1 ≤ length r2
unfolding Reached
reached_within cfg s xs [] r2 s1 s2 y1 y2 a b none = omega arith
reached_within cfg s xs (r ∷ rs) [] s1 s2 y1 y2 a b none =
    let end : next_record cfg s [] [] xs ≡ None = rw (b.0, b.1) none in
    let bad : ◌≡◌ {A = Option Read} (Some a.0) None = sym a.1 ∙ end in cc bad
reached_within cfg s xs (r ∷ rs) (t ∷ ts) s1 s2 y1 y2 a b none =
    let both : ◌≡◌ {A = Option Read} (Some a.0) (Some b.0) = sym a.1 ∙ b.1 in
    let same : a.0 ≡ b.0 = cc both in
    let there : Reached cfg a.0.1 a.0.2 ts s2 y2 = rw same b.3 in
    let rest = reached_within cfg a.0.1 a.0.2 rs ts s1 s2 y1 y2 a.3 there none in
    omega arith

pub begins_within : (bytes : List ℕ) (some all : List Fields) → BeginsWith (Some bytes) some → AreAllOf (Some bytes) all
    → length some ≤ length all
begins_within bytes some all begins are =
    reached_within default_config st.StartRecord (strip_bom bytes) some all begins.0 are.0 begins.1 are.1 begins.2 are.2 are.3

-- a record that was read leaves the reader one of a script
pub is_script-read : {R : Type 0} (rem : R → Option (List ℕ)) (a b : Reader R) (f : Fields)
    → IsScript a → ReadRecord rem a b true f → ReadsOn a b → IsScript b
is_script-read rem a b f s r on = record {
  config = r.2 ∙ s.config;
  trim = r.3 ∙ s.trim;
  ready = (on.4 s.ready).0;
}
