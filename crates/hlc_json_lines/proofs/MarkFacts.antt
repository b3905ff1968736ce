-- A line with a byte order mark at its beginning, or without one.
use Rattle.std.proofs.Common.{◌≡◌, ◌∙◌, ◌==◌, ◌&&◌, ℕ, Bool, true, false, List, [], ◌∷◌, ◌++◌, drop, eqb-true, refl, sym, ap}
use Rattle.std.specs.Prelude.{if◌then◌else◌}
use Rattle.std.specs.List.{starts_with}
use Rattle.std.proofs.lemmas.Bool.{and_parts, false≢true}
use Rattle.std.proofs.lemmas.Bool.Decides.{Decides-eqb}
use Rattle.std.proofs.lemmas.Slice.Eq.{starts_is}
use Rattle.csv.specs.Reading.{is_bom, strip_bom}
use Rattle.hlc_csv.specs.TextReader.{byte_order_mark}

strips_mark : (rest : List ℕ) → strip_bom (byte_order_mark ++ rest) ≡ rest
unfolding strip_bom
strips_mark rest = refl

-- the mark is taken away
pub with-mark : (line : List ℕ) (test : Bool) → test ≡ starts_with (λ a b. a == b) line byte_order_mark → test ≡ true → strip_bom line ≡ drop 3 line
with-mark line test is begins = ap strip_bom ((starts_is Decides-eqb line byte_order_mark test is).0 begins) ∙ strips_mark (drop 3 line)

strips_none : (line : List ℕ) → ((rest : List ℕ) → line ≡ byte_order_mark ++ rest → ⊥) → strip_bom line ≡ line
unfolding strip_bom
strips_none [] other = refl
strips_none (a ∷ []) other = refl
strips_none (a ∷ b ∷ []) other = refl
strips_none (a ∷ b ∷ c ∷ rest) other = by (is_bom a b c) refl where
  by : (test : Bool) → is_bom a b c ≡ test → (if test then rest else a ∷ b ∷ c ∷ rest) ≡ a ∷ b ∷ c ∷ rest
  by false is = refl
  by true is =
      let all = and_parts ((a == 239) && (b == 187)) (c == 191) is in
      let two = and_parts (a == 239) (b == 187) all.0 in
      let at_a = eqb-true a 239 two.0 in
      let at_b = eqb-true b 187 two.1 in
      let at_c = eqb-true c 191 all.1 in
      absurd (other rest (λ i. at_a i ∷ at_b i ∷ at_c i ∷ rest))

-- a line without one stays
pub without-mark : (line : List ℕ) (test : Bool) → test ≡ starts_with (λ a b. a == b) line byte_order_mark → test ≡ false → strip_bom line ≡ line
without-mark line test is fails = strips_none line (λ rest begins. false≢true (sym fails ∙ (starts_is Decides-eqb line byte_order_mark test is).1 rest begins))
