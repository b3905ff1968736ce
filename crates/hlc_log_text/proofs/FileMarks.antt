-- The marks of files before a line.
use Rattle.std.proofs.Common.{◌≡◌, ◌∙◌, ℕ, zero, suc, ◌<◌, Bool, true, false, Bor, List, [], ◌∷◌, Option, Some, None, ap, arith, get_or, length, refl, sym, subst}
use Rattle.std.specs.Prelude.{IfSome, nat_lt, option_map}
use Rattle.std.proofs.lemmas.Bool.{ltb-true}
use Rattle.std.specs.Bool.{then_some}
use Rattle.std.specs.Option.{option_or}
use Rattle.hlc_log_text.specs.declared.file_mark.FileMark.{FileMark}
use Rattle.hlc_log_text.specs.Files.{mark_before}

-- a mark that isn't before a line is none of those that are
first_is_none : (mark : FileMark) (line : ℕ) (rest : Option FileMark) → nat_lt mark.line line ≡ false → rest ≡ None
    → option_or rest (then_some (nat_lt mark.line line) mark) ≡ None
first_is_none mark line rest late none =
    ap (λ (o : Option FileMark). option_or o (then_some (nat_lt mark.line line) mark)) none ∙ ap (λ (test : Bool). then_some test mark) late

-- no mark is before a line
pub none_before : (marks : List FileMark) (line : ℕ) → ((k : ℕ) (d : FileMark) → k < length marks → nat_lt (get_or marks k d).line line ≡ false)
    → mark_before marks line ≡ None
none_before [] line late = refl
none_before (mark ∷ marks) line late =
    first_is_none mark line (mark_before marks line) (late 0 mark (omega arith)) (none_before marks line (λ k d within. late (suc k) d (omega arith)))

-- a mark is, and none after it
pub last_before : (marks : List FileMark) (line i : ℕ) (d : FileMark) → i < length marks → nat_lt (get_or marks i d).line line ≡ true
    → ((k : ℕ) (d : FileMark) → i < k → k < length marks → nat_lt (get_or marks k d).line line ≡ false)
    → mark_before marks line ≡ Some (get_or marks i d)
last_before [] line i d within early late = absurd (omega arith)
last_before (mark ∷ marks) line zero d within early late =
    let rest = none_before marks line (λ k d within. late (suc k) d (omega arith) (omega arith)) in
    ap (λ (o : Option FileMark). option_or o (then_some (nat_lt mark.line line) mark)) rest ∙ ap (λ (test : Bool). then_some test mark) early
last_before (mark ∷ marks) line (suc i) d within early late =
    let rest = last_before marks line i d (omega arith) early (λ k d after within. late (suc k) d (omega arith) (omega arith)) in
    ap (λ (o : Option FileMark). option_or o (then_some (nat_lt mark.line line) mark)) rest

-- the mark before a line is on an earlier one
pub is_before : (marks : List FileMark) (line : ℕ) (mark : FileMark) → mark_before marks line ≡ Some mark → mark.line < line
is_before [] line mark is = absurd (cc)
is_before (first ∷ marks) line mark is = by_rest (mark_before marks line) refl (is_before marks line mark) is where
  by_test : (test : Bool) → nat_lt first.line line ≡ test → then_some test first ≡ Some mark → mark.line < line
  by_test false late is = absurd (cc)
  by_test true early is = let same : first ≡ mark = cc in subst (λ (m : FileMark). m.line < line) same (ltb-true first.line line early)

  by_rest : (rest : Option FileMark) → mark_before marks line ≡ rest → (mark_before marks line ≡ Some mark → mark.line < line)
      → option_or rest (then_some (nat_lt first.line line) first) ≡ Some mark → mark.line < line
  by_rest None none later is = by_test (nat_lt first.line line) refl is
  by_rest (Some last) found later is = later (found ∙ is)

-- so is one that is lent
pub lent_before : (marks : List FileMark) (line : ℕ) (lent : Option (Bor FileMark)) → option_map (λ (mark : Bor FileMark). mark.now) lent ≡ mark_before marks line
    → IfSome lent (λ mark. mark.now.line < line)
lent_before marks line None is = tt
lent_before marks line (Some mark) is = is_before marks line mark.now (sym is)
