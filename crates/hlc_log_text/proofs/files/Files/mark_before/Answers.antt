use Rattle.std.proofs.Common.{◌≡◌, ◌∙◌, ℕ, ◌<◌, ◌-◌, true, false, Bor, List, [], Option, Some, None, ap, arith, get_or, length, rules, subst, sym}
use Rattle.std.specs.Prelude.{nat_lt, option_map}
use Rattle.std.specs.Slice.{IsItemAt}
use Rattle.std.specs.List.Sorted.{IsNonDecreasingBy}
use Rattle.std.proofs.lemmas.List.Sorted.{IsPartitionPoint-from_clause, IsPartitionedBy-ltb}
use Rattle.hlc_log_text.specs.declared.file_mark.FileMark.{FileMark}
use Rattle.hlc_log_text.specs.Files.{MarksRise, mark_before}
use Rattle.hlc_log_text.proofs.FileMarks.{last_before, lent_before, none_before}
use Rattle.hlc_log_text.proofs.files.Files.mark_before.Goals as goal

-- marks whose lines rise don't fall
rise : (marks : List FileMark) → MarksRise marks → IsNonDecreasingBy (λ (mark : FileMark). mark.line) marks
rise marks rising i j d order within = grind (arith, rising i j d)

-- any mark
abbrev no_mark : FileMark
no_mark = record { name = []; line = 0 }

-- the mark that is lent from a place where there is one
lent_is : (lent : Option (Bor FileMark)) (marks : List FileMark) (i : ℕ) → IsItemAt marks i lent → i < length marks
    → option_map (λ (mark : Bor FileMark). mark.now) lent ≡ Some (get_or marks i no_mark)
lent_is None marks i is within = absurd (cc (is.2 within))
lent_is (Some mark) marks i is within = ap (λ (m : FileMark). Some m) (is.4 (omega arith) no_mark)

pub returns-then-before-eq0-clause-mark : goal.returns-then-before-eq0-clause-mark
returns-then-before-eq0-clause-mark c =
    let marks = c.deref.result.now in
    let line = c.args.line in
    let splits = IsPartitionPoint-from_clause (λ (mark : FileMark). nat_lt mark.line line) marks c.partition_point-before.result
    c.partition_point-before.ensures.partitioned
    (IsPartitionedBy-ltb (λ (mark : FileMark). mark.line) marks line (subst (IsNonDecreasingBy (λ (mark : FileMark). mark.line)) (sym c.deref.ensures.value) (rise c.self.inside.marks.items c.self.invariant)))
    (λ mark r f' called. search rules) in
    sym (ap (λ (marks : List FileMark). mark_before marks line) (sym c.self.view_is ∙ sym c.deref.ensures.value)
    ∙ none_before marks line (λ k d within. splits.1 k d (omega (arith, c.if-before-eq0.true)) within))

last_is : (c : goal.After-get) → option_map (λ (mark : Bor FileMark). mark.now) c.get.result ≡ mark_before c.args.self.now c.args.line
last_is c =
    let marks = c.deref.result.now in
    let line = c.args.line in
    let at = c.partition_point-before.result in
    let splits = IsPartitionPoint-from_clause (λ (mark : FileMark). nat_lt mark.line line) marks at
    c.partition_point-before.ensures.partitioned
    (IsPartitionedBy-ltb (λ (mark : FileMark). mark.line) marks line (subst (IsNonDecreasingBy (λ (mark : FileMark). mark.line)) (sym c.deref.ensures.value) (rise c.self.inside.marks.items c.self.invariant)))
    (λ mark r f' called. search rules) in
    let within : at - 1 < length marks = omega (arith, c.if-before-eq0.false, c.partition_point-before.ensures.bound) in
    let early : (d : FileMark) → nat_lt (get_or marks (at - 1) d).line line ≡ true =
    λ d. splits.0 (at - 1) d (omega arith) (omega (arith, c.if-before-eq0.false)) in
    let late : (k : ℕ) (d : FileMark) → at - 1 < k → k < length marks → nat_lt (get_or marks k d).line line ≡ false =
    λ k d after inside. splits.1 k d (omega arith) inside in
    let lent = subst (λ (marks : List FileMark). IsItemAt marks (at - 1) c.get.result) (c.deref-2.ensures.value ∙ sym c.deref.ensures.value) c.get.ensures.lookup in
    lent_is c.get.result marks (at - 1) lent within
    ∙ sym (ap (λ (marks : List FileMark). mark_before marks line) (sym c.self.view_is ∙ sym c.deref.ensures.value)
    ∙ last_before marks line (at - 1) no_mark within (early no_mark) late)

pub returns-clause-mark : goal.returns-clause-mark
returns-clause-mark c = last_is c

pub returns-clause-before : goal.returns-clause-before
returns-clause-before c = lent_before c.args.self.now c.args.line c.get.result (last_is c)
