use Rattle.std.proofs.Common.{◌≡◌, ◌∙◌, ℕ, ◌+◌, ◌-◌, ◌*◌, ◌≤◌, ◌++◌, ◌∷◌, [], List, arith, ap, length, subst, sym}
use Rattle.std.proofs.lemmas.Result.{err_from_is_err_and}
use Rattle.std.specs.Prelude.{slice_index_or}
use Rattle.hlc_figures.specs.Columns.{column_from, places_from}
use Rattle.hlc_figures.proofs.BegunColumns.{next_begins, one_more, one_more_begins, stays_bounded}
use Rattle.hlc_figures.proofs.columns.columns.Goals as goal

pub loop-column-preserved : goal.loop-column-preserved
loop-column-preserved g c =
    let l = c.loop-column in
    let of = g.S.Subject.content c.args.subject.now in
    let places = places_from c.args.first (c.args.end - c.args.first) in
    let begins = column_from of places c.args.start in
    let x = l.x + 8 * (c.from.result + 2) in
    let all : c.push.new.self.items ≡ l.columns.items ++ x ∷ [] = c.in_ok-push.ensures.items in
    let at = next_begins of places c.args.start l.column l.x c.from.result c.widest.result l.invariant.at c.from.ensures c.widest.ensures in
    record {
      bounded = stays_bounded l.x c.args.start l.column c.from.result c.widest.result l.invariant.bounded c.from.ensures c.widest.type_inv;
      at = at;
      each_begins = ap (λ (xs : List ℕ). length xs) all ∙ one_more l.columns.items x l.column l.invariant.each_begins;
      begin = λ k le. subst (λ (xs : List ℕ). slice_index_or xs k 0 ≡ begins k) (sym all)
          (one_more_begins begins l.columns.items l.column x l.invariant.each_begins l.invariant.begin at k le);
    }

pub returns : goal.returns
returns g c =
    let l = c.loop-column in
    let of = g.S.Subject.content c.args.subject.now in
    let begins = column_from of (places_from c.args.first (c.args.end - c.args.first)) c.args.start in
    let last : l.column ≡ of.columns = omega arith in
    record {
      each_begins = l.invariant.each_begins ∙ ap (λ (n : ℕ). n + 1) last;
      begin = subst (λ (n : ℕ). (k : ℕ) → k ≤ n → slice_index_or l.columns.items k 0 ≡ begins k) last l.invariant.begin;
    }

pub returns-in_err-columns : goal.returns-in_err-columns
returns-in_err-columns g c = rw (err_from_is_err_and c.from_residual.result c.from_residual.ensures.1).1 tt

pub returns-in_err-push : goal.returns-in_err-push
returns-in_err-push g c = rw (err_from_is_err_and c.from_residual-in_err-push.result c.from_residual-in_err-push.ensures.1).1 tt
