use Rattle.std.proofs.Common.{◌≡◌, ◌∙◌, ap, subst, sym, refl, Ok, None, Bool, true, false}
use Rattle.hlc_table.specs.declared.entry.Entry.{Entry}
use Rattle.hlc_table.specs.Rows.{HoldsAtLeast, entry_at, is_news, learn_entry, rows_of_entries}
use Rattle.hlc_table.proofs.Learning.{holds_learnt, no_news_same}
use Rattle.hlc_table.proofs.Pairs.{learnt_inserted}
use Rattle.hlc_table.proofs.table.Table.learn.Goals as goal

-- at a known key
module _ (c : goal.After-learn_at) where
  abbrev new : Entry
  new = record { write = c.args.write; rank = c.args.rank }

  learns : c.learn_at.new.self ≡ learn_entry c.args.self.now c.args.key.now new
  learns = c.learn_at.ensures.learnt c.args.key.now c.in-Some.ensures.place

  news : c.learn_at.result ≡ is_news (entry_at c.args.self.now c.args.key.now) c.args.rank
  news = c.learn_at.ensures.news c.args.key.now c.in-Some.ensures.place

pub returns-in-Some-clause-learnt : goal.returns-in-Some-clause-learnt
returns-in-Some-clause-learnt c = learns c

pub returns-in-Some-clause-news : goal.returns-in-Some-clause-news
returns-in-Some-clause-news c = news c

pub returns-in-Some-clause-holds : goal.returns-in-Some-clause-holds
returns-in-Some-clause-holds c =
    let holds = holds_learnt c.args.self.now c.args.key.now (new c) c.requires.one_write_a_rank in
    subst (λ rows. HoldsAtLeast rows c.args.key.now (new c)) (sym (learns c)) holds

pub returns-in-Some-clause-unchanged : goal.returns-in-Some-clause-unchanged
returns-in-Some-clause-unchanged c other = by c.learn_at.result refl where
  by : (is : Bool) → c.learn_at.result ≡ is → c.learn_at.new.self ≡ c.args.self.now
  by true is = absurd (other (ap Ok is))
  by false is = learns c ∙ no_news_same c.args.self.now c.args.key.now (new c) (sym (news c) ∙ is)

-- at a new key
module _ (c : goal.In_ok-insert-in-None) where
  abbrev first : Entry
  first = record { write = c.args.write; rank = c.args.rank }

  none : entry_at (rows_of_entries c.self.inside.entries.entries) c.args.key.now ≡ None
  none = ap (λ rows. entry_at rows c.args.key.now) c.self.view_is ∙ sym c.in-None.ensures.entry

  becomes_longer :
      learn_entry (rows_of_entries c.self.inside.entries.entries) c.args.key.now first
      ≡ rows_of_entries c.insert.new.self.entries
  becomes_longer =
      let inserted = rw c.in_ok-key-in-None.ensures.ok at c.in_ok-insert-in-None.ensures.entries in
      learnt_inserted c.self.inside.entries.entries c.args.key.now first none ∙ ap rows_of_entries (sym inserted)

pub returns-in_ok-insert-in-None-clause-learnt : goal.returns-in_ok-insert-in-None-clause-learnt
returns-in_ok-insert-in-None-clause-learnt c = rw (← c.self.view_is) (sym (becomes_longer c))

pub returns-in_ok-insert-in-None-clause-news : goal.returns-in_ok-insert-in-None-clause-news
returns-in_ok-insert-in-None-clause-news c = rw (← c.in-None.ensures.entry) refl

pub returns-in_ok-insert-in-None-clause-holds : goal.returns-in_ok-insert-in-None-clause-holds
returns-in_ok-insert-in-None-clause-holds c =
    let one_write = rw (← c.self.view_is) at c.requires.one_write_a_rank in
    rw (becomes_longer c) at (holds_learnt (rows_of_entries c.self.inside.entries.entries) c.args.key.now (first c) one_write)

pub returns-in_err-key-in-None-clause-known : goal.returns-in_err-key-in-None-clause-known
returns-in_err-key-in-None-clause-known c = rw (← c.in-None.ensures.entry) (λ some. absurd (cc))

pub returns-in_err-insert-in-None-clause-known : goal.returns-in_err-insert-in-None-clause-known
returns-in_err-insert-in-None-clause-known c = rw (← c.in-None.ensures.entry) (λ some. absurd (cc))
