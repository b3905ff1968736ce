use Rattle.std.proofs.Common.{◌≡◌, ◌∙◌, ap, sym, arith, Some, List, ℕ, Bool, cond}
use Rattle.std.proofs.lemmas.Bool.Decides.{nat_tests}
use Rattle.indexmap.specs.IndexMap.{set_value_at}
use Rattle.hlc_table.specs.declared.entry.Entry.{Entry}
use Rattle.hlc_table.specs.Rows.{IsPlaceOf, Row, entry_at, learn_entry, ranks_below, rows_of_entries}
use Rattle.hlc_table.proofs.Pairs.{Pairs, held_at_place, learnt_at}
use Rattle.hlc_table.proofs.table.Table.learn_at.Goals as goal
use Rattle.hlc_table.proofs.table.Table.learn_at.Goals.{then-is_news, else-is_news}

module _ (c : goal.Joined-is_news) (key : List ℕ) (at : IsPlaceOf (rows_of_entries c.self.inside.entries.entries) key c.args.place) where
  abbrev pairs : Pairs
  pairs = c.self.inside.entries.entries

  abbrev held : Entry
  held = c.index_mut-held.result.now

  abbrev new : Entry
  new = c.args.entry

  found : entry_at (rows_of_entries pairs) key ≡ Some held
  found = sym (held_at_place pairs key c.args.place at) ∙ c.index_mut-held.ensures.value

  below : c.lt-is_news.result ≡ ranks_below held new
  below = c.lt-is_news.ensures ∙ grind (arith, nat_tests)

  becomes : learn_entry (rows_of_entries pairs) key new ≡ rows_of_entries c.if-is_news.self-inside.entries.entries
  becomes =
      let at_place : Entry → List Row = λ entry. rows_of_entries (set_value_at pairs c.args.place entry) in
      let of_news : Bool → List Row = λ is_news. at_place (cond is_news new held) in
      let greater : learn_entry (rows_of_entries pairs) key new ≡ of_news (ranks_below held new) =
      learnt_at pairs key held new c.args.place at found in
      elim c.if-is_news.branch [
        | then-is_news w ↦
            greater
            ∙ ap of_news (sym below ∙ w.if-is_news.true)
            ∙ ap (λ inside. rows_of_entries inside.entries.entries) (sym w.self-inside-is)
        | else-is_news w ↦
            greater
            ∙ ap of_news (sym below ∙ w.if-is_news.false)
            ∙ ap (λ inside. rows_of_entries inside.entries.entries) (sym w.self-inside-is)
      ]

pub returns-clause-learnt : goal.returns-clause-learnt
returns-clause-learnt c = rw (← c.self.view_is) (λ key at. sym (becomes c key at))

pub returns-clause-news : goal.returns-clause-news
returns-clause-news c = rw (← c.self.view_is) (λ key at. rw (found c key at) (grind (arith, below c key at)))
