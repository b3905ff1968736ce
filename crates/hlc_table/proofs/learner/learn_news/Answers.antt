use Rattle.std.proofs.Common.{◌≡◌, ◌∙◌, ◌+◌, List, ap, drop, fold, get_or, position, subst, sym, Some}
use Rattle.std.proofs.lemmas.List.{at_drop_more}
use Rattle.std.specs.Str.{bytes_eq}
use Rattle.hlc_table.specs.Rows.{IsPlaceOf, Row, keys_in, learn_entry}
use Rattle.hlc_table.specs.declared.news.News.{News}
use Rattle.hlc_table.specs.TableNews.{key_in}
use Rattle.hlc_table.proofs.NewsLearnt.{keys_stay, no_one}
use Rattle.hlc_table.proofs.learner.learn_news.Goals as goal

pub loop-one-preserved : goal.loop-one-preserved
loop-one-preserved c =
    let at = c.loop-one.one-index in
    let table = c.loop-one.table in
    let one : News = get_or c.args.news.now at no_one in
    let key = key_in c.args.table.now one.place in
    let had_place = (c.requires at no_one c.loop-one-test.true).1 in
    let place : IsPlaceOf table key one.place =
    subst (λ keys. position (bytes_eq key) keys ≡ Some one.place) (sym c.loop-one.invariant.keys) had_place in
    let step : c.learn_at.new.self ≡ learn_entry table key one.entry = c.learn_at.ensures.learnt key place in
    let learn : List Row → News → List Row = λ before n. learn_entry before (key_in c.args.table.now n.place) n.entry in
    record {
      left =
          ap (λ (rows : List Row). fold learn rows (drop (at + 1) c.args.news.now)) step
          ∙ sym (at_drop_more (λ (left : List News). fold learn table left) c.args.news.now at no_one c.loop-one-test.true)
          ∙ c.loop-one.invariant.left;
      keys = ap keys_in step ∙ keys_stay table key one.place one.entry place ∙ c.loop-one.invariant.keys;
    }
