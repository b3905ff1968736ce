use Rattle.std.proofs.Common.{Bor, List, ℕ, Option, None, Some, ap, map, refl, rules, tests, ◌≡◌, ◌∙◌}
use Rattle.std.specs.Prelude.{bytes_eq, option_map}
use Rattle.std.specs.List.{find}
use Rattle.std.proofs.lemmas.Iterator.{YieldsList-from_slice}
use Rattle.std.proofs.lemmas.Iterator.Search.{find_from_yields_List}
use Rattle.hlc_text.specs.Statement.{spellings}
use Rattle.hlc_text.specs.declared.word.Word.{Word}
use Rattle.hlc_text.proofs.Finding.{find-map}
use Rattle.hlc_text.proofs.word.Word.parse.Goals as goal

-- a spelling of the program, without where its bytes lie
abbrev Spelling : Type 0
Spelling = Bor (List ℕ) × Word

abbrev plain : Spelling → List ℕ × Word
plain s = (s.0.now, s.1)

word_of-plain : (o : Option Spelling) → option_map (λ s. s.1) o ≡ option_map (λ s. s.1) (option_map plain o)
word_of-plain None = refl
word_of-plain (Some s) = refl

pub returns : goal.returns
returns c =
    let items = c.iter.result.rest.now in
    let test = λ (s : List ℕ × Word). bytes_eq s.0 c.args.field.now in
    let are : map plain items ≡ spellings = ap (map plain) c.iter.ensures.rest in
    let is = λ (s : Spelling). test (plain s) in
    let chosen = option_map (λ (x : Bor Spelling). x.now) c.find.result in
    let found : chosen ≡ find is items =
    find_from_yields_List is _ _ _ c.find.ensures.ran (YieldsList-from_slice items cc) (λ x b q k. search (rules, tests)) in
    let mapped : c.map.result ≡ option_map (λ (s : Spelling). s.1) chosen = search rules in
    let same = find-map plain test items ∙ ap (λ (xs : List (List ℕ × Word)). find test xs) are in
    mapped ∙ ap (option_map (λ (s : Spelling). s.1)) found ∙ word_of-plain (find is items)
    ∙ ap (option_map (λ (s : List ℕ × Word). s.1)) same
