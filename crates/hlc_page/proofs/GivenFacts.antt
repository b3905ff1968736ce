-- What the texts of a page say.
use Rattle.std.proofs.Common.{◌≡◌, ◌∙◌, ◌+◌, ◌<◌, ◌++◌, ◌∷◌, [], ℕ, List, ap, get_or, length, sym, take}
use Rattle.std.specs.Borrow.{Bor}
use Rattle.std.specs.Prelude.{option_map}
use Rattle.std.specs.Str.{IsUtf8}
use Rattle.std.proofs.lemmas.List.{map_push, take_more}
use Rattle.std.proofs.lemmas.Option.{slice_get-get_or, slice_get-map}
use Rattle.hlc_json_lines.specs.Rules.{field_of_text, kind_of_text}
use Rattle.hlc_command_line.specs.Asked.{AsksNothing, IsNoQuestion}
use Rattle.hlc_command_line.specs.JsonOptions.{IsNoKind, IsNoPath, LacksMeaning}
use Rattle.hlc_command_line.specs.declared.line_fault.LineFault.{LineFault}
use Rattle.hlc_command_line.specs.declared.line_fault.LineFault.TheVariants as line
use Rattle.hlc_command_line.specs.declared.line_fault.RecordsMistake.TheVariants as mistake
use Rattle.hlc_page.specs.Given.{HasNoText, page_fault_of, texts_in}
use Rattle.hlc_page.specs.declared.page_fault.PageFault.TheVariants.{Mistake}

-- one text more
pub texts_more : (given : List (Bor (List ℕ))) (i : ℕ) (d : Bor (List ℕ)) (before after : List (Bor (List ℕ))) (text : Bor (List ℕ)) → i < length given
    → texts_in before ≡ texts_in (take i given) → after ≡ before ++ text ∷ [] → text.now ≡ (get_or given i d).now
    → texts_in after ≡ texts_in (take (i + 1) given)
texts_more given i d before after text within so_far is same =
    ap texts_in is ∙ map_push (λ (t : Bor (List ℕ)). t.now) before text ∙ ap (λ ts. ts ++ text.now ∷ []) so_far
    ∙ ap (λ t. texts_in (take i given) ++ t ∷ []) same ∙ sym (map_push (λ (t : Bor (List ℕ)). t.now) (take i given) (get_or given i d))
    ∙ sym (ap texts_in (take_more given i d within))

-- one of them isn't UTF-8
pub no_text_at : (given : List (Bor (List ℕ))) (i : ℕ) (d : Bor (List ℕ)) → i < length given → ¬ IsUtf8 (get_or given i d).now → HasNoText (texts_in given)
no_text_at given i d within wrong = record {
  place = i;
  text = (get_or given i d).now;
  given = slice_get-map (λ (t : Bor (List ℕ)). t.now) given i ∙ ap (option_map (λ (t : Bor (List ℕ)). t.now)) (slice_get-get_or given i d within);
  no_text = wrong;
}

-- the mistake of a text that says nothing of a column
pub path_mistake : (texts : List (List ℕ)) (f : LineFault) → IsNoPath texts f → page_fault_of f ≡ Mistake → LacksMeaning field_of_text texts
path_mistake texts (line.Records mistake.Field) is same = is
path_mistake texts line.Memory is same = absurd cc
path_mistake texts _ is same = absurd is

-- the same of values of a word
pub kind_mistake : (texts : List (List ℕ)) (f : LineFault) → IsNoKind texts f → page_fault_of f ≡ Mistake → LacksMeaning kind_of_text texts
kind_mistake texts (line.Records mistake.Kind) is same = is
kind_mistake texts line.Memory is same = absurd cc
kind_mistake texts _ is same = absurd is

-- the same of a question
pub question_mistake : (texts : List (List ℕ)) (f : LineFault) → IsNoQuestion texts f → page_fault_of f ≡ Mistake → AsksNothing texts
question_mistake texts line.Question is same = is
question_mistake texts line.Memory is same = absurd cc
question_mistake texts _ is same = absurd is
