use Rattle.std.proofs.Common.{◌≢◌, ◌∙◌, Option, Some, ap, codes, refl}
use Rattle.std.specs.Prelude.{option_map, unwrap_or}
use Rattle.std.specs.Borrow.{Bor}
use Rattle.clap.specs.Matches.{found_of}
use Rattle.clap.specs.Walk.{Text}
use Rattle.hlc_command_line.specs.Line.{output, output_word}
use Rattle.hlc_command_line.specs.declared.line_order.OutputForm.{OutputForm}
use Rattle.hlc_command_line.specs.declared.line_order.OutputForm.TheVariants as form
use Rattle.hlc_command_line.proofs.App.Options.{text_is}
use Rattle.hlc_command_line.proofs.log_options.output_form.Goals as goal

pub returns-in-None-clause-found : goal.returns-in-None-clause-found
returns-in-None-clause-found c =
    let first =
    text_is (found_of c.args.options.now) output c.get_str.result c.get_str.ensures
    ∙ ap (λ (r : Option (Bor Text)). option_map (λ s. s.now) r) c.in-None.is in
    ap (λ (o : Option Text). unwrap_or o (codes "csv")) first

pub returns-in-Some-csv-clause-found : goal.returns-in-Some-csv-clause-found
returns-in-Some-csv-clause-found c =
    let first =
    text_is (found_of c.args.options.now) output c.get_str.result c.get_str.ensures
    ∙ ap (λ (r : Option (Bor Text)). option_map (λ s. s.now) r) c.in-Some-csv.is ∙ ap Some c.in-Some-csv.is-csv in
    ap (λ (o : Option Text). unwrap_or o (codes "csv")) first

pub returns-in-Some-json-clause-found : goal.returns-in-Some-json-clause-found
returns-in-Some-json-clause-found c =
    let first =
    text_is (found_of c.args.options.now) output c.get_str.result c.get_str.ensures
    ∙ ap (λ (r : Option (Bor Text)). option_map (λ s. s.now) r) c.in-Some-json.is ∙ ap Some c.in-Some-json.is-json in
    ap (λ (o : Option Text). unwrap_or o (codes "csv")) first

pub returns-in-Some-text-clause-found : goal.returns-in-Some-text-clause-found
returns-in-Some-text-clause-found c =
    let first =
    text_is (found_of c.args.options.now) output c.get_str.result c.get_str.ensures
    ∙ ap (λ (r : Option (Bor Text)). option_map (λ s. s.now) r) c.in-Some-text.is ∙ ap Some c.in-Some-text.is-text in
    ap (λ (o : Option Text). unwrap_or o (codes "csv")) first

-- a text that is none of the words tells no form
tells_none : (text : Text) → text ≢ codes "csv" → text ≢ codes "json" → text ≢ codes "text" → (given : OutputForm) → text ≢ output_word given
tells_none text no_csv no_json no_text form.Csv = no_csv
tells_none text no_csv no_json no_text form.Json = no_json
tells_none text no_csv no_json no_text form.Text = no_text

pub returns-in-Some-clause-other : goal.returns-in-Some-clause-other
returns-in-Some-clause-other c =
    let first =
    text_is (found_of c.args.options.now) output c.get_str.result c.get_str.ensures
    ∙ ap (λ (r : Option (Bor Text)). option_map (λ s. s.now) r) c.in-Some.is in
    (refl, (c.in-Some.field-0.now, first, tells_none c.in-Some.field-0.now c.in-Some.not-csv c.in-Some.not-json c.in-Some.not-text))
