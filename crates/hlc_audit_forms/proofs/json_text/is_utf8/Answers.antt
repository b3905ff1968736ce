use Rattle.std.proofs.Common.{◌≡◌, ◌∙◌, List, ℕ, Result, Ok, Err, sym}
use Rattle.std.specs.Prelude.{IsUtf8, MatchResult, is_ok}
use Rattle.std.specs.Str.{is_utf8}
use Rattle.std.proofs.lemmas.Bool.{false_from_ne_true}
use Rattle.std.proofs.lemmas.Str.{IsUtf8-from_is_utf8, is_utf8-from_IsUtf8}
use Rattle.hlc_audit_forms.proofs.json_text.is_utf8.Goals as goal

-- an answer that tells whether a text is UTF-8
told : {T E : Type 0} (P : T → Type 0) (Q : E → Type 0) (text : List ℕ) (r : Result T E)
    → MatchResult r (λ s. P s × IsUtf8 text) (λ e. (¬ (IsUtf8 text)) × Q e) → is_ok r ≡ is_utf8 text
told P Q text (Ok s) is = sym (is_utf8-from_IsUtf8 text is.1)
told P Q text (Err e) is = sym (false_from_ne_true (is_utf8 text) (λ utf8. is.0 (IsUtf8-from_is_utf8 text utf8)))

pub returns : goal.returns
returns c = c.is_ok.ensures.value ∙ told _ _ c.args.field.now c.from_utf8.result c.from_utf8.ensures.cases
