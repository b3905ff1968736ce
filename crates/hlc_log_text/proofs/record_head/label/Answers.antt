use Rattle.std.proofs.Common.{◌≡◌, ◌∙◌, ◌∷◌, List, ℕ, [], ap, refl, slice_get, suc, zero}
use Rattle.csv.specs.Records.{field_at, fields_of}
use Rattle.hlc_log_text.specs.LogWord.{log_field_count}
use Rattle.hlc_log_text.proofs.record_head.label.Goals as goal

field_at-get : (fields : List (List ℕ)) (place : ℕ) → field_at fields place ≡ slice_get fields place
unfolding field_at
field_at-get [] place = refl
field_at-get (f ∷ fields) zero = refl
field_at-get (f ∷ fields) (suc place) = field_at-get fields place

pub returns : goal.returns
returns c =
    let fields = fields_of c.args.fields.now in
    c.get.ensures.value ∙ ap (λ (n : ℕ). field_at fields n) c.field_count.ensures
    ∙ field_at-get fields (log_field_count c.args.form c.args.word)
