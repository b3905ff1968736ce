use Rattle.std.proofs.Common.{◌^◌, ◌-◌, ◌<◌, ◌≤◌, ℕ, List, [], ◌∷◌, Bor, length, refl, drop, arith}
use Rattle.std.proofs.lemmas.List.{length-take}
use Rattle.std.proofs.lemmas.List.Elements.{All-cons}
use Rattle.hlc_log_line.specs.LogRow.{IsLoggable}
use Rattle.hlc_log_line.specs.RowText.{AreShort}
use Rattle.hlc_log_line.proofs.log_event.LogEvent.write.Goals as goal

abbrev IsShort : Bor (List ℕ) → Type 0
IsShort field = length field.now < 2 ^ 32

none_long : AreShort []
none_long k d within = absurd (omega arith)

-- each of eight fields is short
eight_short : (a b c d e f g h : Bor (List ℕ)) → IsShort a → IsShort b → IsShort c → IsShort d → IsShort e → IsShort f → IsShort g → IsShort h
    → AreShort (a ∷ b ∷ c ∷ d ∷ e ∷ f ∷ g ∷ h ∷ [])
eight_short a b c d e f g h of_a of_b of_c of_d of_e of_f of_g of_h =
    All-cons IsShort a (b ∷ c ∷ d ∷ e ∷ f ∷ g ∷ h ∷ []) of_a (All-cons IsShort b (c ∷ d ∷ e ∷ f ∷ g ∷ h ∷ []) of_b
    (All-cons IsShort c (d ∷ e ∷ f ∷ g ∷ h ∷ []) of_c (All-cons IsShort d (e ∷ f ∷ g ∷ h ∷ []) of_d
    (All-cons IsShort e (f ∷ g ∷ h ∷ []) of_e (All-cons IsShort f (g ∷ h ∷ []) of_f
    (All-cons IsShort g (h ∷ []) of_g (All-cons IsShort h [] of_h none_long)))))))

pub write_eight-requires : goal.write_eight-requires
write_eight-requires c =
    let loggable : IsLoggable c.args.self.now c.args.stamp.now c.args.carried.now = c.if-not-is_loggable.ensures.0 refl in
    let texts = loggable.texts in
    let at = c.end_with_number-start.result in
    let digits = length-take (20 - at) (drop at c.end_with_number-start.new.digits) in
    record {
      short = eight_short _ _ _ _ _ _ _ _ (omega (arith, c.word.ensures.short)) (omega (arith, texts.node)) (omega (arith, digits))
          (omega (arith, c.requires.stamp)) (omega (arith, texts.message)) (omega (arith, texts.from)) (omega (arith, c.requires.carried))
          (omega (arith, texts.label));
    }
