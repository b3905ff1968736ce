-- The beginning of a text.
use Rattle.std.specs.Prelude.{◌≡◌, ◌≢◌, ◌<◌, ◌⊎◌, ℕ, List, [], ◌∷◌, Option, Some, None, length}
use Rattle.std.specs.Io.Chain.{chain_remaining}
use Rattle.std.specs.Io.Cursor.{cursor_remaining}
use Rattle.std.specs.Io.KnownBytes.{Consumes, IsAtEnd}
use Rattle.hlc_csv.specs.declared.text_reader.TextReader.{TextReader}

-- the bytes that were read already, and then those that its reader will give, if they are known
abbrev pub text_remaining : {R : Type 0} → (R → Option (List ℕ)) → TextReader R → Option (List ℕ)
text_remaining remaining r = chain_remaining (cursor_remaining (λ bytes. Some bytes.items)) remaining r.chain

-- a byte was read, if there was one
abbrev pub ReadsByte : (before after : Option (List ℕ)) → Option ℕ → Type 0
ReadsByte before after None = Consumes before after [] × IsAtEnd after
ReadsByte before after (Some byte) = Consumes before after (byte ∷ [])

-- these are the first three bytes, or all
abbrev pub IsHead : (before after : Option (List ℕ)) → List ℕ → Type 0
IsHead before after head = Consumes before after head × ((length head ≡ 3) ⊎ ((length head < 3) × IsAtEnd after))

-- the bytes of the byte order mark, U+FEFF in UTF-8
abbrev pub byte_order_mark : List ℕ
byte_order_mark = 0xEF ∷ 0xBB ∷ 0xBF ∷ []

-- these bytes are none, if they were the mark's, and as they were otherwise
abbrev pub DropsMark : (old new : List ℕ) → Type 0
DropsMark old new = ((old ≡ byte_order_mark) × (new ≡ [])) ⊎ ((old ≢ byte_order_mark) × (new ≡ old))
