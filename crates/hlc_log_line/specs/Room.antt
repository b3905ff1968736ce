-- Texts in a room of bytes.
use Rattle.std.specs.Prelude.{◌≡◌, ℕ, ◌+◌, ◌≤◌, ◌<◌, List, ◌++◌, drop, length, take}

-- a text stands at a place of a room, whose other bytes are as they were, up to where it ends
pub record IsPut (old new : List ℕ) (at : ℕ) (text : List ℕ) (end : ℕ) : Type 0 where
  pub ends : end ≡ at + length text
  pub bytes : new ≡ take at old ++ (text ++ drop end old)

-- a text stands at the front of a room if it fits, and nothing is changed if it doesn't; its length is told
pub record IsWritten (old new text : List ℕ) (told : ℕ) : Type 0 where
  pub size : told ≡ length text
  pub written : length text ≤ length old → new ≡ text ++ drop (length text) old
  pub unchanged : length old < length text → new ≡ old
