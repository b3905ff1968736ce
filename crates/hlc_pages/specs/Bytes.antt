-- Where the bytes of a string lie.
use Rattle.std.specs.Prelude.{ℕ, ◌≤◌, List, take}
use Rattle.hlc_pages.specs.declared.bytes.Storage.{Storage}
use Rattle.hlc_pages.specs.declared.bytes.TheConstants.{INLINE_LEN}
use Rattle.hlc_pages.specs.declared.bytes.Storage.TheVariants.{Borrowed, Heap, Inline}

-- the bytes that are stored, or borrowed
abbrev pub stored_bytes : Storage → List ℕ
stored_bytes (Inline len bytes) = take len bytes
stored_bytes (Heap bytes) = bytes.value.items
stored_bytes (Borrowed bytes) = bytes.now

-- so many as are stored in the value fit there
abbrev pub IsStored : Storage → Type 0
IsStored (Inline len bytes) = len ≤ INLINE_LEN
IsStored (Heap bytes) = Unit {0}
IsStored (Borrowed bytes) = Unit {0}
