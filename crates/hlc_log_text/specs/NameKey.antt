-- The key by which names are hashed.
use Rattle.std.specs.Prelude.{◌≡◌}
use Rattle.std.specs.RandomState.{initial_hasher}
use Rattle.std.specs.declared.random_state.RandomState.{RandomState}
use Rattle.hlc_log_text.specs.declared.name_key.NameKey.{NameKey}

-- a key hashes as a state with random keys does
abbrev pub HashesAs : RandomState → NameKey → Type 0
HashesAs state key = key.first ≡ initial_hasher state
