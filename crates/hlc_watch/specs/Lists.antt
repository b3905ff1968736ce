-- The receives that wait, as they are kept.
use Rattle.std.specs.Prelude.{◌≡◌, ◌-◌, ◌^◌, ℕ, List, map}
use Rattle.std.specs.declared.vec.Vec.{Vec}
use Rattle.std.specs.declared.alloc.Global.{Global}
use Rattle.lru.specs.LruCache.{LruCache}
use Rattle.hlc_watch.specs.declared.records.Records.{Records}
use Rattle.hlc_watch.specs.Kept.{receive_count}

-- the lists that are kept
abbrev pub lists_of : List (List ℕ × Vec Records Global) → List (List ℕ × List Records)
lists_of entries = map (λ e. (e.0, e.1.items)) entries

-- they are as many as that, and no message is ever pushed out by another one
pub record AreCounted (receives : LruCache (List ℕ) (Vec Records Global)) (count : ℕ) : Type 0 where
  pub count_is : count ≡ receive_count (lists_of receives.entries)
  pub unbounded : receives.cap ≡ 2 ^ 64 - 1
