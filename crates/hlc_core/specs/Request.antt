-- What a node is asked to do, apart from where it lies in memory.
use Rattle.std.specs.Prelude.{ℕ, List, Vec}
use Rattle.std.specs.Borrow.{Bor}
use Rattle.std.specs.declared.alloc.Global.{Global}
use Rattle.hlc_core.specs.declared.action.Action.{Action}
use Rattle.hlc_core.specs.declared.action.Action.TheVariants.{Deliver, DeliverOrWrite, Erase, Send, Sync, Write}

pub data Request : Type 0 where
  ToWrite : (key value : List ℕ) → Request
  ToErase : (key : List ℕ) → Request
  ToSend : (to : ℕ) (key : List ℕ) → Request
  ToSync : (to : ℕ) → Request
  ToDeliver : (sent : ℕ) → Request
  ToPull : (key value : List ℕ) → Request

-- what an action over keys and values of these bytes asks
abbrev pub request_over : {B : Type 0} → (B → List ℕ) → Action B → Request
request_over bytes (Write key value) = ToWrite (bytes key) (bytes value)
request_over bytes (Erase key) = ToErase (bytes key)
request_over bytes (Send to key) = ToSend to.0 (bytes key)
request_over bytes (Sync to) = ToSync to.0
request_over bytes (Deliver sent) = ToDeliver sent.0
request_over bytes (DeliverOrWrite key value) = ToPull (bytes key) (bytes value)

-- what an action over bytes of its own asks
abbrev pub request_of : Action (Vec ℕ Global) → Request
request_of = request_over (λ bytes. bytes.items)

-- what an action over bytes that lie elsewhere asks
abbrev pub request_of_ref : Action (Bor (List ℕ)) → Request
request_of_ref = request_over (λ bytes. bytes.now)

-- a request names no key: a sync, or a delivery of a message that is named
abbrev pub NamesNoKey : Request → Type 0
NamesNoKey (ToSync to) = Unit {0}
NamesNoKey (ToDeliver sent) = Unit {0}
NamesNoKey _ = ⊥
