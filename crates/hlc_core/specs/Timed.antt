-- Requests with the readings at which they are made.
use Rattle.std.specs.Prelude.{◌≡◌, ℕ, All, List, Vec, length, map}
use Rattle.std.specs.declared.alloc.Global.{Global}
use Rattle.hlc_core.specs.declared.step.Step.{Step}
use Rattle.hlc_core.specs.Request.{Request, request_of}

-- a request at a reading
pub record TimedRequest : Type 0 where
  pub reading : ℕ
  pub request : Request

-- what a step asks
abbrev pub timed_request_of : Step → TimedRequest
timed_request_of step = record { reading = step.reading; request = request_of step.action }

-- what lists of steps ask
abbrev pub requests_in : List (Vec Step Global) → List (List TimedRequest)
requests_in lists = map (λ (list : Vec Step Global). map timed_request_of list.items) lists

-- each list has so many steps
abbrev pub HaveLength : ℕ → List (List TimedRequest) → Type 0
HaveLength steps lists = All (λ list. length list ≡ steps) lists
