-- The records that ask nodes to act.
use Rattle.std.specs.Prelude.{ℕ, List, [], ◌∷◌, codes, decimal}
use Rattle.hlc_core.specs.Request.{Request, ToDeliver, ToErase, ToPull, ToSend, ToSync, ToWrite}
use Rattle.hlc_csv.specs.Rows.{Fields}

-- the word of the record that makes a request
abbrev pub request_word : Request → List ℕ
request_word (ToWrite key value) = codes "write"
request_word (ToErase key) = codes "erase"
request_word (ToSend to key) = codes "send"
request_word (ToSync to) = codes "sync"
request_word (ToDeliver sent) = codes "deliver"
request_word (ToPull key value) = codes "pull"

-- the fields after the node and the reading
abbrev pub request_fields : Request → Fields
request_fields (ToWrite key value) = key ∷ value ∷ []
request_fields (ToErase key) = key ∷ []
request_fields (ToSend to key) = decimal to ∷ key ∷ []
request_fields (ToSync to) = decimal to ∷ []
request_fields (ToDeliver sent) = decimal sent ∷ []
request_fields (ToPull key value) = key ∷ value ∷ []

-- the record that makes a request of a node whose clock reads this
abbrev pub request_row : (node reading : ℕ) → Request → Fields
request_row node reading request = request_word request ∷ decimal node ∷ decimal reading ∷ request_fields request
