-- Seeded scripts: for each node a list of steps, decided by the words of a generator.
use Rattle.std.specs.Prelude.{◌==◌, ℕ, zero, suc, ◌+◌, ◌-◌, ◌*◌, ◌/◌, ◌%◌, ◌&&◌, ◌||◌, Bool, true, false, List, [], ◌++◌, codes, decimal, map, nat_le, nat_lt, if◌then◌else◌}
use Rattle.std.specs.List.{range_with_len}
use Rattle.rand_core.specs.Pcg32Seed.{pcg32_seed}
use Rattle.rand_pcg.specs.Lcg.{Lcg, advance}
use Rattle.rand_pcg.specs.Pcg.{multiplier_64, pcg32, pcg32_of_seed}
use Rattle.hlc_stamp.specs.declared.limits.TheConstants.{MAX_NODES, MAX_STEPS, MIN_NODES, MIN_STEPS}
use Rattle.hlc_core.specs.Request.{Request, ToErase, ToPull, ToSend, ToWrite}
use Rattle.hlc_core.specs.Timed.{TimedRequest}
use Rattle.hlc_seeded.specs.declared.draw.Choice.{Choice}
use Rattle.hlc_seeded.specs.declared.draw.Choice.TheVariants.{Erase, Pull, Send, Write}
use Rattle.hlc_seeded.specs.declared.draw.Draw.{Draw}

-- whether there are seeded scripts of so many nodes and steps
abbrev pub are_settings : ℕ → ℕ → Bool
are_settings nodes steps = (nat_le MIN_NODES nodes && nat_le nodes MAX_NODES) && (nat_le MIN_STEPS steps && nat_le steps MAX_STEPS)

-- the generator of a seed
abbrev pub generator_of : ℕ → Lcg
generator_of seed = pcg32_of_seed (pcg32_seed 16 seed)

-- a generator's word of a number, counted from 0
abbrev pub word_at : Lcg → ℕ → ℕ
word_at g i = (pcg32 (advance 64 multiplier_64 i g)).0

-- words are drawn in pairs, first a and then b
abbrev pub draw_of : (ℕ → ℕ) → ℕ → Draw
draw_of words i = record { a = words (2 * i); b = words (2 * i + 1) }

abbrev pub reading_for : ℕ → ℕ → ℕ
reading_for step a = 1000 + 10 * step + a % 64

abbrev pub key_for : ℕ → List ℕ
key_for a = codes "k" ++ decimal (a / 64 % 4)

abbrev pub value_for : ℕ → ℕ → List ℕ
value_for node step = codes "v" ++ decimal node ++ codes "." ++ decimal step

abbrev pub target_for : ℕ → ℕ → ℕ → ℕ
target_for nodes node a = (node + 1 + a / 256 % (nodes - 1)) % nodes

-- what a step does: the first writes, and of the others two in eight write, one erases, two send and three deliver or write
abbrev pub choice_for : ℕ → ℕ → Choice
choice_for step b =
    if step == 0 || nat_lt (b % 8) 2 then Write
    else if b % 8 == 2 then Erase
    else if nat_lt (b % 8) 5 then Send
    else Pull

-- whether it is a Write or an Erase
abbrev pub is_update : Choice → Bool
is_update Write = true
is_update Erase = true
is_update Send = false
is_update Pull = false

-- the key of the latest Write or Erase before a step, given the draw of each step; before the first there is none
abbrev pub latest_key : (ℕ → Draw) → ℕ → List ℕ
latest_key draws zero = []
latest_key draws (suc step) = if is_update (choice_for step (draws step).b) then key_for (draws step).a else latest_key draws step

-- what a node is asked at a step, by a choice, a word and the latest key
abbrev pub request_of_choice : Choice → (nodes node step a : ℕ) → List ℕ → Request
request_of_choice Write nodes node step a latest = ToWrite (key_for a) (value_for node step)
request_of_choice Erase nodes node step a latest = ToErase (key_for a)
request_of_choice Send nodes node step a latest = ToSend (target_for nodes node a) latest
request_of_choice Pull nodes node step a latest = ToPull (key_for a) (value_for node step)

-- a step of a node
abbrev pub step_of : (ℕ → Draw) → (nodes node step : ℕ) → TimedRequest
step_of draws nodes node step = record {
  reading = reading_for step (draws step).a;
  request = request_of_choice (choice_for step (draws step).b) nodes node step (draws step).a (latest_key draws step);
}

-- the steps of a node, in order
abbrev pub script_of : (ℕ → Draw) → (nodes steps node : ℕ) → List TimedRequest
script_of draws nodes steps node = map (step_of draws nodes node) (range_with_len 0 steps)

-- the steps of each node, in order; the words are drawn node by node, and for each node step by step
abbrev pub scripts_of : (ℕ → ℕ) → (nodes steps : ℕ) → List (List TimedRequest)
scripts_of words nodes steps = map (λ node. script_of (λ step. draw_of words (node * steps + step)) nodes steps node) (range_with_len 0 nodes)

-- the seeded scripts
abbrev pub storm_of : (seed nodes steps : ℕ) → List (List TimedRequest)
storm_of seed nodes steps = scripts_of (word_at (generator_of seed)) nodes steps
