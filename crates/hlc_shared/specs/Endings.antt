-- How jobs in threads of their own end.
use Rattle.std.specs.Prelude.{◌≡◌, ◌⊎◌, ℕ, ◌≤◌, All, Any, List, ◌++◌, Ok, Err, Result, Vec, if◌then◌else◌, nat_lt}
use Rattle.std.specs.List.{AllZip}
use Rattle.std.specs.declared.alloc.Global.{Global}
use Rattle.hlc_shared.specs.declared.fate.Fate.{Fate}
use Rattle.hlc_shared.specs.declared.fate.Fate.TheVariants.{Memory, Shut}

-- the fate of one job: its node was shut out, and this is true of the node, or it was out of memory
abbrev pub IsDueTo : (ℕ → Type 0) → Fate → Type 0
IsDueTo shut (Shut node) = shut node.0
IsDueTo shut Memory = Unit {0}

-- a job was done, or its node was shut out and isn't less than this one
abbrev pub IsDoneOrShutFrom : {T U : Type 0} → (T → U → Type 0) → (T → ℕ → Type 0) → ℕ → T → Type 0
IsDoneOrShutFrom {T} {U} done shut node job = ((answer : U) × done job answer) ⊎ ((later : ℕ) × (node ≤ later) × shut job later)

-- the fate of some jobs: the least node that was shut out, if each other job was done, or that one was out of memory
abbrev pub IsFateOf : {T U : Type 0} → (T → U → Type 0) → (T → ℕ → Type 0) → List T → Fate → Type 0
IsFateOf done shut jobs (Shut node) = Any (λ job. shut job node.0) jobs × All (IsDoneOrShutFrom done shut node.0) jobs
IsFateOf done shut jobs Memory = Unit {0}

-- all jobs were done, and these are the answers, in order; or this is their fate
abbrev pub HaveEnded : {T U : Type 0} → (T → U → Type 0) → (T → ℕ → Type 0) → List T → Result (Vec U Global) Fate → Type 0
HaveEnded done shut jobs (Ok answers) = AllZip done jobs answers.items
HaveEnded done shut jobs (Err fate) = IsFateOf done shut jobs fate

-- out of memory, or else the lesser of two nodes that were shut out
abbrev pub worse_of : Fate → Fate → Fate
worse_of (Shut one) (Shut two) = Shut (if nat_lt two.0 one.0 then two else one)
worse_of (Shut one) Memory = Memory
worse_of Memory other = Memory

-- what came of two halves: the answers of both, or the worse fate
abbrev pub AreOfBoth : {U : Type 0} → Result (Vec U Global) Fate → Result (Vec U Global) Fate → Result (Vec U Global) Fate → Type 0
AreOfBoth (Ok x) (Ok y) (Ok answers) = answers.items ≡ x.items ++ y.items
AreOfBoth (Ok x) (Ok y) (Err fate) = fate ≡ Memory
AreOfBoth (Ok x) (Err fate) answers = answers ≡ Err fate
AreOfBoth (Err fate) (Ok y) answers = answers ≡ Err fate
AreOfBoth (Err one) (Err two) answers = answers ≡ Err (worse_of one two)
