-- What the words after the program's name ask for.
use Rattle.std.specs.Prelude.{ℕ, ◌≡◌, List, [], ◌∷◌, codes, string_bytes}
use Rattle.std.specs.declared.string.String.{String}
use Rattle.tower_run.specs.Storm.{AreWritten}
use Rattle.tower_run.specs.declared.stacks.Stack.{Stack}
use Rattle.tower_run.specs.declared.stacks.Stack.TheVariants.{Timeout, Rate, Limit, Shed, All}
use Rattle.tower_run.specs.declared.words.Task.{Task}
use Rattle.tower_run.specs.declared.words.Task.TheVariants.{Script, Storm}

-- the name of a stack
abbrev pub name_of : Stack → List ℕ
name_of Timeout = codes "timeout"
name_of Rate = codes "rate"
name_of Limit = codes "limit"
name_of Shed = codes "shed"
name_of All = codes "all"

-- One word is a stack's name. Four are `storm` and the numbers of a storm.
abbrev pub AskFor : {A : Type 0} → List (String A) → Task → Type 0
AskFor {A} words (Script stack) = (name : String A) × (words ≡ name ∷ []) × (string_bytes name ≡ name_of stack)
AskFor {A} words (Storm storm) = (name : String A) × (first : String A) × (second : String A) × (third : String A)
    × (words ≡ name ∷ first ∷ second ∷ third ∷ []) × (string_bytes name ≡ codes "storm")
    × AreWritten (string_bytes first) (string_bytes second) (string_bytes third) storm.threads storm.rounds storm.permits
