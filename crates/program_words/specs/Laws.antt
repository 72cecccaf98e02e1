-- Words that are taken, or refused, for sure.
use Rattle.std.specs.Prelude.{◌≡◌, ◌≢◌, ℕ, ◌<◌, ◌≤◌, ◌^◌, List, [], ◌∷◌, codes, decimal, String}
use Rattle.std.specs.String.{string_bytes}
use Rattle.std.specs.declared.alloc.Global.{Global}
use Rattle.program_words.specs.Forms.{Bench, Check, Script, TakesWords, asked_form}

-- the program's name, and the word `run`
abbrev pub IsRunForm : List (String Global) → Type 0
IsRunForm (name ∷ word ∷ []) = string_bytes word ≡ codes "run"
IsRunForm words = ⊥

pub record AsksScript (words : List (String Global)) : Type 0 where
  pub taken : TakesWords words
  pub script : asked_form words ≡ Script

-- `run` behind the program's name asks for the script
abbrev pub RunLaw : Type 0
RunLaw = (words : List (String Global)) → IsRunForm words → AsksScript words

-- no option, and no sign that options end: a first byte, which isn't `-`
abbrev pub IsPlainWord : List ℕ → Type 0
IsPlainWord [] = ⊥
IsPlainWord (first ∷ rest) = first ≢ 45

-- the program's name, the word `check`, and the names of two files
abbrev pub IsCheckForm : List (String Global) → List ℕ → List ℕ → Type 0
IsCheckForm (name ∷ word ∷ first ∷ second ∷ []) model cert = (string_bytes word ≡ codes "check") × (string_bytes first ≡ model) × (string_bytes second ≡ cert)
    × IsPlainWord model × IsPlainWord cert
IsCheckForm words model cert = ⊥

pub record AsksCheck (words : List (String Global)) (model cert : List ℕ) : Type 0 where
  pub taken : TakesWords words
  pub check : asked_form words ≡ Check model cert

-- `check` and two plain words behind the program's name ask for the check of the second by the first
abbrev pub CheckLaw : Type 0
CheckLaw = (words : List (String Global)) (model cert : List ℕ) → IsCheckForm words model cert → AsksCheck words model cert

-- a seed, so many rows and columns, and so many results at most
pub record AreBenchNumbers (seed rows cols nodes : ℕ) : Type 0 where
  pub seed_is : seed < 2 ^ 64
  pub some_rows : 1 ≤ rows
  pub few_rows : rows ≤ 100
  pub some_cols : 1 ≤ cols
  pub few_cols : cols ≤ 40
  pub nodes_are : nodes < 2 ^ 64

-- the program's name, the word `bench`, and four such numbers in decimal digits
abbrev pub IsBenchForm : List (String Global) → ℕ → ℕ → ℕ → ℕ → Type 0
IsBenchForm (name ∷ word ∷ first ∷ second ∷ third ∷ fourth ∷ []) seed rows cols nodes = (string_bytes word ≡ codes "bench") × (string_bytes first ≡ decimal seed) × (string_bytes second ≡ decimal rows)
    × (string_bytes third ≡ decimal cols) × (string_bytes fourth ≡ decimal nodes) × AreBenchNumbers seed rows cols nodes
IsBenchForm words seed rows cols nodes = ⊥

pub record AsksBench (words : List (String Global)) (seed rows cols nodes : ℕ) : Type 0 where
  pub taken : TakesWords words
  pub bench : asked_form words ≡ Bench seed rows cols nodes

-- `bench` and four such numbers behind the program's name ask for that model to be solved
abbrev pub BenchLaw : Type 0
BenchLaw = (words : List (String Global)) (seed rows cols nodes : ℕ) → IsBenchForm words seed rows cols nodes → AsksBench words seed rows cols nodes

-- one word alone, which is the program's name, is refused: there has to be a form
abbrev pub NoFormLaw : Type 0
NoFormLaw = (name : String Global) → ¬ TakesWords (name ∷ [])
