-- What `bench` prints.
--     IsBenched seed rows cols nodes text       the text is the three lines of a solve of the seed's model from a fresh root
use Rattle.std.specs.Prelude.{◌≡◌, ◌⊎◌, ℕ, Bool, true, false, if◌then◌else◌, List, [], ◌∷◌, ◌++◌, codes, decimal, None}
use Rattle.command_words.specs.declared.options.SearchOptions.{SearchOptions}
use Rattle.lp_model.specs.Program.{Program, Point}
use Rattle.search_answers.specs.declared.answers.Answer.{Answer}
use Rattle.search_answers.specs.declared.answers.Answer.TheVariants.{Optimal, Within, Infeasible, Unbounded, Stopped, Memory}
use Rattle.text_lines.specs.Lines.{HasNoNewline}
use Rattle.sound_searches.specs.Sound.{PlainSearch}
use Rattle.tree_search.specs.Enough.{IsEnough}
use Rattle.tree_search.specs.Solves.{Solved}
use Rattle.tree_search.specs.Truth.{IsTrueAnswer, HasEnded}
use Rattle.tree_search.specs.declared.limits.Limits.{Limits}
use Rattle.reply_texts.specs.Texts.{answer_text}
use Rattle.search_replies.specs.Solve.{limits_of}
use Rattle.cert_commands.specs.Certificates.{IsCertificateText, IsWithinText, IsUnboundedText}
use Rattle.bench_models.specs.BenchModels.{bench_program}

-- ---- the lines

abbrev pub head_line : ℕ → ℕ → List ℕ
head_line rows cols = codes "bench rows " ++ decimal rows ++ codes " cols " ++ decimal cols ++ codes "\n"

-- the text up to its first newline, with it; all of it where it has none
abbrev pub IsFirstLine : List ℕ → List ℕ → Type 0
IsFirstLine text line = (HasNoNewline text × (line ≡ text)) ⊎ ((front : List ℕ) × (rest : List ℕ) × HasNoNewline front × (text ≡ front ++ 10 ∷ rest) × (line ≡ front ++ 10 ∷ []))

-- the search went to its end
abbrev pub is_finished : Answer → Bool
is_finished (Optimal v x n) = true
is_finished (Within g v x n) = true
is_finished (Infeasible n) = true
is_finished (Unbounded n) = true
is_finished (Stopped why n bound best) = false
is_finished Memory = false

abbrev pub cert_line : Bool → List ℕ
cert_line accepted = if accepted then codes "cert accepted\n" else codes "cert none\n"

-- ---- what is printed

-- a finished answer has a certificate of the search, which is accepted for its model; and memory was not wanting
abbrev pub IsCertified : PlainSearch → Answer → Type 0
IsCertified S (Optimal v x n) = (text : List ℕ) × IsCertificateText S text
IsCertified S (Within g v x n) = (text : List ℕ) × IsWithinText S g text
IsCertified S (Infeasible n) = (text : List ℕ) × IsCertificateText S text
IsCertified S (Unbounded n) = (ray : Point) × (text : List ℕ) × IsUnboundedText S ray text
IsCertified S (Stopped why n bound best) = Unit {0}
IsCertified S Memory = ⊥

-- so many results may be placed, and so many simplex steps made in each relaxation as 64 bits count; one worker makes the search
abbrev pub bench_options : ℕ → SearchOptions
bench_options nodes = record { nodes = nodes; pivots = 18446744073709551615; workers = 1; seed = 0; gap = None }

abbrev pub bench_limits : ℕ → Limits
bench_limits nodes = limits_of (bench_options nodes)

-- the text is that of a solve of M from a fresh root, M having so many rows and columns: this was found, it is true of M, and with
-- enough of all it is the end
pub record IsBenchOf (M : Program) (rows cols nodes : ℕ) (text : List ℕ) : Type 0 where
  pub answer : Answer
  pub search : PlainSearch
  pub solved : Solved M (bench_limits nodes) answer search
  pub true_answer : IsTrueAnswer M (bench_limits nodes) answer
  pub complete : IsEnough M search.cuts (bench_limits nodes) → HasEnded answer
  pub certified : IsCertified search answer
  pub line : List ℕ
  pub first : IsFirstLine (answer_text M answer) line
  pub told : text ≡ (head_line rows cols ++ line) ++ cert_line (is_finished answer)

-- so of the seed's model
abbrev pub IsBenched : ℕ → ℕ → ℕ → ℕ → List ℕ → Type 0
IsBenched seed rows cols nodes text = IsBenchOf (bench_program seed rows cols) rows cols nodes text

-- a search that stopped is no refusal
abbrev pub bench_status : List ℕ → ℕ
bench_status text = 0
