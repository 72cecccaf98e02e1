-- What a command of bounds says beyond the cause of its reply.
use Rattle.std.specs.Prelude.{◌≡◌, ◌⊎◌, ℕ, List, Some}
use Rattle.lp_model.specs.Program.{Point, value}
use Rattle.command_words.specs.declared.words.OptimumBound.{OptimumBound}
use Rattle.command_words.specs.declared.words.NewNumbers.{NewNumbers}
use Rattle.edit_words.specs.EditWords.{pairs_asks}
use Rattle.reply_texts.specs.Texts.{bound_text, memory_text}
use Rattle.command_family.specs.State.{ShellState}
use Rattle.bound_commands.specs.Bounding.{IsAtOptimum, BoundStep}
use Rattle.bound_commands.specs.Family.{BoundsAsks, BoundsStep, BoundRead}

-- nothing changes
abbrev pub UnchangedLaw : Type 0
UnchangedLaw = (asks : BoundsAsks) (old : ShellState) (reply : List ℕ) (new : ShellState) → BoundsStep asks old reply new → new ≡ old

-- a bound at the sides, or at the costs, that stand is the best value, right after a search has found it and closed every leaf
abbrev pub BestValueLaw : Type 0
BestValueLaw =
    (which : OptimumBound) (numbers : NewNumbers) (behind : List (List ℕ)) (old : ShellState) (reply : List ℕ) (new : ShellState) → BoundStep old which numbers (pairs_asks behind) reply new
    → (x : Point) (asked : BoundRead old behind (λ S named. IsAtOptimum numbers S named x)) → (reply ≡ bound_text (Some (value asked.search.model 1 x))) ⊎ (reply ≡ memory_text)
