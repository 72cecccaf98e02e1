-- How a bound is told: of calls that only this crate makes.
use Rattle.std.specs.Prelude.{◌≡◌, ◌⊎◌, ℕ, List, Some, Result, Ok, Err}
use Rattle.lp_model.specs.Program.{Program, Point, value}
use Rattle.sound_searches.specs.Laws.{HasNoOpenLeaf}
use Rattle.search_parts.specs.Points.{IsIncumbent}
use Rattle.sound_searches.specs.Sound.{PlainSearch}
use Rattle.dual_bounds.specs.declared.answers.LowerBound.{LowerBound}
use Rattle.dual_bounds.specs.declared.answers.UpperBound.{UpperBound}
use Rattle.command_words.specs.declared.words.OptimumBound.{OptimumBound}
use Rattle.reply_texts.specs.Texts.{bound_text, memory_text}
use Rattle.shell_replies.specs.Bounds.{IsLowerTold, IsUpperTold}
use Rattle.bound_commands.specs.Bounding.{TellsBound}

-- a bound is told, or that there was no memory for it
abbrev pub IsLowerReply : {E : Type 0} → Program → Result LowerBound E → List ℕ → Type 0
IsLowerReply M (Ok bound) reply = IsLowerTold M bound reply
IsLowerReply M (Err e) reply = reply ≡ memory_text

abbrev pub IsUpperReply : {E : Type 0} → Program → Result UpperBound E → List ℕ → Type 0
IsUpperReply M (Ok bound) reply = IsUpperTold M bound reply
IsUpperReply M (Err e) reply = reply ≡ memory_text

-- where no leaf is open and a point is kept: the value of the one that was found best
abbrev pub IsBestValue : PlainSearch → List ℕ → Type 0
IsBestValue S reply = HasNoOpenLeaf S → (x : Point) → IsIncumbent S.model S.points (Some x) → reply ≡ bound_text (Some (value S.model 1 x))

-- Of the search: the bound at the model M, and where the numbers are its own the best value; or there was no memory.
abbrev pub IsBoundReply : OptimumBound → PlainSearch → Program → Type 0 → List ℕ → Type 0
IsBoundReply which S M own reply = (TellsBound which S M reply × (own → IsBestValue S reply)) ⊎ (reply ≡ memory_text)
