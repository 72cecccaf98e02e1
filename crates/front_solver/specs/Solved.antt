-- What a solver that may stop so (stops) has shown of a model, and what its model is between two inner models.
use Rattle.std.specs.Prelude.{◌≡◌, ℕ, List, length, None, MatchOption}
use Rattle.frac128.specs.Rational.{ℚ}
use Rattle.lp_model.specs.Program.{Program}
use Rattle.lp_model.specs.Lawful.{IsLawful}
use Rattle.search_answers.specs.declared.answers.Answer.{Answer}
use Rattle.inner_models.specs.Undone.{with_costs}
use Rattle.front_solver.specs.declared.solved.Solved.{Solved}
use Rattle.front_solver.specs.Truth.{IsTrueOf, IsStop, shown_claim, IsCertifiedAs}

-- The answer is true of M, with at most n results. There is a certificate exactly where it claims something that a tree proves, and
-- then the checker accepts it for M. A stop is one that may be answered of M.
pub record HasSolved (stops : Program → ℕ → Answer → Type 0) (M : Program) (n : ℕ) (solved : Solved) : Type 0 where
  pub lawful : IsLawful M
  pub true_of : IsTrueOf M n solved.answer
  pub certified : MatchOption solved.cert (shown_claim solved.answer ≡ None) (IsCertifiedAs M (shown_claim solved.answer))
  pub stopped : IsStop solved.answer → stops M n solved.answer

-- P is N with some costs in objective 1
pub record IsRecosted (N P : Program) : Type 0 where
  pub costs : List ℚ
  pub all : length costs ≡ length N.cols
  pub is : P ≡ with_costs costs N
