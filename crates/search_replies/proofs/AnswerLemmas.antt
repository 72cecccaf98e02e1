-- What is told of an answer and of the model that is there.
use Rattle.std.proofs.Common.{◌≡◌, subst, Option, Result}
use Rattle.lp_model.specs.Program.{Program}
use Rattle.search_answers.specs.declared.answers.Answer.{Answer}
use Rattle.kept_env.specs.declared.env.EnvFault.{EnvFault}

-- of both as they are
pub both : (P : Result Answer EnvFault → Option Program → Type 0) (r s : Result Answer EnvFault) (m n : Option Program) → r ≡ s → m ≡ n → P r m → P s n
both P r s m n same there h = subst (λ o. P o n) same (subst (P r) there h)
