use Rattle.std.proofs.Common.{refl, sym}
use Rattle.std.proofs.lemmas.Bool.{false≢true}
use Rattle.basic_solution.proofs.sided.SidedBasis.is_basic.Goals as goal

pub returns-in-Row : goal.returns-in-Row
returns-in-Row c = ((λ _. (c.in-Row.field-0, c.in-Row.ensures.0, sym c.in-Row.ensures.1)), (λ _. refl))

pub returns-in-Place : goal.returns-in-Place
returns-in-Place c = ((λ t. absurd (false≢true t)), (λ f. absurd (c.in-Place.ensures.2 f)))
