use Rattle.std.proofs.Common.{◌∙◌, sym, arith}
use Rattle.std.proofs.lemmas.Bool.{false≢true}
use Rattle.table_entries.specs.States.{reduced_parts}
use Rattle.basic_solution.specs.Held.{relaxation, parts, table}
use Rattle.basic_solution.proofs.SignLemmas.{above_here, below_here, is_none_here, asked_later}
use Rattle.basic_solution.proofs.sided.SidedBasis.asked.Goals as goal

pub returns-then-is_positive : goal.returns-then-is_positive
returns-then-is_positive c =
    above_here 0 (reduced_parts (relaxation c.args.self.now) (parts c.args.self.now) (table c.args.self.now) c.args.place) c.args.cost.now (λ q w. absurd (omega (arith, w))) c.requires.cost (c.is_positive.ensures.0 c.if-is_positive.true)

pub returns-then-is_negative : goal.returns-then-is_negative
returns-then-is_negative c =
    below_here 0 (reduced_parts (relaxation c.args.self.now) (parts c.args.self.now) (table c.args.self.now) c.args.place) c.args.cost.now (λ q w. absurd (omega (arith, w))) c.requires.cost (c.is_negative.ensures.0 c.if-is_negative.true)

pub returns-else-is_negative : goal.returns-else-is_negative
returns-else-is_negative c =
    asked_later (reduced_parts (relaxation c.args.self.now) (parts c.args.self.now) (table c.args.self.now) c.args.place) c.asked_by_tilts.result
    (sym c.requires.cost ∙ is_none_here c.args.cost.now (λ h. false≢true (sym c.if-is_positive.false ∙ c.is_positive.ensures.1 h)) (λ h. false≢true (sym c.if-is_negative.false ∙ c.is_negative.ensures.1 h)))
    c.asked_by_tilts.ensures
