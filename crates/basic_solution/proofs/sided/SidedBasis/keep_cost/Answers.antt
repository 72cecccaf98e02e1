use Rattle.std.proofs.Common.{◌≡◌, ◌∙◌, sym, subst, to_z, of_z, w64}
use Rattle.std.specs.Int.{w128}
use Rattle.frac128.specs.LowestTerms.{quotient_of}
use Rattle.table_entries.specs.WholeSteps.{IsShort}
use Rattle.table_entries.proofs.ReadLemmas.{short_read, product_read}
use Rattle.basic_solution.proofs.FollowLemmas.{cost_at, known_cost}
use Rattle.basic_solution.proofs.sided.SidedBasis.keep_cost.Goals as goal

pub returns-in-Some-short_number : goal.returns-in-Some-short_number
returns-in-Some-short_number c =
    let now = c.args.self.now in
    let place = c.args.place in
    let d = c.args.denominator in
    let total = c.in-Some.total in
    let number = c.in-Some-short_number.number in
    let short : IsShort number = c.in-Some-short_number.ensures.short in
    let n = to_z w64 (of_z w64 number) in
    let n_is : n ≡ number = short_read number short in
    let t_is : to_z w128 (of_z w128 total) ≡ total = product_read total c.in-Some.ensures.margin in
    let d_is : to_z w64 (of_z w64 d) ≡ d = short_read d c.requires.kept.denominator_short in
    let total_is : n ≡ total = n_is ∙ c.in-Some-short_number.ensures.value ∙ t_is in
    let value : quotient_of n d ≡ cost_at now place = (λ i. quotient_of (total_is i) (sym d_is i)) ∙ c.in-Some.ensures.value in
    known_cost now d c.args.kept.now c.requires.kept place c.requires.place n (subst IsShort (sym n_is) short) value
