use Rattle.std.proofs.Common.{◌≡◌, ◌∙◌, ◌<◌, ℕ, ℤ, List, length, get_or, pos, sym, ap, subst, arith, to_z, of_z, w64}
use Rattle.std.specs.Int.{w128}
use Rattle.std.proofs.lemmas.Int.{ints}
use Rattle.frac128.specs.Rational.{ℚ, int}
use Rattle.basic_solution.specs.RowTotals.{IsSmallNumber, AreSmallNumbers}
use Rattle.basic_solution.proofs.ReadLemmas.{small_narrowed}
use Rattle.basic_solution.proofs.priced.Costs.small_of.Goals as goal

-- the number of x, which stands at v
own_number : (xs : List ℚ) → AreSmallNumbers xs → (v : ℕ) → v < length xs → (x : ℚ) → x ≡ get_or xs v (int (pos 0)) → (n : ℤ) × (IsSmallNumber n × ((get_or xs v (int (pos 0)) ≡ int n) × (x.num ≡ n)))
unfolding int
own_number xs all v within x is =
    let own = all v within in
    (own.0, (own.1.0, (own.1.1, ap (λ (y : ℚ). y.num) (is ∙ own.1.1))))

pub overflow_cast-result : goal.overflow_cast-result
overflow_cast-result c =
    let own = own_number c.args.self.now (subst AreSmallNumbers c.self.view_is (c.self.invariant.1.1 c.if-not-self.false)) c.args.variable c.requires c.of-cost.result c.of-cost.ensures in
    let n = own.0 in
    let small : IsSmallNumber n = own.1.0 in
    let e : c.numerator.result ≡ n = c.numerator.ensures ∙ own.1.1.1 in
    omega (arith, ints, e, small)

pub returns-clause-small : goal.returns-clause-small
returns-clause-small c =
    let own = own_number c.args.self.now (subst AreSmallNumbers c.self.view_is (c.self.invariant.1.1 c.if-not-self.false)) c.args.variable c.requires c.of-cost.result c.of-cost.ensures in
    let n = own.0 in
    let small : IsSmallNumber n = own.1.0 in
    let e : c.numerator.result ≡ n = c.numerator.ensures ∙ own.1.1.1 in
    let read : to_z w64 (of_z w64 (to_z w128 (of_z w128 c.numerator.result))) ≡ n = small_narrowed c.numerator.result n e small in
    subst IsSmallNumber (sym read) small

pub returns-clause-value : goal.returns-clause-value
returns-clause-value c =
    let own = own_number c.args.self.now (subst AreSmallNumbers c.self.view_is (c.self.invariant.1.1 c.if-not-self.false)) c.args.variable c.requires c.of-cost.result c.of-cost.ensures in
    let n = own.0 in
    let small : IsSmallNumber n = own.1.0 in
    let e : c.numerator.result ≡ n = c.numerator.ensures ∙ own.1.1.1 in
    let read : to_z w64 (of_z w64 (to_z w128 (of_z w128 c.numerator.result))) ≡ n = small_narrowed c.numerator.result n e small in
    own.1.1.0 ∙ ap int (sym read)
