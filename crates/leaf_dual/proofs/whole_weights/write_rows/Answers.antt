use Rattle.std.proofs.Common.{◌≡◌, sym, subst, arith, drop, length, ◌-◌, ◌+◌, ◌<◌, ℕ, [], to_z, of_z, w64}
use Rattle.std.proofs.lemmas.Int.{ints}
use Rattle.std.proofs.lemmas.List.{drop_all}
use Rattle.leaf_dual.specs.Dual.{Multipliers, multiplier}
use Rattle.leaf_dual.specs.Wholes.{AreNumbersOver}
use Rattle.leaf_dual.proofs.WeightLemmas.{rows_none, rows_more}
use Rattle.leaf_dual.proofs.whole_weights.write_rows.Goals as goal

pub loop-behind-init : goal.loop-behind-init
loop-behind-init c =
    let mult = c.args.mult.now in
    let d = c.args.denominator in
    let d_is : to_z w64 (of_z w64 d) ≡ d = omega (arith, ints) in
    let empty : drop (length mult - 0) mult ≡ [] = drop_all (length mult - 0) mult (omega arith) in
    subst (λ e. AreNumbersOver e (multiplier (drop (length mult - 0) mult)) c.clear.new.numbers) (sym d_is)
    (subst (λ (ms : Multipliers). AreNumbersOver d (multiplier ms) c.clear.new.numbers) (sym empty) (rows_none d mult c.clear.new.numbers c.requires.positive c.clear.ensures))

pub loop-behind-preserved : goal.loop-behind-preserved
loop-behind-preserved c =
    let mult = c.args.mult.now in
    let d' = to_z w64 (of_z w64 c.args.denominator) in
    let b = c.loop-behind.behind in
    let below : b < length mult = c.loop-behind-test.true in
    let at = length mult - 1 - b in
    let m = c.index-mult-count.result in
    let old = c.loop-behind.numbers in
    let new = c.write_row.new.numbers in
    let next : length mult - b ≡ at + 1 = omega (arith, below) in
    let before : AreNumbersOver d' (multiplier (drop (at + 1) mult)) old = subst (λ (n : ℕ). AreNumbersOver d' (multiplier (drop n mult)) old) next c.loop-behind.invariant in
    let same : at ≡ length mult - (b + 1) = omega (arith, below) in
    subst (λ (n : ℕ). AreNumbersOver d' (multiplier (drop n mult)) new) same
    (rows_more d' mult at m old new (omega (arith, below)) c.index-mult-count.is c.write_row.auto.numbers (c.write_row.ensures c.if-not-write_row.false) before)

pub returns : goal.returns
returns c = λ t.
    let mult = c.args.mult.now in
    let d' = to_z w64 (of_z w64 c.args.denominator) in
    let d_is : d' ≡ c.args.denominator = omega (arith, ints) in
    let past = c.loop-behind-test.false in
    let end : length mult - c.loop-behind.behind ≡ 0 = omega (arith, past) in
    subst (λ e. AreNumbersOver e (multiplier mult) c.loop-behind.numbers) d_is (subst (λ (n : ℕ). AreNumbersOver d' (multiplier (drop n mult)) c.loop-behind.numbers) end c.loop-behind.invariant)
