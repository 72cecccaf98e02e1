use Rattle.frac128.specs.Rational.{ℚ}
use Rattle.std.proofs.Common.{ℕ, ◌≡◌, ◌<◌, ◌≤◌, ◌∙◌, suc, sym, ap, subst, arith, length, get_or}
use Rattle.std.proofs.lemmas.Bool.{false≢true}
use Rattle.table_entries.specs.States.{reduced_parts}
use Rattle.basic_solution.specs.Held.{relaxation, parts, table}
use Rattle.basic_solution.proofs.SignLemmas.{above_here, below_here, none_more}
use Rattle.basic_solution.proofs.AskedLemmas.{turn_read, none_at_all}
use Rattle.basic_solution.proofs.sided.SidedBasis.asked_by_tilts.Goals as goal

pub returns-then-is_positive : goal.returns-then-is_positive
returns-then-is_positive c =
    let now = c.args.self.now in
    let place = c.args.place in
    let turn = c.loop-turn.turn in
    let same = ap (λ s. length s.order) c.self.view_is in
    let within : turn < length now.order = let less = c.loop-turn-test.true in let e = c.len-turn-end.ensures in omega (arith, less, e, same) in
    let read = turn_read now place turn c.index.result.now c.own_reduced-part.result within (subst (λ s. c.index.result.now ≡ get_or s.order turn c.index.result.now) c.self.view_is c.index.ensures) c.own_reduced-part.ensures in
    let f : ℕ → ℚ = λ q. reduced_parts (relaxation now) (parts now) (table now) place (suc q) in
    above_here turn f c.own_reduced-part.result c.loop-turn.invariant read (c.is_positive.ensures.0 c.if-is_positive.true)

pub returns-then-is_negative : goal.returns-then-is_negative
returns-then-is_negative c =
    let now = c.args.self.now in
    let place = c.args.place in
    let turn = c.loop-turn.turn in
    let same = ap (λ s. length s.order) c.self.view_is in
    let within : turn < length now.order = let less = c.loop-turn-test.true in let e = c.len-turn-end.ensures in omega (arith, less, e, same) in
    let read = turn_read now place turn c.index.result.now c.own_reduced-part.result within (subst (λ s. c.index.result.now ≡ get_or s.order turn c.index.result.now) c.self.view_is c.index.ensures) c.own_reduced-part.ensures in
    let f : ℕ → ℚ = λ q. reduced_parts (relaxation now) (parts now) (table now) place (suc q) in
    below_here turn f c.own_reduced-part.result c.loop-turn.invariant read (c.is_negative.ensures.0 c.if-is_negative.true)

pub loop-turn-preserved : goal.loop-turn-preserved
loop-turn-preserved c =
    let now = c.args.self.now in
    let place = c.args.place in
    let turn = c.loop-turn.turn in
    let same = ap (λ s. length s.order) c.self.view_is in
    let within : turn < length now.order = let less = c.loop-turn-test.true in let e = c.len-turn-end.ensures in omega (arith, less, e, same) in
    let read = turn_read now place turn c.index.result.now c.own_reduced-part.result within (subst (λ s. c.index.result.now ≡ get_or s.order turn c.index.result.now) c.self.view_is c.index.ensures) c.own_reduced-part.ensures in
    let f : ℕ → ℚ = λ q. reduced_parts (relaxation now) (parts now) (table now) place (suc q) in
    none_more turn f c.own_reduced-part.result c.loop-turn.invariant read (λ h. false≢true (sym c.if-is_positive.false ∙ c.is_positive.ensures.1 h)) (λ h. false≢true (sym c.if-is_negative.false ∙ c.is_negative.ensures.1 h))

pub returns : goal.returns
returns c =
    let now = c.args.self.now in
    let same = ap (λ s. length s.order) c.self.view_is in
    none_at_all now c.args.place c.loop-turn.turn (let past = c.loop-turn-test.false in let e = c.len-turn-end.ensures in let all : length now.order ≤ c.loop-turn.turn = omega (arith, past, e, same) in all) c.loop-turn.invariant
