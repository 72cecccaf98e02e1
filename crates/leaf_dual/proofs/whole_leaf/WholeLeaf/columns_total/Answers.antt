use Rattle.std.proofs.Common.{◌≡◌, ◌∙◌, sym, ap, subst, arith, length, Ok, None, below_more, to_z, of_z}
use Rattle.std.specs.Int.{w128}
use Rattle.frac128.specs.LowestTerms.{quotient_of}
use Rattle.checked_sum.proofs.StepLaws.{partial_none}
use Rattle.lp_model.specs.Formulations.{formulation}
use Rattle.leaf_dual.specs.Dual.{multiplier, cut_weight, column_reduced_cost, column_side}
use Rattle.leaf_dual.specs.Answers.{bound_number}
use Rattle.leaf_dual.specs.Parts.{cost_of}
use Rattle.leaf_dual.specs.private.Parts.{IsColumnsTotal}
use Rattle.whole_sums.specs.Wholes.{HasMargin}
use Rattle.whole_sums.proofs.ReadLemmas.{room_read, room_again}
use Rattle.leaf_dual.proofs.AnswerLemmas.{columns-none, columns-next, columns-all}
use Rattle.leaf_dual.proofs.whole_leaf.WholeLeaf.columns_total.Goals as goal

pub loop-col-init : goal.loop-col-init
loop-col-init c =
    let W = c.args.self.now in
    let M = W.leaf.model.now in
    let cuts = W.leaf.cuts.now in
    let path = W.leaf.region.now in
    let y = multiplier W.leaf.mult.now in
    let z = cut_weight cuts W.leaf.mult.now in
    let costs = cost_of W.leaf.costed M in
    let start = quotient_of (to_z w128 (of_z w128 c.args.start)) W.denominator in
    record {
      room = room_again c.args.start c.requires.start;
      total = partial_none start (column_reduced_cost (formulation M cuts) y z costs) (bound_number (formulation M cuts) path y z costs);
      fits = columns-none M cuts path y z costs start;
      sides = λ j below. absurd (omega arith);
    }

pub loop-col-preserved : goal.loop-col-preserved
loop-col-preserved c =
    let W = c.args.self.now in
    let M = W.leaf.model.now in
    let cuts = W.leaf.cuts.now in
    let path = W.leaf.region.now in
    let y = multiplier W.leaf.mult.now in
    let z = cut_weight cuts W.leaf.mult.now in
    let costs = cost_of W.leaf.costed M in
    let d = W.denominator in
    let start = quotient_of (to_z w128 (of_z w128 c.args.start)) d in
    let next = c.in-Some.next in
    let next_room : HasMargin next = c.in-Some.ensures.room in
    let n_is : to_z w128 (of_z w128 next) ≡ next = room_read next next_room in
    let before = c.loop-col.invariant in
    let more = columns-next M cuts path y z costs start c.loop-col.col (quotient_of (to_z w128 c.loop-col.total-bits) d) before.total before.fits (quotient_of next d) c.in-Some.ensures.column in
    record {
      room = subst HasMargin (sym n_is) next_room;
      total = ap (λ n. quotient_of n d) n_is ∙ more.1;
      fits = more.0;
      sides = below_more (λ j. ¬ (column_side (formulation M cuts) path y z costs j ≡ None)) c.loop-col.col before.sides c.in-Some.ensures.side;
    }

pub returns-clause-total : goal.returns-clause-total
returns-clause-total c =
    let W = c.args.self.now in
    let M = W.leaf.model.now in
    let cuts = W.leaf.cuts.now in
    let path = W.leaf.region.now in
    let y = multiplier W.leaf.mult.now in
    let z = cut_weight cuts W.leaf.mult.now in
    let costs = cost_of W.leaf.costed M in
    let d = W.denominator in
    let s_is : to_z w128 (of_z w128 c.args.start) ≡ c.args.start = room_read c.args.start c.requires.start in
    let total = quotient_of (to_z w128 c.loop-col.total-bits) d in
    let all : c.loop-col.col ≡ length M.cols = let past = c.loop-col-test.false in let below = c.loop-col.auto.col-end in let items = ap length c.cols-col-end.ensures.items in omega (arith, past, below, items) in
    subst (λ s. IsColumnsTotal M cuts path y z costs (quotient_of s d) (Ok total)) s_is
    (columns-all M cuts path y z costs (quotient_of (to_z w128 (of_z w128 c.args.start)) d) c.loop-col.col total c.loop-col.invariant.total c.loop-col.invariant.fits all)

pub returns-clause-sides : goal.returns-clause-sides
returns-clause-sides c = λ j below. let past = c.loop-col-test.false in let items = ap length c.cols-col-end.ensures.items in c.loop-col.invariant.sides j (omega (arith, below, past, items))
