use Rattle.std.proofs.Common.{◌≡◌, ◌<◌, ◌≤◌, ◌*◌, ◌+◌, [], refl, sym, ap, subst, arith, length, drop, get_or, pos, ◌∙◌}
use Rattle.std.proofs.lemmas.List.{drop_all}
use Rattle.frac128.specs.Rational.{int}
use Rattle.lp_model.specs.CutTerms.{term_of}
use Rattle.row_tableau.proofs.CutLemmas.{cut_more, cut_others, cut_past}
use Rattle.row_tableau.proofs.slack.write_cut.Goals as goal

pub loop-left-preserved-then-col-columns : goal.loop-left-preserved-then-col-columns
loop-left-preserved-then-col-columns c =
    let m = c.args.rows in
    let n = c.args.columns in
    let row = c.args.row in
    let list = c.loop-left.list in
    let terms = c.args.terms.now in
    let left = c.loop-left.left in
    let e = c.index-terms-left.result in
    let some : 0 < left = c.loop-left-test.true in
    let size : length list ≡ m * n = (let v = c.loop-left.auto.list in let u = c.requires.size in omega arith) in
    let col_within : e.0.0 < n = c.if-col-columns.true in
    let at_is : c.flat_index.result ≡ row * n + e.0.0 = c.flat_index.ensures.value in
    record {
      left = (let h = c.loop-left.invariant.left in omega (arith, h));
      written = cut_more m n row c.requires.row list size terms left some c.loop-left.invariant.left e c.index-terms-left.is c.flat_index.result col_within at_is c.loop-left.invariant.written;
      others = λ i k i_within k_within other. cut_others m n row c.requires.row list size terms left some c.loop-left.invariant.left e c.index-terms-left.is c.flat_index.result col_within at_is i k k_within other
          ∙ c.loop-left.invariant.others i k i_within k_within other;
    }

pub loop-left-preserved : goal.loop-left-preserved
loop-left-preserved c =
    let m = c.args.rows in
    let n = c.args.columns in
    let row = c.args.row in
    let list = c.loop-left.list in
    let terms = c.args.terms.now in
    let left = c.loop-left.left in
    let e = c.index-terms-left.result in
    let some : 0 < left = c.loop-left-test.true in
    let size : length list ≡ m * n = (let v = c.loop-left.auto.list in let u = c.requires.size in omega arith) in
    let past : n ≤ e.0.0 = c.if-col-columns.false in
    record {
      left = (let h = c.loop-left.invariant.left in omega (arith, h));
      written = cut_past m n row c.requires.row list size terms left some c.loop-left.invariant.left e c.index-terms-left.is past c.loop-left.invariant.written;
      others = c.loop-left.invariant.others;
    }

pub loop-left-init : goal.loop-left-init
loop-left-init c =
    let terms = c.args.terms.now in
    let none : drop (length terms) terms ≡ [] = drop_all (length terms) terms (omega arith) in
    record { left = omega arith; written = λ k within. c.requires.zeros k within ∙ ap (term_of k) (sym none); others = λ i k i_within k_within other. refl }

pub flat_index-requires-clause-row : goal.flat_index-requires-clause-row
flat_index-requires-clause-row c = c.requires.row

pub flat_index-requires-clause-place : goal.flat_index-requires-clause-place
flat_index-requires-clause-place c = c.if-col-columns.true

pub flat_index-requires-clause-room : goal.flat_index-requires-clause-room
flat_index-requires-clause-room c = c.requires.room

pub returns-clause-written : goal.returns-clause-written
returns-clause-written c = λ k within.
    let past = c.loop-left-test.false in
    let all : c.loop-left.left ≡ 0 = omega (arith, past) in
    subst (λ n. get_or c.loop-left.list (c.args.row * c.args.columns + k) (int (pos 0)) ≡ term_of k (drop n c.args.terms.now)) all (c.loop-left.invariant.written k within)

pub returns-clause-others : goal.returns-clause-others
returns-clause-others c = c.loop-left.invariant.others
