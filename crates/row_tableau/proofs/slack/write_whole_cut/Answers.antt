use Rattle.std.proofs.Common.{◌≡◌, ◌<◌, ◌≤◌, ◌*◌, ◌+◌, ◌-◌, [], refl, sym, ap, subst, arith, length, drop, get_or, pos, ◌∙◌, to_z, of_z, w64}
use Rattle.std.proofs.lemmas.List.{drop_all, length-map}
use Rattle.frac128.specs.Rational.{int}
use Rattle.frac128.specs.LowestTerms.{quotient_of}
use Rattle.lp_model.specs.CutTerms.{term_of}
use Rattle.table_entries.specs.Listed.{over}
use Rattle.table_entries.proofs.ReadLemmas.{short_read, short_again}
use Rattle.table_entries.proofs.WholeListLemmas.{short_more}
use Rattle.row_tableau.proofs.CutLemmas.{cut_more, cut_others, cut_past}
use Rattle.row_tableau.proofs.NumberLemmas.{over_set}
use Rattle.row_tableau.proofs.slack.write_whole_cut.Goals as goal

pub loop-left-preserved-in-Some : goal.loop-left-preserved-in-Some
loop-left-preserved-in-Some c =
    let l = c.loop-left in
    let m = c.args.rows in
    let n = c.args.columns in
    let row = c.args.row in
    let list = over (pos 1) l.list in
    let terms = c.args.terms.now in
    let e = c.index-terms-left.result in
    let at = c.flat_index.result in
    let number = c.in-Some.number in
    let w = to_z w64 (of_z w64 number) in
    let short = c.in-Some.ensures.short in
    let set_is = over_set l.list at w number e.1 (short_read number short) c.in-Some.ensures.value in
    let some : 0 < l.left = c.loop-left-test.true in
    let size : length list ≡ m * n = (let q = length-map l.list (λ k. quotient_of k (pos 1)) in let v = l.auto.list in let u = c.requires.size in omega (arith, q, v, u)) in
    let col_within : e.0.0 < n = c.if-col-columns.true in
    let at_is : at ≡ row * n + e.0.0 = c.flat_index.ensures.value in
    let more = cut_more m n row c.requires.row list size terms l.left some l.invariant.left e c.index-terms-left.is at col_within at_is l.invariant.written in
    record {
      left = (let h = l.invariant.left in omega (arith, h));
      written = λ k within. ap (λ xs. get_or xs (row * n + k) (int (pos 0))) set_is ∙ more k within;
      others = λ i k i_within k_within other. ap (λ xs. get_or xs (i * n + k) (int (pos 0))) set_is
          ∙ cut_others m n row c.requires.row list size terms l.left some l.invariant.left e c.index-terms-left.is at col_within at_is i k k_within other
          ∙ l.invariant.others i k i_within k_within other;
      short = short_more l.list at w (short_again number short) l.invariant.short;
    }

pub loop-left-preserved : goal.loop-left-preserved
loop-left-preserved c =
    let l = c.loop-left in
    let m = c.args.rows in
    let n = c.args.columns in
    let row = c.args.row in
    let list = over (pos 1) l.list in
    let e = c.index-terms-left.result in
    let some : 0 < l.left = c.loop-left-test.true in
    let size : length list ≡ m * n = (let q = length-map l.list (λ k. quotient_of k (pos 1)) in let v = l.auto.list in let u = c.requires.size in omega (arith, q, v, u)) in
    let past : n ≤ e.0.0 = c.if-col-columns.false in
    record {
      left = (let h = l.invariant.left in omega (arith, h));
      written = cut_past m n row c.requires.row list size c.args.terms.now l.left some l.invariant.left e c.index-terms-left.is past l.invariant.written;
      others = l.invariant.others;
      short = l.invariant.short;
    }

pub loop-left-init : goal.loop-left-init
loop-left-init c =
    let terms = c.args.terms.now in
    let none : drop (length terms) terms ≡ [] = drop_all (length terms) terms (omega arith) in
    record { left = omega arith; written = λ k within. c.requires.zeros k within ∙ ap (term_of k) (sym none); others = λ i k i_within k_within other. refl; short = c.requires.short }

pub flat_index-requires-clause-row : goal.flat_index-requires-clause-row
flat_index-requires-clause-row c = c.requires.row

pub flat_index-requires-clause-place : goal.flat_index-requires-clause-place
flat_index-requires-clause-place c = c.if-col-columns.true

pub flat_index-requires-clause-room : goal.flat_index-requires-clause-room
flat_index-requires-clause-room c = c.requires.room

pub returns-clause-written : goal.returns-clause-written
returns-clause-written c = λ t k within.
    let past = c.loop-left-test.false in
    let all : c.loop-left.left ≡ 0 = omega (arith, past) in
    subst (λ n. get_or (over (pos 1) c.loop-left.list) (c.args.row * c.args.columns + k) (int (pos 0)) ≡ term_of k (drop n c.args.terms.now)) all (c.loop-left.invariant.written k within)

pub returns-clause-others : goal.returns-clause-others
returns-clause-others c = c.loop-left.invariant.others

pub returns-clause-short : goal.returns-clause-short
returns-clause-short c = c.loop-left.invariant.short

pub returns-in-None-clause-others : goal.returns-in-None-clause-others
returns-in-None-clause-others c = c.loop-left.invariant.others

pub returns-in-None-clause-short : goal.returns-in-None-clause-short
returns-in-None-clause-short c = c.loop-left.invariant.short
