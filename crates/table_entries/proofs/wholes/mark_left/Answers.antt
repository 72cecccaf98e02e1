use Rattle.std.proofs.Common.{◌≡◌, ◌≢◌, ◌<◌, ◌+◌, ◌∙◌, ℕ, ℤ, Bool, true, false, List, length, get_or, sym, ap, subst, ⊎_elim, arith}
use Rattle.std.specs.Prelude.{set}
use Rattle.std.proofs.lemmas.Bool.{cases_eq}
use Rattle.std.proofs.lemmas.List.{get_or-set_same, get_or-set_other}
use Rattle.table_entries.specs.WholeSteps.{is_unwritten}
use Rattle.table_entries.specs.private.LeftRows.{IsWholeLeft, AreLeft}
use Rattle.table_entries.proofs.wholes.mark_left.Goals as goal

module _ (n : ℕ) (marks : List Bool) (b : Bool) (within : n < length marks) (i : ℕ) (m : Bool) (is : is_unwritten (set marks n b) i ≡ m) where
  mark_here : i ≡ n → b ≡ m
  mark_here e = sym (ap (λ k. get_or (set marks n b) k false) e ∙ get_or-set_same marks n b false within) ∙ is

  mark_there : i ≢ n → is_unwritten marks i ≡ m
  mark_there other = sym (get_or-set_other marks n i b false other) ∙ is

marked_more : (n columns r s : ℕ) (numbers : List ℤ) (unwritten marks : List Bool) (b : Bool) → n < length marks → (b ≡ false → is_unwritten unwritten n ≡ false) → (b ≡ true → is_unwritten unwritten n ≡ false → IsWholeLeft columns r s numbers n)
    → AreLeft n columns r s numbers unwritten marks → AreLeft (n + 1) columns r s numbers unwritten (set marks n b)
marked_more n columns r s numbers unwritten marks b within touched left before = record {
  touched = λ i below is. ⊎_elim
      (λ e. subst (λ k. is_unwritten unwritten k ≡ false) (sym e) (touched (mark_here n marks b within i false is e)))
      (λ other. before.touched i (omega (arith, below, other)) (mark_there n marks b within i false is other))
      (cases_eq i n);
  left = λ i below is written. ⊎_elim
      (λ e. subst (IsWholeLeft columns r s numbers) (sym e) (left (mark_here n marks b within i true is e) (subst (λ k. is_unwritten unwritten k ≡ false) e written)))
      (λ other. before.left i (omega (arith, below, other)) (mark_there n marks b within i true is other) written)
      (cases_eq i n);
}

pub loop-at_row-init : goal.loop-at_row-init
loop-at_row-init c = record { marked = record { touched = λ i below. absurd (omega (arith, below)); left = λ i below. absurd (omega (arith, below)) } }

pub loop-at_row-preserved : goal.loop-at_row-preserved
loop-at_row-preserved c =
    let a = c.args in
    let l = c.loop-at_row in
    let within : l.at_row < length l.left = let same = l.auto.left in let marks = c.requires.marks in let t = c.loop-at_row-test.true in omega (arith, same, marks, t) in
    record { marked = marked_more l.at_row a.columns a.row a.place a.numbers.now a.unwritten.now l.left c.is_left.result within c.is_left.ensures.touched c.is_left.ensures.left l.invariant.marked }

pub returns : goal.returns
returns c =
    let past = c.loop-at_row-test.false in
    let all = c.loop-at_row.invariant.marked in
    record { touched = λ i below. all.touched i (omega (arith, below, past)); left = λ i below. all.left i (omega (arith, below, past)) }
