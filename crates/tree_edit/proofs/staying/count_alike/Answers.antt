use mathlib.Core.Bool.{beq}
use Rattle.std.proofs.Common.{◌≡◌, ◌∙◌, ◌<◌, Bool, true, false, not, length, refl, sym, ap, subst, arith, inl, inr, true≢false}
use Rattle.std.proofs.lemmas.Bool.{cases_lt}
use Rattle.lp_model.specs.Cuts.{is_live}
use Rattle.lp_model.proofs.ElementLemmas.{of_element-past}
use Rattle.leaf_dual.proofs.CutLemmas.{live-is}
use Rattle.tree_edit.proofs.staying.count_alike.Goals as goal

same-flags : (a b : Bool) → not (beq a b) ≡ false → a ≡ b
same-flags true true e = refl
same-flags true false e = absurd (true≢false e)
same-flags false true e = absurd (true≢false e)
same-flags false false e = refl

pub loop-place-preserved : goal.loop-place-preserved
loop-place-preserved c = λ k below.
    let before = c.args.before.now in
    let after = c.args.after.now in
    let place = c.loop-place.place in
    let in_before : place < length before = omega arith in
    let in_after : place < length after = let same = c.if-before-after.false in omega (arith, same, in_before) in
    let here : is_live before place ≡ is_live after place =
    live-is before place c.index-before-place.result in_before c.index-before-place.is ∙ ap (λ r. r.live) c.index-before-place.is
    ∙ same-flags _ _ c.if-before-place.false
    ∙ sym (live-is after place c.index-after-place.result in_after c.index-after-place.is ∙ ap (λ r. r.live) c.index-after-place.is) in
    elim (cases_lt k place) [
      | inl lower ↦ c.loop-place.invariant k lower
      | inr past ↦ let at : place ≡ k = omega (arith, past, below) in subst (λ n. is_live before n ≡ is_live after n) at here
    ]

-- past the end there is none in either
pub returns : goal.returns
returns c = λ t k.
    let before = c.args.before.now in
    let after = c.args.after.now in
    let same = c.if-before-after.false in
    elim (cases_lt k (length before)) [
      | inl there ↦ c.loop-place.invariant k (let end = c.loop-place-test.false in omega (arith, end, there))
      | inr past ↦ of_element-past false (λ r. r.live) before k (omega (arith, past)) ∙ sym (of_element-past false (λ r. r.live) after k (omega (arith, past, same)))
    ]
