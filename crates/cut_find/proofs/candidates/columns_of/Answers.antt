use Rattle.std.proofs.Common.{◌∙◌, ◌≤◌, ◌++◌, ◌∷◌, [], ap, arith, length, map, ℕ}
use Rattle.std.proofs.lemmas.List.{take_all}
use Rattle.frac128.specs.Rational.{ℚ}
use Rattle.cut_find.proofs.CandidateLemmas.{columns_more}
use Rattle.cut_find.proofs.candidates.columns_of.Goals as goal

pub loop-candidate-preserved : goal.loop-candidate-preserved
loop-candidate-preserved c =
    let l = c.loop-candidate in
    columns_more c.args.ranked.now l.candidate-index c.candidate-item.result l.columns _ c.loop-candidate-test.true
    (c.in-Ok-push.ensures.pushed ∙ ap (λ r. l.columns ++ r.1 ∷ []) c.candidate-item.is) l.invariant

pub returns : goal.returns
returns c =
    let l = c.loop-candidate in
    let past : length c.args.ranked.now ≤ l.candidate-index = let h = c.loop-candidate-test.false in omega (arith, h) in
    l.invariant ∙ ap (map (λ (r : ℚ × ℕ). r.1)) (take_all l.candidate-index c.args.ranked.now past)
