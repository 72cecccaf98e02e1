use Rattle.std.proofs.Common.{rules, ◌≡◌, ◌∙◌, ◌<◌, ◌≤◌, length, get_or, arith, ap, sym, subst, IsTrue, false, All}
use Rattle.std.proofs.lemmas.List.{take_all, get_or_default}
use Rattle.std.proofs.lemmas.List.Elements.{All-more}
use Rattle.gap_models.specs.Gaps.{HasTerms}
use Rattle.gap_models.proofs.gaps.first_wide_column.Goals as goal

pub returns-then-not-has_terms : goal.returns-then-not-has_terms
returns-then-not-has_terms c =
    let M = c.args.model.now in
    let P = HasTerms c.args.weights.now.a c.args.weights.now.b in
    let k = c.loop-index.index in
    let col = c.col-item.result in
    let items : length c.cols-col-items.result.now ≡ length M.cols = ap length c.cols-col-items.ensures.items in
    let below : k < length M.cols = omega arith in
    let is : col ≡ get_or M.cols k col = subst (λ xs. col ≡ get_or xs k col) c.cols-col-items.ensures.items c.col-item.is in
    record {
      within = below;
      before = c.loop-index.invariant;
      wide = λ d h.
          let t : IsTrue c.has_terms.result = c.has_terms.ensures.1 (subst P (get_or_default M.cols k d col below ∙ sym is) h) in
          let f : c.has_terms.result ≡ false = search rules in
          cc;
    }

pub loop-index-preserved : goal.loop-index-preserved
loop-index-preserved c =
    let M = c.args.model.now in
    let P = HasTerms c.args.weights.now.a c.args.weights.now.b in
    let k = c.loop-index.index in
    let col = c.col-item.result in
    let items : length c.cols-col-items.result.now ≡ length M.cols = ap length c.cols-col-items.ensures.items in
    let below : k < length M.cols = omega arith in
    let is : col ≡ get_or M.cols k col = subst (λ xs. col ≡ get_or xs k col) c.cols-col-items.ensures.items c.col-item.is in
    let t : IsTrue c.has_terms.result = search rules in
    All-more P M.cols k col below c.loop-index.invariant (subst P is (c.has_terms.ensures.0 t))

pub returns : goal.returns
returns c =
    let M = c.args.model.now in
    let P = HasTerms c.args.weights.now.a c.args.weights.now.b in
    let items : length c.cols-col-items.result.now ≡ length M.cols = ap length c.cols-col-items.ensures.items in
    let past : length M.cols ≤ c.loop-index.index = omega arith in
    subst (All P) (take_all c.loop-index.index M.cols past) c.loop-index.invariant
