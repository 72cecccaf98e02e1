use Rattle.std.proofs.Common.{◌≡◌, ◌∙◌, ◌<◌, ◌≤◌, ◌+◌, ◌∷◌, ◌++◌, [], ap, sym, subst, refl, take, to_z, of_z, w64, arith}
use Rattle.std.specs.Prelude.{List}
use Rattle.std.proofs.lemmas.Bool.{false≢true}
use Rattle.std.proofs.lemmas.List.{take_more, take_all}
use Rattle.frac128.specs.Rational.{ℚ, neg_ℚ}
use Rattle.frac128.specs.LowestTerms.{quotient_of}
use Rattle.lp_model.specs.CutTerms.{term_of}
use Rattle.lp_model.specs.declared.types.ColId.{ColId}
use Rattle.leaf_dual.specs.Parts.{cut_weights}
use Rattle.leaf_dual.specs.private.CostsLeft.{IsProductTaken, AreTaken}
use Rattle.whole_sums.specs.Wholes.{IsShort, whole_number_at}
use Rattle.whole_sums.proofs.ReadLemmas.{short_read, short_again}
use Rattle.leaf_dual.proofs.CutLemmas.{coefficient-is}
use Rattle.leaf_dual.proofs.CostsLeft.{AreBefore, none_taken, before_more, taken_more}
use Rattle.leaf_dual.proofs.whole_leaf.WholeLeaf.take_cut.Goals as goal

pub loop-name-init : goal.loop-name-init
loop-name-init c =
    let W = c.args.self.now in
    record {
      before = λ j past ys. refl;
      taken = λ j below. none_taken W.denominator (neg_ℚ (cut_weights W.leaf c.args.cut)) (whole_number_at c.args.lefts.now j) (c.requires.short j below);
    }

pub take_product-requires-clause-left : goal.take_product-requires-clause-left
take_product-requires-clause-left c = λ below. (c.loop-name.invariant.taken c.loop-name-item.result.0.0 below).0

pub loop-name-preserved : goal.loop-name-preserved
loop-name-preserved c =
    let W = c.args.self.now in
    let d = W.denominator in
    let a = neg_ℚ (cut_weights W.leaf c.args.cut) in
    let items = c.as_slice-name-items.result.now in
    let k = c.loop-name.name-index in
    let xs = take k items in
    let t = c.loop-name-item.result in
    let n = c.loop-name.next in
    let old = c.args.lefts.now in
    let at = c.loop-name.lefts in
    let new = c.take_product.new.lefts in
    let next : take (k + 1) items ≡ xs ++ t ∷ [] = take_more items k t c.loop-name-test.true ∙ ap (λ (u : ColId × ℚ). xs ++ u ∷ []) (sym c.loop-name-item.is) in
    let past : n ≤ t.0.0 = c.if-col-next.false in
    let weight = c.in-Some.weight in
    let over = c.requires.whole.cuts c.args.cut c.in-Some.ensures.within in
    let w_short : IsShort weight = subst IsShort (sym c.in-Some.ensures.value) over.0 in
    let z_is : quotient_of (to_z w64 (of_z w64 weight)) d ≡ cut_weights W.leaf c.args.cut = ap (λ m. quotient_of m d) (short_read weight w_short ∙ c.in-Some.ensures.value) ∙ over.1 in
    let taken : t.0.0 < c.args.count → IsProductTaken d a t.1 (whole_number_at at t.0.0) (whole_number_at new t.0.0) =
    λ below. subst (λ z. IsProductTaken d (neg_ℚ z) t.1 (whole_number_at at t.0.0) (whole_number_at new t.0.0)) z_is (c.take_product.ensures.taken c.if-not-take_product.false below d c.requires.whole.denominator) in
    record {
      before = subst (AreBefore (t.0.0 + 1)) (sym next) (before_more n xs c.loop-name.invariant.before t past);
      taken = subst (λ (us : List (ColId × ℚ)). AreTaken d a (λ j. term_of j us) c.args.count old new) (sym next)
          (taken_more d a n xs c.loop-name.invariant.before t past c.args.count old at new c.loop-name.invariant.taken taken c.take_product.ensures.others);
    }

pub returns : goal.returns
returns c = λ _ j below.
    let W = c.args.self.now in
    let cuts = W.leaf.cuts.now in
    let items = c.as_slice-name-items.result.now in
    let cut = c.index-self-cut.result in
    let all : take c.loop-name.name-index items ≡ cut.terms = take_all c.loop-name.name-index items c.loop-name-test.false ∙ c.as_slice-name-items.ensures ∙ ap (λ r. r.terms) (sym c.index-self-cut.is) in
    subst (λ x. IsProductTaken W.denominator (neg_ℚ (cut_weights W.leaf c.args.cut)) x (whole_number_at c.args.lefts.now j) (whole_number_at c.loop-name.lefts j))
    (ap (term_of j) all ∙ sym (coefficient-is cuts c.args.cut cut c.requires.within c.index-self-cut.is j)) (c.loop-name.invariant.taken j below)

pub returns-in_default : goal.returns-in_default
returns-in_default c = λ t. absurd (false≢true t)

pub returns-then-col-next : goal.returns-then-col-next
returns-then-col-next c = λ t. absurd (false≢true t)

pub returns-then-not-take_product : goal.returns-then-not-take_product
returns-then-not-take_product c = λ t. absurd (false≢true t)

pub take_product-requires-clause-weight : goal.take_product-requires-clause-weight
take_product-requires-clause-weight c =
    let over = c.requires.whole.cuts c.args.cut c.in-Some.ensures.within in
    short_again c.in-Some.weight (subst IsShort (sym c.in-Some.ensures.value) over.0)

pub take_product-requires-clause-within : goal.take_product-requires-clause-within
take_product-requires-clause-within c = let same = c.loop-name.auto.lefts in let places = c.requires.places in omega (arith, same, places)
