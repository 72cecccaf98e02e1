-- The inner models by their places.
use Rattle.std.specs.Prelude.{◌≡◌, ℕ, zero, suc, ◌-◌, ◌<◌, ℤ, ◌-ℤ◌, List, [], ◌∷◌, length, get_or, All}
use Rattle.std.specs.Int.{w128}
use Rattle.std.proofs.Common.{sym, ap, subst, ◌∙◌, arith, to_z, of_z}
use Rattle.std.proofs.lemmas.List.{get_or_default}
use Rattle.std.proofs.lemmas.List.Elements.{All-head, All-tail}
use Rattle.frac128.specs.Range.{IsNarrow}
use Rattle.frac128.proofs.ReadLemmas.{narrow_read}
use Rattle.lp_model.specs.Program.{Program}
use Rattle.cert_text.specs.declared.cert.Claim.TheVariants.{Optimal}
use Rattle.frontier.specs.declared.outcomes.Outcome.{Outcome}
use Rattle.frontier.specs.Laws.{last_of}
use Rattle.inner_models.specs.Inner.{gap_model}
use Rattle.gap_models.specs.declared.gaps.Gap.{Gap}
use Rattle.gap_models.specs.Gaps.{IsGapOf, FitsGap}
use Rattle.front_check.specs.declared.outcomes.BareOutcomes.{BareOutcomes}
use Rattle.front_check.specs.declared.trees.Part.{Part}
use Rattle.front_check.specs.Accepted.{TargetedModel, gap_part, gap_parts}
use Rattle.front_check.specs.private.Found.{IsNarrowOutcome, AreRoomy}
use Rattle.front_check.specs.private.Parts.{parts_by_outcomes, DoGapsFit, IsPart}
use Rattle.front_check.proofs.TreeSteps.{fits_at, gap_parts-at}

-- the outcome before a gap
pub before_is : (first : Outcome) (l : List Outcome) (k : ℕ) (p d : Outcome) → 0 < k → k < length l → p ≡ get_or l (k - 1) p → p ≡ get_or (first ∷ l) k d
before_is first l zero p d some below is = absurd (omega (arith, some))
before_is first l (suc k) p d some below is = let e : suc k - 1 ≡ k = omega arith in is ∙ ap (λ n. get_or l n p) e ∙ get_or_default l k p d (omega (arith, below))

pub narrow_before : (first : Outcome) (l : List Outcome) (k : ℕ) (p : Outcome) → All IsNarrowOutcome (first ∷ l) → k < length l → ((d : Outcome) → p ≡ get_or (first ∷ l) k d) → IsNarrowOutcome p
narrow_before first l k p all below is = subst IsNarrowOutcome (sym (is first)) (all k first (omega (arith, below)))

pub narrow_here : (first : Outcome) (l : List Outcome) (k : ℕ) (q : Outcome) → All IsNarrowOutcome (first ∷ l) → k < length l → q ≡ get_or l k q → IsNarrowOutcome q
narrow_here first l k q all below is = subst IsNarrowOutcome (sym is) (all (suc k) q (omega (arith, below)))

pub narrow_item : (first : Outcome) (l items : List Outcome) → All IsNarrowOutcome (first ∷ l) → items ≡ l → (k : ℕ) → k < length items → (d : Outcome) → IsNarrowOutcome (get_or items k d)
narrow_item first l items all same k below d = subst (λ ls. IsNarrowOutcome (get_or ls k d)) (sym same) (all (suc k) d (let e = ap length same in omega (arith, below, e)))

pub item_is : (l items : List Outcome) → items ≡ l → (k : ℕ) → k < length items → (d : Outcome) → get_or items k d ≡ get_or l k (get_or items k d)
item_is l items same k below d = ap (λ ls. get_or ls k d) same ∙ get_or_default l k d (get_or items k d) (let e = ap length same in omega (arith, below, e))

-- a number with room is read as it is
pub narrow_kept : (z : ℤ) → IsNarrow z → IsNarrow (to_z w128 (of_z w128 z))
narrow_kept z h = subst IsNarrow (sym (narrow_read z h)) h

narrow_last : (first : Outcome) (l : List Outcome) → All IsNarrowOutcome (first ∷ l) → IsNarrowOutcome (last_of first l)
narrow_last first [] all = All-head IsNarrowOutcome first [] all
narrow_last first (q ∷ l) all = narrow_last q l (All-tail IsNarrowOutcome first (q ∷ l) all)

module _ (b : BareOutcomes) (roomy : AreRoomy b) where
  pub first_narrow : IsNarrowOutcome b.first
  first_narrow = All-head IsNarrowOutcome b.first b.rest.items roomy.narrow

  pub last_narrow : IsNarrowOutcome b.last
  last_narrow = subst IsNarrowOutcome (sym roomy.last) (narrow_last b.first b.rest.items roomy.narrow)

  module _ (N : Program) (k : ℕ) (p q : Outcome) (below : k < length b.rest.items) (p_is : p ≡ get_or (b.first ∷ b.rest.items) k p) (q_is : q ≡ get_or b.rest.items k q) where
    -- the numbers of this gap have room
    pub fits_here : DoGapsFit N b → FitsGap N (p.f2 -ℤ b.last.f2) (q.f1 -ℤ b.first.f1) b.first.f1 b.last.f2
    fits_here fits =
        let q_at : get_or b.rest.items k p ≡ q = get_or_default b.rest.items k p q below ∙ sym q_is in
        subst (λ P. P) (λ i. FitsGap N ((sym p_is i).f2 -ℤ (sym roomy.last i).f2) ((q_at i).f1 -ℤ b.first.f1) b.first.f1 (sym roomy.last i).f2)
        (fits_at N b.first.f1 (last_of b.first b.rest.items).f2 b.first b.rest.items k p fits below)

module _ (N : Program) (i1 i2 : ℤ) (first : Outcome) (l : List Outcome) (k : ℕ) (p q : Outcome) (below : k < length l) (p_is : p ≡ get_or (first ∷ l) k first) (q_is : q ≡ get_or l k q) where
  pub gap_is : (g : Gap) (m : Program) → IsGapOf (p.f2 -ℤ i2) (q.f1 -ℤ i1) i1 i2 g → m ≡ gap_model N (p.f2 -ℤ i2) (q.f1 -ℤ i1) i1 i2 → (t : TargetedModel) (part : Part) → part.model ≡ m → part.claim ≡ Optimal g.width
      → IsPart (get_or (gap_parts N i1 i2 first l) k t) part
  gap_is g m gap made t part model claim =
      let at : get_or (gap_parts N i1 i2 first l) k t ≡ gap_part N i1 i2 p q = gap_parts-at N i1 i2 first l k t q below ∙ (λ i. gap_part N i1 i2 (sym p_is i) (sym q_is i)) in
      subst (λ s. IsPart s part) (sym at) (record { model = model ∙ made; claim = claim ∙ ap Optimal gap.width })

-- the inner model of a gap stands behind those of the least values
pub behind_ends : (N : Program) (b : BareOutcomes) (k : ℕ) (t : TargetedModel) → 1 < k → get_or (parts_by_outcomes N b) k t ≡ get_or (gap_parts N b.first.f1 (last_of b.first b.rest.items).f2 b.first b.rest.items) (k - 2) t
behind_ends N b zero t more = absurd (omega (arith, more))
behind_ends N b (suc zero) t more = absurd (omega (arith, more))
behind_ends N b (suc (suc k)) t more = let e : k ≡ suc (suc k) - 2 = omega arith in ap (λ n. get_or (gap_parts N b.first.f1 (last_of b.first b.rest.items).f2 b.first b.rest.items) n t) e
