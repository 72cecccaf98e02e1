-- Whether a search is done within a gap, as its first open leaf shows, and what is then found.
use Rattle.std.specs.Prelude.{◌≡◌, ◌↔◌, ℕ, Bool, true, false, IsTrue, [], pos, Some, None}
use Rattle.std.proofs.Common.{refl, sym, subst, ap, ◌∙◌, inl, inr}
use Rattle.std.proofs.lemmas.List.Elements.{All-get_or}
use Rattle.frac128.specs.Rational.{ℚ, int, ◌-ℚ◌, neg_ℚ, ◌≤ℚ◌}
use Rattle.frac128.specs.Range.{SumFits}
use Rattle.lp_model.specs.Program.{Program, Point, HasWholeObjective, IsFeasible, least_value}
use Rattle.leaf_dual.specs.Dual.{Reaches, ReachesIn}
use Rattle.leaf_dual.specs.declared.dual.LagValue.TheVariants.{Num}
use Rattle.branch_tree.specs.Leaves.{region_leaves}
use Rattle.leaf_judging.specs.declared.choosing.Candidate.{Candidate}
use Rattle.leaf_judging.specs.Choosing.{IsFirstCandidate}
use Rattle.search_parts.specs.Points.{target, IsKeepable, IsIncumbentAt}
use Rattle.search_parts.proofs.PointLemmas.{target-at}
use Rattle.sound_searches.specs.Sound.{PlainSearch, formulation_of, IsSound}
use Rattle.search_gaps.specs.Within.{IsGapTarget, AllClose, AreLeavesWithin, CandidateReaches}
use Rattle.search_gaps.proofs.FirstOpen.{first_open}
use Rattle.search_gaps.proofs.WithinBound.{within-bound}
use Rattle.tree_search.specs.Search.{best_value, FindsWithin}
use Rattle.tree_search.specs.Steps.{HasOpenLeaf}
use Rattle.tree_search.proofs.SearchLemmas.{value-best}

-- ---- the target of a gap

pub no-target : (S : PlainSearch) (g : ℚ) → None ≡ target S.model S.points → (t : ℚ) → ¬ IsGapTarget S g t
no-target S g none t h = absurd (let e : None ≡ Some h.best = none ∙ h.best_is in cc)

same-best : (S : PlainSearch) (g t : ℚ) (h : IsGapTarget S g t) (best : ℚ) → Some best ≡ target S.model S.points → h.best ≡ best
same-best S g t h best is = let e : Some best ≡ Some h.best = is ∙ h.best_is in cc

pub wide-target : (S : PlainSearch) (g best : ℚ) → Some best ≡ target S.model S.points → ¬ SumFits best (neg_ℚ g) → (t : ℚ) → ¬ IsGapTarget S g t
wide-target S g best is wide t h = wide (subst (λ b. SumFits b (neg_ℚ g)) (same-best S g t h best is) h.fits)

pub one-target : (S : PlainSearch) (g t u : ℚ) → IsGapTarget S g t → IsGapTarget S g u → t ≡ u
one-target S g t u h k = h.is ∙ ap (λ b. b -ℚ g) (same-best S g t h k.best (sym k.best_is)) ∙ sym k.is

-- ---- whether the open leaf reaches it

true-is : (b : Bool) → false ≡ true → IsTrue b
true-is b e = cc

pub reaches-in : (M : Program) (q t : ℚ) (whole : Bool) → (IsTrue whole ↔ HasWholeObjective M 1) → Reaches (Num q) t whole ↔ ReachesIn M (Num q) t
reaches-in M q t whole asks = (to, from)
  where
    to : Reaches (Num q) t whole → ReachesIn M (Num q) t
    to (inl h) = inl (inl h)
    to (inr h) = inr (asks.0 h.0, inr (refl, h.1, h.2))

    from : ReachesIn M (Num q) t → Reaches (Num q) t whole
    from (inl (inl h)) = inl h
    from (inl (inr h)) = inr (true-is whole h.0, h.1, h.2)
    from (inr (is, inl h)) = inl h
    from (inr (is, inr h)) = inr (asks.1 is, h.1, h.2)

pub none-reaches : (M : Program) (t : ℚ) (c : Candidate) → c.leaf_number ≡ None → ¬ CandidateReaches M t c
none-reaches M t c none (q, (is, h)) = let e : None ≡ Some q = sym none ∙ is in cc

pub some-reaches : (M : Program) (t q : ℚ) (whole : Bool) (c : Candidate) → c.leaf_number ≡ Some q → (IsTrue whole ↔ HasWholeObjective M 1) → Reaches (Num q) t whole ↔ CandidateReaches M t c
some-reaches M t q whole c some asks = (to, from)
  where
    to : Reaches (Num q) t whole → CandidateReaches M t c
    to h = (q, (some, (reaches-in M q t whole asks).0 h))

    from : CandidateReaches M t c → Reaches (Num q) t whole
    from (p, (is, h)) =
        let e : Some q ≡ Some p = sym some ∙ is in
        let f : p ≡ q = cc in
        (reaches-in M q t whole asks).1 (subst (λ r. ReachesIn M (Num r) t) f h)

-- ---- whether all leaves are within the gap

module _ (S : PlainSearch) (g : ℚ) (c : Candidate) (sound : IsSound S) (gap : int (pos 0) ≤ℚ g) (first : IsFirstCandidate (formulation_of S) (region_leaves [] S.tree.root) (Some c)) where
  pub within-reached : (t : ℚ) → IsGapTarget S g t → CandidateReaches S.model t c ↔ AreLeavesWithin S g
  within-reached t is = (to, from)
    where
      decides : AllClose S t ↔ CandidateReaches S.model t c
      decides = first_open S g t c sound gap is first

      to : CandidateReaches S.model t c → AreLeavesWithin S g
      to h = record { against = t; is = is; close = decides.1 h }

      from : AreLeavesWithin S g → CandidateReaches S.model t c
      from h = decides.0 (subst (AllClose S) (one-target S g h.against t h.is is) h.close)

-- ---- what is found

pub within-feasible : (S : PlainSearch) (x : Point) (k : ℕ) → IsSound S → IsIncumbentAt S.model S.points x k → IsFeasible S.model x
within-feasible S x k sound at = (subst (IsKeepable S.model) at.is (All-get_or (IsKeepable S.model) S.points k x at.within sound.points)).feasible.0

pub found-within : (S : PlainSearch) (g : ℚ) (x : Point) (k : ℕ) (v : ℚ) → IsSound S → HasOpenLeaf S → AreLeavesWithin S g → IsIncumbentAt S.model S.points x k → Some v ≡ best_value S → FindsWithin S g v x
found-within S g x k v sound left within at is =
    let best : within.is.best ≡ least_value S.model 1 x = same-best S g within.against within.is (least_value S.model 1 x) (sym (target-at S.model S.points x k at)) in
    let against : within.against ≡ least_value S.model 1 x -ℚ g = within.is.is ∙ ap (λ b. b -ℚ g) best in
    record {
      left = left;
      leaves = within;
      incumbent = (k, at);
      within = record { feasible = within-feasible S x k sound at; unbeaten = λ y feasible. subst (λ a. a ≤ℚ least_value S.model 1 y) against (within-bound S within.against sound within.close y feasible) };
      value = value-best S x k v at is;
    }

-- a point is kept
pub none-kept : (S : PlainSearch) (g : ℚ) → AreLeavesWithin S g → ¬ (S.points ≡ [])
none-kept S g within none = let e : Some within.is.best ≡ None = sym within.is.best_is ∙ ap (target S.model) none in cc
