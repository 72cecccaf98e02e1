-- The trees of a certificate by their places: names, gaps and inner models.
use Rattle.std.specs.Prelude.{◌≡◌, ◌↔◌, ℕ, zero, suc, ◌+◌, ◌-◌, ◌<◌, ◌≤◌, ℤ, ◌-ℤ◌, List, [], ◌∷◌, ◌++◌, length, map, take, drop, get_or, All}
use Rattle.std.proofs.Common.{refl, sym, ap, subst, ◌∙◌, arith}
use Rattle.std.proofs.lemmas.List.{drop_more, drop_all, take_more, take_all, get_or-map, get_or_default, length-map}
use Rattle.frac128.specs.Rational.{int}
use Rattle.lp_model.specs.Program.{Program}
use Rattle.lp_model.specs.declared.types.Col.{Col}
use Rattle.frontier.specs.declared.outcomes.Outcome.{Outcome}
use Rattle.gap_models.specs.Gaps.{HasTerms, FitsGap, IsFirstGapPlace}
use Rattle.gap_models.specs.declared.gaps.GapPlace.{GapPlace}
use Rattle.gap_models.specs.declared.gaps.GapPlace.TheVariants as place
use Rattle.front_text.specs.declared.front.TreeOf.{TreeOf}
use Rattle.front_text.specs.declared.front.TreeOf.TheVariants.{Gap}
use Rattle.front_text.specs.declared.front.FrontTree.{FrontTree}
use Rattle.front_check.specs.Accepted.{TargetedModel, gap_part, gap_parts, gap_names, tree_names}
use Rattle.front_check.specs.Verdict.{FitGaps}
use Rattle.front_check.specs.private.Parts.{tree_name_at}

-- ---- names

gap_names-at : (n k : ℕ) (l : List Outcome) (d : TreeOf) → k < length l → get_or (gap_names n l) k d ≡ Gap (n + k)
gap_names-at n k [] d below = absurd (omega (arith, below))
gap_names-at n zero (q ∷ l) d below = let e : n ≡ n + 0 = omega arith in ap Gap e
gap_names-at n (suc k) (q ∷ l) d below = gap_names-at (suc n) k l d (omega (arith, below)) ∙ (let e : suc n + k ≡ n + suc k = omega arith in ap Gap e)

pub gap_names-length : (n : ℕ) (l : List Outcome) → length (gap_names n l) ≡ length l
gap_names-length n [] = refl
gap_names-length n (q ∷ l) = ap suc (gap_names-length (suc n) l)

pub tree_names-length : (l : List Outcome) → length (tree_names l) ≡ length l + 2
tree_names-length l = let e = gap_names-length 1 l in omega (arith, e)

pub tree_names-at : (l : List Outcome) (k : ℕ) (d : TreeOf) → k < length l + 2 → get_or (tree_names l) k d ≡ tree_name_at k
tree_names-at l zero d below = refl
tree_names-at l (suc zero) d below = refl
tree_names-at l (suc (suc k)) d below = gap_names-at 1 k l d (omega (arith, below)) ∙ (let e : 1 + k ≡ suc k = omega arith in ap Gap e)

abbrev names_of : List FrontTree → List TreeOf
names_of trees = map (λ t. t.of) trees

module _ (trees : List FrontTree) (l : List Outcome) where
  pub same_count : names_of trees ≡ tree_names l → length trees ≡ length l + 2
  same_count e = sym (length-map trees (λ (s : FrontTree). s.of)) ∙ ap length e ∙ tree_names-length l

  module _ (k : ℕ) (t : FrontTree) (below : k < length trees) (is : t ≡ get_or trees k t) (count : length trees ≡ length l + 2) where
    here : get_or (names_of trees) k t.of ≡ t.of
    here = get_or-map (λ (s : FrontTree). s.of) trees k t t.of below ∙ ap (λ (s : FrontTree). s.of) (sym is)

    due : get_or (tree_names l) k t.of ≡ tree_name_at k
    due = tree_names-at l k t.of (omega (arith, below, count))

    pub named-more : take k (names_of trees) ≡ take k (tree_names l) → t.of ≡ tree_name_at k → take (k + 1) (names_of trees) ≡ take (k + 1) (tree_names l)
    named-more so_far e =
        take_more (names_of trees) k t.of (omega (arith, below, length-map trees (λ (s : FrontTree). s.of)))
        ∙ (λ i. so_far i ++ (here ∙ e ∙ sym due) i ∷ [])
        ∙ sym (take_more (tree_names l) k t.of (omega (arith, below, count, tree_names-length l)))

    pub misnamed : ¬ (t.of ≡ tree_name_at k) → ¬ (names_of trees ≡ tree_names l)
    misnamed other e = other (sym here ∙ ap (λ names. get_or names k t.of) e ∙ due)

  pub named-all : (k : ℕ) → length trees ≤ k → length trees ≡ length l + 2 → take k (names_of trees) ≡ take k (tree_names l) → names_of trees ≡ tree_names l
  named-all k past count e =
      sym (take_all k (names_of trees) (omega (arith, past, length-map trees (λ (s : FrontTree). s.of)))) ∙ e ∙ take_all k (tree_names l) (omega (arith, past, count, tree_names-length l))

-- ---- gaps

column : (P : Col → Type 0) (cols : List Col) (k : ℕ) → k < length cols → ((c : Col) → ¬ P (get_or cols k c)) → All P cols → ⊥
column P [] k below wide all = absurd (omega (arith, below))
column P (c ∷ cols) k below wide all = wide c (all k c below)

-- a number without room is one that the gap lacks
pub lacks_room : (N : Program) (a b i1 i2 : ℤ) (p : GapPlace) → IsFirstGapPlace N a b i1 i2 p → ¬ FitsGap N a b i1 i2
lacks_room N a b i1 i2 place.Width first = λ fits. first fits.width
lacks_room N a b i1 i2 (place.Col col) first = λ fits. column (HasTerms (int a) (int b)) N.cols col.0 first.1.within first.1.wide fits.columns
lacks_room N a b i1 i2 place.Side first = λ fits. first.2 fits.sides

module _ (N : Program) (i1 i2 : ℤ) (first : Outcome) (l : List Outcome) where
  abbrev pub FitFrom : Outcome → ℕ → Type 0
  FitFrom p k = FitGaps N i1 i2 p (drop k l)

  module _ (k : ℕ) (p q : Outcome) (below : k < length l) (q_is : q ≡ get_or l k q) where
    left : drop k l ≡ q ∷ drop (k + 1) l
    left = drop_more l k q below ∙ ap (λ o. o ∷ drop (k + 1) l) (sym q_is)

    pub fit-more : FitsGap N (p.f2 -ℤ i2) (q.f1 -ℤ i1) i1 i2 → FitFrom p k ↔ FitGaps N i1 i2 first l → FitFrom q (k + 1) ↔ FitGaps N i1 i2 first l
    fit-more here so_far = (
      (λ h. so_far.0 (subst (FitGaps N i1 i2 p) (sym left) (here, h))),
      (λ h. (subst (FitGaps N i1 i2 p) left (so_far.1 h)).1),
    )

    pub fit-not : ¬ FitsGap N (p.f2 -ℤ i2) (q.f1 -ℤ i1) i1 i2 → FitFrom p k ↔ FitGaps N i1 i2 first l → ¬ FitGaps N i1 i2 first l
    fit-not lacks so_far h = lacks (subst (FitGaps N i1 i2 p) left (so_far.1 h)).0

  pub fit-all : (k : ℕ) (p : Outcome) → length l ≤ k → FitFrom p k ↔ FitGaps N i1 i2 first l → FitGaps N i1 i2 first l
  fit-all k p past so_far = so_far.0 (subst (FitGaps N i1 i2 p) (sym (drop_all k l past)) tt)

-- each gap by its place
pub fits_at : (N : Program) (i1 i2 : ℤ) (p : Outcome) (l : List Outcome) (k : ℕ) (d : Outcome) → FitGaps N i1 i2 p l → k < length l → FitsGap N ((get_or (p ∷ l) k d).f2 -ℤ i2) ((get_or l k d).f1 -ℤ i1) i1 i2
fits_at N i1 i2 p [] k d fit below = absurd (omega (arith, below))
fits_at N i1 i2 p (q ∷ l) zero d fit below = fit.0
fits_at N i1 i2 p (q ∷ l) (suc k) d fit below = fits_at N i1 i2 q l k d fit.1 (omega (arith, below))

-- ---- inner models

pub gap_parts-at : (N : Program) (i1 i2 : ℤ) (p : Outcome) (l : List Outcome) (k : ℕ) (d : TargetedModel) (q : Outcome) → k < length l
    → get_or (gap_parts N i1 i2 p l) k d ≡ gap_part N i1 i2 (get_or (p ∷ l) k p) (get_or l k q)
gap_parts-at N i1 i2 p [] k d q below = absurd (omega (arith, below))
gap_parts-at N i1 i2 p (o ∷ l) zero d q below = refl
gap_parts-at N i1 i2 p (o ∷ l) (suc k) d q below =
    gap_parts-at N i1 i2 o l k d q (omega (arith, below)) ∙ ap (λ s. gap_part N i1 i2 s (get_or l k q)) (get_or_default (o ∷ l) k o p (omega (arith, below)))
