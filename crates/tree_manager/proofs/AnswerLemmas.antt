-- What finished managers have shown.
use Rattle.std.specs.Prelude.{◌≡◌, List, [], ◌∷◌, All, Option, Some, None}
use Rattle.std.proofs.Common.{refl, sym, subst, ap, ◌∙◌}
use Rattle.frac128.specs.Rational.{ℚ, ◌≤ℚ◌}
use Rattle.frac128.specs.RationalOrder.{≤ℚ_antisymm}
use Rattle.lp_model.specs.Program.{Point, least_value, IsFeasible}
use Rattle.search_parts.specs.Points.{target, IsKeepable}
use Rattle.sound_searches.specs.Sound.{PlainSearch, IsSound}
use Rattle.sound_searches.specs.Laws.{HasNoOpenLeaf, IsNoBetter}
use Rattle.sound_searches.proofs.ClosedTree.{closed-bound, sound-empty, sound-optimum}
use Rattle.sound_searches.proofs.TakenLemmas.{least_is}
use Rattle.tree_manager.specs.Laws.{ShowsEnd}

some_same : (a b : ℚ) → Some a ≡ Some b → a ≡ b
some_same a b e = cc

-- ---- answers

pub shows-end : (S : PlainSearch) → IsSound S → HasNoOpenLeaf S → ShowsEnd S
shows-end S sound closed = record { none = λ none. sound-empty S sound closed none; best = λ x best. sound-optimum S x sound closed best }

module _ (S T : PlainSearch) (finished : IsSound S) (sound : IsSound T) (same : S.model ≡ T.model) (closed : HasNoOpenLeaf S) where
  abbrev own : Option ℚ
  own = target S.model S.points

  -- a point that T keeps is no better than those of S
  no-better : (y : Point) → IsKeepable T.model y → IsNoBetter S.model own y
  no-better y keepable = closed-bound S finished closed y (subst (λ M. IsFeasible M y) (sym same) keepable.feasible.0)

  no-more : (u : ℚ) → target T.model T.points ≡ Some u → (t : ℚ) × ((own ≡ Some t) × (t ≤ℚ u))
  no-more u is = by T.points sound.points is
    where
      found : (y : Point) → IsNoBetter S.model own y → least_value T.model 1 y ≡ u → (o : Option ℚ) → own ≡ o → (t : ℚ) × ((own ≡ Some t) × (t ≤ℚ u))
      found y h e None o = absurd (subst (λ z. IsNoBetter S.model z y) o h)
      found y h e (Some t) o = (t, (o, subst (λ v. t ≤ℚ v) (ap (λ M. least_value M 1 y) same ∙ e) (subst (λ z. IsNoBetter S.model z y) o h)))

      by : (ps : List Point) → All (IsKeepable T.model) ps → target T.model ps ≡ Some u → (t : ℚ) × ((own ≡ Some t) × (t ≤ℚ u))
      by [] all e = absurd cc
      by (p ∷ ps) all e =
          let (y, (keepable, (target_is, _))) = least_is T.model (IsKeepable T.model) p ps all in
          found y (no-better y keepable) (some_same (least_value T.model 1 y) u (sym target_is ∙ e)) own refl

pub same-targets : (S T : PlainSearch) → IsSound S → IsSound T → S.model ≡ T.model → HasNoOpenLeaf S → HasNoOpenLeaf T → target S.model S.points ≡ target T.model T.points
same-targets S T sound sound' same closed closed' = by (target S.model S.points) (target T.model T.points) refl refl
  where
    by : (a b : Option ℚ) → target S.model S.points ≡ a → target T.model T.points ≡ b → target S.model S.points ≡ target T.model T.points
    by None None e f = e ∙ sym f
    by None (Some u) e f = let h = no-more S T sound sound' same closed u f in let c : None ≡ Some h.0 = sym e ∙ h.1.0 in absurd cc
    by (Some t) None e f = let h = no-more T S sound' sound (sym same) closed' t e in let c : None ≡ Some h.0 = sym f ∙ h.1.0 in absurd cc
    by (Some t) (Some u) e f =
        let h = no-more S T sound sound' same closed u f in
        let k = no-more T S sound' sound (sym same) closed' t e in
        let t_is : Some t ≡ Some h.0 = sym e ∙ h.1.0 in
        let u_is : Some u ≡ Some k.0 = sym f ∙ k.1.0 in
        let below : t ≤ℚ u = subst (λ z. z ≤ℚ u) (sym (some_same t h.0 t_is)) h.1.1 in
        let above : u ≤ℚ t = subst (λ z. z ≤ℚ t) (sym (some_same u k.0 u_is)) k.1.1 in
        e ∙ ap Some (≤ℚ_antisymm below above) ∙ sym f
