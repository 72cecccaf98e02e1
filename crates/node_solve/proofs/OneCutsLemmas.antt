-- The cuts that a round adds at a point are one list.
use Rattle.std.specs.Prelude.{◌≡◌, ◌⊎◌, List, [], ◌∷◌}
use Rattle.std.proofs.Common.{sym, subst, ◌∙◌, inl, inr}
use Rattle.lp_model.specs.Program.{Point}
use Rattle.lp_model.specs.declared.types.Derivation.{Derivation}
use Rattle.node_solve.specs.Rounds.{Work, Round, IsAddable, round_with, AddsOne, AddsAll, AddsCovers}
use Rattle.node_solve.proofs.AddedLemmas.{cut-same}
use Rattle.node_solve.proofs.OneSeparationLemmas.{separation_one}

module _ (W : Work) where
  adds_one : (r : Round) (d : Derivation) (a b : Round) → AddsOne W r d a → AddsOne W r d b → a ≡ b
  adds_one r d a b (c, (from, (is, h))) (e, (other, (also, k))) =
      let same : e ≡ c = cut-same W.model e c also is (other ∙ sym from) in
      by h (subst (λ x. (IsAddable W r x × (b ≡ round_with W r x)) ⊎ ((¬ IsAddable W r x) × (b ≡ r))) same k)
    where
      by : (IsAddable W r c × (a ≡ round_with W r c)) ⊎ ((¬ IsAddable W r c) × (a ≡ r)) → (IsAddable W r c × (b ≡ round_with W r c)) ⊎ ((¬ IsAddable W r c) × (b ≡ r)) → a ≡ b
      by (inl (may, f)) (inl (too, g)) = f ∙ sym g
      by (inl (may, f)) (inr (not, g)) = absurd (not may)
      by (inr (not, f)) (inl (may, g)) = absurd (not may)
      by (inr (not, f)) (inr (nor, g)) = f ∙ sym g

  adds_all : (ds : List Derivation) (r a b : Round) → AddsAll W r ds a → AddsAll W r ds b → a ≡ b
  adds_all [] r a b h k = h ∙ sym k
  adds_all (d ∷ ds) r a b (mid, (one, h)) (other, (also, k)) =
      let same : other ≡ mid = adds_one r d other mid also one in
      adds_all ds mid a b h (subst (λ q. AddsAll W q ds b) same k)

  pub one_separates : (r : Round) (x : Point) (a b : Round) → AddsCovers W r x a → AddsCovers W r x b → a ≡ b
  one_separates r x a b (ds, (is, h)) (es, (also, k)) =
      adds_all ds r a b h (subst (λ l. AddsAll W r l b) (separation_one W.model x 20 es ds also is) k)
