-- Costs that are set one after the other.
use Rattle.std.specs.Prelude.{◌≡◌, ℕ, zero, suc, ◌+◌, ◌<◌, List, [], ◌∷◌, length, map, take, get_or, pos}
use Rattle.std.proofs.Common.{refl, ap, ◌∙◌, arith}
use Rattle.std.proofs.lemmas.List.{get_or_default, length-map}
use Rattle.frac128.specs.Rational.{ℚ, int}
use Rattle.lp_model.specs.Elements.{of_element}
use Rattle.lp_model.specs.Program.{Program}
use Rattle.lp_model.specs.Lawful.{IsLawful, column_name}
use Rattle.lp_model.specs.Edits.{edited}
use Rattle.lp_model.specs.declared.types.Col.{Col}
use Rattle.lp_model.specs.declared.types.Edit.TheVariants.{SetCost}
use Rattle.inner_models.specs.Inner.{costed, with_objective}
use Rattle.inner_models.specs.Undone.{recosted, with_costs}
use Rattle.inner_models.proofs.Undone.{undone}
use Rattle.front_solver.specs.Solved.{IsRecosted}

names_kept : (vs : List ℚ) (cols : List Col) (j : ℕ) → of_element [] (λ c. c.name) (recosted vs cols) j ≡ of_element [] (λ c. c.name) cols j
names_kept [] cols j = refl
names_kept (v ∷ vs) [] j = refl
names_kept (v ∷ vs) (c ∷ cols) zero = refl
names_kept (v ∷ vs) (c ∷ cols) (suc j) = names_kept vs cols j

length_kept : (vs : List ℚ) (cols : List Col) → length (recosted vs cols) ≡ length cols
length_kept [] cols = refl
length_kept (v ∷ vs) [] = refl
length_kept (v ∷ vs) (c ∷ cols) = ap suc (length_kept vs cols)

pub as_many : (N P : Program) (vs : List ℚ) → P ≡ with_costs vs N → length P.cols ≡ length N.cols
as_many N P vs is = ap (λ (Q : Program). length Q.cols) is ∙ length_kept vs N.cols

-- one more cost, by the column's name
pub next_cost : (N P : Program) → IsLawful N → (vs : List ℚ) (j : ℕ) (v : ℚ) → j < length vs → j < length N.cols → v ≡ get_or vs j v → P ≡ with_costs (take j vs) N
    → edited P (SetCost (column_name P j) v) ≡ with_costs (take (j + 1) vs) N
next_cost N P lawful vs j v within below is at =
    let number : v ≡ get_or vs j (int (pos 0)) = is ∙ get_or_default vs j v (int (pos 0)) within in
    let name : column_name P j ≡ column_name N j = ap (λ (Q : Program). column_name Q j) at ∙ names_kept (take j vs) N.cols j in
    let more : suc j ≡ j + 1 = omega arith in
    (λ i. edited (at i) (SetCost (name i) (number i))) ∙ (undone N lawful).cost vs j within below ∙ ap (λ n. with_costs (take n vs) N) more

-- all costs are an objective, whatever costs there were
pub objective_put : (N P : Program) → IsLawful N → IsRecosted N P → (costs : List ℚ) (f : Col → ℚ) → costs ≡ map f N.cols → with_costs costs P ≡ with_objective f N
objective_put N P lawful old costs f are = (λ i. with_costs (are i) (old.is i)) ∙ (undone N lawful).objective old.costs f old.all

costs_are : (f : Col → ℚ) (cols : List Col) → map (costed f) cols ≡ recosted (map f cols) cols
costs_are f [] = refl
costs_are f (c ∷ cols) = ap (λ l. costed f c ∷ l) (costs_are f cols)

-- another objective is some costs
pub objective_recosted : (N P : Program) (f : Col → ℚ) → P ≡ with_objective f N → IsRecosted N P
objective_recosted N P f is = record {
  costs = map f N.cols;
  all = length-map N.cols f;
  is = is ∙ (λ i. record N { cols = costs_are f N.cols i });
}

own_costs : (cols : List Col) → map (costed (λ c. c.cost)) cols ≡ cols
own_costs [] = refl
own_costs (c ∷ cols) = ap (λ l. c ∷ l) (own_costs cols)

-- its own costs leave a model
pub own_objective : (N : Program) → with_objective (λ c. c.cost) N ≡ N
own_objective N i = record N { cols = own_costs N.cols i }
