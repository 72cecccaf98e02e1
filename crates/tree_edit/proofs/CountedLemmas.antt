-- How many terms an edit that leaves the nodes adds, kind by kind: the sum over the leaves.
use Rattle.std.specs.Prelude.{◌≡◌, ℕ, ◌+◌, ◌-◌, ◌*◌, ◌≤◌, true, ◌&&◌, if◌then◌else◌, List, [], ◌∷◌, length, Some}
use Rattle.std.proofs.Common.{refl, sym, ap, subst, ◌∙◌, arith}
use Rattle.std.proofs.Math.Nat.{zero-mul, suc-mul, mul-zero}
use Rattle.lp_model.specs.Program.{Program}
use Rattle.lp_model.specs.Edits.{col_place, row_place, edited}
use Rattle.lp_model.specs.Formulations.{Formulation}
use Rattle.lp_model.specs.Cuts.{is_live}
use Rattle.lp_model.specs.declared.types.Col.{Col}
use Rattle.lp_model.specs.declared.types.CutRow.{CutRow}
use Rattle.lp_model.specs.declared.types.RowId.{RowId}
use Rattle.lp_model.specs.declared.types.Var.{Var}
use Rattle.lp_model.specs.declared.types.Var.TheVariants as variable
use Rattle.lp_model.specs.declared.types.Edit.{Edit}
use Rattle.lp_model.specs.declared.types.Edit.TheVariants.{SetCost, SetCost2, SetRow, SetColBounds, SetKind, AddCol, DelCol, AddRow, DelRow, ReplaceRow}
use Rattle.lp_model.proofs.ChangedLaws.{length-changed_at}
use Rattle.branch_tree.specs.Leaves.{leaf_count, region_leaves}
use Rattle.branch_tree.specs.declared.node.RegionLeaf.{RegionLeaf}
use Rattle.cover_cuts.specs.Cuts.{IsPoolOf}
use Rattle.kept_cuts.specs.Kept.{derivations_of}
use Rattle.leaf_dual.specs.Dual.{Multipliers}
use Rattle.spared_leaves.specs.declared.touched.Touched.{Touched}
use Rattle.spared_leaves.specs.declared.touched.Touched.TheVariants.{Nothing, OneRow, RowSides, OneCost}
use Rattle.spared_leaves.specs.Touched.{leaves_row, leaves_variable, leaves_list}
use Rattle.leaf_judging.specs.Totals.{touched_steps, leaf_steps, leaves_steps}
use Rattle.leaf_judging.proofs.JudgeLemmas.{length-placed}
use Rattle.sound_searches.specs.Sound.{PlainSearch, formulation_of}
use Rattle.sound_searches.specs.Edited.{Follows}
use Rattle.tree_edit.specs.Counted.{all_terms, sides_steps, SecondCostTakes, CostTakes, SidesTake}
use Rattle.tree_edit.specs.private.Staying.{leaves_nodes, IsStayCounted}
use Rattle.tree_edit.proofs.FormerNumbers.{leaves-cuts, derivations-left}
use Rattle.tree_edit.proofs.TurnedCuts.{list-left, cost-lives, second-lives}

-- where each list of each leaf leaves what is touched
module _ (t : Touched) (cuts : List CutRow) (F : Formulation) (left : (mult : Multipliers) → leaves_list t cuts F.cuts mult ≡ true) where
  leaf-left : (l : RegionLeaf) → leaf_steps (Some t) cuts F l.kept ≡ touched_steps F t
  leaf-left l = rw (left l.kept.mult) (rw (left l.kept.farkas) refl)

  leaves-left : (ls : List RegionLeaf) → leaves_steps (Some t) cuts F ls ≡ length ls * touched_steps F t
  leaves-left [] = sym (zero-mul (touched_steps F t))
  leaves-left (l ∷ ls) = let rest = leaves-left ls in let one = leaf-left l in let more = suc-mul (length ls) (touched_steps F t) in omega (arith, rest, one, more)

-- a list that names no side of a row names nothing of it
side-variable : (row : RowId) (cuts others : List CutRow) (v : Var) → leaves_variable (RowSides row) cuts others v ≡ leaves_variable (OneRow row) cuts others v
side-variable row cuts others (variable.Col col) = refl
side-variable row cuts others (variable.Row named) = refl
side-variable row cuts others (variable.Cut cut) = refl

side-list : (row : RowId) (cuts others : List CutRow) (mult : Multipliers) → leaves_list (RowSides row) cuts others mult ≡ leaves_list (OneRow row) cuts others mult
side-list row cuts others [] = refl
side-list row cuts others (m ∷ ms) = λ i. side-variable row cuts others m.0 i && side-list row cuts others ms i

-- an edit of a row's sides
sides-sum : (S new : PlainSearch) (row : ℕ) (ls : List RegionLeaf) → leaves_steps (Some (RowSides (record { 0 = row }))) S.cuts (formulation_of new) ls ≡ sides_steps S row new ls
sides-sum S new row [] = refl
sides-sum S new row (l ∷ ls) =
    let one = side-list (record { 0 = row }) S.cuts new.cuts in
    λ i. (if one l.kept.mult i && one l.kept.farkas i then 0 else 2 * all_terms new) + sides-sum S new row ls i

module _ (S : PlainSearch) (e : Edit) (new : PlainSearch) (taken : ℕ) (follows : Follows S e new) where
  -- the cuts are those that there were
  derivations-same : leaves_nodes e ≡ true → derivations_of S.cuts ≡ derivations_of new.cuts
  derivations-same leaves = sym (follows.cuts ∙ derivations-left S.model e (leaves-cuts S.model e leaves) (derivations_of S.cuts))

  abbrev leaves : List RegionLeaf
  leaves = region_leaves [] S.tree.root

  -- where no row is touched and no cut turns
  within : (t : Touched) → ((i : ℕ) → leaves_row t i ≡ true) → ((k : ℕ) → is_live S.cuts k ≡ is_live new.cuts k) → taken ≤ leaves_steps (Some t) S.cuts (formulation_of new) leaves → taken ≤ leaf_count S.tree.root * touched_steps (formulation_of new) t
  within t rows lives h =
      let sum = leaves-left t S.cuts (formulation_of new) (list-left t S.cuts new.cuts rows lives) leaves in
      subst (λ n. taken ≤ n) (sum ∙ ap (λ n. n * touched_steps (formulation_of new) t) (length-placed [] S.tree.root)) h

pub second-takes : (S : PlainSearch) (e : Edit) (new : PlainSearch) (taken : ℕ) → Follows S e new → (leaves_nodes e ≡ true → IsStayCounted S e new taken) → SecondCostTakes e taken
second-takes S (SetCost2 col v) new taken follows counted =
    let k = counted refl in
    let after : IsPoolOf (edited S.model (SetCost2 col v)) new.cuts = subst (λ (M : Program). IsPoolOf M new.cuts) follows.model k.pool_after in
    let lives = second-lives S.model col v S.cuts new.cuts k.pool after (derivations-same S (SetCost2 col v) new taken follows refl) in
    let most = within S (SetCost2 col v) new taken follows Nothing (λ i. refl) lives k.steps in
    let none : leaf_count S.tree.root * 0 ≡ 0 = mul-zero (leaf_count S.tree.root) in
    omega (arith, most, none)
second-takes S (SetCost col v) new taken follows counted = tt
second-takes S (SetRow row lo hi) new taken follows counted = tt
second-takes S (SetColBounds col lo up) new taken follows counted = tt
second-takes S (SetKind col integer) new taken follows counted = tt
second-takes S (AddCol name integer lo up cost cost2 named) new taken follows counted = tt
second-takes S (DelCol col) new taken follows counted = tt
second-takes S (AddRow name lo hi named) new taken follows counted = tt
second-takes S (DelRow row) new taken follows counted = tt
second-takes S (ReplaceRow row lo hi named) new taken follows counted = tt

pub cost-takes : (S : PlainSearch) (e : Edit) (new : PlainSearch) (taken : ℕ) → Follows S e new → (leaves_nodes e ≡ true → IsStayCounted S e new taken) → CostTakes S e taken
cost-takes S (SetCost col v) new taken follows counted =
    let k = counted refl in
    let place = col_place S.model col in
    let after : IsPoolOf (edited S.model (SetCost col v)) new.cuts = subst (λ (M : Program). IsPoolOf M new.cuts) follows.model k.pool_after in
    let lives = cost-lives S.model col v S.cuts new.cuts k.pool after (derivations-same S (SetCost col v) new taken follows refl) in
    let most = within S (SetCost col v) new taken follows (OneCost (record { 0 = place })) (λ i. refl) lives k.steps in
    let count : length new.model.cols ≡ length S.model.cols = ap (λ (M : Program). length M.cols) follows.model ∙ length-changed_at (λ (c : Col). record c { cost = v }) S.model.cols place in
    subst (λ n. taken ≤ leaf_count S.tree.root * (n - place + 63)) count most
cost-takes S (SetCost2 col v) new taken follows counted = tt
cost-takes S (SetRow row lo hi) new taken follows counted = tt
cost-takes S (SetColBounds col lo up) new taken follows counted = tt
cost-takes S (SetKind col integer) new taken follows counted = tt
cost-takes S (AddCol name integer lo up cost cost2 named) new taken follows counted = tt
cost-takes S (DelCol col) new taken follows counted = tt
cost-takes S (AddRow name lo hi named) new taken follows counted = tt
cost-takes S (DelRow row) new taken follows counted = tt
cost-takes S (ReplaceRow row lo hi named) new taken follows counted = tt

pub sides-take : (S : PlainSearch) (e : Edit) (new : PlainSearch) (taken : ℕ) → (leaves_nodes e ≡ true → IsStayCounted S e new taken) → SidesTake S e new taken
sides-take S (SetRow row lo hi) new taken counted =
    subst (λ n. taken ≤ n) (sides-sum S new (row_place S.model row) (region_leaves [] S.tree.root)) (counted refl).steps
sides-take S (SetCost col v) new taken counted = tt
sides-take S (SetCost2 col v) new taken counted = tt
sides-take S (SetColBounds col lo up) new taken counted = tt
sides-take S (SetKind col integer) new taken counted = tt
sides-take S (AddCol name integer lo up cost cost2 named) new taken counted = tt
sides-take S (DelCol col) new taken counted = tt
sides-take S (AddRow name lo hi named) new taken counted = tt
sides-take S (DelRow row) new taken counted = tt
sides-take S (ReplaceRow row lo hi named) new taken counted = tt
