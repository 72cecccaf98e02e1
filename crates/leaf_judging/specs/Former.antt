-- Numbers of leaves from before an edit of the model, and which leaves keep them.
use Rattle.std.specs.Prelude.{ℕ, List, [], Option, Some, None, IfSome}
use Rattle.lp_model.specs.Regions.{Path}
use Rattle.lp_model.specs.Formulations.{Formulation, formulation}
use Rattle.branch_tree.specs.Plain.{LeafKept, Plain}
use Rattle.branch_tree.specs.declared.node.LeafData.{LeafData}
use Rattle.branch_tree.specs.declared.node.RegionLeaf.{RegionLeaf}
use Rattle.spared_leaves.specs.declared.touched.Touched.{Touched}
use Rattle.spared_leaves.specs.Alike.{AreAlikeBut, AreAlikeCuts}
use Rattle.leaf_judging.specs.declared.former.Former.{Former}
use Rattle.leaf_judging.specs.Totals.{leaf_steps, leaves_steps}
use Rattle.leaf_judging.specs.Numbers.{HasKept, AreNumbersOf}

-- the formulation whose numbers are kept
abbrev pub former_formulation : Former → Formulation
former_formulation former = formulation former.model.now former.pool.now

-- F is as it was, but for what was touched
pub record IsAlikeFormer (t : Touched) (former : Former) (F : Formulation) : Type 0 where
  pub model : AreAlikeBut t former.model.now F.model
  pub cuts : AreAlikeCuts former.pool.now F.cuts

-- where it is told what was touched: what is kept under a leaf's id is the number that the leaf had
abbrev pub HoldsFormer : Option Former → Formulation → Path → LeafKept → Type 0
HoldsFormer None F path l = Unit {0}
HoldsFormer (Some former) F path l = IfSome former.touched (λ t. IsAlikeFormer t former F × HasKept (former_formulation former) former.numbers.now path l)

-- and so it is of each leaf
abbrev pub AreFormer : Option Former → Formulation → Plain → Type 0
AreFormer None F tree = Unit {0}
AreFormer (Some former) F tree = IfSome former.touched (λ t. IsAlikeFormer t former F × AreNumbersOf (former_formulation former) tree former.numbers.now)

-- ---- steps

-- how many terms may be added in a leaf, and in these leaves
abbrev pub former_leaf_steps : Option Former → Formulation → LeafData → ℕ
former_leaf_steps None F kept = leaf_steps None [] F kept
former_leaf_steps (Some former) F kept = leaf_steps former.touched former.pool.now F kept

abbrev pub former_steps : Option Former → Formulation → List RegionLeaf → ℕ
former_steps None F leaves = leaves_steps None [] F leaves
former_steps (Some former) F leaves = leaves_steps former.touched former.pool.now F leaves
