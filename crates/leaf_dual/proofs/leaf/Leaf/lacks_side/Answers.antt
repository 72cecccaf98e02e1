use Rattle.std.proofs.Common.{◌∙◌, sym, refl, inl, inr}
use Rattle.std.proofs.lemmas.Bool.{false≢true}
use Rattle.leaf_dual.proofs.leaf.Leaf.lacks_side.Goals as goal

pub returns-then-lacks_row_side : goal.returns-then-lacks_row_side
returns-then-lacks_row_side c = ((λ t. inl (c.lacks_row_side.ensures.0 c.if-lacks_row_side.true)), (λ h. refl))

pub returns-then-lacks_cut_side : goal.returns-then-lacks_cut_side
returns-then-lacks_cut_side c = ((λ t. inr (inl (c.lacks_cut_side.ensures.0 c.if-lacks_cut_side.true))), (λ h. refl))

pub returns : goal.returns
returns c = (
  (λ t. inr (inr (c.lacks_bound.ensures.0 t))),
  (λ h. elim h [
    | inl row ↦ absurd (false≢true (sym c.if-lacks_row_side.false ∙ c.lacks_row_side.ensures.1 row))
    | inr other ↦ elim other [
      | inl cut ↦ absurd (false≢true (sym c.if-lacks_cut_side.false ∙ c.lacks_cut_side.ensures.1 cut))
      | inr column ↦ c.lacks_bound.ensures.1 column
    ]
  ]),
)
