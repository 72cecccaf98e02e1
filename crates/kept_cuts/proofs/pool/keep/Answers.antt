use Rattle.std.proofs.Common.{◌∙◌, refl, sym, inl, inr}
use Rattle.kept_cuts.proofs.pool.keep.Goals as goal

pub returns-then-goes_with : goal.returns-then-goes_with
returns-then-goes_with c = inl (sym c.goes_with.ensures ∙ c.if-goes_with.true, refl)

pub returns : goal.returns
returns c =
    let added = c.in_ok-add_derivation.ensures in
    inr (sym c.goes_with.ensures ∙ c.if-goes_with.false, (added.0, (added.1.0, added.1.1 ∙ c.in_ok-moved.ensures, added.1.2)))
