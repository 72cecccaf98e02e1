use Rattle.std.proofs.Common.{◌≡◌, ◌∙◌, sym, subst}
use Rattle.lp_model.specs.Program.{Program}
use Rattle.spared_leaves.specs.declared.touched.Touched.TheVariants.{Nothing}
use Rattle.spared_leaves.specs.Touched.{leaves_list}
use Rattle.dual_bounds.specs.private.Spared.{NamesSameSides}
use Rattle.dual_bounds.proofs.spared.is_spared_list.Goals as goal

pub returns-then-names_same_sides : goal.returns-then-names_same_sides
returns-then-names_same_sides c =
    let list = c.args.list.now in
    let moved : leaves_list Nothing c.rows-cuts.result.now c.rows-again.result.now list ≡ leaves_list Nothing c.args.search.now.cuts c.args.pool.now list =
    λ i. leaves_list Nothing ((c.rows-cuts.ensures.rows ∙ c.pool-before.ensures.pool) i) (c.rows-again.ensures.rows i) list in
    λ is. record {
      rows = subst (λ (M : Program). NamesSameSides M c.args.model.now list) c.model-own.ensures (c.names_same_sides.ensures c.if-names_same_sides.true);
      cuts = sym moved ∙ sym c.leaves_list.ensures ∙ is;
    }
