use Rattle.std.proofs.Common.{◌≡◌, ◌<◌, ◌+◌, ◌∙◌, ◌++◌, [], ◌∷◌, ℕ, sym, subst, ap, arith, length, get_or, below_more}
use Rattle.std.proofs.lemmas.List.{get_or_push, get_or_append_left, length-append}
use Rattle.table_entries.specs.declared.stand.Stand.TheVariants.{Free}
use Rattle.row_tableau.specs.Relaxations.{form_of}
use Rattle.row_tableau.specs.Tilts.{tilt_of}
use Rattle.row_tableau.proofs.tilts.tilts.Goals as goal

pub loop-variable-preserved : goal.loop-variable-preserved
loop-variable-preserved c =
    let xs = c.loop-variable.list.items in
    let y = c.tilt_of.result in
    let inv = c.loop-variable.invariant in
    let pushed = c.in-Ok-push.ensures.items in
    record {
      size = ap length pushed ∙ length-append xs (y ∷ []) ∙ ap (λ n. n + 1) inv.size;
      items = subst (λ ys. (u : ℕ) → u < c.loop-variable.variable + 1 → get_or ys u Free ≡ tilt_of c.args.relax.now.kind (form_of c.args.relax.now) u) (sym pushed)
          (below_more (λ u. get_or (xs ++ y ∷ []) u Free ≡ tilt_of c.args.relax.now.kind (form_of c.args.relax.now) u) c.loop-variable.variable
          (λ u q. get_or_append_left xs (y ∷ []) Free u (let e = inv.size in omega (arith, q, e)) ∙ inv.items u q)
          (get_or_push xs y Free c.loop-variable.variable inv.size ∙ c.tilt_of.ensures));
      variables = inv.variables;
    }
