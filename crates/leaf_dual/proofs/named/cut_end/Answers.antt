use Rattle.std.specs.Prelude.{false}
use Rattle.std.proofs.Common.{◌≡◌, sym, subst, arith}
use Rattle.std.proofs.lemmas.Bool.{ne_eqb}
use Rattle.lp_model.specs.declared.types.Var.{Var}
use Rattle.leaf_dual.specs.Dual.{is_cut}
use Rattle.leaf_dual.proofs.named.cut_end.Goals as goal

pub returns-in-Cut : goal.returns-in-Cut
returns-in-Cut c = λ k past. subst (λ (v : Var). is_cut v k ≡ false) (sym c.in-Cut.is) (ne_eqb c.in-Cut.place.0 k (λ e. omega (arith, e, past)))
