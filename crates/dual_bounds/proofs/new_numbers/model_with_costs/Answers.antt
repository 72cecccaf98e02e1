use Rattle.std.proofs.Common.{◌≡◌, ◌∙◌, sym, subst, ap}
use Rattle.lp_model.specs.Program.{Program}
use Rattle.lp_model.specs.Lawful.{IsLawful}
use Rattle.dual_bounds.specs.NewNumbers.{changed_all, with_cost, col_index, with_new_costs}
use Rattle.dual_bounds.proofs.ModelLemmas.{costs-there, costs-lawful}
use Rattle.dual_bounds.proofs.new_numbers.model_with_costs.Goals as goal

pub cols_with-requires : goal.cols_with-requires
cols_with-requires c =
    costs-there c.args.model.now c.take_lists-rows.result.1 c.args.costs.now (c.take_lists-rows.ensures.columns ∙ ap (λ (M : Program). M.cols) c.in_ok-changed.ensures) c.requires

pub put_lists-requires : goal.put_lists-requires
put_lists-requires c =
    let N = c.in_ok-changed.changed in
    let taken = c.take_lists-rows.ensures in
    let cols : c.cols_with.result ≡ changed_all col_index with_cost c.args.costs.now N.cols = c.cols_with.ensures ∙ ap (changed_all col_index with_cost c.args.costs.now) taken.columns in
    subst IsLawful (sym (λ i. record (taken.left i) { rows = taken.rows i; cols = cols i })) (costs-lawful N c.args.costs.now taken.lawful)

pub returns : goal.returns
returns c =
    let N = c.in_ok-changed.changed in
    let taken = c.take_lists-rows.ensures in
    let cols : c.cols_with.result ≡ changed_all col_index with_cost c.args.costs.now N.cols = c.cols_with.ensures ∙ ap (changed_all col_index with_cost c.args.costs.now) taken.columns in
    c.put_lists.ensures ∙ (λ i. record (taken.left i) { rows = taken.rows i; cols = cols i }) ∙ ap (λ (M : Program). with_new_costs M c.args.costs.now) c.in_ok-changed.ensures
