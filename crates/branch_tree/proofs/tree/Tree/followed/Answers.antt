use Rattle.std.proofs.Common.{◌≡◌, ◌∙◌, arith, length}
use Rattle.std.proofs.lemmas.Grind.{common_steps}
use Rattle.branch_tree.proofs.NoneGone.{none-gone}
use Rattle.branch_tree.proofs.tree.Tree.followed.Goals as goal

pub returns-then-is_empty : goal.returns-then-is_empty
returns-then-is_empty c = let none : length c.args.gone.now ≡ 0 = grind (arith, common_steps) in c.in-Ok.ensures ∙ none-gone c.args.gone.now _ none
