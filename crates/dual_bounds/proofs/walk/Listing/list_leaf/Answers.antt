use Rattle.std.proofs.Common.{refl}
use Rattle.dual_bounds.proofs.walk.Listing.list_leaf.Goals as goal

pub returns : goal.returns
returns c = λ path same. record {
  same = refl;
  same_cuts = refl;
  same_search = refl;
  same_given = refl;
  number = c.number_at-number.result;
  number_is = c.number_at-number.ensures path same;
  numbers_are = c.in_ok-push.ensures.items;
}
