use Rattle.std.proofs.Common.{sym, subst}
use Rattle.search_file.specs.Saved.{IsRestorable}
use Rattle.search_file.proofs.SavedLaws.{saved}
use Rattle.tree_rows.proofs.searches.made_again.Goals as goal

pub search_of-requires : goal.search_of-requires
search_of-requires c = subst IsRestorable (sym c.in_ok-stated.ensures) (saved.restorable c.args.search.now c.points-sound.ensures.sound)
