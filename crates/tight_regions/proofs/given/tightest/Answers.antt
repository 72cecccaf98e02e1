use Rattle.std.proofs.Common.{◌≡◌, ◌+◌, ◌++◌, ◌∷◌, [], take, get_or, sym, subst}
use Rattle.std.proofs.lemmas.List.{take_more}
use Rattle.lp_model.specs.Regions.{Path, AreNarrow}
use Rattle.lp_model.specs.declared.types.BoundChange.{BoundChange}
use Rattle.tight_regions.specs.Tight.{no_change}
use Rattle.tight_regions.specs.SameBounds.{SameBounds}
use Rattle.tight_regions.proofs.TightLemmas.{narrow-fewer, narrow-tightened}
use Rattle.tight_regions.proofs.TrailLemmas.{bounds-more}
use Rattle.tight_regions.proofs.given.tightest.Goals as goal

pub loop-change-preserved : goal.loop-change-preserved
loop-change-preserved c =
    let P : Path = c.args.path.now in
    let R : Path = c.loop-change.region.items in
    let Q : Path = c.put.new.region.items in
    let i = c.loop-change.change-index in
    let x : BoundChange = get_or P i no_change in
    let more : take (i + 1) P ≡ take i P ++ x ∷ [] = take_more P i no_change c.loop-change-test.true in
    record {
      bounds = subst (SameBounds Q) (sym more) (bounds-more R Q (take i P) x c.loop-change.invariant.bounds c.in-Ok.ensures);
      narrow = λ n. (let parts = narrow-fewer (take i P) x (subst AreNarrow more n) in subst AreNarrow (sym c.in-Ok.ensures) (narrow-tightened R x (c.loop-change.invariant.narrow parts.0) parts.1));
    }
