use Rattle.std.proofs.Common.{◌≡◌, ◌+◌, ◌-◌, ◌*◌, ◌≤◌, length}
use Rattle.frac128.specs.Rational.{ℚ}
use Rattle.kept_totals.specs.Walk.{IsTotalAt, KeepsMore}
use Rattle.kept_totals.proofs.walk.add_blocks.Given as goal

abbrev pub invariant-loop-block : goal.invariant-loop-block
invariant-loop-block g l = record {
  order : l.blocks ≤ l.block;
  total : (start : ℚ) → IsTotalAt start (g.T.PartialTerms.factor l.terms) (g.T.PartialTerms.number l.terms) (g.T.PartialTerms.is_there l.terms) (64 * l.blocks) l.fn.totals.total → IsTotalAt start (g.T.PartialTerms.factor l.terms) (g.T.PartialTerms.number l.terms) (g.T.PartialTerms.is_there l.terms) (64 * l.block) l.totals.total;
  kept : (start : ℚ) → IsTotalAt start (g.T.PartialTerms.factor l.terms) (g.T.PartialTerms.number l.terms) (g.T.PartialTerms.is_there l.terms) (64 * l.blocks) l.fn.totals.total → KeepsMore start (g.T.PartialTerms.factor l.terms) (g.T.PartialTerms.number l.terms) (g.T.PartialTerms.is_there l.terms) (l.blocks + 1) l.fn.totals.kept l.totals.kept;
  count : length l.totals.kept ≡ length l.fn.totals.kept + (l.block - l.blocks);
  room : l.totals.room ≡ l.fn.totals.room;
  rises : l.fn.steps ≤ l.steps;
  steps : l.steps ≤ l.fn.steps + 64 * (l.block - l.blocks);
}
