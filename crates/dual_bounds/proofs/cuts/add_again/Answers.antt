use Rattle.std.proofs.Common.{◌∙◌}
use Rattle.dual_bounds.proofs.StandingCuts.{cut-stands}
use Rattle.dual_bounds.proofs.cuts.add_again.Goals as goal

pub add_cut_row-requires-clause-cut : goal.add_cut_row-requires-clause-cut
add_cut_row-requires-clause-cut c =
    let same = c.in_ok-same.ensures in
    cut-stands c.args.own.now c.args.model.now c.args.given.now c.args.cut.now c.in_ok-same.same c.requires.given (c.leaves_derivation.ensures c.if-leaves_derivation.true) (same.from ∙ c.in_ok-from.ensures) same.terms same.high same.live c.requires.cut

pub returns-then-leaves_derivation : goal.returns-then-leaves_derivation
returns-then-leaves_derivation c =
    let same = c.in_ok-same.ensures in (
      c.in_ok-same.same,
      (
        c.in_ok-add_cut_row.ensures.added,
        same.from ∙ c.in_ok-from.ensures,
        cut-stands c.args.own.now c.args.model.now c.args.given.now c.args.cut.now c.in_ok-same.same c.requires.given (c.leaves_derivation.ensures c.if-leaves_derivation.true) (same.from ∙ c.in_ok-from.ensures) same.terms same.high same.live c.requires.cut,
      ),
    )

pub returns : goal.returns
returns c = let added = c.in_ok-add_derivation.ensures in (added.0, (added.1.0, added.1.1 ∙ c.in_ok-from.ensures, added.1.2))
