use Rattle.std.proofs.Common.{◌∙◌, sym}
use Rattle.kept_cuts.proofs.SparedCuts.{spared-cut, spared-keeps}
use Rattle.kept_cuts.proofs.pool.keep_cut.Goals as goal

pub add_cut_row-requires-clause-cut : goal.add_cut_row-requires-clause-cut
add_cut_row-requires-clause-cut c =
    let same = c.in_ok-same.ensures in
    spared-cut c.args.old.now c.args.new.now c.args.edit.now c.args.cut.now c.in_ok-same.same (sym c.spares.ensures ∙ c.if-not-spares.false) c.requires.edited c.requires.cut
    (same.from ∙ c.in_ok-moved.ensures) same.terms same.high same.live

pub returns : goal.returns
returns c =
    let same = c.in_ok-same.ensures in
    spared-keeps c.args.old.now c.args.new.now c.args.edit.now c.args.cut.now c.in_ok-same.same c.args.after.now c.add_cut_row.new.self (sym c.spares.ensures ∙ c.if-not-spares.false) c.requires.edited c.requires.cut
    (same.from ∙ c.in_ok-moved.ensures) same.terms same.high same.live c.in_ok-add_cut_row.ensures.added
