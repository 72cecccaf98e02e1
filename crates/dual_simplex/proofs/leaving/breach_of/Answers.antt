use Rattle.std.proofs.Common.{◌≡◌, sym, subst, IfSome, to_z, of_z, w64}
use Rattle.table_entries.proofs.ReadLemmas.{short_read}
use Rattle.basic_solution.specs.CutTotals.{AreColumnTotals}
use Rattle.dual_simplex.proofs.leaving.breach_of.Goals as goal

pub cut_breach-requires-clause-totals : goal.cut_breach-requires-clause-totals
cut_breach-requires-clause-totals c =
    let now = c.args.state.now in
    let totals = c.args.totals.now in
    let d = c.in-Some.denominator in
    let are : AreColumnTotals now d totals = subst (λ o. IfSome o (λ e. AreColumnTotals now e totals)) c.in-Some.is c.requires.totals in
    let d_is : to_z w64 (of_z w64 d) ≡ d = short_read d are.denominator_short in
    subst (λ e. AreColumnTotals now e totals) (sym d_is) are
