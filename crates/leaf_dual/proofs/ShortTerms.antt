-- Terms that are short over one denominator have room.
use Rattle.std.specs.Prelude.{◌+◌, length}
use Rattle.std.proofs.Common.{arith}
use Rattle.kept_totals.specs.Short.{IsTotalWithin}
use Rattle.kept_totals.proofs.ShortLemmas.{short_sum}
use Rattle.leaf_dual.specs.Dual.{column_reduced_cost}
use Rattle.leaf_dual.specs.Answers.{row_number, rows_total, cut_number, cuts_total, bound_number}
use Rattle.leaf_dual.specs.ShortTerms.{ShortTermsLaw}

pub short_terms : ShortTermsLaw
short_terms d is F path y z c₀ c few short =
    let m = length F.model.rows in
    let k = length F.cuts in
    let begun : IsTotalWithin d 1 c₀ = record { number = short.start.number; within = let s = short.start.short in omega (arith, s); is = short.start.is } in
    let rows = short_sum d is c₀ y (row_number F.model y) 1 m begun short.rows (omega (arith, few)) in
    let cuts = short_sum d is (rows_total F.model y c₀) z (cut_number F.cuts z) (1 + m) k rows.1 short.cuts (omega (arith, few)) in
    let columns = short_sum d is (cuts_total F y z c₀) (column_reduced_cost F y z c) (bound_number F path y z c) (1 + m + k) (length F.model.cols) cuts.1 short.columns (omega (arith, few)) in
    (rows.0, (cuts.0, columns.0))
