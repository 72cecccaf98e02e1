use Rattle.std.proofs.Common.{◌≡◌, ◌<ℤ◌, sym, subst, pos, to_z, of_z, w64}
use Rattle.std.proofs.lemmas.Option.{IfSome_then}
use Rattle.table_entries.proofs.ReadLemmas.{short_read}
use Rattle.dual_simplex.proofs.entering.lacks_costs.Goals as goal

pub has_no_entry-requires-clause-entries : goal.has_no_entry-requires-clause-entries
has_no_entry-requires-clause-entries c =
    let d = c.denominator.result in
    let d_is : to_z w64 (of_z w64 d) ≡ d = short_read d c.denominator.ensures.short in
    let positive : pos 0 <ℤ to_z w64 (of_z w64 d) = subst (λ y. pos 0 <ℤ y) (sym d_is) c.denominator.ensures.positive in
    IfSome_then c.row_over-entries.result c.row_over-entries.ensures (λ r are. (to_z w64 (of_z w64 d), (positive, are)))
