use Rattle.std.proofs.Common.{◌≡◌, map, ap, sym, subst}
use Rattle.std.specs.Prelude.{IfOk}
use Rattle.mps_sections.specs.Limits.{AreNamesApart, names_of_columns}
use Rattle.mps_model.specs.Meaning.{span_of}
use Rattle.mps_model.proofs.spans.spans_of.Goals as goal

pub names_in-requires : goal.names_in-requires
names_in-requires c = subst AreNamesApart (ap names_of_columns (sym c.as_slice-columns.ensures)) c.requires

pub returns : goal.returns
returns c = subst (λ P. P) (λ i. IfOk c.spans_with-spans.result (λ spans. spans.items ≡ map (span_of (c.as_slice.ensures i)) (c.as_slice-columns.ensures i))) c.spans_with-spans.ensures
