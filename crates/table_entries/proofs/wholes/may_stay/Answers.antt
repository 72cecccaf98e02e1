use Rattle.table_entries.proofs.ReadLemmas.{short_again, positive_again}
use Rattle.table_entries.proofs.wholes.may_stay.Goals as goal

pub of-inverse-requires : goal.of-inverse-requires
of-inverse-requires c = positive_again c.args.magnitude c.requires.magnitude c.requires.positive

pub product-requires-clause-first : goal.product-requires-clause-first
product-requires-clause-first c = short_again c.args.denominator c.requires.denominator

pub product-requires-clause-second : goal.product-requires-clause-second
product-requires-clause-second c = short_again c.args.denominator c.requires.denominator

pub exact_quotient-requires : goal.exact_quotient-requires
exact_quotient-requires c = record { divisor = short_again c.args.magnitude c.requires.magnitude }
