use Rattle.std.proofs.Common.{◌∙◌, sym, ap}
use Rattle.frac128.specs.LowestTerms.{quotient_of}
use Rattle.whole_sums.proofs.ReadLemmas.{short_read, denominator_again}
use Rattle.leaf_dual.proofs.whole_leaf.WholeLeaf.has_short_constant.Goals as goal

pub short_over-requires : goal.short_over-requires
short_over-requires c = denominator_again c.args.self.now.denominator c.requires.denominator

pub returns-in-Some : goal.returns-in-Some
returns-in-Some c = λ t. record {
  number = _;
  short = c.in-Some.ensures.short;
  is = sym c.constant.ensures ∙ c.in-Some.ensures.value ∙ ap (quotient_of _) (short_read c.args.self.now.denominator c.requires.denominator.short);
}
