-- The numbers in a front's certificate are those that a fraction has room for, as they are in each that the program holds, and
-- those of gaps and cuts have 64 bits.
use Rattle.std.specs.Prelude.{◌<◌, ◌^◌, All}
use Rattle.front_text.specs.declared.front.TreeOf.{TreeOf}
use Rattle.front_text.specs.declared.front.TreeOf.TheVariants.{Least1, Least2, Gap}
use Rattle.front_text.specs.declared.front.FrontTree.{FrontTree}
use Rattle.front_text.specs.declared.front.FrontOutcome.{FrontOutcome}
use Rattle.front_text.specs.declared.front.FrontCert.{FrontCert}
use Rattle.cert_writer.specs.Room.{HasFractions, HasNodeRoom}

abbrev pub HasGapRoom : TreeOf → Type 0
HasGapRoom Least1 = Unit {0}
HasGapRoom Least2 = Unit {0}
HasGapRoom (Gap number) = number < 2 ^ 64

abbrev pub HasOutcomeRoom : FrontOutcome → Type 0
HasOutcomeRoom outcome = HasFractions outcome.point

pub record HasTreeRoom (tree : FrontTree) : Type 0 where
  pub of : HasGapRoom tree.of
  pub nodes : All HasNodeRoom tree.nodes

pub record HasFrontRoom (cert : FrontCert) : Type 0 where
  pub outcomes : All HasOutcomeRoom cert.outcomes
  pub trees : All HasTreeRoom cert.trees
