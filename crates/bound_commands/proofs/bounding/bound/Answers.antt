use Rattle.std.proofs.Common.{◌≢◌, map, subst, sym}
use Rattle.std.specs.Prelude.{AllPairs}
use Rattle.lp_model.specs.Edits.{Named}
use Rattle.edit_words.specs.EditWords.{names_in}
use Rattle.edit_words.proofs.PairLemmas.{pairs-distinct}
use Rattle.bound_commands.proofs.bounding.bound.Goals as goal

pub bound_by_numbers-told-requires-clause-distinct : goal.bound_by_numbers-told-requires-clause-distinct
bound_by_numbers-told-requires-clause-distinct c =
    subst (λ (named : Named). AllPairs (λ a b. a ≢ b) (names_in named)) (sym c.as_slice.ensures) (pairs-distinct (map (λ word. word.now) c.args.words.now) c.in-Read.named c.in-Read.ensures)
