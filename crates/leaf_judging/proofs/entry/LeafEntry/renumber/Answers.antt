use Rattle.std.specs.Prelude.{[], ◌∷◌}
use Rattle.std.proofs.Common.{◌∙◌, inl, inr, refl, sym, true≢false}
use Rattle.lp_model.specs.Regions.{Path, IsEmptyRegion}
use Rattle.lp_model.specs.Formulations.{Formulation, formulation}
use Rattle.leaf_dual.specs.Dual.{Multipliers}
use Rattle.leaf_totals.specs.declared.keeping.LeafTotals.{LeafTotals}
use Rattle.leaf_judging.specs.Totals.{AreFarkasTotals}
use Rattle.leaf_judging.specs.private.Entries.{CanRefute}
use Rattle.leaf_judging.proofs.EntryLemmas.{number-is, none-aside, refuting-is}
use Rattle.leaf_judging.proofs.entry.LeafEntry.renumber.Goals as goal

-- in an empty region
farkas-empty : (F : Formulation) (path : Path) (t : LeafTotals) (farkas : Multipliers) → IsEmptyRegion F.model path → CanRefute F path farkas t → AreFarkasTotals F path farkas t
farkas-empty F path t [] empty h = tt
farkas-empty F path t (m ∷ ms) empty h = (h, λ some. absurd (some empty))

pub returns-clause-entry : goal.returns-clause-entry
returns-clause-entry g c =
    let F = formulation c.args.model.now c.args.pool.now in
    let path = c.args.region.now in
    record {
      number = number-is F path c.args.mult.now c.args.farkas.now c.lag_number-self.result
          (none-aside F path c.args.mult.now c.args.farkas.now (λ empty. true≢false (sym (c.is_empty_region.ensures.1 empty) ∙ c.if-is_empty_region.false)) (λ refuted. true≢false (sym (c.refutes.ensures.refuted.1 refuted) ∙ c.if-refutes.false)))
          c.lag_number-self.ensures.number;
      lag = c.lag_number-self.ensures.totals;
      refuting = refuting-is F path c.args.farkas.now c.refutes.new.totals c.refutes.ensures.totals;
      complete = λ some. c.lag_number-self.ensures.complete;
    }

pub is_empty_region-requires : goal.is_empty_region-requires
is_empty_region-requires g c = c.requires.narrow

pub refutes-requires-clause-narrow : goal.refutes-requires-clause-narrow
refutes-requires-clause-narrow g c = c.requires.narrow

pub refutes-requires-clause-totals : goal.refutes-requires-clause-totals
refutes-requires-clause-totals g c = c.requires.farkas

pub lag_number-self-requires-clause-narrow : goal.lag_number-self-requires-clause-narrow
lag_number-self-requires-clause-narrow g c = c.requires.narrow

pub lag_number-self-requires-clause-totals : goal.lag_number-self-requires-clause-totals
lag_number-self-requires-clause-totals g c = c.requires.lag

pub returns-then-is_empty_region-clause-entry : goal.returns-then-is_empty_region-clause-entry
returns-then-is_empty_region-clause-entry g c =
    let empty = c.is_empty_region.ensures.0 c.if-is_empty_region.true in
    record {
      number = inl empty;
      lag = c.requires.lag;
      refuting = farkas-empty (formulation c.args.model.now c.args.pool.now) c.args.region.now c.args.self.now.farkas c.args.farkas.now empty c.requires.farkas;
      complete = λ some. absurd (some refl);
    }

pub returns-then-refutes-clause-entry : goal.returns-then-refutes-clause-entry
returns-then-refutes-clause-entry g c = record {
  number = inr (c.refutes.ensures.refuted.0 c.if-refutes.true);
  lag = c.requires.lag;
  refuting = refuting-is (formulation c.args.model.now c.args.pool.now) c.args.region.now c.args.farkas.now c.refutes.new.totals c.refutes.ensures.totals;
  complete = λ some. absurd (some refl);
}
