use Rattle.std.proofs.Common.{◌≡◌, map, refl, sym, subst}
use Rattle.std.specs.Prelude.{IfOk}
use Rattle.lp_model.specs.Elements.{place_after}
use Rattle.lp_model.specs.Program.{Program}
use Rattle.lp_model.specs.Edits.{EditFits}
use Rattle.lp_model.specs.declared.types.Derivation.{Derivation}
use Rattle.lp_model.specs.declared.types.Edit.{Edit}
use Rattle.lp_model.specs.declared.types.Edit.TheVariants.{SetCost, SetCost2, SetRow, SetColBounds, SetKind, AddCol, DelCol, AddRow, DelRow, ReplaceRow}
use Rattle.kept_cuts.specs.Kept.{literal_after, derivation_after}
use Rattle.kept_cuts.proofs.pool.derivation_after.Goals as goal

module _ (M : Program) where
  stays : (e : Edit) (d : Derivation) → ((col : _) → ¬ (e ≡ DelCol col)) → ((row : _) → ¬ (e ≡ DelRow row)) → d ≡ derivation_after M e d
  stays (SetCost col v) d no_col no_row = refl
  stays (SetCost2 col v) d no_col no_row = refl
  stays (SetRow row lo hi) d no_col no_row = refl
  stays (SetColBounds col lo up) d no_col no_row = refl
  stays (SetKind col integer) d no_col no_row = refl
  stays (AddCol name integer lo up cost cost2 named) d no_col no_row = refl
  stays (DelCol col) d no_col no_row = absurd (no_col col refl)
  stays (AddRow name lo hi named) d no_col no_row = refl
  stays (DelRow row) d no_col no_row = absurd (no_row row refl)
  stays (ReplaceRow row lo hi named) d no_col no_row = refl

pub row_of-requires : goal.row_of-requires
row_of-requires c = let fits : EditFits c.args.model.now (DelRow c.in-DelRow.row) = subst (EditFits c.args.model.now) c.in-DelRow.is c.requires in fits.known.0

pub col_of-requires : goal.col_of-requires
col_of-requires c = let fits : EditFits c.args.model.now (DelCol c.in-DelCol.col) = subst (EditFits c.args.model.now) c.in-DelCol.is c.requires in fits.known.0

pub returns-in-DelRow : goal.returns-in-DelRow
returns-in-DelRow c =
    let from = c.args.from.now in
    subst (λ (e : Edit). IfOk c.without_row.result (λ d. d ≡ derivation_after c.args.model.now e from)) (sym c.in-DelRow.is)
    (subst (λ k. IfOk c.without_row.result (λ d. d ≡ record { row = record { 0 = place_after k from.row.0 }; side = from.side; literals = from.literals })) c.row_of.ensures c.without_row.ensures)

pub returns-in-DelCol : goal.returns-in-DelCol
returns-in-DelCol c =
    let from = c.args.from.now in
    subst (λ (e : Edit). IfOk c.without_column.result (λ d. d ≡ derivation_after c.args.model.now e from)) (sym c.in-DelCol.is)
    (subst (λ k. IfOk c.without_column.result (λ d. d ≡ record { row = from.row; side = from.side; literals = map (literal_after k) from.literals })) c.col_of.ensures c.without_column.ensures)

pub returns-in_default : goal.returns-in_default
returns-in_default c =
    subst (λ (d : Derivation). IfOk c.copy_derivation.result (λ copy. copy ≡ d)) (stays c.args.model.now c.args.edit.now c.args.from.now c.in_default.not-DelCol c.in_default.not-DelRow) c.copy_derivation.ensures
