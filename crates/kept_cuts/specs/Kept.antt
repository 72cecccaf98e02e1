-- The cuts that an edit of the model leaves.
--     derivations_after       the derivations that stay, by the places that they name once a row or a column is taken out
--     gone_with M e cuts      the places of the cuts that go with an edit
--     IsPoolAfter             the cuts that stay, as they derive at the edited model
use Rattle.std.specs.Prelude.{◌≡◌, ℕ, suc, Bool, false, if◌then◌else◌, not, nat_eq, List, [], ◌∷◌, map, filter}
use Rattle.std.specs.List.{list_any}
use Rattle.lp_model.specs.Elements.{place_after}
use Rattle.lp_model.specs.Program.{Program}
use Rattle.lp_model.specs.Edits.{col_place, row_place}
use Rattle.lp_model.specs.declared.types.CutId.{CutId}
use Rattle.lp_model.specs.declared.types.CutRow.{CutRow}
use Rattle.lp_model.specs.declared.types.Derivation.{Derivation}
use Rattle.lp_model.specs.declared.types.Literal.{Literal}
use Rattle.lp_model.specs.declared.types.Edit.{Edit}
use Rattle.lp_model.specs.declared.types.Edit.TheVariants.{DelCol, DelRow}
use Rattle.cover_cuts.specs.Cuts.{IsPoolOf}

-- ---- derivations

-- a literal is of the column
abbrev pub names_column : ℕ → List Literal → Bool
names_column j literals = list_any (λ l. nat_eq l.col.0 j) literals

-- the row that it is from is taken out, or the column of a literal is
abbrev pub goes_with : Program → Edit → Derivation → Bool
goes_with M (DelRow row) d = nat_eq d.row.0 (row_place M row)
goes_with M (DelCol col) d = names_column (col_place M col) d.literals
goes_with M e d = false

abbrev pub literal_after : ℕ → Literal → Literal
literal_after gone l = record { col = record { 0 = place_after gone l.col.0 }; plus = l.plus }

-- a derivation that stays, by the places that it names then
abbrev pub derivation_after : Program → Edit → Derivation → Derivation
derivation_after M (DelRow row) d = record { row = record { 0 = place_after (row_place M row) d.row.0 }; side = d.side; literals = d.literals }
derivation_after M (DelCol col) d = record { row = d.row; side = d.side; literals = map (literal_after (col_place M col)) d.literals }
derivation_after M e d = d

abbrev pub derivations_of : List CutRow → List Derivation
derivations_of cuts = map (λ c. c.from) cuts

abbrev pub derivations_after : Program → Edit → List Derivation → List Derivation
derivations_after M e ds = map (derivation_after M e) (filter (λ d. not (goes_with M e d)) ds)

abbrev pub cut_at : ℕ → CutId
cut_at k = record { 0 = k }

-- the places of the cuts that go, of which the first has place k
abbrev pub gone_from : Program → Edit → ℕ → List CutRow → List CutId
gone_from M e k [] = []
gone_from M e k (c ∷ cuts) = if goes_with M e c.from then cut_at k ∷ gone_from M e (suc k) cuts else gone_from M e (suc k) cuts

abbrev pub gone_with : Program → Edit → List CutRow → List CutId
gone_with M e cuts = gone_from M e 0 cuts

-- ---- pools

-- the pool after an edit: its cuts are those that stay, and each counts where it derives at the edited model
pub record IsPoolAfter (M : Program) (e : Edit) (old : List CutRow) (N : Program) (new : List CutRow) : Type 0 where
  pub derivations : derivations_of new ≡ derivations_after M e (derivations_of old)
  pub pool : IsPoolOf N new
