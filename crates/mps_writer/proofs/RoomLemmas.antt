-- Entries of rows that are there.
use Rattle.std.specs.Prelude.{ℕ, suc, ◌<◌, List, [], ◌∷◌, All}
use Rattle.std.proofs.lemmas.List.Elements.{All-nil, All-cons}
use Rattle.frac128.specs.Rational.{ℚ}
use Rattle.lp_model.specs.Lawful.{AreEntries}
use Rattle.lp_model.specs.declared.types.RowId.{RowId}

pub places_below : (from to : ℕ) (es : List (RowId × ℚ)) → AreEntries from to es → All (λ e. e.0.0 < to) es
places_below from to [] h = All-nil (λ (e : RowId × ℚ). e.0.0 < to)
places_below from to (e ∷ es) h = All-cons (λ (d : RowId × ℚ). d.0.0 < to) e es h.1 (places_below (suc e.0.0) to es h.3)
