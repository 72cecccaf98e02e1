-- An edit that fits has none of the faults.
use Rattle.std.specs.Prelude.{ℕ, Bool, length, Contains}
use Rattle.std.proofs.Common.{sym, subst, arith, inl, inr}
use Rattle.lp_model.specs.Program.{Program}
use Rattle.lp_model.specs.Lawful.{AreWithinLimits, entry_count}
use Rattle.lp_model.specs.Edits.{edited, known_names, EditFits}
use Rattle.lp_model.specs.declared.types.Edit.{Edit}
use Rattle.model_edits.specs.declared.faults.EditFault.{EditFault}
use Rattle.model_edits.specs.declared.faults.EditFault.TheVariants.{NoSuch, Duplicate, Limit, IntegerUnbounded, Ranged, Memory}
use Rattle.model_edits.specs.Faults.{PassesLimit, EditBad, FittingLaw}

within_passes : (wide : Bool) (rows columns entries n : ℕ) → AreWithinLimits wide rows columns entries → PassesLimit wide rows columns entries n → ⊥
within_passes wide rows columns entries n within passes =
    let few_rows = within.few_rows in
    let few_columns = within.few_columns in
    let few_entries = within.few_entries in
    elim passes [
      | inl h ↦ (let past = h.0 in absurd (omega arith))
      | inr h ↦ elim h.1 [
        | inl k ↦ (let past = k.0 in absurd (omega arith))
        | inr k ↦ (let past = k.1 in absurd (omega arith))
      ]
    ]

fits_without_fault : (M : Program) (e : Edit) → EditFits M e → (f : EditFault) → EditBad M e f → ⊥
fits_without_fault M e fits (NoSuch name) bad = elim bad [
  | inl h ↦ h.0 fits.known.0
  | inr h ↦ h.1.unknown (subst (Contains (known_names M e)) (sym h.1.is) (fits.known.1 h.1.place name h.1.within))
]
fits_without_fault M e fits (Duplicate name) bad = fits.free bad.1
fits_without_fault M e fits (Limit n) bad = within_passes M.wide (length (edited M e).rows) (length (edited M e).cols) (entry_count (edited M e)) n fits.limits bad.2
fits_without_fault M e fits (IntegerUnbounded name) bad = bad.3 fits.bounded
fits_without_fault M e fits (Ranged name) bad = bad.4 fits.range
fits_without_fault M e fits Memory bad = bad

pub fitting : FittingLaw
fitting M e f fits fault = elim fault [
  | inl is ↦ is
  | inr bad ↦ absurd (fits_without_fault M e fits f bad)
]
