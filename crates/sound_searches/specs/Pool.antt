-- One more cut of a search.
--     AddsCut S d S'          the cut of the derivation d stands last; all else of the search is as it was
use Rattle.std.specs.Prelude.{◌≡◌, ℕ, List, [], ◌∷◌, ◌++◌, take}
use Rattle.lp_model.specs.declared.types.CutRow.{CutRow}
use Rattle.lp_model.specs.declared.types.Derivation.{Derivation}
use Rattle.cover_cuts.specs.Cuts.{IsCutOf}
use Rattle.sound_searches.specs.Sound.{PlainSearch}

-- ---- one more cut

abbrev pub search_with_cut : PlainSearch → CutRow → PlainSearch
search_with_cut S c = record S { cuts = S.cuts ++ c ∷ [] }

pub record AddsCut (old : PlainSearch) (d : Derivation) (new : PlainSearch) : Type 0 where
  pub cut : CutRow
  pub from : cut.from ≡ d
  pub is : IsCutOf old.model cut
  pub new_is : new ≡ search_with_cut old cut

-- one after the other
abbrev pub AddsCuts : PlainSearch → List Derivation → PlainSearch → Type 0
AddsCuts old [] new = new ≡ old
AddsCuts old (d ∷ ds) new = (mid : PlainSearch) × (AddsCut old d mid × AddsCuts mid ds new)

-- the first of them alone, where there is no memory for the next
abbrev pub AddsSome : PlainSearch → List Derivation → PlainSearch → Type 0
AddsSome old ds new = (n : ℕ) × AddsCuts old (take n ds) new

-- whatever they are
abbrev pub AddsAny : PlainSearch → PlainSearch → Type 0
AddsAny old new = (ds : List Derivation) × AddsCuts old ds new
