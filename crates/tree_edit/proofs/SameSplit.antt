-- Whether a split is sound, and what its children are, depends on the leaf's region by the bounds alone.
use Rattle.std.proofs.Common.{ℕ, [], ◌∷◌, ◌++◌, sym, ap, subst, ◌∙◌}
use Rattle.std.specs.Prelude.{ℤ}
use Rattle.std.proofs.Math.Path.{fun_ext}
use Rattle.lp_model.specs.Regions.{Path}
use Rattle.lp_model.specs.Formulations.{Formulation}
use Rattle.lp_model.specs.declared.types.Basis.{Basis}
use Rattle.lp_model.specs.declared.types.BoundChange.{BoundChange}
use Rattle.tight_regions.specs.SameBounds.{SameBounds}
use Rattle.tight_regions.proofs.TightLemmas.{low_step, high_step, low-more, high-more}
use Rattle.leaf_dual.specs.Dual.{Multipliers}
use Rattle.leaf_dual.proofs.SameRegion.{low-same, high-same}
use Rattle.leaf_judging.proofs.SameNumber.{number-same}
use Rattle.leaf_judging.proofs.SameEntry.{entry-same}
use Rattle.search_parts.specs.Checks.{IsFrom, IsUnder}
use Rattle.sound_searches.specs.Placing.{IsSplitSound}
use Rattle.sound_searches.specs.Sound.{PlainSearch, formulation_of}
use Rattle.tree_edit.specs.declared.splitting.Child.{Child}
use Rattle.tree_edit.specs.private.PlacingSteps.{IsEnteredChild}

module _ (R P : Path) (s : SameBounds R P) where
  -- with one more change
  pub bounds-below : (c : BoundChange) → SameBounds (R ++ c ∷ []) (P ++ c ∷ [])
  bounds-below c = record {
    low = fun_ext (λ j. fun_ext (λ b. low-more R c j b ∙ ap (λ f. low_step j c (f j b)) s.low ∙ sym (low-more P c j b)));
    high = fun_ext (λ j. fun_ext (λ b. high-more R c j b ∙ ap (λ f. high_step j c (f j b)) s.high ∙ sym (high-more P c j b)));
  }

  pub sound-same : (F : Formulation) (j : ℕ) (v : ℤ) (mult : Multipliers) (basis : Basis) → IsSplitSound F R j v mult basis → IsSplitSound F P j v mult basis
  sound-same F j v mult basis is = record {
    allowed = record {
      there = is.allowed.there;
      integer = is.allowed.integer;
      low = subst (λ l. IsFrom l v) (low-same F.model R P s j) is.allowed.low;
      high = subst (λ h. IsUnder h v) (high-same F.model R P s j) is.allowed.high;
    };
    mult_is = is.mult_is;
    basis_is = is.basis_is;
  }

  pub child-same : (S : PlainSearch) (mult : Multipliers) (basis : Basis) (child : Child) → IsEnteredChild S R mult basis child → IsEnteredChild S P mult basis child
  child-same S mult basis child is =
      let F = formulation_of S in
      let judged = is.kept.judged in
      record {
        kept = record {
          mult_is = is.kept.mult_is;
          farkas_is = is.kept.farkas_is;
          basis_is = is.kept.basis_is;
          judged = record { number = judged.number; number_is = number-same F R P s child.kept.mult child.kept.farkas judged.number judged.number_is; says = judged.says };
        };
        entry = entry-same F R P s child.kept.mult child.kept.farkas child.entry is.entry;
      }
