-- Edits that leave the nodes of a tree: each list stays, and no cut goes. So the numbers that a search keeps are those that the
-- leaves had before.
use Rattle.std.specs.Prelude.{◌≡◌, ℕ, suc, true, false, List, [], ◌∷◌, length, Option, Some, None, IfSome}
use Rattle.std.proofs.Common.{refl, sym, ap, subst, ◌∙◌, true≢false}
use Rattle.lp_model.specs.Program.{Program}
use Rattle.lp_model.specs.Edits.{edited}
use Rattle.lp_model.specs.Formulations.{formulation}
use Rattle.lp_model.specs.declared.types.CutRow.{CutRow}
use Rattle.lp_model.specs.declared.types.Derivation.{Derivation}
use Rattle.lp_model.specs.declared.types.Edit.{Edit}
use Rattle.lp_model.specs.declared.types.Edit.TheVariants.{SetCost, SetCost2, SetRow, SetColBounds, SetKind, AddCol, DelCol, AddRow, DelRow, ReplaceRow}
use Rattle.cover_cuts.specs.Cuts.{IsPoolOf}
use Rattle.branch_tree.specs.Plain.{Plain}
use Rattle.branch_tree.specs.Numbered.{NumberedTree}
use Rattle.branch_tree.specs.Following.{followed_edit, after_edit}
use Rattle.branch_tree.proofs.NoneGone.{none-gone}
use Rattle.kept_cuts.specs.Kept.{goes_with, derivation_after, derivations_of, derivations_after, gone_from, gone_with, IsPoolAfter}
use Rattle.spared_leaves.specs.declared.touched.Touched.{Touched}
use Rattle.spared_leaves.specs.Touched.{touched_by}
use Rattle.spared_leaves.specs.Alike.{AreAlikeBut}
use Rattle.spared_leaves.proofs.LikeEdits.{like_edits}
use Rattle.spared_leaves.proofs.LikePools.{like_pools}
use Rattle.leaf_judging.specs.declared.former.Former.{Former}
use Rattle.leaf_judging.specs.Numbers.{AreNumbersOf}
use Rattle.leaf_judging.specs.Former.{former_formulation, IsAlikeFormer, AreFormer}
use Rattle.tree_edit.specs.private.Staying.{leaves_nodes}

-- ---- an edit with which no cut goes, and after which each has its derivation

pub record LeavesCuts (M : Program) (e : Edit) : Type 0 where
  pub stays : (d : Derivation) → goes_with M e d ≡ false
  pub same : (d : Derivation) → derivation_after M e d ≡ d
  pub tree : (T : NumberedTree) → followed_edit T M e ≡ T

module _ (M : Program) (e : Edit) (h : LeavesCuts M e) where
  pub derivations-left : (ds : List Derivation) → derivations_after M e ds ≡ ds
  derivations-left [] = refl
  derivations-left (d ∷ ds) = rw (h.stays d) (λ i. h.same d i ∷ derivations-left ds i)

  none-goes : (k : ℕ) (cuts : List CutRow) → gone_from M e k cuts ≡ []
  none-goes k [] = refl
  none-goes k (c ∷ cuts) = rw (h.stays c.from) (none-goes (suc k) cuts)

  pub tree-left : (cuts : List CutRow) (T : NumberedTree) → after_edit T M (gone_with M e cuts) e ≡ T
  tree-left cuts T = sym (none-gone (gone_with M e cuts) (followed_edit T M e) (ap length (none-goes 0 cuts))) ∙ h.tree T

-- what leaves the nodes is such an edit
pub leaves-cuts : (M : Program) (e : Edit) → leaves_nodes e ≡ true → LeavesCuts M e
leaves-cuts M (SetCost col v) h = record { stays = λ d. refl; same = λ d. refl; tree = λ T. refl }
leaves-cuts M (SetCost2 col v) h = record { stays = λ d. refl; same = λ d. refl; tree = λ T. refl }
leaves-cuts M (SetRow row lo hi) h = record { stays = λ d. refl; same = λ d. refl; tree = λ T. refl }
leaves-cuts M (SetColBounds col lo up) h = record { stays = λ d. refl; same = λ d. refl; tree = λ T. refl }
leaves-cuts M (SetKind col true) h = record { stays = λ d. refl; same = λ d. refl; tree = λ T. refl }
leaves-cuts M (SetKind col false) h = absurd (true≢false (sym h))
leaves-cuts M (AddCol name integer lo up cost cost2 named) h = record { stays = λ d. refl; same = λ d. refl; tree = λ T. refl }
leaves-cuts M (AddRow name lo hi named) h = record { stays = λ d. refl; same = λ d. refl; tree = λ T. refl }
leaves-cuts M (ReplaceRow row lo hi named) h = record { stays = λ d. refl; same = λ d. refl; tree = λ T. refl }
leaves-cuts M (DelCol col) h = absurd (true≢false (sym h))
leaves-cuts M (DelRow row) h = absurd (true≢false (sym h))

-- ---- the numbers

module _ (M N : Program) (e : Edit) (old new : List CutRow) (left : LeavesCuts M e) (former : Former) (touched : former.touched ≡ touched_by M e) (model : former.model.now ≡ M) (cuts : former.pool.now ≡ old) (pool : IsPoolOf M old) (edit_is : N ≡ edited M e) (after : IsPoolAfter M e old N new) where
  alike : (t : Touched) → touched_by M e ≡ Some t → IsAlikeFormer t former (formulation N new)
  alike t is = record {
    model = subst (λ P. P) (λ i. AreAlikeBut t (sym model i) (sym edit_is i)) (like_edits M e t is);
    cuts = like_pools M N former.pool.now new (subst (IsPoolOf M) (sym cuts) pool) after.pool
        (ap derivations_of cuts ∙ sym (after.derivations ∙ derivations-left M e left (derivations_of old)));
  }

  -- they are the former ones of the leaves
  pub former-numbers : (tree : Plain) → AreNumbersOf (formulation M old) tree former.numbers.now → AreFormer (Some former) (formulation N new) tree
  former-numbers tree numbers = subst (λ o. IfSome o Holds) (sym touched) (by (touched_by M e) refl)
    where
      Holds : Touched → Type 0
      Holds t = IsAlikeFormer t former (formulation N new) × AreNumbersOf (former_formulation former) tree former.numbers.now

      by : (o : Option Touched) → touched_by M e ≡ o → IfSome o Holds
      by None is = tt
      by (Some t) is = (alike t is, subst (λ P. P) (λ i. AreNumbersOf (formulation (sym model i) (sym cuts i)) tree former.numbers.now) numbers)
