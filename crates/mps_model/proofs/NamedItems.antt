-- A list of what is taken from named items, where the item of one name changes: its names differ, so all others stay.
use Rattle.std.proofs.Common.{◌≡◌, ℕ, zero, suc, ◌<◌, true, false, List, [], ◌∷◌, map, length, get_or, refl, sym, ◌∙◌, ap, arith, inl, inr, Contains}
use Rattle.std.specs.Prelude.{bytes_eq}
use Rattle.std.proofs.Math.ListN.{set}
use Rattle.std.proofs.lemmas.Bool.{or_parts, or_cases, false_from_ne_true, false≢true}
use Rattle.std.proofs.lemmas.List.{get_or_default}
use Rattle.std.proofs.lemmas.Slice.Eq.{bytes_eq-Decides}
use Rattle.lp_model.proofs.NameLemmas.{contains_first, contains_later}
use Rattle.mps_fields.specs.Words.{among}
use Rattle.mps_sections.specs.Limits.{AreNamesApart}
use Rattle.mps_model.proofs.EntryCounts.{none_later, apart_later}

pub among_there : (names : List (List ℕ)) (name : List ℕ) → among names name ≡ true → Contains names name
among_there [] name e = absurd (false≢true e)
among_there (first ∷ names) name e =
    elim (or_cases (bytes_eq first name) (among names name) e) [
      | inl is ↦ contains_first first name names ((bytes_eq-Decides first name).0 is)
      | inr more ↦ contains_later first name names (among_there names name more)
    ]

-- the first of names that differ is none of the others
pub first_alone : (name : List ℕ) (names : List (List ℕ)) → AreNamesApart (name ∷ names) → among names name ≡ false
first_alone name names apart = false_from_ne_true (among names name) (λ e. none_later name names apart (among_there names name e))

module _ {A B : Type 0} (name : A → List ℕ) (f g : A → B) (h : B → B) (q : List ℕ) (here : (a : A) → name a ≡ q → g a ≡ h (f a)) (other : (a : A) → bytes_eq (name a) q ≡ false → g a ≡ f a) where
  -- no item has the name
  pub unnamed : (items : List A) → among (map name items) q ≡ false → map f items ≡ map g items
  unnamed [] e = refl
  unnamed (a ∷ items) e =
      let parts = or_parts (bytes_eq (name a) q) (among (map name items) q) e in
      ap (λ b. b ∷ map f items) (sym (other a parts.0)) ∙ ap (λ more. g a ∷ more) (unnamed items parts.1)

  -- the item at the place has the name
  pub named : (items : List A) (k : ℕ) (x y : B) → AreNamesApart (map name items) → k < length items → get_or (map name items) k [] ≡ q → x ≡ get_or (map f items) k x → y ≡ h x → set (map f items) k y ≡ map g items
  named [] k x y apart below is old new = absurd (omega arith)
  named (a ∷ items) zero x y apart below is old new =
      ap (λ b. b ∷ map f items) (new ∙ ap h old ∙ sym (here a is))
      ∙ ap (λ more. g a ∷ more) (unnamed items (ap (among (map name items)) (sym is) ∙ first_alone (name a) (map name items) apart))
  named (a ∷ items) (suc k) x y apart below is old new =
      let within : k < length items = omega arith in
      let differs : bytes_eq (name a) q ≡ false = false_from_ne_true (bytes_eq (name a) q) (λ e. none_later (name a) (map name items) apart (at k within (is ∙ sym ((bytes_eq-Decides (name a) q).0 e)))) in
      ap (λ b. b ∷ set (map f items) k y) (sym (other a differs)) ∙ ap (λ more. g a ∷ more) (named items k x y (apart_later (name a) (map name items) apart) within is old new)
    where
      at : (k : ℕ) → k < length items → get_or (map name items) k [] ≡ name a → Contains (map name items) (name a)
      at k within e = let w : k < length (map name items) = omega (arith, length-names items) in (k, w, get_or_default (map name items) k (name a) [] w ∙ e)
        where
          length-names : (all : List A) → length (map name all) ≡ length all
          length-names [] = refl
          length-names (b ∷ all) = ap suc (length-names all)
