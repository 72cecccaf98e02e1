-- The numbers so far, as an ordered set.
use Rattle.std.specs.Prelude.{◌≡◌, ◌↔◌, ℕ, ◌++◌, Bool, true, false, cond, IsTrue, List, [], ◌∷◌, Contains}
use Rattle.std.specs.BTreeSet.{BTreeSet, IsEmpty, Updates, contains}
use Rattle.std.specs.List.{list_any}
use Rattle.std.specs.Ordering.{nat_cmp, is_eq}
use Rattle.std.proofs.Common.{refl, sym, subst, ap, ◌∙◌, arith, inl, inr}
use Rattle.std.proofs.lemmas.List.Elements.{Contains-append_left, Contains-push, Contains-push_cases}
use Rattle.std.proofs.lemmas.Map.Lookups.{exact_unsigned}
use Rattle.std.proofs.lemmas.Map.Views.{tells_apart}

-- the set has these and no others
abbrev pub Sees : BTreeSet ℕ → List ℕ → Type 0
Sees set ns = (q : ℕ) → IsTrue (contains nat_cmp set q) ↔ Contains ns q

pub sees-none : (set : BTreeSet ℕ) → IsEmpty set → Sees set []
sees-none set empty q = ((λ t. let f : false ≡ true = sym (ap (list_any (λ k. is_eq (nat_cmp q k))) empty) ∙ t in absurd cc), none)
  where
    none : Contains [] q → IsTrue (contains nat_cmp set q)
    none (k, below, is) = absurd (omega (arith, below))

pub sees-more : (old new : BTreeSet ℕ) (n : ℕ) (ns : List ℕ) → Updates nat_cmp old new n true → Sees old ns → Sees new (ns ++ n ∷ [])
sees-more old new n ns updates sees q = (there, back)
  where
    there : IsTrue (contains nat_cmp new q) → Contains (ns ++ n ∷ []) q
    there t = by (is_eq (nat_cmp n q)) refl
      where
        by : (b : Bool) → is_eq (nat_cmp n q) ≡ b → Contains (ns ++ n ∷ []) q
        by true same = subst (Contains (ns ++ n ∷ [])) (tells_apart exact_unsigned n q same) (Contains-push ns n)
        by false other = Contains-append_left ns (n ∷ []) q ((sees q).0 (sym (updates.2 q other) ∙ t))

    either : (b : Bool) → cond b true true ≡ true
    either true = refl
    either false = refl

    back : Contains (ns ++ n ∷ []) q → IsTrue (contains nat_cmp new q)
    back has =
        elim (Contains-push_cases ns n q has) [
          | inl early ↦ updates.0 q ∙ ap (cond (is_eq (nat_cmp n q)) true) ((sees q).1 early) ∙ either (is_eq (nat_cmp n q))
          | inr same ↦ subst (λ m. IsTrue (contains nat_cmp new m)) same updates.1
        ]
