-- Columns that a path does not name: they keep their bounds. And marks of those that it names, one change after the other.
use Rattle.std.specs.Prelude.{◌≡◌, ℕ, ◌+◌, ◌<◌, Bool, true, false, if◌then◌else◌, nat_eq, List, [], ◌∷◌, length, take, get_or, Option}
use Rattle.std.proofs.Common.{refl, sym, ap, subst, ◌∙◌, arith}
use Rattle.std.proofs.lemmas.Bool.{false≢true}
use Rattle.std.proofs.lemmas.List.{take_more}
use Rattle.std.proofs.lemmas.List.Elements.{All-push, All-head, All-tail}
use Rattle.frac128.specs.Rational.{ℚ, int}
use Rattle.lp_model.specs.Regions.{Path, low_after, high_after, low_along, high_along}
use Rattle.lp_model.specs.declared.types.BoundChange.{BoundChange}
use Rattle.leaf_dual.specs.WholeParts.{NamesNoColumn, AreNamedMarked}

pub unnamed-low : (path : Path) (j : ℕ) → NamesNoColumn path j → (b : Option ℚ) → low_along path j b ≡ b
unnamed-low [] j none b = refl
unnamed-low (c ∷ path) j none b =
    ap (λ t. low_along path j (if t then low_after c.side b (int c.v) else b)) (All-head (λ (d : BoundChange). nat_eq d.col.0 j ≡ false) c path none)
    ∙ unnamed-low path j (All-tail (λ (d : BoundChange). nat_eq d.col.0 j ≡ false) c path none) b

pub unnamed-high : (path : Path) (j : ℕ) → NamesNoColumn path j → (b : Option ℚ) → high_along path j b ≡ b
unnamed-high [] j none b = refl
unnamed-high (c ∷ path) j none b =
    ap (λ t. high_along path j (if t then high_after c.side b (int c.v) else b)) (All-head (λ (d : BoundChange). nat_eq d.col.0 j ≡ false) c path none)
    ∙ unnamed-high path j (All-tail (λ (d : BoundChange). nat_eq d.col.0 j ≡ false) c path none) b

-- the column of one change more is marked
pub marked-more : (path : Path) (i : ℕ) (d : BoundChange) (old new : List Bool) → i < length path → length new ≡ length old → AreNamedMarked (take i path) old
    → ((j : ℕ) → j < length old → get_or new j false ≡ (if nat_eq (get_or path i d).col.0 j then true else get_or old j false)) → AreNamedMarked (take (i + 1) path) new
marked-more path i d old new within same before marked j below unmarked =
    let under : j < length old = omega (arith, below, same) in
    by (nat_eq (get_or path i d).col.0 j) refl under (sym (marked j under) ∙ unmarked)
  where
    by : (t : Bool) → nat_eq (get_or path i d).col.0 j ≡ t → j < length old → (if t then true else get_or old j false) ≡ false → NamesNoColumn (take (i + 1) path) j
    by true e under h = absurd (false≢true (sym h))
    by false e under h =
        subst (λ (p : Path). NamesNoColumn p j) (sym (take_more path i d within)) (All-push (λ (c : BoundChange). nat_eq c.col.0 j ≡ false) (take i path) (get_or path i d) (before j under h) e)
