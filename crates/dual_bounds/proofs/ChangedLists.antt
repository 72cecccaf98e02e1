-- Lists with each of the named elements changed.
use Rattle.std.specs.Prelude.{◌≡◌, ℕ, List, [], ◌∷◌, ◌++◌, length, map, sum_by, All}
use Rattle.std.proofs.Common.{refl, sym, ap, subst, ◌∙◌}
use Rattle.std.proofs.lemmas.List.Elements.{All-cons, All-nil, All-head, All-tail}
use Rattle.frac128.specs.Rational.{ℚ}
use Rattle.lp_model.specs.Elements.{of_element, changed_at}
use Rattle.lp_model.proofs.ChangedLaws.{length-changed_at, map-changed_at, sum_by-changed_at, All-changed_at, of_element-changed_at}
use Rattle.dual_bounds.specs.NewNumbers.{changed_all}

-- what holds of each of a list under a map holds so of each of the list
pub All-unmap : {X Y : Type 0} (P : X → Type 0) (f : Y → X) (ys : List Y) → All P (map f ys) → All (λ y. P (f y)) ys
All-unmap P f [] h = All-nil (λ y. P (f y))
All-unmap P f (y ∷ ys) h = All-cons (λ y. P (f y)) y ys (All-head P (f y) (map f ys) h) (All-unmap P f ys (All-tail P (f y) (map f ys) h))

module _ {A K : Type 0} (place : K → ℕ) (f : ℚ → A → A) where
  -- one name more
  pub changed_all-push : (named : List (K × ℚ)) (e : K × ℚ) (items : List A) → changed_all place f (named ++ e ∷ []) items ≡ changed_at (f e.1) (changed_all place f named items) (place e.0)
  changed_all-push [] e items = refl
  changed_all-push (n ∷ named) e items = changed_all-push named e (changed_at (f n.1) items (place n.0))

  pub length-changed_all : (named : List (K × ℚ)) (items : List A) → length (changed_all place f named items) ≡ length items
  length-changed_all [] items = refl
  length-changed_all (n ∷ named) items = length-changed_all named (changed_at (f n.1) items (place n.0)) ∙ length-changed_at (f n.1) items (place n.0)

  -- what no change touches stays
  pub map-changed_all : {B : Type 0} (g : A → B) → ((v : ℚ) (a : A) → g (f v a) ≡ g a) → (named : List (K × ℚ)) (items : List A) → map g (changed_all place f named items) ≡ map g items
  map-changed_all g same [] items = refl
  map-changed_all g same (n ∷ named) items = map-changed_all g same named (changed_at (f n.1) items (place n.0)) ∙ map-changed_at (f n.1) g (same n.1) items (place n.0)

  pub sum_by-changed_all : (g : A → ℕ) → ((v : ℚ) (a : A) → g (f v a) ≡ g a) → (named : List (K × ℚ)) (items : List A) → sum_by g (changed_all place f named items) ≡ sum_by g items
  sum_by-changed_all g same [] items = refl
  sum_by-changed_all g same (n ∷ named) items = sum_by-changed_all g same named (changed_at (f n.1) items (place n.0)) ∙ sum_by-changed_at (f n.1) g (same n.1) items (place n.0)

  pub of_element-changed_all : {B : Type 0} (d : B) (g : A → B) → ((v : ℚ) (a : A) → g (f v a) ≡ g a) → (named : List (K × ℚ)) (items : List A) (j : ℕ) → of_element d g (changed_all place f named items) j ≡ of_element d g items j
  of_element-changed_all d g same [] items j = refl
  of_element-changed_all d g same (n ∷ named) items j = of_element-changed_all d g same named (changed_at (f n.1) items (place n.0)) j ∙ of_element-changed_at (f n.1) d g (same n.1) items (place n.0) j

  -- what each change keeps holds of each element
  pub All-changed_all : (P : A → Type 0) (Q : ℚ → Type 0) → ((v : ℚ) (a : A) → Q v → P a → P (f v a)) → (named : List (K × ℚ)) (items : List A) → All (λ (e : K × ℚ). Q e.1) named → All P items → All P (changed_all place f named items)
  All-changed_all P Q keeps [] items fit all = all
  All-changed_all P Q keeps (n ∷ named) items fit all =
      let here = All-head (λ (e : K × ℚ). Q e.1) n named fit in
      All-changed_all P Q keeps named (changed_at (f n.1) items (place n.0)) (All-tail (λ (e : K × ℚ). Q e.1) n named fit)
      (All-changed_at (f n.1) P items (place n.0) all (λ a below is. keeps n.1 a here (subst P (sym is) (all (place n.0) a below))))

  -- where no change makes a difference the list stays
  pub changed_all-same : (named : List (K × ℚ)) (items : List A) → All (λ (e : K × ℚ). changed_at (f e.1) items (place e.0) ≡ items) named → changed_all place f named items ≡ items
  changed_all-same [] items same = refl
  changed_all-same (n ∷ named) items same =
      ap (changed_all place f named) (All-head (λ (e : K × ℚ). changed_at (f e.1) items (place e.0) ≡ items) n named same)
      ∙ changed_all-same named items (All-tail (λ (e : K × ℚ). changed_at (f e.1) items (place e.0) ≡ items) n named same)
