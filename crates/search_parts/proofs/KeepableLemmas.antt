-- The points that may be kept, with their values.
use Rattle.std.specs.Prelude.{◌≡◌, ℕ, zero, suc, ◌+◌, ◌≤◌, ◌<◌, List, [], ◌∷◌, ◌++◌, length, get_or, map, take, All}
use Rattle.std.proofs.Common.{refl, sym, ap, subst, ◌∙◌, arith, inl, inr}
use Rattle.std.proofs.lemmas.List.{map-append, take_more}
use Rattle.std.proofs.lemmas.List.Elements.{All-cons, All-nil}
use Rattle.frac128.specs.Rational.{ℚ}
use Rattle.lp_model.specs.Elements.{without_at}
use Rattle.lp_model.specs.Program.{Program, Point, least_value}
use Rattle.search_parts.specs.Points.{IsKeepable}
use Rattle.search_parts.specs.EditedPoints.{AreKeepable, AreValued}
use Rattle.search_parts.specs.private.EditedPoints.{AddsKeepable}

module _ (M : Program) where
  pub keepable-all : (xs ys : List Point) → AreKeepable M xs ys → All (IsKeepable M) ys
  keepable-all [] ys h = subst (All (IsKeepable M)) (sym h) (All-nil (IsKeepable M))
  keepable-all (x ∷ xs) ys (inl h) = keepable-all xs ys h.1
  keepable-all (x ∷ xs) ys (inr h) = subst (All (IsKeepable M)) (sym h.1.1.0) (All-cons (IsKeepable M) x h.1.0 h.0 (keepable-all xs h.1.0 h.1.1.1))

  pub keepable-few : (xs ys : List Point) → AreKeepable M xs ys → length ys ≤ length xs
  keepable-few [] ys h = let e = ap length h in omega arith
  keepable-few (x ∷ xs) ys (inl h) = let n = keepable-few xs ys h.1 in omega arith
  keepable-few (x ∷ xs) ys (inr h) = let e = ap length h.1.1.0 in let n = keepable-few xs h.1.0 h.1.1.1 in omega arith

  keepable-not : (xs ys : List Point) (x : Point) → ¬ IsKeepable M x → AreKeepable M xs ys → AreKeepable M (xs ++ x ∷ []) ys
  keepable-not [] ys x not h = inl (not, h)
  keepable-not (z ∷ xs) ys x not (inl h) = inl (h.0, keepable-not xs ys x not h.1)
  keepable-not (z ∷ xs) ys x not (inr h) = inr (h.0, (h.1.0, (h.1.1.0, keepable-not xs h.1.0 x not h.1.1.1)))

  keepable-one : (xs ys : List Point) (x : Point) → IsKeepable M x → AreKeepable M xs ys → AreKeepable M (xs ++ x ∷ []) (ys ++ x ∷ [])
  keepable-one [] ys x is h = inr (is, ([], (ap (λ l. l ++ x ∷ []) h, refl)))
  keepable-one (z ∷ xs) ys x is (inl h) = inl (h.0, keepable-one xs ys x is h.1)
  keepable-one (z ∷ xs) ys x is (inr h) = inr (h.0, (h.1.0 ++ x ∷ [], (ap (λ l. l ++ x ∷ []) h.1.1.0, keepable-one xs h.1.0 x is h.1.1.1)))

  pub valued-more : (xs ys zs : List Point) (vs ws : List ℚ) (x : Point) → AreValued M xs ys vs → AddsKeepable M x ys vs zs ws → AreValued M (xs ++ x ∷ []) zs ws
  valued-more xs ys zs vs ws x h (inl a) =
      record { keepable = subst (AreKeepable M (xs ++ x ∷ [])) (sym a.1) (keepable-not xs ys x a.0 h.keepable); values_are = a.2 ∙ h.values_are ∙ ap (map (least_value M 1)) (sym a.1) }
  valued-more xs ys zs vs ws x h (inr a) =
      record {
        keepable = subst (AreKeepable M (xs ++ x ∷ [])) (sym a.1) (keepable-one xs ys x a.0 h.keepable);
        values_are = a.2 ∙ ap (λ l. l ++ least_value M 1 x ∷ []) h.values_are ∙ sym (map-append (least_value M 1) ys (x ∷ [])) ∙ ap (map (least_value M 1)) (sym a.1);
      }

-- one more point of a list, changed
pub map-more : {A : Type 0} (f : A → A) (xs : List A) (i : ℕ) (x : A) → i < length xs → x ≡ get_or xs i x → map f (take (i + 1) xs) ≡ map f (take i xs) ++ f x ∷ []
map-more f xs i x below is = ap (map f) (take_more xs i x below ∙ ap (λ b. take i xs ++ b ∷ []) (sym is)) ∙ map-append f (take i xs) (x ∷ [])

pub without_at-past : {A : Type 0} (xs : List A) (k : ℕ) → length xs ≤ k → xs ≡ without_at xs k
without_at-past [] k h = refl
without_at-past (x ∷ xs) zero h = absurd (omega arith)
without_at-past (x ∷ xs) (suc k) h = let past : length xs ≤ k = omega arith in ap (λ l. x ∷ l) (without_at-past xs k past)

-- one more point is looked at
pub valued-next : (M : Program) (points : List Point) (i : ℕ) (x copy : Point) (ys zs : List Point) (vs ws : List ℚ) → i < length points → x ≡ get_or points i x → copy ≡ x
    → AreValued M (take i points) ys vs → AddsKeepable M copy ys vs zs ws → AreValued M (take (i + 1) points) zs ws
valued-next M points i x copy ys zs vs ws below is same h adds =
    let more : take i points ++ copy ∷ [] ≡ take (i + 1) points = ap (λ y. take i points ++ y ∷ []) (same ∙ is) ∙ sym (take_more points i x below) in
    subst (λ (l : List Point). AreValued M l zs ws) more (valued-more M (take i points) ys zs vs ws copy h adds)
