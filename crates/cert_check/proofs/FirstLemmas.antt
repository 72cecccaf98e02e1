-- A question with one answer, and the first of some items that does not pass.
use Rattle.std.specs.Prelude.{◌≡◌, ◌≢◌, suc, List, [], ◌∷◌, ◌++◌, length, All}
use Rattle.std.proofs.Common.{refl, sym, ap, subst}
use Rattle.std.proofs.lemmas.List.Elements.{All-head, All-tail}
use Rattle.cert_check.specs.declared.verdict.Judgement.{Judgement}
use Rattle.cert_check.specs.declared.verdict.Judgement.TheVariants.{Passes}

-- a question with one answer
abbrev pub One : {A : Type 0} → (A → Type 0) → Type 0
One {A} P = (a b : A) → P a → P b → a ≡ b

module _ {A : Type 0} (P : A → Judgement → Type 0) (one : (a : A) → One (P a)) where
  pub first_one : (before other : List A) (x y : A) (behind rest : List A) (j k : Judgement) → before ++ x ∷ behind ≡ other ++ y ∷ rest → j ≢ Passes → k ≢ Passes → All (λ a. P a Passes) before → All (λ a. P a Passes) other → P x j → P y k → (length before ≡ length other) × (j ≡ k)
  first_one [] [] x y behind rest j k same not_j not_k pass others here there = let e : x ≡ y = cc in (refl, one x j k here (subst (λ a. P a k) (sym e) there))
  first_one [] (z ∷ other) x y behind rest j k same not_j not_k pass others here there =
      let e : x ≡ z = cc in
      absurd (not_j (one x j Passes here (subst (λ a. P a Passes) (sym e) (All-head (λ a. P a Passes) z other others))))
  first_one (z ∷ before) [] x y behind rest j k same not_j not_k pass others here there =
      let e : z ≡ y = cc in
      absurd (not_k (one y k Passes there (subst (λ a. P a Passes) e (All-head (λ a. P a Passes) z before pass))))
  first_one (z ∷ before) (w ∷ other) x y behind rest j k same not_j not_k pass others here there =
      let e : before ++ x ∷ behind ≡ other ++ y ∷ rest = cc in
      let r = first_one before other x y behind rest j k e not_j not_k (All-tail (λ a. P a Passes) z before pass) (All-tail (λ a. P a Passes) w other others) here there in
      (ap suc r.0, r.1)

  pub none_one : (before : List A) (x : A) (behind all : List A) (j : Judgement) → all ≡ before ++ x ∷ behind → j ≢ Passes → All (λ a. P a Passes) all → P x j → ⊥
  none_one [] x behind all j same not_j pass here = not_j (one x j Passes here (All-head (λ a. P a Passes) x behind (subst (All (λ a. P a Passes)) same pass)))
  none_one (z ∷ before) x behind all j same not_j pass here =
      none_one before x behind (before ++ x ∷ behind) j refl not_j (All-tail (λ a. P a Passes) z (before ++ x ∷ behind) (subst (All (λ a. P a Passes)) same pass)) here
