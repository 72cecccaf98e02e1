-- Lists of kept totals.
use Rattle.std.specs.Prelude.{◌≡◌, ℕ, suc, ◌+◌, ◌-◌, ◌*◌, ◌≤◌, List, [], ◌∷◌, ◌++◌, length, take, zero, Result, Ok, Err, OnOk, IfErr}
use Rattle.std.proofs.Common.{subst, sym, ap, arith, ◌∙◌, ◌<◌, length-append, append_assoc, below_more}
use Rattle.std.proofs.lemmas.List.{append-nil}
use Rattle.frac128.specs.Rational.{ℚ, ◌+ℚ◌, ◌*ℚ◌}
use Rattle.checked_sum.specs.Steps.{StepFits, StepFitsAt}
use Rattle.checked_sum.proofs.StepLaws.{partial_none, partial_next, fits_next}
use Rattle.kept_totals.specs.Forms.{Product}
use Rattle.kept_totals.specs.Walk.{IsTotalAt, IsBlockTotal, AllFrom, KeepsMore}

-- ---- lists whose places count from k

module _ (P : ℕ → ℚ → Type 0) where
  pub all_pushed : (k : ℕ) (vs : List ℚ) (v : ℚ) → AllFrom P k vs → P (k + length vs) v → AllFrom P k (vs ++ v ∷ [])
  all_pushed k [] v all at = let e : k + 0 ≡ k = omega arith in (subst (λ n. P n v) e at, tt)
  all_pushed k (w ∷ vs) v all at =
      let e : k + suc (length vs) ≡ suc k + length vs = omega arith in
      (all.0, all_pushed (suc k) vs v all.1 (subst (λ n. P n v) e at))

  pub all_last : (k : ℕ) (vs : List ℚ) (v : ℚ) → AllFrom P k (vs ++ v ∷ []) → P (k + length vs) v
  all_last k [] v all = let e : k ≡ k + 0 = omega arith in subst (λ n. P n v) e all.0
  all_last k (w ∷ vs) v all =
      let e : suc k + length vs ≡ k + suc (length vs) = omega arith in
      subst (λ n. P n v) e (all_last (suc k) vs v all.1)

  pub all_taken : (m k : ℕ) (vs : List ℚ) → AllFrom P k vs → AllFrom P k (take m vs)
  all_taken zero k vs all = tt
  all_taken (suc m) k [] all = tt
  all_taken (suc m) k (v ∷ vs) all = (all.0, all_taken m (suc k) vs all.1)

  pub all_appended : (k : ℕ) (vs ws : List ℚ) → AllFrom P k vs → AllFrom P (k + length vs) ws → AllFrom P k (vs ++ ws)
  all_appended k [] ws all more = let e : k + 0 ≡ k = omega arith in subst (λ n. AllFrom P n ws) e more
  all_appended k (v ∷ vs) ws all more =
      let e : k + suc (length vs) ≡ suc k + length vs = omega arith in
      (all.0, all_appended (suc k) vs ws all.1 (subst (λ n. AllFrom P n ws) e more))

-- each of a list, at the places that follow
pub all_next : (P Q : ℕ → ℚ → Type 0) (k : ℕ) (vs : List ℚ) → ((n : ℕ) (v : ℚ) → P n v → Q (suc n) v) → AllFrom P k vs → AllFrom Q (suc k) vs
all_next P Q k [] f all = tt
all_next P Q k (v ∷ vs) f all = (f k v all.0, all_next P Q (suc k) vs f all.1)

-- each before place p of one is that of another
pub all_like : (P Q : ℕ → ℚ → Type 0) (p k : ℕ) (vs : List ℚ) → ((n : ℕ) (v : ℚ) → n < p → P n v → Q n v) → k + length vs ≤ p → AllFrom P k vs → AllFrom Q k vs
all_like P Q p k [] f below all = tt
all_like P Q p k (v ∷ vs) f below all =
    let here : k + suc (length vs) ≤ p = below in
    (f k v (omega (arith, here)) all.0, all_like P Q p (suc k) vs f (omega (arith, here)) all.1)

-- no term is added yet
pub none_added : (start : ℚ) (a x : ℕ → ℚ) (there : ℕ → Type 0) (v : ℚ) → v ≡ start → IsTotalAt start a x there 0 v
none_added start a x there v is = record {
  reached = record { fits = λ k below. absurd (omega arith); all = λ k below. absurd (omega arith) };
  is = is ∙ partial_none start a x;
}

-- one term more
module _ (start : ℚ) (a x : ℕ → ℚ) (there : ℕ → Type 0) (k : ℕ) (total : ℚ) (at : IsTotalAt start a x there k total) (t : Product) (is : t ≡ record { factor = a k; number = x k }) where
  step-is : StepFits total t.factor t.number ≡ StepFits total (a k) (x k)
  step-is = λ i. StepFits total (is i).factor (is i).number

  pub term_added : there k → StepFits total t.factor t.number → (next : ℚ) → next ≡ total +ℚ t.factor *ℚ t.number → IsTotalAt start a x there (k + 1) next
  term_added here fits next next_is = record {
    reached = record {
      fits = fits_next start a x k total at.is at.reached.fits (subst (λ P. P) step-is fits);
      all = below_more there k at.reached.all here;
    };
    is = partial_next start a x k total at.is next (next_is ∙ (λ i. total +ℚ (is i).factor *ℚ (is i).number));
  }

  pub term_refused : ¬ StepFits total t.factor t.number → ¬ StepFitsAt start a x k
  term_refused refused fits = refused (subst (λ P. P) (sym step-is) (subst (λ s. StepFits s (a k) (x k)) (sym at.is) fits))

-- ---- what is kept behind

module _ (start : ℚ) (a x : ℕ → ℚ) (there : ℕ → Type 0) where
  pub keeps_none : (b : ℕ) (old : List ℚ) → KeepsMore start a x there b old old
  keeps_none b old = record { more = []; is = sym (append-nil old); all = tt }

  pub keeps_more : (blocks block : ℕ) (old new : List ℚ) (v : ℚ) → blocks ≤ block → length new ≡ length old + (block - blocks) → KeepsMore start a x there (blocks + 1) old new
      → IsTotalAt start a x there (64 * (block + 1)) v → KeepsMore start a x there (blocks + 1) old (new ++ v ∷ [])
  keeps_more blocks block old new v order count before at =
      let long : length old + length before.more ≡ length new = sym (ap length before.is ∙ length-append old before.more) in
      let e : 64 * (block + 1) ≡ 64 * (blocks + 1 + length before.more) = omega (arith, order, count, long) in
      record {
        more = before.more ++ v ∷ [];
        is = ap (λ vs. vs ++ v ∷ []) before.is ∙ append_assoc old before.more (v ∷ []);
        all = all_pushed (IsBlockTotal start a x there) (blocks + 1) before.more v before.all (subst (λ n. IsTotalAt start a x there n v) e at);
      }

-- what a caller answers by what it was answered
pub on_ok : {A E P Q : Type 0} (r : Result A E) → (P → Q) → OnOk r P → OnOk r Q
on_ok (Ok v) f h = f h
on_ok (Err e) f h = tt

pub if_err : {A E : Type 0} {P Q : E → Type 0} (r : Result A E) → ((e : E) → P e → Q e) → IfErr r P → IfErr r Q
if_err (Ok v) f h = tt
if_err (Err e) f h = f e h
