-- An outcome behind all others of a front is taken in at its end.
use Rattle.std.specs.Prelude.{◌≡◌, ◌↔◌, ℕ, ◌+◌, ◌<◌, ℤ, ◌<ℤ◌, Bool, true, false, IsTrue, if◌then◌else◌, int_lt, List, [], ◌∷◌, ◌++◌, take, filter, length, get_or, All}
use Rattle.std.proofs.Common.{refl, sym, ap, ap₂, subst, ◌∙◌, arith, append-nil}
use Rattle.std.proofs.lemmas.Bool.{false≢true}
use Rattle.std.proofs.lemmas.Int.{ints}
use Rattle.std.proofs.lemmas.List.{get_or_default, get_or-take, length-take-le, take_more}
use Rattle.std.proofs.lemmas.List.Elements.{All-head, All-tail}
use Rattle.frontier.specs.declared.outcomes.Outcome.{Outcome}
use Rattle.frontier.specs.Covers.{IsCovered, IsAhead, IsFront, is_before, is_behind, inserted}

less_true : (a b : ℤ) → a <ℤ b → int_lt a b ≡ true
less_true a b h = grind (arith, ints)

less_false : (a b : ℤ) → b <ℤ a → int_lt a b ≡ false
less_false a b h = grind (arith, ints)

module _ (o : Outcome) where
  all_before : (l : List Outcome) → All (λ (m : Outcome). IsAhead m o) l → filter (is_before o) l ≡ l
  all_before [] all = refl
  all_before (m ∷ l) all =
      let ahead = All-head (λ (n : Outcome). IsAhead n o) m l all in
      rw (less_true m.f1 o.f1 ahead.first) (ap (λ (k : List Outcome). m ∷ k) (all_before l (All-tail (λ (n : Outcome). IsAhead n o) m l all)))

  none_behind : (l : List Outcome) → All (λ (m : Outcome). IsAhead m o) l → filter (is_behind o) l ≡ []
  none_behind [] all = refl
  none_behind (m ∷ l) all =
      let ahead = All-head (λ (n : Outcome). IsAhead n o) m l all in
      rw (less_false m.f2 o.f2 ahead.second) (none_behind l (All-tail (λ (n : Outcome). IsAhead n o) m l all))

  inserted_last : (l : List Outcome) → All (λ (m : Outcome). IsAhead m o) l → inserted o l ≡ l ++ o ∷ []
  inserted_last l all = ap₂ (λ (a b : List Outcome). (a ++ o ∷ []) ++ b) (all_before l all) (none_behind l all) ∙ append-nil (l ++ o ∷ [])

  uncovered : (l : List Outcome) → All (λ (m : Outcome). IsAhead m o) l → ¬ IsCovered l o
  uncovered l all (k, m, below, is, covers) =
      let ahead : IsAhead m o = subst (λ (n : Outcome). IsAhead n o) is (all k m below) in
      let down = ahead.second in
      let over = covers.second in
      absurd (omega (arith, ints))

  pub taken_last : (l new : List Outcome) (taken : Bool) → All (λ (m : Outcome). IsAhead m o) l → IsTrue taken ↔ (¬ IsCovered l o) → new ≡ (if taken then inserted o l else l) → new ≡ l ++ o ∷ []
  taken_last l new true all iff is = is ∙ inserted_last l all
  taken_last l new false all iff is = absurd (false≢true (iff.1 (uncovered l all)))

-- the members before one of a front stand ahead of it
pub ahead_of : (l : List Outcome) (k : ℕ) (o : Outcome) → IsFront l → k < length l → o ≡ get_or l k o → All (λ (m : Outcome). IsAhead m o) (take k l)
ahead_of l k o front below is i d within =
    let long = length-take-le k l (omega arith) in
    let at : i < k = omega arith in
    subst (λ (m : Outcome). IsAhead m o) (sym (get_or-take k l i d at))
    (subst (λ (m : Outcome). IsAhead (get_or l i d) m) (sym (is ∙ get_or_default l k o d below)) (front i k d at below))

-- one more outcome of a front, taken in behind those before it
pub front_more : (l old new : List Outcome) (k : ℕ) (o : Outcome) (taken : Bool) → IsFront l → k < length l → o ≡ get_or l k o → old ≡ take k l
    → IsTrue taken ↔ (¬ IsCovered old o) → new ≡ (if taken then inserted o old else old) → new ≡ take (k + 1) l
front_more l old new k o taken front below is old_is iff new_is =
    let all : All (λ (m : Outcome). IsAhead m o) old = subst (All (λ (m : Outcome). IsAhead m o)) (sym old_is) (ahead_of l k o front below is) in
    taken_last o old new taken all iff new_is
    ∙ ap₂ (λ (a : List Outcome) (b : Outcome). a ++ b ∷ []) old_is is
    ∙ sym (take_more l k o below)
