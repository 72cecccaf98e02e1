-- Marks of the variables in the front of a list: one that is among them has its mark.
use Rattle.std.specs.Prelude.{◌≡◌, ℕ, ◌+◌, ◌<◌, Bool, true, false, List, length, take, get_or, set, Contains}
use Rattle.std.proofs.Common.{sym, ap, subst, ◌∙◌, ⊎_elim, arith, below_more}
use Rattle.std.proofs.lemmas.Bool.{cases_eq}
use Rattle.std.proofs.lemmas.List.{length-take, get_or-take, get_or_default, get_or-set_same, get_or-set_other}

-- a place stays marked
set-marked : (marks : List Bool) (p q : ℕ) → p < length marks → get_or marks q false ≡ true → get_or (set marks p true) q false ≡ true
set-marked marks p q below is =
    ⊎_elim (λ same. ap (λ k. get_or (set marks p true) k false) same ∙ get_or-set_same marks p true false below) (λ other. get_or-set_other marks p q true false other ∙ is) (cases_eq q p)

module _ {V : Type 0} (mark : V → ℕ) (vars : List V) (marks : List Bool) where
  -- each of the first n
  abbrev pub AreMarked : ℕ → Type 0
  AreMarked n = (k : ℕ) → k < n → (d : V) → get_or marks (mark (get_or vars k d)) false ≡ true

  pub marked-before : (n : ℕ) (e : V) → AreMarked n → Contains (take n vars) (get_or vars n e) → get_or marks (mark (get_or vars n e)) false ≡ true
  marked-before n e marked has =
      let v = get_or vars n e in
      let i = has.0 in
      let before : i < n = omega (arith, has.1, length-take n vars) in
      let same : get_or vars i v ≡ v = sym (get_or-take n vars i v before) ∙ has.2 in
      subst (λ w. get_or marks (mark w) false ≡ true) same (marked i before v)

module _ {V : Type 0} (mark : V → ℕ) (vars : List V) (marks : List Bool) (n : ℕ) (e : V) (below : n < length vars) (p : ℕ) (p_is : p ≡ mark (get_or vars n e)) (within : p < length marks) where
  pub marked-more : AreMarked mark vars marks n → AreMarked mark vars (set marks p true) (n + 1)
  marked-more marked =
      below_more (λ k. (d : V) → get_or (set marks p true) (mark (get_or vars k d)) false ≡ true) n
      (λ k h d. set-marked marks p (mark (get_or vars k d)) within (marked k h d))
      (λ d.
      ap (λ v. get_or (set marks p true) (mark v) false) (get_or_default vars n d e below)
      ∙ ap (λ k. get_or (set marks p true) k false) (sym p_is)
      ∙ get_or-set_same marks p true false within)
