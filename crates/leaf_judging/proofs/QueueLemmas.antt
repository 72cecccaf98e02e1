-- Candidates in their order, and queues after each change.
use Rattle.std.specs.Prelude.{◌≡◌, ◌≢◌, ◌⊎◌, ◌↔◌, ℕ, ◌<◌, ◌≤◌, Bool, true, false, IsTrue, Option, Some, None, cond}
use Rattle.std.specs.List.{list_any}
use Rattle.std.specs.Option.{option_cmp}
use Rattle.std.specs.declared.cmp.Ordering.{Ordering}
use Rattle.std.specs.Ordering.{MatchOrdering, ordering_then, nat_cmp, is_eq, is_gt}
use Rattle.std.specs.declared.cmp.Ordering.TheVariants.{Less, Equal, Greater}
use Rattle.std.proofs.Common.{refl, sym, subst, ap, ◌∙◌, arith, inl, inr}
use Rattle.std.proofs.lemmas.Cmp.{ranked, nat_cmp_total, tied_itself}
use Rattle.frac128.specs.Rational.{ℚ, ◌<ℚ◌, rational_cmp}
use Rattle.frac128.specs.ComparisonLaws.{rational_ranked, cmp_self}
use Rattle.leaf_judging.specs.declared.choosing.Candidate.{Candidate}
use Rattle.leaf_judging.specs.declared.queue.LeafQueue.{LeafQueue}
use Rattle.leaf_judging.specs.Choosing.{GoesFirst}
use Rattle.leaf_judging.specs.Queued.{candidate_cmp, Has, Adds, AddsBoth, Removes, RemovesBoth, IsSameQueue, IsNew}

-- ---- the order

ids-first : (i j : ℕ) (o : Ordering) → o ≡ nat_cmp i j → is_gt o ≡ false → i ≤ j
ids-first i j o e h = by o (ranked i j o e) h
  where
    by : (r : Ordering) → MatchOrdering r (i < j) (i ≡ j) (j < i) → is_gt r ≡ false → i ≤ j
    by Less k g = omega arith
    by Equal k g = omega arith
    by Greater k g = cc

-- what goes no later in the order of the candidates goes first
pub goes_first : (c d : Candidate) → is_gt (candidate_cmp c d) ≡ false → GoesFirst c.leaf_number c.id d.leaf_number d.id
goes_first c d h = by c.leaf_number d.leaf_number h
  where
    by : (p q : Option ℚ) → is_gt (ordering_then (option_cmp rational_cmp p q) (nat_cmp c.id d.id)) ≡ false → GoesFirst p c.id q d.id
    by None None g = ids-first c.id d.id (nat_cmp c.id d.id) refl g
    by None (Some q) g = tt
    by (Some p) None g = cc
    by (Some p) (Some q) g = numbers (rational_cmp p q) (rational_ranked p q (rational_cmp p q) refl) g
      where
        numbers : (o : Ordering) → MatchOrdering o (p <ℚ q) (p ≡ q) (q <ℚ p) → is_gt (ordering_then o (nat_cmp c.id d.id)) ≡ false → GoesFirst (Some p) c.id (Some q) d.id
        numbers Less k g = inl k
        numbers Equal k g = inr (k, ids-first c.id d.id (nat_cmp c.id d.id) refl g)
        numbers Greater k g = cc

-- ---- equal candidates

ids-same : (i j : ℕ) (o : Ordering) → o ≡ nat_cmp i j → is_eq o ≡ true → i ≡ j
ids-same i j o e h = by o (ranked i j o e) h
  where
    by : (r : Ordering) → MatchOrdering r (i < j) (i ≡ j) (j < i) → is_eq r ≡ true → i ≡ j
    by Less k g = cc
    by Equal k g = k
    by Greater k g = cc

parts-same : (c d : Candidate) → c.leaf_number ≡ d.leaf_number → c.id ≡ d.id → c ≡ d
parts-same c d r i = λ k. record { leaf_number = r k; id = i k }

pub same-from : (c d : Candidate) → is_eq (candidate_cmp c d) ≡ true → c ≡ d
same-from c d h = by c.leaf_number d.leaf_number refl refl h
  where
    by : (p q : Option ℚ) → c.leaf_number ≡ p → d.leaf_number ≡ q → is_eq (ordering_then (option_cmp rational_cmp p q) (nat_cmp c.id d.id)) ≡ true → c ≡ d
    by None None e f g = parts-same c d (e ∙ sym f) (ids-same c.id d.id (nat_cmp c.id d.id) refl g)
    by None (Some q) e f g = cc
    by (Some p) None e f g = cc
    by (Some p) (Some q) e f g = numbers (rational_cmp p q) (rational_ranked p q (rational_cmp p q) refl) g
      where
        numbers : (o : Ordering) → MatchOrdering o (p <ℚ q) (p ≡ q) (q <ℚ p) → is_eq (ordering_then o (nat_cmp c.id d.id)) ≡ true → c ≡ d
        numbers Less k g = cc
        numbers Equal k g = parts-same c d (e ∙ ap (λ z. Some z) k ∙ sym f) (ids-same c.id d.id (nat_cmp c.id d.id) refl g)
        numbers Greater k g = cc

self-same : (c : Candidate) → is_eq (candidate_cmp c c) ≡ true
self-same c = by c.leaf_number
  where
    by : (p : Option ℚ) → is_eq (ordering_then (option_cmp rational_cmp p p) (nat_cmp c.id c.id)) ≡ true
    by None = ap is_eq (tied_itself nat_cmp_total c.id)
    by (Some p) = ap (λ o. is_eq (ordering_then o (nat_cmp c.id c.id))) (cmp_self p) ∙ ap is_eq (tied_itself nat_cmp_total c.id)

pub from-same : (c d : Candidate) → c ≡ d → is_eq (candidate_cmp c d) ≡ true
from-same c d e = subst (λ z. is_eq (candidate_cmp c z) ≡ true) e (self-same c)

-- ---- one change

apart : (d c : Candidate) → is_eq (candidate_cmp d c) ≡ false → c ≢ d
apart d c h e = let t : is_eq (candidate_cmp d c) ≡ true = from-same d c (sym e) in cc

module _ (old new : LeafQueue) (d : Candidate) where
  abbrev holds : LeafQueue → Candidate → Bool
  holds queue c = list_any (λ k. is_eq (candidate_cmp c k)) queue.candidates.keys

  pub adds-one : ((c : Candidate) → holds new c ≡ cond (is_eq (candidate_cmp d c)) true (holds old c)) → Adds old (Some d) new
  unfolding Has
  adds-one h c = by (is_eq (candidate_cmp d c)) refl (h c)
    where
      by : (b : Bool) → is_eq (candidate_cmp d c) ≡ b → holds new c ≡ cond b true (holds old c) → IsTrue (holds new c) ↔ (IsTrue (holds old c) ⊎ (c ≡ d))
      by true e g = ((λ t. inr (sym (same-from d c e))), (λ t. subst IsTrue (sym g) refl))
      by false e g = ((λ t. inl (subst IsTrue g t)), (λ t. elim t [ inl k ↦ subst IsTrue (sym g) k | inr k ↦ absurd (apart d c e k) ]))

  pub removes-one : ((c : Candidate) → holds new c ≡ cond (is_eq (candidate_cmp d c)) false (holds old c)) → Removes old (Some d) new
  unfolding Has
  removes-one h c = by (is_eq (candidate_cmp d c)) refl (h c)
    where
      by : (b : Bool) → is_eq (candidate_cmp d c) ≡ b → holds new c ≡ cond b false (holds old c) → IsTrue (holds new c) ↔ (IsTrue (holds old c) × (c ≢ d))
      by true e g = ((λ t. let f : IsTrue false = subst IsTrue g t in cc), (λ t. absurd (t.1 (sym (same-from d c e)))))
      by false e g = ((λ t. (subst IsTrue g t, apart d c e)), (λ t. subst IsTrue (sym g) t.0))

-- ---- two changes

module _ (a b c : LeafQueue) where
  pub adds-both : (d e : Option Candidate) → Adds a d b → Adds b e c → AddsBoth a d e c
  adds-both d e h k x = (
    (λ t. elim ((k x).0 t) [ inl s ↦ elim ((h x).0 s) [ inl r ↦ inl r | inr r ↦ inr (inl r) ] | inr s ↦ inr (inr s) ]),
    (λ t. elim t [ inl s ↦ (k x).1 (inl ((h x).1 (inl s))) | inr s ↦ elim s [ inl r ↦ (k x).1 (inl ((h x).1 (inr r))) | inr r ↦ (k x).1 (inr r) ] ]),
  )

  -- what is added and taken out again
  pub adds-undone : (d : Option Candidate) → IsNew a d → Adds a d b → Removes b d c → IsSameQueue a c
  adds-undone d fresh h k x = (
    (λ t. let r = (k x).0 t in elim ((h x).0 r.0) [ inl s ↦ s | inr s ↦ absurd (r.1 s) ]),
    (λ t. (k x).1 ((h x).1 (inl t), fresh x t)),
  )

  pub removes-both : (d e : Option Candidate) → Removes a d b → Removes b e c → RemovesBoth a d e c
  removes-both d e h k x = (
    (λ t. let r = (k x).0 t in let s = (h x).0 r.0 in (s.0, (s.1, r.1))),
    (λ t. (k x).1 ((h x).1 (t.0, t.1.0), t.1.1)),
  )

  pub both-undone : (d e : Option Candidate) → IsNew a d → IsNew a e → AddsBoth a d e b → RemovesBoth b d e c → IsSameQueue a c
  both-undone d e one other h k x = (
    (λ t. let r = (k x).0 t in elim ((h x).0 r.0) [ inl s ↦ s | inr s ↦ elim s [ inl q ↦ absurd (r.1.0 q) | inr q ↦ absurd (r.1.1 q) ] ]),
    (λ t. (k x).1 ((h x).1 (inl t), (one x t, other x t))),
  )

  pub adds-kept : (d : Option Candidate) → Adds a d b → IsSameQueue b c → Adds a d c
  adds-kept d h k x = ((λ t. (h x).0 ((k x).0 t)), (λ t. (k x).1 ((h x).1 t)))

  pub same-after : IsSameQueue a b → IsSameQueue b c → IsSameQueue a c
  same-after h k x = ((λ t. (h x).0 ((k x).0 t)), (λ t. (k x).1 ((h x).1 t)))
