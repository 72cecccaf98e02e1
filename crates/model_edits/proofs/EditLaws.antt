-- An edit fits, or has one first fault.
use Rattle.std.specs.Prelude.{◌≡◌, ◌⊎◌, ℕ, ◌<◌, Bool, List, [], length, get_or, take, All, Contains, Result, Ok, Err, IfOk, OnOk, OnErr, IfErr}
use Rattle.std.proofs.Common.{refl, sym, ap, subst, ◌∙◌, arith, inl, inr, map}
use Rattle.std.proofs.lemmas.Bool.{cases_order}
use Rattle.std.proofs.lemmas.List.{get_or-take, get_or_default, length-take-le}
use Rattle.frac128.specs.Rational.{ℚ}
use Rattle.lp_model.specs.Program.{Program}
use Rattle.lp_model.proofs.NameLemmas.{get_or-map}
use Rattle.lp_model.specs.Lawful.{AreWithinLimits}
use Rattle.lp_model.specs.Edits.{AreKnown, edited, EditFits, HasSubject, known_names, names_beside, subject}
use Rattle.model_edits.specs.Faults.{IsFirstUnknown, IsNoSuch, PassesLimit, EditBad, IsEditFault}
use Rattle.model_edits.specs.private.Faults.{IsUnknownName}
use Rattle.model_edits.specs.private.Answers.{IsEditAnswer}
use Rattle.lp_model.specs.declared.types.Edit.{Edit}
use Rattle.model_edits.specs.declared.faults.EditFault.{EditFault}
use Rattle.model_edits.specs.declared.faults.EditFault.TheVariants.{NoSuch, Duplicate, Limit, IntegerUnbounded, Ranged, Memory}

unknown-not_known : (known names : List (List ℕ)) (name : List ℕ) → IsFirstUnknown known names name → ¬ All (Contains known) names
unknown-not_known known names name u all = u.unknown (subst (Contains known) (sym u.is) (all u.place name u.within))

no_such-not_known : (M : Program) (e : Edit) (name : List ℕ) → IsNoSuch M e name → ¬ AreKnown M e
no_such-not_known M e name (inl h) known = h.0 known.0
no_such-not_known M e name (inr h) known = unknown-not_known _ _ name h.1 known.1

limit-not_within : (wide : Bool) (r c e n : ℕ) → PassesLimit wide r c e n → ¬ AreWithinLimits wide r c e
limit-not_within wide r c e n (inl h) k = let x = h.0 in let y = k.few_rows in absurd (omega arith)
limit-not_within wide r c e n (inr (h, inl g)) k = let x = g.0 in let y = k.few_columns in absurd (omega arith)
limit-not_within wide r c e n (inr (h, inr g)) k = let x = g.1 in let y = k.few_entries in absurd (omega arith)

-- an edit that fits has no fault
pub fits-not_bad : (M : Program) (e : Edit) (f : EditFault) → EditFits M e → ¬ EditBad M e f
fits-not_bad M e (NoSuch name) fits bad = no_such-not_known M e name bad fits.known
fits-not_bad M e (Duplicate name) fits bad = fits.free bad.1
fits-not_bad M e (Limit n) fits bad = limit-not_within M.wide _ _ _ n bad.2 fits.limits
fits-not_bad M e (IntegerUnbounded name) fits bad = bad.3 fits.bounded
fits-not_bad M e (Ranged name) fits bad = bad.4 fits.range
fits-not_bad M e Memory fits bad = bad

earlier_known : (known names : List (List ℕ)) (a b : List ℕ) (p : IsFirstUnknown known names a) (q : IsFirstUnknown known names b) → ¬ (p.place < q.place)
earlier_known known names a b p q below =
    let long : length (take q.place names) ≡ q.place = length-take-le q.place names (let h = q.within in omega arith) in
    let inside : p.place < length (take q.place names) = omega arith in
    let same : get_or (take q.place names) p.place a ≡ a = get_or-take q.place names p.place a below ∙ sym p.is in
    p.unknown (subst (Contains known) same (q.before p.place a inside))

unknown_unique : (known names : List (List ℕ)) (a b : List ℕ) → IsFirstUnknown known names a → IsFirstUnknown known names b → a ≡ b
unknown_unique known names a b p q =
    elim (cases_order p.place q.place) [
      | inl e ↦ p.is ∙ get_or_default names p.place a b p.within ∙ ap (λ k. get_or names k b) e ∙ sym q.is
      | inr apart ↦ elim apart [ inl below ↦ absurd (earlier_known known names a b p q below) | inr above ↦ absurd (earlier_known known names b a q p above) ]
    ]

no_such_unique : (M : Program) (e : Edit) (a b : List ℕ) → IsNoSuch M e a → IsNoSuch M e b → a ≡ b
no_such_unique M e a b (inl p) (inl q) = p.1 ∙ sym q.1
no_such_unique M e a b (inl p) (inr q) = absurd (p.0 q.0)
no_such_unique M e a b (inr p) (inl q) = absurd (q.0 p.0)
no_such_unique M e a b (inr p) (inr q) = unknown_unique _ _ a b p.1 q.1

limit_unique : (wide : Bool) (r c e m n : ℕ) → PassesLimit wide r c e m → PassesLimit wide r c e n → m ≡ n
limit_unique wide r c e m n (inl h) (inl k) = h.1 ∙ sym k.1
limit_unique wide r c e m n (inl h) (inr k) = let x = h.0 in let y = k.0 in absurd (omega arith)
limit_unique wide r c e m n (inr h) (inl k) = let x = h.0 in let y = k.0 in absurd (omega arith)
limit_unique wide r c e m n (inr (h, inl g)) (inr (k, inl l)) = g.1 ∙ sym l.1
limit_unique wide r c e m n (inr (h, inl g)) (inr (k, inr l)) = let x = g.0 in let y = l.0 in absurd (omega arith)
limit_unique wide r c e m n (inr (h, inr g)) (inr (k, inl l)) = let x = g.0 in let y = l.0 in absurd (omega arith)
limit_unique wide r c e m n (inr (h, inr g)) (inr (k, inr l)) = g.2 ∙ sym l.2

-- an edit has one first fault
pub bad_unique : (M : Program) (e : Edit) (f g : EditFault) → EditBad M e f → EditBad M e g → f ≡ g
bad_unique M e (NoSuch a) (NoSuch b) p q = ap NoSuch (no_such_unique M e a b p q)
bad_unique M e (NoSuch a) (Duplicate b) p q = absurd (no_such-not_known M e a p q.0)
bad_unique M e (NoSuch a) (Limit n) p q = absurd (no_such-not_known M e a p q.0)
bad_unique M e (NoSuch a) (IntegerUnbounded b) p q = absurd (no_such-not_known M e a p q.0)
bad_unique M e (NoSuch a) (Ranged b) p q = absurd (no_such-not_known M e a p q.0)
bad_unique M e (Duplicate a) (NoSuch b) p q = absurd (no_such-not_known M e b q p.0)
bad_unique M e (Duplicate a) (Duplicate b) p q = ap Duplicate (p.2 ∙ sym q.2)
bad_unique M e (Duplicate a) (Limit n) p q = absurd (q.1 p.1)
bad_unique M e (Duplicate a) (IntegerUnbounded b) p q = absurd (q.1 p.1)
bad_unique M e (Duplicate a) (Ranged b) p q = absurd (q.1 p.1)
bad_unique M e (Limit m) (NoSuch b) p q = absurd (no_such-not_known M e b q p.0)
bad_unique M e (Limit m) (Duplicate b) p q = absurd (p.1 q.1)
bad_unique M e (Limit m) (Limit n) p q = ap Limit (limit_unique M.wide _ _ _ m n p.2 q.2)
bad_unique M e (Limit m) (IntegerUnbounded b) p q = absurd (limit-not_within M.wide _ _ _ m p.2 q.2)
bad_unique M e (Limit m) (Ranged b) p q = absurd (limit-not_within M.wide _ _ _ m p.2 q.2)
bad_unique M e (IntegerUnbounded a) (NoSuch b) p q = absurd (no_such-not_known M e b q p.0)
bad_unique M e (IntegerUnbounded a) (Duplicate b) p q = absurd (p.1 q.1)
bad_unique M e (IntegerUnbounded a) (Limit n) p q = absurd (limit-not_within M.wide _ _ _ n q.2 p.2)
bad_unique M e (IntegerUnbounded a) (IntegerUnbounded b) p q = ap IntegerUnbounded (p.4 ∙ sym q.4)
bad_unique M e (IntegerUnbounded a) (Ranged b) p q = absurd (p.3 q.3)
bad_unique M e (Ranged a) (NoSuch b) p q = absurd (no_such-not_known M e b q p.0)
bad_unique M e (Ranged a) (Duplicate b) p q = absurd (p.1 q.1)
bad_unique M e (Ranged a) (Limit n) p q = absurd (limit-not_within M.wide _ _ _ n q.2 p.2)
bad_unique M e (Ranged a) (IntegerUnbounded b) p q = absurd (q.3 p.3)
bad_unique M e (Ranged a) (Ranged b) p q = ap Ranged (p.5 ∙ sym q.5)
bad_unique M e f Memory p q = absurd q
bad_unique M e Memory g p q = absurd p

-- ---- what is told, or that there is no memory to tell it

pub fault_told : (M : Program) (e : Edit) (f g : EditFault) → (f ≡ Memory) ⊎ (f ≡ g) → EditBad M e g → IsEditFault M e f
fault_told M e f g (inl h) bad = inl h
fault_told M e f g (inr h) bad = inr (subst (EditBad M e) (sym h) bad)

pub no_such_told : (M : Program) (e : Edit) (f : EditFault) → (f ≡ Memory) ⊎ ((f ≡ NoSuch (subject e)) × (¬ HasSubject M e)) → IsEditFault M e f
no_such_told M e f (inl h) = inl h
no_such_told M e f (inr h) = inr (subst (EditBad M e) (sym h.0) (inl (h.1, refl)))

pub told_with : {P : Type 0} (f g : EditFault) → (f ≡ Memory) ⊎ (f ≡ g) → P → (f ≡ Memory) ⊎ ((f ≡ g) × P)
told_with f g (inl h) p = inl h
told_with f g (inr h) p = inr (h, p)

pub unknown_told : (M : Program) (e : Edit) (f : EditFault) → HasSubject M e → IsUnknownName (known_names M e) (names_beside e) f → IsEditFault M e f
unknown_told M e f there (inl h) = inl h
unknown_told M e f there (inr (name, h, first)) = inr (subst (EditBad M e) (sym h) (inr (there, first)))

pub unknown_of_place : (known : List (List ℕ)) (named : List (List ℕ × ℚ)) (k : ℕ) (d : List ℕ × ℚ) (f : EditFault) → k < length named → d ≡ get_or named k d
    → IsFirstUnknown known (map (λ e. e.0) named) (get_or (map (λ e. e.0) named) k []) → (f ≡ Memory) ⊎ (f ≡ NoSuch d.0) → IsUnknownName known (map (λ e. e.0) named) f
unknown_of_place known named k d f below is first (inl h) = inl h
unknown_of_place known named k d f below is first (inr h) = inr (d.0, h, subst (IsFirstUnknown known (map (λ e. e.0) named)) (get_or-map (λ e. e.0) named k d [] below is) first)

-- ---- what is answered, clause by clause

module _ (M : Program) (e : Edit) where
  pub answer_edited : (r : Result (Unit {0}) EditFault) (N : Program) → IsEditAnswer M e r N → IfOk r (λ _. N ≡ edited M e)
  answer_edited (Ok done) N h = h.1
  answer_edited (Err f) N h = tt

  pub answer_fits : (r : Result (Unit {0}) EditFault) (N : Program) → IsEditAnswer M e r N → OnOk r (EditFits M e)
  answer_fits (Ok done) N h = h.0
  answer_fits (Err f) N h = tt

  pub answer_kept : (r : Result (Unit {0}) EditFault) (N : Program) → IsEditAnswer M e r N → OnErr r (N ≡ M)
  answer_kept (Ok done) N h = tt
  answer_kept (Err f) N h = h.1

  pub answer_fault : (r : Result (Unit {0}) EditFault) (N : Program) → IsEditAnswer M e r N → IfErr r (λ f. IsEditFault M e f)
  answer_fault (Ok done) N h = tt
  answer_fault (Err f) N h = h.0
