-- What becomes of a sweep's lists where a gap is closed, and where an outcome is found in it.
use Rattle.std.specs.Prelude.{◌≡◌, ℕ, zero, suc, ◌+◌, ◌-◌, ◌*◌, ◌<◌, ℤ, ◌-ℤ◌, unsigned_abs, List, [], ◌∷◌, ◌++◌, length, get_or, map, All}
use Rattle.std.specs.List.{AllZip, insert}
use Rattle.std.proofs.Common.{refl, sym, ap, subst, ◌∙◌, arith}
use Rattle.std.proofs.lemmas.Int.{ints}
use Rattle.std.proofs.lemmas.List.Elements.{All-head, All-tail, All-cons}
use Rattle.std.proofs.lemmas.List.Kept.{AllPairs-cons}
use Rattle.lp_model.specs.Program.{Program}
use Rattle.frontier.specs.declared.outcomes.Outcome.{Outcome}
use Rattle.frontier.specs.Covers.{IsAhead, IsFront}
use Rattle.frontier.specs.Laws.{last_of, HasEmptyGap, HaveEmptyGaps}
use Rattle.front_text.specs.declared.front.TreeOf.{TreeOf}
use Rattle.front_text.specs.declared.front.TreeOf.TheVariants.{Gap}
use Rattle.front_text.specs.declared.front.FrontTree.{FrontTree}
use Rattle.gap_models.specs.Gaps.{FitsGap}
use Rattle.front_check.specs.Accepted.{TargetedModel, gap_part, gap_parts, gap_names}
use Rattle.front_check.specs.Verdict.{FitGaps}
use Rattle.front_check.specs.Passing.{IsPassingTree}
use Rattle.front_check.proofs.OutcomeSteps.{last_of-push}
use Rattle.wcn_driver.specs.Parts.{HaveEmptyGapsBefore}
use Rattle.wcn_driver.specs.private.State.{parts_before, FitGapsBefore}

-- ---- a gap closed

parts_push : (N : Program) (i1 i2 : ℤ) (o : Outcome) (l : List Outcome) (q : Outcome) → gap_parts N i1 i2 o (l ++ q ∷ []) ≡ gap_parts N i1 i2 o l ++ gap_part N i1 i2 (last_of o l) q ∷ []
parts_push N i1 i2 o [] q = refl
parts_push N i1 i2 o (m ∷ l) q = ap (λ (parts : List TargetedModel). gap_part N i1 i2 o m ∷ parts) (parts_push N i1 i2 m l q)

pub parts_closed : (N : Program) (i1 i2 : ℤ) (before : List Outcome) (p q : Outcome) → parts_before N i1 i2 (before ++ p ∷ []) q ≡ parts_before N i1 i2 before p ++ gap_part N i1 i2 p q ∷ []
parts_closed N i1 i2 [] p q = refl
parts_closed N i1 i2 (o ∷ before) p q =
    parts_push N i1 i2 o (before ++ p ∷ []) q
    ∙ ap (λ (last : Outcome). gap_parts N i1 i2 o (before ++ p ∷ []) ++ gap_part N i1 i2 last q ∷ []) (last_of-push o before p)

pub names_closed : (k : ℕ) (l : List Outcome) (q : Outcome) → gap_names k (l ++ q ∷ []) ≡ gap_names k l ++ Gap (k + length l) ∷ []
names_closed k [] q = let same : k ≡ k + 0 = omega arith in ap (λ (n : ℕ). Gap n ∷ []) same
names_closed k (o ∷ l) q =
    let same : suc k + length l ≡ k + suc (length l) = omega arith in
    ap (λ (names : List TreeOf). Gap k ∷ names) (names_closed (suc k) l q ∙ ap (λ (n : ℕ). gap_names (suc k) l ++ Gap n ∷ []) same)

empty_push : (N : Program) (o : Outcome) (l : List Outcome) (q : Outcome) → HaveEmptyGaps N o l → HasEmptyGap N (last_of o l) q → HaveEmptyGaps N o (l ++ q ∷ [])
empty_push N o [] q all gap = (gap, tt)
empty_push N o (m ∷ l) q all gap = (all.0, empty_push N m l q all.1 gap)

pub empty_closed : (N : Program) (before : List Outcome) (p q : Outcome) → HaveEmptyGapsBefore N before p → HasEmptyGap N p q → HaveEmptyGapsBefore N (before ++ p ∷ []) q
empty_closed N [] p q all gap = (gap, tt)
empty_closed N (o ∷ before) p q all gap = empty_push N o (before ++ p ∷ []) q all (subst (λ (last : Outcome). HasEmptyGap N last q) (sym (last_of-push o before p)) gap)

fit_push : (N : Program) (i1 i2 : ℤ) (o : Outcome) (l : List Outcome) (q : Outcome) → FitGaps N i1 i2 o l → FitsGap N ((last_of o l).f2 -ℤ i2) (q.f1 -ℤ i1) i1 i2 → FitGaps N i1 i2 o (l ++ q ∷ [])
fit_push N i1 i2 o [] q all gap = (gap, tt)
fit_push N i1 i2 o (m ∷ l) q all gap = (all.0, fit_push N i1 i2 m l q all.1 gap)

pub fit_closed : (N : Program) (i1 i2 : ℤ) (before : List Outcome) (p q : Outcome) → FitGapsBefore N i1 i2 before p → FitsGap N (p.f2 -ℤ i2) (q.f1 -ℤ i1) i1 i2 → FitGapsBefore N i1 i2 (before ++ p ∷ []) q
fit_closed N i1 i2 [] p q all gap = (gap, tt)
fit_closed N i1 i2 (o ∷ before) p q all gap =
    fit_push N i1 i2 o (before ++ p ∷ []) q all (subst (λ (last : Outcome). FitsGap N (last.f2 -ℤ i2) (q.f1 -ℤ i1) i1 i2) (sym (last_of-push o before p)) gap)

pub passes_push : (parts : List TargetedModel) (trees : List FrontTree) (part : TargetedModel) (tree : FrontTree) → AllZip IsPassingTree parts trees → IsPassingTree part tree → AllZip IsPassingTree (parts ++ part ∷ []) (trees ++ tree ∷ [])
passes_push [] [] part tree all one = (one, tt)
passes_push [] (t ∷ trees) part tree all one = absurd all
passes_push (m ∷ parts) [] part tree all one = absurd all
passes_push (m ∷ parts) (t ∷ trees) part tree all one = (all.0, passes_push parts trees part tree all.1 one)

-- ---- an outcome found

module _ {A : Type 0} where
  pub insert_behind : (before : List A) (p o : A) (rest : List A) → insert (before ++ (p ∷ rest)) (suc (length before)) o ≡ before ++ (p ∷ o ∷ rest)
  insert_behind [] p o rest = refl
  insert_behind (x ∷ before) p o rest = ap (λ (l : List A). x ∷ l) (insert_behind before p o rest)

  pub all_insert : (P : A → Type 0) (xs : List A) (i : ℕ) (o : A) → All P xs → P o → All P (insert xs i o)
  all_insert P xs zero o all one = All-cons P o xs one all
  all_insert P [] (suc i) o all one = All-cons P o [] one all
  all_insert P (x ∷ xs) (suc i) o all one = All-cons P x (insert xs i o) (All-head P x xs all) (all_insert P xs i o (All-tail P x xs all) one)

pub map-insert : {A B : Type 0} (f : A → B) (xs : List A) (i : ℕ) (o : A) → map f (insert xs i o) ≡ insert (map f xs) i (f o)
map-insert f xs zero o = refl
map-insert f [] (suc i) o = refl
map-insert f (x ∷ xs) (suc i) o = ap (λ l. f x ∷ l) (map-insert f xs i o)

pub ahead-trans : (a b c : Outcome) → IsAhead a b → IsAhead b c → IsAhead a c
ahead-trans a b c h k =
    let p = h.first in
    let q = h.second in
    let r = k.first in
    let s = k.second in
    record { first = omega (arith, ints); second = omega (arith, ints) }

pub front_first : (o : Outcome) (l : List Outcome) → IsFront (o ∷ l) → All (IsAhead o) l
front_first o l front k d below = front 0 (suc k) d (omega arith) (omega arith)

pub front_rest : (o : Outcome) (l : List Outcome) → IsFront (o ∷ l) → IsFront l
front_rest o l front i j d up below = front (suc i) (suc j) d (omega arith) (omega arith)

-- what holds of all holds of the one in the middle
pub all_middle : (P : Outcome → Type 0) (before : List Outcome) (p : Outcome) (rest : List Outcome) → All P (before ++ (p ∷ rest)) → P p
all_middle P [] p rest all = All-head P p rest all
all_middle P (x ∷ before) p rest all = all_middle P before p rest (All-tail P x (before ++ (p ∷ rest)) all)

all_behind : (P : Outcome → Type 0) (before : List Outcome) (p o : Outcome) (rest : List Outcome) → All P (before ++ (p ∷ rest)) → (P p → P o) → All P (before ++ (p ∷ o ∷ rest))
all_behind P [] p o rest all one =
    let h = All-head P p rest all in
    All-cons P p (o ∷ rest) h (All-cons P o rest (one h) (All-tail P p rest all))
all_behind P (x ∷ before) p o rest all one =
    All-cons P x (before ++ (p ∷ o ∷ rest)) (All-head P x (before ++ (p ∷ rest)) all) (all_behind P before p o rest (All-tail P x (before ++ (p ∷ rest)) all) one)

pub front_insert : (before : List Outcome) (p o q : Outcome) (behind : List Outcome) → IsFront (before ++ (p ∷ q ∷ behind)) → IsAhead p o → IsAhead o q → IsFront (before ++ (p ∷ o ∷ q ∷ behind))
front_insert [] p o q behind front up down =
    let first = front_first p (q ∷ behind) front in
    let rest = front_rest p (q ∷ behind) front in
    let behind_q = front_first q behind rest in
    AllPairs-cons IsAhead p (o ∷ q ∷ behind) (All-cons (IsAhead p) o (q ∷ behind) up first)
    (AllPairs-cons IsAhead o (q ∷ behind) (All-cons (IsAhead o) q behind down (λ k d below. ahead-trans o q (get_or behind k d) down (behind_q k d below))) rest)
front_insert (x ∷ before) p o q behind front up down =
    AllPairs-cons IsAhead x (before ++ (p ∷ o ∷ q ∷ behind))
    (all_behind (IsAhead x) before p o (q ∷ behind) (front_first x (before ++ (p ∷ q ∷ behind)) front) (λ h. ahead-trans x p o h up))
    (front_insert before p o q behind (front_rest x (before ++ (p ∷ q ∷ behind)) front) up down)

-- ---- the turns that remain

-- twice the distances of the neighbours' first values, each less 1
abbrev pub turns_left : Outcome → List Outcome → ℕ
turns_left p [] = 0
turns_left p (q ∷ l) = (2 * unsigned_abs (q.f1 -ℤ p.f1) - 1) + turns_left q l

-- from the outcome at a place on
abbrev pub turns_from : ℕ → List Outcome → ℕ
turns_from k [] = 0
turns_from zero (p ∷ l) = turns_left p l
turns_from (suc k) (o ∷ l) = turns_from k l

pub turns_are : (before : List Outcome) (p : Outcome) (behind : List Outcome) → turns_from (length before) (before ++ (p ∷ behind)) ≡ turns_left p behind
turns_are [] p behind = refl
turns_are (x ∷ before) p behind = turns_are before p behind

pub fewer_closed : (p q : Outcome) (behind : List Outcome) → IsAhead p q → turns_left q behind < turns_left p (q ∷ behind)
fewer_closed p q behind ahead =
    let up = ahead.first in
    omega (arith, ints)

pub fewer_parted : (p o q : Outcome) (behind : List Outcome) → IsAhead p o → IsAhead o q → turns_left p (o ∷ q ∷ behind) < turns_left p (q ∷ behind)
fewer_parted p o q behind first second =
    let up = first.first in
    let more = second.first in
    omega (arith, ints)
