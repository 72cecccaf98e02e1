-- Outcomes of a front taken in one after the other with their numbers negated: each stands before all that were taken in.
use Rattle.std.specs.Prelude.{◌≡◌, ◌↔◌, ℕ, ◌+◌, ◌<◌, Bool, true, false, if◌then◌else◌, IsTrue, int_lt, ℤ, ◌<ℤ◌, neg_ℤ, pos, ◌-ℤ◌, List, [], ◌∷◌, ◌++◌, length, get_or, map, take, reverse, filter, All}
use Rattle.std.specs.Int.{w128}
use Rattle.std.proofs.Common.{to_z, of_z, refl, sym, ap, subst, ◌∙◌, arith}
use Rattle.std.proofs.lemmas.Int.{ints}
use Rattle.std.proofs.lemmas.List.{length-take-le, get_or-take, get_or_default, map-append, reverse-append, take_more}
use Rattle.std.proofs.lemmas.List.Elements.{All-head, All-tail, All-map}
use Rattle.frac128.specs.Range.{IsNarrow}
use Rattle.frac128.proofs.ReadLemmas.{negated_read}
use Rattle.frontier.specs.declared.outcomes.Outcome.{Outcome}
use Rattle.frontier.specs.Covers.{Covers, IsCovered, IsAhead, IsFront, is_before, is_behind, inserted}
use Rattle.frontier.specs.Outcomes.{opposite}
use Rattle.front_search.proofs.TurnedLists.{all-reversed}

none-kept : (p : Outcome → Bool) (l : List Outcome) → All (λ m. p m ≡ false) l → filter p l ≡ []
none-kept p [] h = refl
none-kept p (m ∷ l) h = let here = All-head (λ m. p m ≡ false) m l h in rw here (none-kept p l (All-tail (λ m. p m ≡ false) m l h))

all-kept : (p : Outcome → Bool) (l : List Outcome) → All (λ m. p m ≡ true) l → filter p l ≡ l
all-kept p [] h = refl
all-kept p (m ∷ l) h = let here = All-head (λ m. p m ≡ true) m l h in rw here (ap (λ rest. m ∷ rest) (all-kept p l (All-tail (λ m. p m ≡ true) m l h)))

less-test : (a b : ℤ) → a <ℤ b → int_lt a b ≡ true
less-test a b h = grind (arith, ints)

not-less-test : (a b : ℤ) → b <ℤ a → int_lt a b ≡ false
not-less-test a b h = grind (arith, ints)

module _ (l : List Outcome) (front : IsFront l) (k : ℕ) (o : Outcome) (below : k < length l) (is : o ≡ get_or l k o) where
  abbrev own : List Outcome
  own = reverse (map opposite (take k l))

  -- those before it stand ahead of it
  ahead : All (λ m. IsAhead m o) (take k l)
  ahead i d within =
      let long = length-take-le k l (omega arith) in
      let early : i < k = omega arith in
      subst (λ m. IsAhead m o) (sym (get_or-take k l i d early))
      (subst (λ b. IsAhead (get_or l i d) b) (get_or_default l k d o below ∙ sym is) (front i k d early below))

  turned-all : (P : Outcome → Type 0) → ((m : Outcome) → IsAhead m o → P (opposite m)) → All P own
  turned-all P step = all-reversed P (map opposite (take k l)) (All-map P opposite (take k l) (λ i d within. step (get_or (take k l) i d) (ahead i d within)))

  uncovered : ¬ IsCovered own (opposite o)
  uncovered (i, m, within, at, covers) =
      let none : All (λ m. ¬ Covers m (opposite o)) own = turned-all (λ m. ¬ Covers m (opposite o)) (λ m h c. let up = h.first in let less = c.first in absurd (omega (arith, ints))) in
      subst (λ m. ¬ Covers m (opposite o)) at (none i m within) covers

  none-before : filter (is_before (opposite o)) own ≡ []
  none-before = none-kept (is_before (opposite o)) own (turned-all (λ m. is_before (opposite o) m ≡ false) (λ m h. let up = h.first in not-less-test (neg_ℤ m.f1) (neg_ℤ o.f1) (omega (arith, ints))))

  all-behind : filter (is_behind (opposite o)) own ≡ own
  all-behind = all-kept (is_behind (opposite o)) own (turned-all (λ m. is_behind (opposite o) m ≡ true) (λ m h. let down = h.second in less-test (neg_ℤ m.f2) (neg_ℤ o.f2) (omega (arith, ints))))

  inserted_is : inserted (opposite o) own ≡ opposite o ∷ own
  inserted_is t = (none-before t ++ opposite o ∷ []) ++ all-behind t

  next_is : opposite o ∷ own ≡ reverse (map opposite (take (k + 1) l))
  next_is =
      sym (reverse-append (map opposite (take k l)) (opposite o ∷ []))
      ∙ ap reverse (sym (map-append opposite (take k l) (o ∷ [])) ∙ ap (λ m. map opposite (take k l ++ m ∷ [])) is ∙ ap (map opposite) (sym (take_more l k o below)))

  pub turned-next : (held : List Outcome) (taken : Bool) (new : List Outcome) → held ≡ own → (IsTrue taken ↔ (¬ IsCovered held (opposite o))) → new ≡ (if taken then inserted (opposite o) held else held) → new ≡ reverse (map opposite (take (k + 1) l))
  turned-next held true new held_is taken new_is = new_is ∙ ap (inserted (opposite o)) held_is ∙ inserted_is ∙ next_is
  turned-next held false new held_is taken new_is =
      let must : false ≡ true = taken.1 (subst (λ h. ¬ IsCovered h (opposite o)) (sym held_is) uncovered) in
      absurd (cc)

-- ---- as the program negates numbers that have room

abbrev negated : ℤ → ℤ
negated n = to_z w128 (of_z w128 (pos 0 -ℤ to_z w128 (of_z w128 n)))

abbrev read_opposite : Outcome → Outcome
read_opposite o = record { f1 = negated o.f1; f2 = negated o.f2 }

minus : (n : ℤ) → pos 0 -ℤ n ≡ neg_ℤ n
minus n = omega (arith, ints)

read_is : (o : Outcome) → IsNarrow o.f1 × IsNarrow o.f2 → read_opposite o ≡ opposite o
read_is o narrow t = record { f1 = (negated_read o.f1 narrow.0 ∙ minus o.f1) t; f2 = (negated_read o.f2 narrow.1 ∙ minus o.f2) t }

pub turned-read : (l : List Outcome) → IsFront l → All (λ o. IsNarrow o.f1 × IsNarrow o.f2) l → (k : ℕ) (d : Outcome) → k < length l → (held : List Outcome) (taken : Bool) (new : List Outcome) → held ≡ reverse (map opposite (take k l))
    → (IsTrue taken ↔ (¬ IsCovered held (read_opposite (get_or l k d)))) → new ≡ (if taken then inserted (read_opposite (get_or l k d)) held else held) → new ≡ reverse (map opposite (take (k + 1) l))
turned-read l front narrow k d below held taken new held_is taken_is new_is =
    let o = get_or l k d in
    let same = read_is o (narrow k d below) in
    turned-next l front k o below (get_or_default l k d o below) held taken new held_is
    (subst (λ x. IsTrue taken ↔ (¬ IsCovered held x)) same taken_is) (subst (λ x. new ≡ (if taken then inserted x held else held)) same new_is)
