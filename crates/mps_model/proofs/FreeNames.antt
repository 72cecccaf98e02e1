-- The first free name: it is none of the taken ones, since there is one candidate more than there are taken names.
use Rattle.std.proofs.Common.{◌≡◌, ℕ, zero, suc, ◌+◌, ◌-◌, ◌<◌, ◌≤◌, ◌^◌, Bool, true, false, ◌||◌, List, [], ◌∷◌, ◌++◌, length, refl, sym, ◌∙◌, ap, arith, inl, inr, length-append}
use Rattle.std.specs.Prelude.{if◌then◌else◌, bytes_eq, codes, ◌⊎◌}
use Rattle.std.specs.List.{IsDistinct, AllByRecursion}
use Rattle.std.specs.Set.{is_member}
use Rattle.std.specs.Fmt.{decimal}
use Rattle.std.specs.Str.Parse.{digits_value}
use Rattle.std.specs.Cmp.Lexicographic.{nat_list_eq_equiv}
use Rattle.std.proofs.lemmas.List.{append_cancel_left}
use Rattle.std.proofs.lemmas.Bool.{or_cases, false_from_ne_true, false≢true}
use Rattle.std.proofs.lemmas.Slice.Eq.{bytes_eq-Decides}
use Rattle.std.proofs.lemmas.Fmt.{decimal_is_IsNumeral}
use Rattle.std.proofs.lemmas.Map.Made.{length-le_from_is_member}
use Rattle.mps_sections.proofs.ListFacts.{bytes_eq-flips}
use Rattle.mps_fields.specs.Words.{among}
use Rattle.mps_model.specs.Meaning.{candidate, free_from, free_name}

step_of : (taken : List (List ℕ)) (base : List ℕ) (k n m : ℕ) → n ≡ suc m → among taken (candidate base k) ≡ true → free_from taken base k n ≡ free_from taken base (suc k) m
step_of taken base k n m e h =
    ap (free_from taken base k) e ∙ ap (λ b. if b then free_from taken base (suc k) m else candidate base k) h

-- a taken candidate is passed
pub passed : (taken : List (List ℕ)) (base : List ℕ) (k : ℕ) → k < length taken → among taken (candidate base k) ≡ true → free_from taken base k (length taken - k) ≡ free_from taken base (k + 1) (length taken - (k + 1))
passed taken base k small h =
    let e : length taken - k ≡ suc (length taken - (k + 1)) = omega arith in
    step_of taken base k (length taken - k) (length taken - (k + 1)) e h ∙ ap (λ n. free_from taken base n (length taken - (k + 1))) (omega arith)

pub started : (taken : List (List ℕ)) (base : List ℕ) → free_name taken base ≡ free_from taken base 0 (length taken - 0)
unfolding free_name
started taken base = ap (free_from taken base 0) (omega arith)

-- ---- one more candidate than there are taken names

-- n candidates from the k-th on
tries : List ℕ → ℕ → ℕ → List (List ℕ)
tries base k zero = []
tries base k (suc n) = candidate base k ∷ tries base (suc k) n

among-member : (words : List (List ℕ)) (word : List ℕ) → among words word ≡ is_member bytes_eq words word
among-member [] word = refl
among-member (w ∷ words) word = ap (λ b. b || among words word) (bytes_eq-flips w word) ∙ ap (λ b. bytes_eq word w || b) (among-member words word)

-- where the first free one is taken, each candidate is
of_first : (taken : List (List ℕ)) (one q : List ℕ) (others : Bool) → among taken one ≡ true → (others ≡ true → among taken q ≡ true) → ((bytes_eq q one ≡ true) ⊎ (others ≡ true)) → among taken q ≡ true
of_first taken one q others h more (inl e) = ap (among taken) ((bytes_eq-Decides q one).0 e) ∙ h
of_first taken one q others h more (inr e) = more e

of_next : (taken : List (List ℕ)) (one next q : List ℕ) (others b : Bool) → among taken one ≡ b → among taken (if b then next else one) ≡ true → (among taken next ≡ true → others ≡ true → among taken q ≡ true) → ((bytes_eq q one ≡ true) ⊎ (others ≡ true)) → among taken q ≡ true
of_next taken one next q others true e h more m = of_first taken one q others e (more h) m
of_next taken one next q others false e h more m = absurd (false≢true (sym e ∙ h))

all_taken : (taken : List (List ℕ)) (base : List ℕ) (k n : ℕ) → among taken (free_from taken base k n) ≡ true → (q : List ℕ) → is_member bytes_eq (tries base k (suc n)) q ≡ true → among taken q ≡ true
unfolding tries
all_taken taken base k zero h q m = of_first taken (candidate base k) q false h (λ e. absurd (false≢true e)) (or_cases (bytes_eq q (candidate base k)) false m)
all_taken taken base k (suc n) h q m =
    of_next taken (candidate base k) (free_from taken base (suc k) n) q (is_member bytes_eq (tries base (suc k) (suc n)) q) (among taken (candidate base k)) refl h (λ g f. all_taken taken base (suc k) n g q f)
    (or_cases (bytes_eq q (candidate base k)) (is_member bytes_eq (tries base (suc k) (suc n)) q) m)

length-tries : (base : List ℕ) (k n : ℕ) → length (tries base k n) ≡ n
unfolding tries
length-tries base k zero = refl
length-tries base k (suc n) = omega (arith, length-tries base (suc k) n)

-- candidates differ
digits_same : (i j : ℕ) → i < 2 ^ 64 → j < 2 ^ 64 → decimal i ≡ decimal j → i ≡ j
digits_same i j a b e = sym (decimal_is_IsNumeral i a).1 ∙ ap (digits_value 10) e ∙ (decimal_is_IsNumeral j b).1

candidate_same : (base : List ℕ) (i j : ℕ) → i < j → j < 2 ^ 64 → candidate base i ≡ candidate base j → ⊥
candidate_same base zero zero l s e = omega arith
candidate_same base zero (suc j) l s e = omega (arith, ap length e, length-append (base ++ codes "_") (decimal (suc j)), length-append base (codes "_"))
candidate_same base (suc i) zero l s e = omega arith
candidate_same base (suc i) (suc j) l s e =
    let same : suc i ≡ suc j = digits_same (suc i) (suc j) (omega arith) s (append_cancel_left (base ++ codes "_") (decimal (suc i)) (decimal (suc j)) e) in
    omega arith

later_differ : (base : List ℕ) (i k n : ℕ) → i < k → k + n ≤ 2 ^ 64 → AllByRecursion (λ name. bytes_eq (candidate base i) name ≡ false) (tries base k n)
unfolding tries
later_differ base i k zero l s = tt
later_differ base i k (suc n) l s =
    (false_from_ne_true (bytes_eq (candidate base i) (candidate base k)) (λ h. candidate_same base i k l (omega arith) ((bytes_eq-Decides (candidate base i) (candidate base k)).0 h)), later_differ base i (suc k) n (omega arith) (omega arith))

tries_differ : (base : List ℕ) (k n : ℕ) → k + n ≤ 2 ^ 64 → IsDistinct bytes_eq (tries base k n)
unfolding tries IsDistinct
tries_differ base k zero s = tt
tries_differ base k (suc n) s = (later_differ base k (suc k) n (omega arith) (omega arith), tries_differ base (suc k) n (omega arith))

-- the first free name is free
pub never_taken : (taken : List (List ℕ)) (base : List ℕ) → length taken < 2 ^ 64 → among taken (free_name taken base) ≡ false
unfolding free_name
never_taken taken base small =
    false_from_ne_true (among taken (free_from taken base 0 (length taken))) (λ h.
    let few = length-le_from_is_member nat_list_eq_equiv (tries base 0 (suc (length taken))) taken (tries_differ base 0 (suc (length taken)) (omega arith)) (λ q m. sym (among-member taken q) ∙ all_taken taken base 0 (length taken) h q m) in
    omega (arith, few, length-tries base 0 (suc (length taken))))
