-- A base with enough underscores is free: it is longer than each of the names.
use Rattle.std.specs.Prelude.{◌≡◌, ℕ, zero, suc, ◌+◌, ◌<◌, ◌≤◌, Bool, true, false, if◌then◌else◌, nat_eq, List, [], ◌∷◌, ◌++◌, length, get_or, All, Contains, sum_by, bytes_eq, codes}
use Rattle.std.specs.List.{list_any}
use Rattle.std.proofs.Common.{refl, sym, ap, ◌∙◌, arith, append_assoc, append-nil, inl, inr}
use Rattle.std.proofs.lemmas.Bool.{eq-eqb}
use Rattle.std.proofs.lemmas.List.{length_push}
use Rattle.std.proofs.lemmas.List.Elements.{All-nil, All-cons, All-weaker}
use Rattle.std.proofs.lemmas.List.Sums.{sum_by-cons}
use Rattle.std.proofs.lemmas.Slice.Eq.{bytes_eq-Decides}
use Rattle.lp_model.specs.Program.{Program}
use Rattle.lp_model.specs.Lawful.{row_names, column_names}
use Rattle.lp_model.proofs.NameLemmas.{contains_cases}
use Rattle.inner_models.specs.Names.{free_within, free_name}
use Rattle.inner_models.specs.Inner.{g1_name, g2_name}
use Rattle.inner_models.specs.Laws.{AreNamesFree}

-- the test finds what stands among the names
pub test_true : (names : List (List ℕ)) (name : List ℕ) → Contains names name → list_any (λ other. bytes_eq other name) names ≡ true
test_true [] name (k, below, is) = absurd (omega arith)
test_true (n ∷ names) name there = elim (contains_cases n name names there) [
  | inl same ↦ let t : bytes_eq n name ≡ true = (bytes_eq-Decides n name).1 same in rw t refl
  | inr later ↦ by (bytes_eq n name) refl (test_true names name later)
]
  where
    by : (b : Bool) → bytes_eq n name ≡ b → list_any (λ other. bytes_eq other name) names ≡ true → list_any (λ other. bytes_eq other name) (n ∷ names) ≡ true
    by true e rest = rw e refl
    by false e rest = rw e rest

within_free : (n : ℕ) (names : List (List ℕ)) (name : List ℕ) → All (λ m. length m < length name + n) names → ¬ Contains names (free_within n names name)
within_free zero names name short = λ there.
    let less = short there.0 name there.1 in
    let same : length (get_or names there.0 name) ≡ length name = ap length there.2 in
    omega arith
within_free (suc n) names name short =
    let more = length_push name 95 in
    let longer : All (λ m. length m < length (name ++ 95 ∷ []) + n) names = All-weaker (λ m. length m < length name + suc n) (λ m. length m < length (name ++ 95 ∷ []) + n) (λ m h. omega arith) names short in
    by (list_any (λ other. bytes_eq other name) names) refl (within_free n names (name ++ 95 ∷ []) longer)
  where
    by : (b : Bool) → list_any (λ other. bytes_eq other name) names ≡ b → ¬ Contains names (free_within n names (name ++ 95 ∷ [])) → ¬ Contains names (if b then free_within n names (name ++ 95 ∷ []) else name)
    by true e rest = rest
    by false e rest = λ there. let t : list_any (λ other. bytes_eq other name) names ≡ true = test_true names name there in let f : true ≡ false = sym t ∙ e in absurd cc

short_names : (names : List (List ℕ)) → All (λ m. length m ≤ sum_by length names) names
short_names [] = All-nil (λ (m : List ℕ). length m ≤ sum_by (λ (n : List ℕ). length n) [])
short_names (n ∷ names) =
    let sum = sum_by-cons (λ (m : List ℕ). length m) n names in
    All-cons (λ m. length m ≤ sum_by length (n ∷ names)) n names (omega arith)
    (All-weaker (λ m. length m ≤ sum_by length names) (λ m. length m ≤ sum_by length (n ∷ names)) (λ m h. omega arith) names (short_names names))

pub free : (names : List (List ℕ)) (base : List ℕ) → ¬ Contains names (free_name names base)
free names base =
    within_free (sum_by length names + 1) names base
    (All-weaker (λ m. length m ≤ sum_by length names) (λ m. length m < length base + (sum_by length names + 1)) (λ m h. omega arith) names (short_names names))

-- the base stands in front
within_base : (n : ℕ) (names : List (List ℕ)) (name : List ℕ) → (more : List ℕ) × (free_within n names name ≡ name ++ more)
within_base zero names name = ([], sym (append-nil name))
within_base (suc n) names name = by (list_any (λ other. bytes_eq other name) names) (within_base n names (name ++ 95 ∷ []))
  where
    by : (b : Bool) → (more : List ℕ) × (free_within n names (name ++ 95 ∷ []) ≡ (name ++ 95 ∷ []) ++ more) → (more : List ℕ) × ((if b then free_within n names (name ++ 95 ∷ []) else name) ≡ name ++ more)
    by true rest = (95 ∷ rest.0, rest.1 ∙ append_assoc name (95 ∷ []) rest.0)
    by false rest = ([], sym (append-nil name))

names_apart : (N : Program) → ¬ (g1_name N ≡ g2_name N)
names_apart N same =
    let a = within_base (sum_by length (row_names N) + 1) (row_names N) (codes "G1") in
    let b = within_base (sum_by length (row_names N) + 1) (row_names N) (codes "G2") in
    let bytes : codes "G1" ++ a.0 ≡ codes "G2" ++ b.0 = sym a.1 ∙ same ∙ b.1 in
    let digit : nat_eq 49 50 ≡ true = eq-eqb 49 50 (ap (λ l. get_or l 1 0) bytes) in
    let apart : false ≡ true = digit in
    absurd cc

pub names_free : (N : Program) → AreNamesFree N
names_free N = record { column = free (column_names N) (codes "Z"); first = free (row_names N) (codes "G1"); second = free (row_names N) (codes "G2"); apart = names_apart N }
