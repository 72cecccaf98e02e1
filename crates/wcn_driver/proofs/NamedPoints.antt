-- The numbers of a point beside the names of the columns are that point.
use Rattle.std.specs.Prelude.{◌≡◌, ◌≢◌, ℕ, zero, suc, ◌+◌, ◌<◌, true, List, [], ◌∷◌, ◌++◌, length, get_or, map, take, All, AllPairs, Contains, bytes_eq}
use Rattle.std.proofs.Common.{refl, sym, ap, ap₂, subst, ◌∙◌, arith}
use Rattle.std.proofs.lemmas.List.{length-map, get_or_default, take_more}
use Rattle.std.proofs.lemmas.List.Elements.{All-head, All-tail, Contains-get_or}
use Rattle.std.proofs.lemmas.Slice.Eq.{bytes_eq-Decides}
use Rattle.frac128.specs.Rational.{ℚ}
use Rattle.lp_model.specs.Program.{Program, Point}
use Rattle.lp_model.specs.Lawful.{column_names}
use Rattle.lp_model.specs.Edits.{Named, number_beside}
use Rattle.lp_model.specs.declared.types.Col.{Col}
use Rattle.lp_model.proofs.NameLemmas.{get_or-map}
use Rattle.inner_models.proofs.NamedNumbers.{apart_test}
use Rattle.cert_check.specs.Accepted.{AreNames, point_of}

abbrev pub named_numbers : List Col → Point → Named
named_numbers [] x = []
named_numbers (c ∷ cols) [] = []
named_numbers (c ∷ cols) (v ∷ x) = (c.name, v) ∷ named_numbers cols x

names_are : (cols : List Col) (x : Point) → length x ≡ length cols → map (λ (e : List ℕ × ℚ). e.0) (named_numbers cols x) ≡ map (λ c. c.name) cols
names_are [] x long = refl
names_are (c ∷ cols) [] long = absurd (omega arith)
names_are (c ∷ cols) (v ∷ x) long = ap (λ l. c.name ∷ l) (names_are cols x (omega arith))

pub numbers_long : (cols : List Col) (x : Point) → length x ≡ length cols → length (named_numbers cols x) ≡ length cols
numbers_long [] x long = refl
numbers_long (c ∷ cols) [] long = absurd (omega arith)
numbers_long (c ∷ cols) (v ∷ x) long = ap suc (numbers_long cols x (omega arith))

-- ---- the numbers

past : (name : List ℕ) (v : ℚ) (named : Named) (cols : List Col) → All (λ (c : Col). name ≢ c.name) cols
    → map (λ (c : Col). number_beside c.name ((name, v) ∷ named)) cols ≡ map (λ (c : Col). number_beside c.name named) cols
past name v named [] apart = refl
past name v named (c ∷ cols) apart =
    let other = apart_test name c.name (All-head (λ (c : Col). name ≢ c.name) c cols apart) in
    rw other (ap (λ l. number_beside c.name named ∷ l) (past name v named cols (All-tail (λ (c : Col). name ≢ c.name) c cols apart)))

first_apart : (c : Col) (cols : List Col) → AllPairs (λ a b. a ≢ b) (map (λ (d : Col). d.name) (c ∷ cols)) → All (λ (d : Col). c.name ≢ d.name) cols
first_apart c cols apart k d below e =
    let n = length-map cols (λ (d : Col). d.name) in
    apart 0 (suc k) [] (omega arith) (omega arith) (e ∙ sym (get_or-map (λ (d : Col). d.name) cols k (get_or cols k d) [] below (get_or_default cols k d (get_or cols k d) below)))

rest_apart : (n : List ℕ) (names : List (List ℕ)) → AllPairs (λ a b. a ≢ b) (n ∷ names) → AllPairs (λ a b. a ≢ b) names
rest_apart n names apart i j d before below = apart (suc i) (suc j) d (omega arith) (omega arith)

numbers_are : (cols : List Col) (x : Point) → length x ≡ length cols → AllPairs (λ a b. a ≢ b) (map (λ (c : Col). c.name) cols) → map (λ (c : Col). number_beside c.name (named_numbers cols x)) cols ≡ x
numbers_are [] [] long apart = refl
numbers_are [] (v ∷ x) long apart = absurd (omega arith)
numbers_are (c ∷ cols) [] long apart = absurd (omega arith)
numbers_are (c ∷ cols) (v ∷ x) long apart =
    let same : bytes_eq c.name c.name ≡ true = (bytes_eq-Decides c.name c.name).1 refl in
    rw same (ap (λ (l : Point). v ∷ l) (past c.name v (named_numbers cols x) cols (first_apart c cols apart) ∙ numbers_are cols x (omega arith) (rest_apart c.name (map (λ (c : Col). c.name) cols) apart)))

-- ---- a point

module _ (M : Program) (x : Point) (long : length x ≡ length M.cols) (distinct : AllPairs (λ a b. a ≢ b) (column_names M)) where
  pub are_names : AreNames (column_names M) (named_numbers M.cols x)
  are_names = record {
    there = subst (All (Contains (column_names M))) (sym (names_are M.cols x long)) (λ k d below. Contains-get_or (column_names M) k d below);
    once = subst (AllPairs (λ a b. a ≢ b)) (sym (names_are M.cols x long)) distinct;
  }

  pub point_is : point_of M (named_numbers M.cols x) ≡ x
  point_is = numbers_are M.cols x long distinct

-- ---- one more number

pub number_at : (cols : List Col) (x : Point) (k : ℕ) (c : Col) (v : ℚ) → length x ≡ length cols → k < length cols → c ≡ get_or cols k c → v ≡ get_or x k v → (c.name, v) ≡ get_or (named_numbers cols x) k (c.name, v)
number_at [] x k c v long below c_is v_is = absurd (omega arith)
number_at (d ∷ cols) [] k c v long below c_is v_is = absurd (omega arith)
number_at (d ∷ cols) (w ∷ x) zero c v long below c_is v_is = (λ i. ((c_is i).name, v_is i))
number_at (d ∷ cols) (w ∷ x) (suc k) c v long below c_is v_is = number_at cols x k c v (omega arith) (omega arith) c_is v_is

pub number_more : (cols : List Col) (x : Point) (k : ℕ) (c : Col) (v : ℚ) (before : Named) → length x ≡ length cols → k < length cols → c ≡ get_or cols k c → v ≡ get_or x k v
    → before ≡ take k (named_numbers cols x) → before ++ (c.name, v) ∷ [] ≡ take (k + 1) (named_numbers cols x)
number_more cols x k c v before long below c_is v_is before_is =
    let n = numbers_long cols x long in
    ap₂ (λ (l : Named) (e : List ℕ × ℚ). l ++ e ∷ []) before_is (number_at cols x k c v long below c_is v_is)
    ∙ sym (take_more (named_numbers cols x) k (c.name, v) (omega arith))
