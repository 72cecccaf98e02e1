-- Names stand for places: what is written by name is read as it was.
use Rattle.std.proofs.Common.{◌≡◌, ◌≢◌, ◌↔◌, ℕ, zero, suc, ◌+◌, ◌<◌, ◌≤◌, Bool, true, false, IsTrue, List, [], ◌∷◌, ◌++◌, drop, append_assoc, length, get_or, map, refl, sym, ap, subst, ◌∙◌, arith, if◌then◌else◌}
use Rattle.std.specs.Prelude.{All, AllPairs, Contains, bytes_eq, pos}
use Rattle.std.proofs.lemmas.List.{length-map, drop_more, drop_all, get_or_default}
use Rattle.std.proofs.lemmas.Slice.Eq.{bytes_eq-Decides}
use Rattle.std.proofs.lemmas.Bool.{false_from_ne_true}
use Rattle.frac128.specs.Rational.{ℚ, int}
use Rattle.frac128.proofs.Comparison.{eq_by_cmp-decides}
use Rattle.lp_model.specs.Program.{Program, Point}
use Rattle.lp_model.specs.Elements.{of_element}
use Rattle.lp_model.specs.Lawful.{column_names}
use Rattle.lp_model.specs.Edits.{Named, number_beside, is_zero, place_in}
use Rattle.lp_model.proofs.NameLemmas.{get_or-map}
use Rattle.lp_model.specs.declared.types.Col.{Col}
use Rattle.lp_model.specs.declared.types.Var.{Var}
use Rattle.leaf_dual.specs.Dual.{Multipliers}
use Rattle.cert_check.specs.Accepted.{AreNames, point_of}
use Rattle.cert_check.proofs.PairLemmas.{place_is}
use Rattle.tree_cert.specs.Certificates.{unless_zero, nonzero_numbers}
use Rattle.lp_model.specs.Lawful.{column_name}

-- ---- lists

pub element-get : {A B : Type 0} (d : B) (f : A → B) (xs : List A) (k : ℕ) → get_or (map f xs) k d ≡ of_element d f xs k
element-get d f [] zero = refl
element-get d f [] (suc k) = refl
element-get d f (x ∷ xs) zero = refl
element-get d f (x ∷ xs) (suc k) = element-get d f xs k

module _ {A : Type 0} where
  pub all_cons : (P : A → Type 0) (x : A) (xs : List A) → P x → All P xs → All P (x ∷ xs)
  all_cons P x xs here rest zero d below = here
  all_cons P x xs here rest (suc k) d below = rest k d (omega (arith, below))

  pub all_none : (P : A → Type 0) → All P []
  all_none P k d below = absurd (omega arith)

  pub all_first : (P : A → Type 0) (x : A) (xs : List A) → All P (x ∷ xs) → P x
  all_first P x xs all = all 0 x (omega arith)

  pub all_rest : (P : A → Type 0) (x : A) (xs : List A) → All P (x ∷ xs) → All P xs
  all_rest P x xs all k d below = all (suc k) d (omega (arith, below))

  pub all_index : (P : A → Type 0) (xs : List A) → ((k : ℕ) (d : A) → k < length xs → P (get_or xs k d)) → All P xs
  all_index P xs h = h

  pub once_cons : (x : A) (xs : List A) → All (λ y. x ≢ y) xs → AllPairs (λ a b. a ≢ b) xs → AllPairs (λ a b. a ≢ b) (x ∷ xs)
  once_cons x xs first rest i zero d early late = absurd (omega arith)
  once_cons x xs first rest zero (suc j) d early late = first j d (omega (arith, late))
  once_cons x xs first rest (suc i) (suc j) d early late = rest i j d (omega (arith, early)) (omega (arith, late))

  pub once_none : AllPairs {X = A} (λ a b. a ≢ b) []
  once_none i j d early late = absurd (omega (arith, late))

  pub once_first : (x : A) (xs : List A) → AllPairs (λ a b. a ≢ b) (x ∷ xs) → All (λ y. x ≢ y) xs
  once_first x xs once k d below = once 0 (suc k) d (omega arith) (omega (arith, below))

  pub once_rest : (x : A) (xs : List A) → AllPairs (λ a b. a ≢ b) (x ∷ xs) → AllPairs (λ a b. a ≢ b) xs
  once_rest x xs once i j d early late = once (suc i) (suc j) d (omega (arith, early)) (omega (arith, late))

pub contains_at : (names : List (List ℕ)) (k : ℕ) (name : List ℕ) → k < length names → get_or names k [] ≡ name → Contains names name
contains_at names k name below is = (k, below, same)
  where
    same : get_or names k name ≡ name
    same = Rattle.std.proofs.lemmas.List.get_or_default names k name [] below ∙ is

pub element_is : {A B : Type 0} (d : B) (f : A → B) (xs : List A) (k : ℕ) (x : A) → k < length xs → x ≡ get_or xs k x → f x ≡ of_element d f xs k
element_is d f [] k x below is = absurd (omega arith)
element_is d f (y ∷ xs) zero x below is = ap f is
element_is d f (y ∷ xs) (suc k) x below is = element_is d f xs k x (omega arith) is

pub there_here : (P : Var → Type 0) (mult : Multipliers) (k : ℕ) (m : Var × ℚ) → k < length mult → m ≡ get_or mult k m → All P (map (λ (m : Var × ℚ). m.0) mult) → P m.0
there_here P mult k m below is all = subst P (get_or-map (λ (m : Var × ℚ). m.0) mult k m m.0 below is) (all k m.0 (rw (length-map mult (λ (m : Var × ℚ). m.0)) below))

-- ---- columns

module _ (M : Program) (once : AllPairs (λ a b. a ≢ b) (column_names M)) (j : ℕ) (there : j < length M.cols) where
  column_within : j < length (column_names M)
  column_within = let l = length-map M.cols (λ c. c.name) in omega (arith, l, there)

  pub column_place : place_in (column_names M) (column_name M j) ≡ j
  column_place = sym (place_is (column_names M) (column_name M j) j once column_within (element-get [] (λ c. c.name) M.cols j))

  pub column_there : Contains (column_names M) (column_name M j)
  column_there = contains_at (column_names M) j (column_name M j) column_within (element-get [] (λ c. c.name) M.cols j)

-- ---- points

bytes_other : (a b : List ℕ) → a ≢ b → bytes_eq a b ≡ false
bytes_other a b differ = false_from_ne_true (bytes_eq a b) (λ t. differ ((bytes_eq-Decides a b).0 t))

bytes_same : (a : List ℕ) → bytes_eq a a ≡ true
bytes_same a = (bytes_eq-Decides a a).1 refl

-- the number of a name behind others
beside_other : (name other : List ℕ) (v : ℚ) (named : Named) → other ≢ name → number_beside name (unless_zero other v named) ≡ number_beside name named
beside_other name other v named differ = by (is_zero v)
  where
    by : (b : Bool) → number_beside name (if b then named else (other, v) ∷ named) ≡ number_beside name named
    by true = refl
    by false = ap (λ (b : Bool). if b then v else number_beside name named) (bytes_other other name differ)

beside_none : (name : List ℕ) (cols : List Col) (x : Point) → All (λ n. name ≢ n) (map (λ c. c.name) cols) → number_beside name (nonzero_numbers cols x) ≡ int (pos 0)
beside_none name [] x differ = refl
beside_none name (c ∷ cols) [] differ = refl
beside_none name (c ∷ cols) (v ∷ x) differ =
    beside_other name c.name v (nonzero_numbers cols x) (λ same. all_first (λ n. name ≢ n) c.name (map (λ c. c.name) cols) differ (sym same))
    ∙ beside_none name cols x (all_rest (λ n. name ≢ n) c.name (map (λ c. c.name) cols) differ)

zero_is : (v : ℚ) → is_zero v ≡ true → v ≡ int (pos 0)
zero_is v e = (eq_by_cmp-decides v (int (pos 0))).0 e

beside_own : (name : List ℕ) (v : ℚ) (named : Named) → number_beside name named ≡ int (pos 0) → number_beside name (unless_zero name v named) ≡ v
beside_own name v named none = by (is_zero v) refl
  where
    by : (b : Bool) → is_zero v ≡ b → number_beside name (if b then named else (name, v) ∷ named) ≡ v
    by true e = none ∙ sym (zero_is v e)
    by false e = ap (λ (b : Bool). if b then v else number_beside name named) (bytes_same name)

others_read : (other : List ℕ) (v : ℚ) (named : Named) (cols : List Col) → All (λ n. other ≢ n) (map (λ c. c.name) cols) → map (λ c. number_beside c.name (unless_zero other v named)) cols ≡ map (λ c. number_beside c.name named) cols
others_read other v named [] differ = refl
others_read other v named (c ∷ cols) differ =
    (λ i. beside_other c.name other v named (all_first (λ n. other ≢ n) c.name (map (λ c. c.name) cols) differ) i
    ∷ others_read other v named cols (all_rest (λ n. other ≢ n) c.name (map (λ c. c.name) cols) differ) i)

point_read : (cols : List Col) (x : Point) → AllPairs (λ a b. a ≢ b) (map (λ c. c.name) cols) → length x ≡ length cols → map (λ c. number_beside c.name (nonzero_numbers cols x)) cols ≡ x
point_read [] [] once same = refl
point_read [] (v ∷ x) once same = absurd (omega (arith, same))
point_read (c ∷ cols) [] once same = absurd (omega (arith, same))
point_read (c ∷ cols) (v ∷ x) once same =
    let differ = once_first c.name (map (λ c. c.name) cols) once in
    (λ i. beside_own c.name v (nonzero_numbers cols x) (beside_none c.name cols x differ) i
    ∷ (others_read c.name v (nonzero_numbers cols x) cols differ ∙ point_read cols x (once_rest c.name (map (λ c. c.name) cols) once) (omega (arith, same))) i)

all_nonzero : (P : List ℕ → Type 0) (cols : List Col) (x : Point) → All P (map (λ c. c.name) cols) → All P (map (λ e. e.0) (nonzero_numbers cols x))
all_nonzero P [] x all = all_none P
all_nonzero P (c ∷ cols) [] all = all_none P
all_nonzero P (c ∷ cols) (v ∷ x) all = by (is_zero v) (all_first P c.name (map (λ c. c.name) cols) all) (all_nonzero P cols x (all_rest P c.name (map (λ c. c.name) cols) all))
  where
    by : (b : Bool) → P c.name → All P (map (λ e. e.0) (nonzero_numbers cols x)) → All P (map (λ (e : List ℕ × ℚ). e.0) (if b then nonzero_numbers cols x else (c.name, v) ∷ nonzero_numbers cols x))
    by true here rest = rest
    by false here rest = all_cons P c.name (map (λ e. e.0) (nonzero_numbers cols x)) here rest

once_nonzero : (cols : List Col) (x : Point) → AllPairs (λ a b. a ≢ b) (map (λ c. c.name) cols) → AllPairs (λ a b. a ≢ b) (map (λ e. e.0) (nonzero_numbers cols x))
once_nonzero [] x once = once_none
once_nonzero (c ∷ cols) [] once = once_none
once_nonzero (c ∷ cols) (v ∷ x) once = by (is_zero v) (once_nonzero cols x (once_rest c.name (map (λ c. c.name) cols) once))
  where
    by : (b : Bool) → AllPairs (λ a b. a ≢ b) (map (λ e. e.0) (nonzero_numbers cols x)) → AllPairs (λ a b. a ≢ b) (map (λ (e : List ℕ × ℚ). e.0) (if b then nonzero_numbers cols x else (c.name, v) ∷ nonzero_numbers cols x))
    by true rest = rest
    by false rest = once_cons c.name (map (λ e. e.0) (nonzero_numbers cols x)) (all_nonzero (λ n. c.name ≢ n) cols x (once_first c.name (map (λ c. c.name) cols) once)) rest

module _ (M : Program) (x : Point) (once : AllPairs (λ a b. a ≢ b) (column_names M)) where
  pub numbers_named : AreNames (column_names M) (nonzero_numbers M.cols x)
  numbers_named = record {
    there = all_nonzero (Contains (column_names M)) M.cols x (λ k d below. contains_at (column_names M) k (get_or (column_names M) k d) below (Rattle.std.proofs.lemmas.List.get_or_default (column_names M) k [] d below));
    once = once_nonzero M.cols x once;
  }

  pub numbers_read : length x ≡ length M.cols → point_of M (nonzero_numbers M.cols x) ≡ x
  numbers_read same = point_read M.cols x once same

-- ---- the numbers that are not 0, one column further

pub is_zero_by : (b : Bool) (v : ℚ) → IsTrue b ↔ (v ≡ int (pos 0)) → is_zero v ≡ b
is_zero_by true v h = (eq_by_cmp-decides v (int (pos 0))).1 (h.0 refl)
is_zero_by false v h = false_from_ne_true (is_zero v) (λ t. let f : false ≡ true = h.1 ((eq_by_cmp-decides v (int (pos 0))).0 t) in cc)

unless-append : (name : List ℕ) (v : ℚ) (rest : Named) → unless_zero name v rest ≡ unless_zero name v [] ++ rest
unless-append name v rest = by (is_zero v)
  where
    by : (b : Bool) → (if b then rest else (name, v) ∷ rest) ≡ (if b then [] else (name, v) ∷ []) ++ rest
    by true = refl
    by false = refl

pub nonzero_next : (cols : List Col) (x : Point) (k : ℕ) (c : Col) (v : ℚ) (whole old new : Named) → k < length cols → length x ≡ length cols → c ≡ get_or cols k c → v ≡ get_or x k v →
    whole ≡ old ++ nonzero_numbers (drop k cols) (drop k x) → new ≡ old ++ unless_zero c.name v [] → whole ≡ new ++ nonzero_numbers (drop (k + 1) cols) (drop (k + 1) x)
nonzero_next cols x k c v whole old new below same col_is number_is before after =
    let rest = nonzero_numbers (drop (k + 1) cols) (drop (k + 1) x) in
    let cut_cols : drop k cols ≡ c ∷ drop (k + 1) cols = drop_more cols k c below ∙ ap (λ d. d ∷ drop (k + 1) cols) (sym col_is) in
    let cut_x : drop k x ≡ v ∷ drop (k + 1) x = drop_more x k v (omega (arith, same, below)) ∙ ap (λ d. d ∷ drop (k + 1) x) (sym number_is) in
    before
    ∙ (λ i. old ++ nonzero_numbers (cut_cols i) (cut_x i))
    ∙ ap (λ l. old ++ l) (unless-append c.name v rest)
    ∙ sym (append_assoc old (unless_zero c.name v []) rest)
    ∙ ap (λ l. l ++ rest) (sym after)

pub nonzero_end : (cols : List Col) (x : Point) (k : ℕ) (whole old : Named) → length cols ≤ k → whole ≡ old ++ nonzero_numbers (drop k cols) (drop k x) → old ≡ whole
nonzero_end cols x k whole old past before =
    sym (before ∙ ap (λ cs. old ++ nonzero_numbers cs (drop k x)) (drop_all k cols past) ∙ nil_right old)
  where
    nil_right : (l : Named) → l ++ [] ≡ l
    nil_right [] = refl
    nil_right (e ∷ l) = ap (λ m. e ∷ m) (nil_right l)
