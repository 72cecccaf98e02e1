-- Multipliers that are written by names: what they are read as, and that each is there and none stands twice.
use Rattle.std.proofs.Common.{◌≡◌, ◌≢◌, ℕ, suc, ◌<◌, ◌≤◌, Bool, true, false, List, [], ◌∷◌, ◌++◌, length, get_or, map, refl, sym, ap, ◌∙◌, arith, append-nil, append_assoc, if◌then◌else◌}
use Rattle.std.specs.Prelude.{◌-◌, nat_eq, All, AllPairs}
use Rattle.std.proofs.lemmas.List.{length-map, map-append}
use Rattle.std.proofs.lemmas.List.Elements.{All-append}
use Rattle.std.proofs.lemmas.List.Kept.{AllPairs-cons}
use Rattle.std.proofs.lemmas.Bool.Decides.{Decides-eqb}
use Rattle.frac128.specs.Rational.{ℚ}
use Rattle.lp_model.specs.Edits.{only_row_names, place_in}
use Rattle.lp_model.specs.Lawful.{row_name}
use Rattle.lp_model.specs.Cuts.{is_live}
use Rattle.lp_model.specs.Formulations.{Formulation}
use Rattle.lp_model.specs.declared.types.CutRow.{CutRow}
use Rattle.lp_model.specs.declared.types.RowId.{RowId}
use Rattle.lp_model.specs.declared.types.Var.{Var}
use Rattle.lp_model.specs.declared.types.Var.TheVariants.{Row, Col as ColVar, Cut}
use Rattle.leaf_dual.specs.Dual.{Multipliers}
use Rattle.kept_cuts.specs.Places.{index_among}
use Rattle.search_parts.specs.Lists.{IsActivityThere, AreMultipliers}
use Rattle.cert_text.specs.declared.cert.CertMult.{CertMult}
use Rattle.cert_text.specs.declared.cert.CertMult.TheVariants as mult
use Rattle.cert_check.specs.Mults.{IsMultiplierThere, Differ, AreMults, mult_of, mults_of}
use Rattle.cert_check.proofs.PairLemmas.{place_is}
use Rattle.tree_cert.specs.Cuts.{used_number, cut_named, mult_named, mults_named, IsOfFirst}
use Rattle.tree_cert.proofs.NameLaws.{element-get, contains_at, all_cons, all_none, all_first, all_rest, once_first, once_rest}

-- ---- lists

pub all_split : {A : Type 0} (P : A → Type 0) (xs ys : List A) → All P (xs ++ ys) → All P xs × All P ys
all_split P [] ys h = (all_none P, h)
all_split P (x ∷ xs) ys h = let rest = all_split P xs ys (all_rest P x (xs ++ ys) h) in (all_cons P x xs (all_first P x (xs ++ ys) h) rest.0, rest.1)

module _ {A : Type 0} (R : A → A → Type 0) where
  pairs_first : (x : A) (xs : List A) → AllPairs R (x ∷ xs) → All (R x) xs
  pairs_first x xs h k d below = h 0 (suc k) d (omega arith) (omega (arith, below))

  pairs_rest : (x : A) (xs : List A) → AllPairs R (x ∷ xs) → AllPairs R xs
  pairs_rest x xs h i j d early late = h (suc i) (suc j) d (omega (arith, early)) (omega (arith, late))

  pairs_one : (x : A) → AllPairs R (x ∷ [])
  pairs_one x i j d early late = absurd (omega (arith, early, late))

  pairs_none : AllPairs R []
  pairs_none i j d early late = absurd (omega (arith, late))

  pairs_append : (xs ys : List A) → AllPairs R xs → AllPairs R ys → All (λ x. All (R x) ys) xs → AllPairs R (xs ++ ys)
  pairs_append [] ys own other cross = other
  pairs_append (x ∷ xs) ys own other cross =
      AllPairs-cons R x (xs ++ ys) (All-append (R x) xs ys (pairs_first x xs own) (all_first (λ y. All (R y) ys) x xs cross))
      (pairs_append xs ys (pairs_rest x xs own) other (all_rest (λ y. All (R y) ys) x xs cross))

-- ---- indexes

pub other_index : (a b : ℕ) → (a ≡ b → ⊥) → nat_eq a b ≡ false
other_index a b other = by (nat_eq a b) refl
  where
    by : (t : Bool) → nat_eq a b ≡ t → t ≡ false
    by true e = absurd (other ((Decides-eqb a b).0 e))
    by false e = refl

pub same_index : (a : ℕ) → nat_eq a a ≡ true
same_index a = (Decides-eqb a a).1 refl

-- what stands at the index of an element
pub index_found : (k : ℕ) (used : List ℕ) (d : ℕ) → index_among k used < length used → get_or used (index_among k used) d ≡ k
index_found k [] d below = absurd (omega (arith, below))
index_found k (p ∷ used) d below = by (nat_eq p k) refl (index_found k used d) below
  where
    by : (b : Bool) → nat_eq p k ≡ b → (index_among k used < length used → get_or used (index_among k used) d ≡ k) → (if b then 0 else suc (index_among k used)) < suc (length used) → get_or (p ∷ used) (if b then 0 else suc (index_among k used)) d ≡ k
    by true e rest w = (Decides-eqb p k).0 e
    by false e rest w = rest (omega (arith, w))

-- ---- what is read back

abbrev pub renamed_cut : List CutRow → List ℕ → ℕ → ℚ → Multipliers
renamed_cut cuts used k v = if is_live cuts k then (Cut (record { 0 = index_among k used }), v) ∷ [] else []

abbrev pub renamed_mult : Formulation → List ℕ → Var → ℚ → Multipliers
renamed_mult F used (Row row) v = (Row row, v) ∷ []
renamed_mult F used (ColVar col) v = []
renamed_mult F used (Cut cut) v = renamed_cut F.cuts used cut.0 v

-- without those of cuts that do not count, and the others' cuts by their places among those that are used
abbrev pub renamed : Formulation → List ℕ → Multipliers → Multipliers
renamed F used [] = []
renamed F used (m ∷ list) = renamed_mult F used m.0 m.1 ++ renamed F used list

module _ (F : Formulation) (once : AllPairs (λ a b. a ≢ b) (only_row_names F.model)) (used : List ℕ) where
  abbrev number : ℕ → ℕ
  number = used_number used

  abbrev n : ℕ
  n = length used

  row_within : (k : ℕ) → k < length F.model.rows → k < length (only_row_names F.model)
  row_within k there = let l = length-map F.model.rows (λ r. r.name) in omega (arith, l, there)

  row_is : (k : ℕ) → get_or (only_row_names F.model) k [] ≡ row_name F.model k
  row_is k = element-get [] (λ r. r.name) F.model.rows k

  row_back : (k : ℕ) → k < length F.model.rows → place_in (only_row_names F.model) (row_name F.model k) ≡ k
  row_back k there = sym (place_is (only_row_names F.model) (row_name F.model k) k once (row_within k there) (row_is k))

  read_cut : (k : ℕ) (v : ℚ) → mults_of F.model (cut_named F.cuts number k v) ≡ renamed_cut F.cuts used k v
  read_cut k v = by (is_live F.cuts k)
    where
      back : suc (index_among k used) - 1 ≡ index_among k used
      back = omega arith

      by : (b : Bool) → mults_of F.model (if b then mult.Cut (used_number used k) v ∷ [] else []) ≡ (if b then (Cut (record { 0 = index_among k used }), v) ∷ [] else [])
      by true = ap (λ i. (Cut (record { 0 = i }), v) ∷ []) back
      by false = refl

  read_one : (x : Var) (v : ℚ) → IsActivityThere F x → mults_of F.model (mult_named F number x v) ≡ renamed_mult F used x v
  read_one (Row row) v there = ap (λ k. (Row (record { 0 = k }), v) ∷ []) (row_back row.0 there)
  read_one (ColVar col) v there = absurd there
  read_one (Cut cut) v there = read_cut cut.0 v

  pub mults_read : (list : Multipliers) → All (IsActivityThere F) (map (λ (m : Var × ℚ). m.0) list) → mults_of F.model (mults_named F number list) ≡ renamed F used list
  mults_read [] there = refl
  mults_read (m ∷ list) there =
      let first = read_one m.0 m.1 (all_first (IsActivityThere F) m.0 (map (λ (m : Var × ℚ). m.0) list) there) in
      let rest = mults_read list (all_rest (IsActivityThere F) m.0 (map (λ (m : Var × ℚ). m.0) list) there) in
      map-append (mult_of F.model) (mult_named F number m.0 m.1) (mults_named F number list) ∙ (λ i. first i ++ rest i)

  -- ---- each is there

  there_one : (x : Var) (v : ℚ) → IsActivityThere F x → All (IsOfFirst n) (mult_named F number x v) → All (IsMultiplierThere F.model n) (mult_named F number x v)
  there_one (Row row) v there within =
      all_cons (IsMultiplierThere F.model n) (mult.Row (row_name F.model row.0) v) [] (contains_at (only_row_names F.model) row.0 (row_name F.model row.0) (row_within row.0 there) (row_is row.0)) (all_none (IsMultiplierThere F.model n))
  there_one (ColVar col) v there within = absurd there
  there_one (Cut cut) v there within = by (is_live F.cuts cut.0) within
    where
      by : (b : Bool) → All (IsOfFirst n) (if b then mult.Cut (number cut.0) v ∷ [] else []) → All (IsMultiplierThere F.model n) (if b then mult.Cut (number cut.0) v ∷ [] else [])
      by true h = all_cons (IsMultiplierThere F.model n) (mult.Cut (number cut.0) v) [] (all_first (IsOfFirst n) (mult.Cut (number cut.0) v) [] h) (all_none (IsMultiplierThere F.model n))
      by false h = all_none (IsMultiplierThere F.model n)

  mults_there : (list : Multipliers) → All (IsActivityThere F) (map (λ (m : Var × ℚ). m.0) list) → All (IsOfFirst n) (mults_named F number list) → All (IsMultiplierThere F.model n) (mults_named F number list)
  mults_there [] there within = all_none (IsMultiplierThere F.model n)
  mults_there (m ∷ list) there within =
      let parts = all_split (IsOfFirst n) (mult_named F number m.0 m.1) (mults_named F number list) within in
      All-append (IsMultiplierThere F.model n) (mult_named F number m.0 m.1) (mults_named F number list)
      (there_one m.0 m.1 (all_first (IsActivityThere F) m.0 (map (λ (m : Var × ℚ). m.0) list) there) parts.0)
      (mults_there list (all_rest (IsActivityThere F) m.0 (map (λ (m : Var × ℚ). m.0) list) there) parts.1)

  -- ---- none stands twice

  -- a multiplier that differs from the one of each other variable differs from all of a list
  cross : (b : CertMult) (x : Var) → ((y : Var) (w : ℚ) → IsActivityThere F y → x ≢ y → All (IsOfFirst n) (mult_named F number y w) → All (Differ b) (mult_named F number y w))
      → (list : Multipliers) → All (IsActivityThere F) (map (λ (m : Var × ℚ). m.0) list) → All (λ y. x ≢ y) (map (λ (m : Var × ℚ). m.0) list) → All (IsOfFirst n) (mults_named F number list) → All (Differ b) (mults_named F number list)
  cross b x apart [] there other within = all_none (Differ b)
  cross b x apart (m ∷ list) there other within =
      let parts = all_split (IsOfFirst n) (mult_named F number m.0 m.1) (mults_named F number list) within in
      All-append (Differ b) (mult_named F number m.0 m.1) (mults_named F number list)
      (apart m.0 m.1 (all_first (IsActivityThere F) m.0 (map (λ (m : Var × ℚ). m.0) list) there) (all_first (λ y. x ≢ y) m.0 (map (λ (m : Var × ℚ). m.0) list) other) parts.0)
      (cross b x apart list (all_rest (IsActivityThere F) m.0 (map (λ (m : Var × ℚ). m.0) list) there) (all_rest (λ y. x ≢ y) m.0 (map (λ (m : Var × ℚ). m.0) list) other) parts.1)

  row_apart : (row : RowId) (v : ℚ) → row.0 < length F.model.rows → (y : Var) (w : ℚ) → IsActivityThere F y → Row row ≢ y → All (IsOfFirst n) (mult_named F number y w) → All (Differ (mult.Row (row_name F.model row.0) v)) (mult_named F number y w)
  row_apart row v here (Row other) w there differ within =
      all_cons (Differ (mult.Row (row_name F.model row.0) v)) (mult.Row (row_name F.model other.0) w) []
      (λ same. differ (ap (λ k. Row (record { 0 = k })) (sym (row_back row.0 here) ∙ ap (place_in (only_row_names F.model)) same ∙ row_back other.0 there)))
      (all_none (Differ (mult.Row (row_name F.model row.0) v)))
  row_apart row v here (ColVar col) w there differ within = absurd there
  row_apart row v here (Cut cut) w there differ within = by (is_live F.cuts cut.0)
    where
      by : (b : Bool) → All (Differ (mult.Row (row_name F.model row.0) v)) (if b then mult.Cut (number cut.0) w ∷ [] else [])
      by true = all_cons (Differ (mult.Row (row_name F.model row.0) v)) (mult.Cut (number cut.0) w) [] tt (all_none (Differ (mult.Row (row_name F.model row.0) v)))
      by false = all_none (Differ (mult.Row (row_name F.model row.0) v))

  cut_apart : (k : ℕ) (v : ℚ) → index_among k used < n → (y : Var) (w : ℚ) → IsActivityThere F y → Cut (record { 0 = k }) ≢ y → All (IsOfFirst n) (mult_named F number y w) → All (Differ (mult.Cut (number k) v)) (mult_named F number y w)
  cut_apart k v here (Row other) w there differ within = all_cons (Differ (mult.Cut (number k) v)) (mult.Row (row_name F.model other.0) w) [] tt (all_none (Differ (mult.Cut (number k) v)))
  cut_apart k v here (ColVar col) w there differ within = absurd there
  cut_apart k v here (Cut cut) w there differ within = by (is_live F.cuts cut.0) within
    where
      one : (index_among cut.0 used < n) → number k ≡ number cut.0 → k ≡ cut.0
      one other e =
          let same : index_among k used ≡ index_among cut.0 used = omega (arith, e) in
          sym (index_found k used 0 here) ∙ ap (λ i. get_or used i 0) same ∙ index_found cut.0 used 0 other

      by : (b : Bool) → All (IsOfFirst n) (if b then mult.Cut (number cut.0) w ∷ [] else []) → All (Differ (mult.Cut (number k) v)) (if b then mult.Cut (number cut.0) w ∷ [] else [])
      by true h =
          let first : (0 < number cut.0) × (number cut.0 ≤ n) = all_first (IsOfFirst n) (mult.Cut (number cut.0) w) [] h in
          all_cons (Differ (mult.Cut (number k) v)) (mult.Cut (number cut.0) w) [] (λ e. differ (ap (λ i. Cut (record { 0 = i })) (one (omega (arith, first.1)) e))) (all_none (Differ (mult.Cut (number k) v)))
      by false h = all_none (Differ (mult.Cut (number k) v))

  single : (x : Var) (v : ℚ) → AllPairs Differ (mult_named F number x v)
  single (Row row) v = pairs_one Differ (mult.Row (row_name F.model row.0) v)
  single (ColVar col) v = pairs_none Differ
  single (Cut cut) v = by (is_live F.cuts cut.0)
    where
      by : (b : Bool) → AllPairs Differ (if b then mult.Cut (number cut.0) v ∷ [] else [])
      by true = pairs_one Differ (mult.Cut (number cut.0) v)
      by false = pairs_none Differ

  apart : (x : Var) (v : ℚ) → IsActivityThere F x → All (IsOfFirst n) (mult_named F number x v) → (list : Multipliers) → All (IsActivityThere F) (map (λ (m : Var × ℚ). m.0) list) → All (λ y. x ≢ y) (map (λ (m : Var × ℚ). m.0) list)
      → All (IsOfFirst n) (mults_named F number list) → All (λ b. All (Differ b) (mults_named F number list)) (mult_named F number x v)
  apart (Row row) v here own list there other within =
      let b : CertMult = mult.Row (row_name F.model row.0) v in
      all_cons (λ c. All (Differ c) (mults_named F number list)) b [] (cross b (Row row) (row_apart row v here) list there other within) (all_none (λ c. All (Differ c) (mults_named F number list)))
  apart (ColVar col) v here own list there other within = absurd here
  apart (Cut cut) v here own list there other within = by (is_live F.cuts cut.0) own
    where
      by : (t : Bool) → All (IsOfFirst n) (if t then mult.Cut (number cut.0) v ∷ [] else []) → All (λ b. All (Differ b) (mults_named F number list)) (if t then mult.Cut (number cut.0) v ∷ [] else [])
      by true h =
          let first : (0 < number cut.0) × (number cut.0 ≤ n) = all_first (IsOfFirst n) (mult.Cut (number cut.0) v) [] h in
          let b : CertMult = mult.Cut (number cut.0) v in
          all_cons (λ c. All (Differ c) (mults_named F number list)) b [] (cross b (Cut cut) (cut_apart cut.0 v (omega (arith, first.1))) list there other within) (all_none (λ c. All (Differ c) (mults_named F number list)))
      by false h = all_none (λ c. All (Differ c) (mults_named F number list))

  mults_once : (list : Multipliers) → All (IsActivityThere F) (map (λ (m : Var × ℚ). m.0) list) → AllPairs (λ a b. a ≢ b) (map (λ (m : Var × ℚ). m.0) list) → All (IsOfFirst n) (mults_named F number list) → AllPairs Differ (mults_named F number list)
  mults_once [] there other within = pairs_none Differ
  mults_once (m ∷ list) there other within =
      let parts = all_split (IsOfFirst n) (mult_named F number m.0 m.1) (mults_named F number list) within in
      let later = all_rest (IsActivityThere F) m.0 (map (λ (m : Var × ℚ). m.0) list) there in
      pairs_append Differ (mult_named F number m.0 m.1) (mults_named F number list) (single m.0 m.1)
      (mults_once list later (once_rest m.0 (map (λ (m : Var × ℚ). m.0) list) other) parts.1)
      (apart m.0 m.1 (all_first (IsActivityThere F) m.0 (map (λ (m : Var × ℚ). m.0) list) there) parts.0 list later (once_first m.0 (map (λ (m : Var × ℚ). m.0) list) other) parts.1)

  pub mults_are : (list : Multipliers) → AreMultipliers F list → All (IsOfFirst n) (mults_named F number list) → AreMults F.model n (mults_named F number list)
  mults_are list h within = record { there = mults_there list h.each within; once = mults_once list h.each h.once within }

-- ---- one more

pub mults-push : (F : Formulation) (g : ℕ → ℕ) (list : Multipliers) (m : Var × ℚ) → mults_named F g (list ++ m ∷ []) ≡ mults_named F g list ++ mult_named F g m.0 m.1
mults-push F g [] m = append-nil (mult_named F g m.0 m.1)
mults-push F g (x ∷ list) m =
    ap (λ l. mult_named F g x.0 x.1 ++ l) (mults-push F g list m) ∙ sym (append_assoc (mult_named F g x.0 x.1) (mults_named F g list) (mult_named F g m.0 m.1))
