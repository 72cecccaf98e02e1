-- A cut that an edit spares is one of the edited model.
-- Idea: of a model a derivation reads the limit of its row's side, and of each column its bounds, whether it is integer and
-- its coefficient in that row. Where two models have the same of these (`ReadsSame`), it derives with room at both or at
-- neither; and an edit that spares it leaves these.
use Rattle.std.specs.Prelude.{◌≡◌, ◌≢◌, ◌⊎◌, ℕ, zero, suc, ◌-◌, ◌<◌, Bool, true, false, not, nat_eq, if◌then◌else◌, IsTrue, IsSome, List, [], ◌∷◌, ◌++◌, length, map, filter, pos, Option, None}
use Rattle.std.proofs.Common.{refl, sym, ap, subst, ◌∙◌, arith, inl, inr, true≢false}
use Rattle.std.proofs.lemmas.Bool.{ltb-true, eqb-true, eqb-false, eq-eqb, ne_eqb, not-true, cases_order}
use Rattle.std.proofs.lemmas.List.{length-map}
use Rattle.frac128.specs.Rational.{ℚ, int, ◌*ℚ◌, ◌<ℚ◌}
use Rattle.frac128.specs.Sums.{sum_below}
use Rattle.checked_sum.specs.Steps.{AllFit}
use Rattle.lp_model.specs.Elements.{of_element, place_after}
use Rattle.lp_model.specs.Program.{Program, is_integer, lower, upper, low_side, high_side, entry_of, coefficient}
use Rattle.lp_model.specs.Sides.{needed_side, side_number}
use Rattle.lp_model.specs.Edits.{Named, is_zero, number_beside, with_entry, without_entry, entry_after, entries_without, with_sides, col_place, row_place, with_col, edited}
use Rattle.lp_model.specs.declared.types.RowId.{RowId}
use Rattle.lp_model.specs.declared.types.Row.{Row}
use Rattle.lp_model.specs.declared.types.Col.{Col}
use Rattle.lp_model.specs.declared.types.CutRow.{CutRow}
use Rattle.lp_model.specs.declared.types.Derivation.{Derivation}
use Rattle.lp_model.specs.declared.types.Literal.{Literal}
use Rattle.lp_model.specs.declared.types.Edit.{Edit}
use Rattle.lp_model.specs.declared.types.Edit.TheVariants.{SetCost, SetCost2, SetRow, SetColBounds, SetKind, AddCol, DelCol, AddRow, DelRow, ReplaceRow}
use Rattle.lp_model.proofs.ChangedLaws.{length-changed_at, of_element-changed_at, of_element-changed_other, of_element-without_at, place_after-below, place_after-above}
use Rattle.cover_cuts.specs.Covers.{signed_by_side, signed_side, side_limit, IsBinary, AreLiterals, literal_number, number_else, least_number}
use Rattle.cover_cuts.specs.Answers.{DerivesWithRoom}
use Rattle.cover_cuts.specs.Cuts.{cover_terms, cover_high, IsCutOf}
use Rattle.kept_cuts.specs.Kept.{goes_with, derivation_after}
use Rattle.kept_cuts.specs.private.Kept.{KeepsCut}
use Rattle.kept_cuts.specs.private.Spared.{spares}

-- ---- what a derivation reads

record ReadsSame (M N : Program) (d e : Derivation) : Type 0 where
  pub side : d.side ≡ e.side
  pub literals : d.literals ≡ e.literals
  pub count : length M.cols ≡ length N.cols
  pub integer : (j : ℕ) → is_integer M j ≡ is_integer N j
  pub low : (j : ℕ) → lower M j ≡ lower N j
  pub up : (j : ℕ) → upper M j ≡ upper N j
  pub entry : (j : ℕ) → coefficient M d.row.0 j ≡ coefficient N e.row.0 j
  pub low_limit : low_side M d.row.0 ≡ low_side N e.row.0
  pub high_limit : high_side M d.row.0 ≡ high_side N e.row.0

reads-back : (M N : Program) (d e : Derivation) → ReadsSame M N d e → ReadsSame N M e d
reads-back M N d e s = record {
  side = sym s.side;
  literals = sym s.literals;
  count = sym s.count;
  integer = λ j. sym (s.integer j);
  low = λ j. sym (s.low j);
  up = λ j. sym (s.up j);
  entry = λ j. sym (s.entry j);
  low_limit = sym s.low_limit;
  high_limit = sym s.high_limit;
}

module _ (M N : Program) (d e : Derivation) (s : ReadsSame M N d e) where
  literals-same : (from : ℕ) (ls : List Literal) → AreLiterals M from ls → AreLiterals N from ls
  literals-same from [] h = tt
  literals-same from (l ∷ ls) h =
      let j = l.col.0 in
      let binary : IsBinary N j = record { integer = subst IsTrue (s.integer j) h.1.integer; low = sym (s.low j) ∙ h.1.low; high = sym (s.up j) ∙ h.1.high } in
      (h.0, binary, literals-same (suc j) ls h.2)

  limit-same : side_limit M d.row.0 d.side ≡ side_limit N e.row.0 e.side
  limit-same = λ t. signed_side (s.side t) (s.low_limit t) (s.high_limit t)

  least-same : (j : ℕ) → least_number M d j ≡ least_number N e j
  least-same j = λ t. number_else (literal_number (s.literals t) j) (needed_side (signed_by_side (s.side t) (s.entry j t)) (s.low j t) (s.up j t))

  derives-same : DerivesWithRoom M d → DerivesWithRoom N e
  derives-same h = record {
    derives = record {
      posed = record {
        some = subst (λ (ls : List Literal). 0 < length ls) s.literals h.derives.posed.some;
        literals = subst (AreLiterals N 0) s.literals (literals-same 0 d.literals h.derives.posed.literals);
        side = subst IsSome limit-same h.derives.posed.side;
        bounds = λ j below. let n = s.count in let within : j < length M.cols = omega arith in subst IsSome (least-same j) (h.derives.posed.bounds j within);
      };
      fails = subst (λ P. P) (λ t. side_number (limit-same t) <ℚ sum_below (s.count t) (λ j. side_number (least-same j t) *ℚ signed_by_side (s.side t) (s.entry j t))) h.derives.fails;
    };
    fits = subst (λ P. P) (λ t. AllFit (int (pos 0)) (λ j. side_number (least-same j t)) (λ j. signed_by_side (s.side t) (s.entry j t)) (s.count t)) h.fits;
  }

-- the same row, which counts as before
cut-same : (M N : Program) (c k : CutRow) → ReadsSame M N c.from k.from → k.terms ≡ c.terms → k.hi ≡ c.hi → k.live ≡ c.live → IsCutOf M c → IsCutOf N k
cut-same M N c k s terms high live h = record {
  row = record { terms = terms ∙ h.row.terms ∙ ap cover_terms s.literals; high = high ∙ h.row.high ∙ ap cover_high s.literals };
  live = ((λ t. derives-same M N c.from k.from s (h.live.0 (sym live ∙ t))), (λ r. live ∙ h.live.1 (derives-same N M k.from c.from (reads-back M N c.from k.from s) r)));
}

-- ---- costs

costs-changed : (M : Program) (d : Derivation) (name : List ℕ) (f : Col → Col) → ((c : Col) → (f c).int ≡ c.int) → ((c : Col) → (f c).lo ≡ c.lo) → ((c : Col) → (f c).up ≡ c.up)
    → ((c : Col) → (f c).rows ≡ c.rows) → ReadsSame M (with_col M name f) d d
costs-changed M d name f integer low up rows = record {
  side = refl;
  literals = refl;
  count = sym (length-changed_at f M.cols k);
  integer = at false (λ c. c.int) integer;
  low = at None (λ c. c.lo) low;
  up = at None (λ c. c.up) up;
  entry = at (int (pos 0)) (λ c. entry_of d.row.0 c.rows) (λ c. ap (entry_of d.row.0) (rows c));
  low_limit = refl;
  high_limit = refl;
}
  where
    k : ℕ
    k = col_place M name

    at : {B : Type 0} (z : B) (g : Col → B) → ((c : Col) → g (f c) ≡ g c) → (j : ℕ) → of_element z g M.cols j ≡ of_element z g (with_col M name f).cols j
    at z g kept j = sym (of_element-changed_at f z g kept M.cols k j)

-- ---- the sides of another row

sides-changed : (M : Program) (d : Derivation) (row : List ℕ) (lo hi : Option (Option ℚ)) → d.row.0 ≢ row_place M row → ReadsSame M (edited M (SetRow row lo hi)) d d
sides-changed M d row lo hi other = record { side = refl; literals = refl; count = refl; integer = λ j. refl; low = λ j. refl; up = λ j. refl; entry = λ j. refl; low_limit = at (λ r. r.lo); high_limit = at (λ r. r.hi) }
  where
    at : (g : Row → Option ℚ) → of_element None g M.rows d.row.0 ≡ of_element None g (edited M (SetRow row lo hi)).rows d.row.0
    at g = sym (of_element-changed_other (with_sides lo hi) None g M.rows (row_place M row) d.row.0 other)

-- ---- a row added

-- a further entry says nothing of another row
entry-added : (i k : ℕ) (x : ℚ) → i ≢ k → (es : List (RowId × ℚ)) → entry_of i (if is_zero x then es else es ++ (record { 0 = k }, x) ∷ []) ≡ entry_of i es
entry-added i k x apart es = by (is_zero x)
  where
    more : (fs : List (RowId × ℚ)) → entry_of i (fs ++ (record { 0 = k }, x) ∷ []) ≡ entry_of i fs
    more [] = ap (λ b. if b then x else int (pos 0)) (ne_eqb k i (λ e. apart (sym e)))
    more (e ∷ fs) = ap (λ q. if nat_eq e.0.0 i then e.1 else q) (more fs)

    by : (b : Bool) → entry_of i (if b then es else es ++ (record { 0 = k }, x) ∷ []) ≡ entry_of i es
    by true = refl
    by false = more es

module _ {A B : Type 0} (z : B) where
  of_element-map : (g h : A → B) (f : A → A) → ((a : A) → h (f a) ≡ g a) → (xs : List A) (j : ℕ) → of_element z h (map f xs) j ≡ of_element z g xs j
  of_element-map g h f kept [] j = refl
  of_element-map g h f kept (a ∷ as_) zero = kept a
  of_element-map g h f kept (a ∷ as_) (suc j) = of_element-map g h f kept as_ j

  of_element-push : (g : A → B) (xs : List A) (a : A) (j : ℕ) → j < length xs → of_element z g (xs ++ a ∷ []) j ≡ of_element z g xs j
  of_element-push g [] a j below = absurd (omega arith)
  of_element-push g (x ∷ xs) a zero below = refl
  of_element-push g (x ∷ xs) a (suc j) below = let h : j < length xs = omega arith in of_element-push g xs a j h

row-added : (M : Program) (d : Derivation) (r : Row) (named : Named) → d.row.0 < length M.rows → ReadsSame M (edited M (AddRow r.name r.lo r.hi named)) d d
row-added M d r named below = record {
  side = refl;
  literals = refl;
  count = sym (length-map M.cols f);
  integer = at false (λ c. c.int) (λ c. refl);
  low = at None (λ c. c.lo) (λ c. refl);
  up = at None (λ c. c.up) (λ c. refl);
  entry = at (int (pos 0)) (λ c. entry_of d.row.0 c.rows) (λ c. entry-added d.row.0 (length M.rows) (number_beside c.name named) (λ e. omega (arith, e, below)) c.rows);
  low_limit = sym (of_element-push None (λ (q : Row). q.lo) M.rows r d.row.0 below);
  high_limit = sym (of_element-push None (λ (q : Row). q.hi) M.rows r d.row.0 below);
}
  where
    f : Col → Col
    f c = with_entry (length M.rows) (number_beside c.name named) c

    at : {B : Type 0} (z : B) (g : Col → B) → ((c : Col) → g (f c) ≡ g c) → (j : ℕ) → of_element z g M.cols j ≡ of_element z g (map f M.cols) j
    at z g kept j = sym (of_element-map z g g f kept M.cols j)

-- ---- another row taken out

-- where another row stands then
after-is : (k i : ℕ) → i ≢ k → ((i < k) × (place_after k i ≡ i)) ⊎ ((k < i) × (place_after k i ≡ i - 1))
after-is k i apart = elim (cases_order i k) [
  | inl e ↦ absurd (apart e)
  | inr o ↦ elim o [
    | inl low ↦ inl (low, place_after-below k i (omega arith))
    | inr high ↦ inr (high, place_after-above k i high)
  ]
]

after-apart : (k i j : ℕ) → i ≢ k → j ≢ k → place_after k i ≡ place_after k j → i ≡ j
after-apart k i j not_i not_j same = elim (after-is k i not_i) [
  | inl a ↦ elim (after-is k j not_j) [
    | inl b ↦ omega (arith, a.0, a.1, b.0, b.1, same)
    | inr b ↦ omega (arith, a.0, a.1, b.0, b.1, same)
  ]
  | inr a ↦ elim (after-is k j not_j) [
    | inl b ↦ omega (arith, a.0, a.1, b.0, b.1, same)
    | inr b ↦ omega (arith, a.0, a.1, b.0, b.1, same)
  ]
]

same-place : (k i j : ℕ) → i ≢ k → j ≢ k → nat_eq (place_after k i) (place_after k j) ≡ nat_eq i j
same-place k i j not_i not_j = by (nat_eq i j) refl
  where
    by : (b : Bool) → nat_eq i j ≡ b → nat_eq (place_after k i) (place_after k j) ≡ b
    by true e = eq-eqb (place_after k i) (place_after k j) (ap (place_after k) (eqb-true i j e))
    by false e = ne_eqb (place_after k i) (place_after k j) (λ same. eqb-false i j e (after-apart k i j not_i not_j same))

-- the entry of another row stays
entry-left : (k i : ℕ) → i ≢ k → (es : List (RowId × ℚ)) → entry_of (place_after k i) (entries_without k es) ≡ entry_of i es
entry-left k i apart [] = refl
entry-left k i apart (e ∷ es) = by (nat_eq e.0.0 k) refl (entry-left k i apart es)
  where
    by : (b : Bool) → nat_eq e.0.0 k ≡ b → entry_of (place_after k i) (entries_without k es) ≡ entry_of i es
        → entry_of (place_after k i) (map (entry_after k) (filter (λ (d : RowId × ℚ). not (nat_eq d.0.0 k)) (e ∷ es))) ≡ (if nat_eq e.0.0 i then e.1 else entry_of i es)
    by true gone rest = rw gone (rest ∙ sym (ap (λ b. if b then e.1 else entry_of i es) (ne_eqb e.0.0 i (λ same. apart (sym same ∙ eqb-true e.0.0 k gone)))))
    by false stays rest = rw stays ((λ t. if same-place k e.0.0 i (eqb-false e.0.0 k stays) apart t then e.1 else rest t))

row-left : (M : Program) (d : Derivation) (row : List ℕ) → d.row.0 ≢ row_place M row → ReadsSame M (edited M (DelRow row)) d (derivation_after M (DelRow row) d)
row-left M d row apart = record {
  side = refl;
  literals = refl;
  count = sym (length-map M.cols f);
  integer = at false (λ c. c.int) (λ c. c.int) (λ c. refl);
  low = at None (λ c. c.lo) (λ c. c.lo) (λ c. refl);
  up = at None (λ c. c.up) (λ c. c.up) (λ c. refl);
  entry = at (int (pos 0)) (λ c. entry_of d.row.0 c.rows) (λ c. entry_of (place_after k d.row.0) c.rows) (λ c. entry-left k d.row.0 apart c.rows);
  low_limit = sym (of_element-without_at None (λ (q : Row). q.lo) M.rows k d.row.0 apart);
  high_limit = sym (of_element-without_at None (λ (q : Row). q.hi) M.rows k d.row.0 apart);
}
  where
    k : ℕ
    k = row_place M row

    f : Col → Col
    f c = without_entry k c

    at : {B : Type 0} (z : B) (g h : Col → B) → ((c : Col) → h (f c) ≡ g c) → (j : ℕ) → of_element z g M.cols j ≡ of_element z h (map f M.cols) j
    at z g h kept j = sym (of_element-map z g h f kept M.cols j)

-- ---- each edit

-- the cut stays, and by its places then its derivation reads the same
spared : (M : Program) (e : Edit) (d : Derivation) → spares M e d ≡ true → (goes_with M e d ≡ false) × ReadsSame M (edited M e) d (derivation_after M e d)
spared M (SetCost col v) d t = (refl, costs-changed M d col (λ c. record c { cost = v }) (λ c. refl) (λ c. refl) (λ c. refl) (λ c. refl))
spared M (SetCost2 col v) d t = (refl, costs-changed M d col (λ c. record c { cost2 = v }) (λ c. refl) (λ c. refl) (λ c. refl) (λ c. refl))
spared M (SetRow row lo hi) d t = (refl, sides-changed M d row lo hi (eqb-false d.row.0 (row_place M row) (not-true (nat_eq d.row.0 (row_place M row)) t)))
spared M (AddRow name lo hi named) d t = (refl, row-added M d (record { name = name; lo = lo; hi = hi }) named (ltb-true d.row.0 (length M.rows) t))
spared M (DelRow row) d t = let other = not-true (nat_eq d.row.0 (row_place M row)) t in (other, row-left M d row (eqb-false d.row.0 (row_place M row) other))
spared M (SetColBounds col lo up) d t = absurd (true≢false (sym t))
spared M (SetKind col integer) d t = absurd (true≢false (sym t))
spared M (AddCol name integer lo up cost cost2 named) d t = absurd (true≢false (sym t))
spared M (DelCol col) d t = absurd (true≢false (sym t))
spared M (ReplaceRow row lo hi named) d t = absurd (true≢false (sym t))

-- the cut by its places then is one of the edited model
pub spared-cut : (M N : Program) (e : Edit) (c k : CutRow) → spares M e c.from ≡ true → N ≡ edited M e → IsCutOf M c
    → k.from ≡ derivation_after M e c.from → k.terms ≡ c.terms → k.hi ≡ c.hi → k.live ≡ c.live → IsCutOf N k
spared-cut M N e c k t new cut from terms high live =
    subst (λ P. IsCutOf P k) (sym new) (cut-same M (edited M e) c k (subst (ReadsSame M (edited M e) c.from) (sym from) (spared M e c.from t).1) terms high live cut)

pub spared-keeps : (M N : Program) (e : Edit) (c k : CutRow) (xs ys : List CutRow) → spares M e c.from ≡ true → N ≡ edited M e → IsCutOf M c
    → k.from ≡ derivation_after M e c.from → k.terms ≡ c.terms → k.hi ≡ c.hi → k.live ≡ c.live → ys ≡ xs ++ k ∷ [] → KeepsCut M e N c.from xs ys
spared-keeps M N e c k xs ys t new cut from terms high live is = inr ((spared M e c.from t).0, (k, (is, from, spared-cut M N e c k t new cut from terms high live)))
