-- An edit leaves all but what it touches.
use Rattle.std.specs.Prelude.{◌≡◌, ◌≢◌, ◌↔◌, ℕ, zero, suc, ◌<◌, ◌≤◌, Bool, true, false, nat_eq, nat_lt, if◌then◌else◌, List, [], ◌∷◌, ◌++◌, length, map, filter, pos, Option, Some, None}
use Rattle.std.proofs.Common.{refl, sym, ap, subst, ◌∙◌, arith, inl, inr, true≢false}
use Rattle.std.proofs.lemmas.Bool.{cases_order, eqb-true, eqb-false, ne_eqb, not-true, lt-ltb, le-ltb}
use Rattle.std.proofs.lemmas.List.{length-map, length_push}
use Rattle.frac128.specs.Rational.{ℚ, int}
use Rattle.lp_model.specs.Elements.{of_element, changed_at}
use Rattle.lp_model.specs.Program.{Program, cost, entry_of}
use Rattle.lp_model.specs.Edits.{Named, is_zero, number_beside, entries_beside, with_entry, entry_at, entries_with, replaced_entry, with_sides, col_place, row_place, with_col, edited}
use Rattle.lp_model.specs.declared.types.ColId.{ColId}
use Rattle.lp_model.specs.declared.types.RowId.{RowId}
use Rattle.lp_model.specs.declared.types.Row.{Row}
use Rattle.lp_model.specs.declared.types.Col.{Col}
use Rattle.lp_model.specs.declared.types.Edit.{Edit}
use Rattle.lp_model.specs.declared.types.Edit.TheVariants.{SetCost, SetCost2, SetRow, SetColBounds, SetKind, AddCol, DelCol, AddRow, DelRow, ReplaceRow}
use Rattle.lp_model.proofs.ChangedLaws.{length-changed_at, of_element-changed_at, of_element-changed_other}
use Rattle.spared_leaves.specs.declared.touched.Touched.{Touched}
use Rattle.spared_leaves.specs.declared.touched.Touched.TheVariants.{Nothing, OneRow, RowSides, OneCost, OneColumn}
use Rattle.spared_leaves.specs.Touched.{touched_by, leaves_row, is_apart}
use Rattle.spared_leaves.specs.Alike.{IsSameRange, AreAlikeBut}
use Rattle.spared_leaves.specs.Laws.{LikeEditsLaw}

-- ---- places

-- another row's place, and another column's
apart : (r : RowId) (i : ℕ) → leaves_row (OneRow r) i ≡ true → i ≢ r.0
apart r i left e = eqb-false r.0 i (not-true (nat_eq r.0 i) left) (sym e)

apart-column : (c : ColId) (j : ℕ) → is_apart (Some c) j ≡ true → j ≢ c.0
apart-column c j left e = eqb-false c.0 j (not-true (nat_eq c.0 j) left) (sym e)

-- ---- one column changed

module _ (M : Program) (k : ℕ) (f : Col → Col) where
  -- what the change keeps of each column, and all of another column
  kept-at : {B : Type 0} (z : B) (g : Col → B) → ((c : Col) → g (f c) ≡ g c) → (j : ℕ) → of_element z g M.cols j ≡ of_element z g (changed_at f M.cols k) j
  kept-at z g kept j = sym (of_element-changed_at f z g kept M.cols k j)

  other-at : {B : Type 0} (z : B) (g : Col → B) (j : ℕ) → j ≢ k → of_element z g M.cols j ≡ of_element z g (changed_at f M.cols k) j
  other-at z g j other = sym (of_element-changed_other f z g M.cols k j other)

  same-count : (j : ℕ) → j < length M.cols ↔ j < length (changed_at f M.cols k)
  same-count j = let n = length-changed_at f M.cols k in ((λ below. omega (arith, n, below)), (λ below. omega (arith, n, below)))

  -- a change of costs leaves bounds, kind and entries
  module _ (low : (c : Col) → (f c).lo ≡ c.lo) (up : (c : Col) → (f c).up ≡ c.up) (integer : (c : Col) → (f c).int ≡ c.int) where
    range-kept : (j : ℕ) → IsSameRange M (record M { cols = changed_at f M.cols k }) j
    range-kept j = record {
      there = same-count j;
      low = kept-at None (λ c. c.lo) low j;
      up = kept-at None (λ c. c.up) up j;
      integer = kept-at false (λ c. c.int) integer j;
    }

  one_column : AreAlikeBut (OneColumn (record { 0 = k })) M (record M { cols = changed_at f M.cols k })
  one_column = record {
    sense = refl;
    constant_is = refl;
    cost_is = λ j left. other-at (int (pos 0)) (λ c. c.cost) j (apart-column (record { 0 = k }) j left);
    columns = λ j left. let other = apart-column (record { 0 = k }) j left in record {
      there = same-count j;
      low = other-at None (λ c. c.lo) j other;
      up = other-at None (λ c. c.up) j other;
      integer = other-at false (λ c. c.int) j other;
    };
    rows = λ i left. record { there = ((λ h. h), (λ h. h)); low = refl; high = refl };
    entry = λ i j left kept. other-at (int (pos 0)) (λ c. entry_of i c.rows) j (apart-column (record { 0 = k }) j kept);
  }

first_cost : (M : Program) (name : List ℕ) (v : ℚ) → AreAlikeBut (OneCost (record { 0 = col_place M name })) M (with_col M name (λ c. record c { cost = v }))
first_cost M name v = record {
  sense = refl;
  constant_is = refl;
  cost_is = λ j left. other-at M (col_place M name) f (int (pos 0)) (λ c. c.cost) j (apart-column (record { 0 = col_place M name }) j left);
  columns = λ j left. range-kept M (col_place M name) f (λ c. refl) (λ c. refl) (λ c. refl) j;
  rows = λ i left. record { there = ((λ h. h), (λ h. h)); low = refl; high = refl };
  entry = λ i j left kept. kept-at M (col_place M name) f (int (pos 0)) (λ c. entry_of i c.rows) (λ c. refl) j;
}
  where
    f : Col → Col
    f c = record c { cost = v }

second_cost : (M : Program) (name : List ℕ) (v : ℚ) → AreAlikeBut Nothing M (with_col M name (λ c. record c { cost2 = v }))
second_cost M name v = record {
  sense = refl;
  constant_is = refl;
  cost_is = λ j left. kept-at M (col_place M name) f (int (pos 0)) (λ c. c.cost) (λ c. refl) j;
  columns = λ j left. range-kept M (col_place M name) f (λ c. refl) (λ c. refl) (λ c. refl) j;
  rows = λ i left. record { there = ((λ h. h), (λ h. h)); low = refl; high = refl };
  entry = λ i j left kept. kept-at M (col_place M name) f (int (pos 0)) (λ c. entry_of i c.rows) (λ c. refl) j;
}
  where
    f : Col → Col
    f c = record c { cost2 = v }

-- ---- columns whose entries change

of_element-map : {A B : Type 0} (z : B) (g : A → B) (f : A → A) → ((a : A) → g (f a) ≡ g a) → (xs : List A) (j : ℕ) → of_element z g xs j ≡ of_element z g (map f xs) j
of_element-map z g f kept [] j = refl
of_element-map z g f kept (a ∷ as_) zero = sym (kept a)
of_element-map z g f kept (a ∷ as_) (suc j) = of_element-map z g f kept as_ j

-- all stays but the rows and the entries of the columns, and of these what is of another row
mapped : (M : Program) (r : RowId) (rows : List Row) (f : Col → Col) → ((c : Col) → (f c).cost ≡ c.cost) → ((c : Col) → (f c).lo ≡ c.lo) → ((c : Col) → (f c).up ≡ c.up) → ((c : Col) → (f c).int ≡ c.int)
    → ((i : ℕ) → i ≢ r.0 → (c : Col) → entry_of i (f c).rows ≡ entry_of i c.rows)
    → ((i : ℕ) → i ≢ r.0 → i < length M.rows ↔ i < length rows)
    → ((g : Row → Option ℚ) (i : ℕ) → i ≢ r.0 → of_element None g M.rows i ≡ of_element None g rows i)
    → AreAlikeBut (OneRow r) M (record M { rows = rows; cols = map f M.cols })
mapped M r rows f costs low up integer entries there sides = record {
  sense = refl;
  constant_is = refl;
  cost_is = λ j left. of_element-map (int (pos 0)) (λ c. c.cost) f costs M.cols j;
  columns = λ j left. record {
    there = let n = length-map M.cols f in ((λ below. omega (arith, n, below)), (λ below. omega (arith, n, below)));
    low = of_element-map None (λ c. c.lo) f low M.cols j;
    up = of_element-map None (λ c. c.up) f up M.cols j;
    integer = of_element-map false (λ c. c.int) f integer M.cols j;
  };
  rows = λ i left. let other = apart r i left in record {
    there = there i other;
    low = sides (λ q. q.lo) i other;
    high = sides (λ q. q.hi) i other;
  };
  entry = λ i j left kept. of_element-map (int (pos 0)) (λ c. entry_of i c.rows) f (entries i (apart r i left)) M.cols j;
}

-- ---- sides of a row

module _ (M : Program) (k : ℕ) (f : Row → Row) where
  changed-there : (i : ℕ) → i < length M.rows ↔ i < length (changed_at f M.rows k)
  changed-there i = let n = length-changed_at f M.rows k in ((λ below. omega (arith, n, below)), (λ below. omega (arith, n, below)))

  changed-sides : (g : Row → Option ℚ) (i : ℕ) → i ≢ k → of_element None g M.rows i ≡ of_element None g (changed_at f M.rows k) i
  changed-sides g i other = sym (of_element-changed_other f None g M.rows k i other)

sides : (M : Program) (row : List ℕ) (lo hi : Option (Option ℚ)) → AreAlikeBut (RowSides (record { 0 = row_place M row })) M (edited M (SetRow row lo hi))
sides M row lo hi = record {
  sense = refl;
  constant_is = refl;
  cost_is = λ j left. refl;
  columns = λ j left. record { there = ((λ h. h), (λ h. h)); low = refl; up = refl; integer = refl };
  rows = λ i left. let other = apart (record { 0 = k }) i left in record {
    there = changed-there M k (with_sides lo hi) i;
    low = changed-sides M k (with_sides lo hi) (λ q. q.lo) i other;
    high = changed-sides M k (with_sides lo hi) (λ q. q.hi) i other;
  };
  entry = λ i j left kept. refl;
}
  where
    k : ℕ
    k = row_place M row

-- ---- a row added

-- a further entry says nothing of another row
entry-added : (i k : ℕ) (x : ℚ) → i ≢ k → (es : List (RowId × ℚ)) → entry_of i (if is_zero x then es else es ++ (record { 0 = k }, x) ∷ []) ≡ entry_of i es
entry-added i k x other es = by (is_zero x)
  where
    more : (fs : List (RowId × ℚ)) → entry_of i (fs ++ (record { 0 = k }, x) ∷ []) ≡ entry_of i fs
    more [] = ap (λ b. if b then x else int (pos 0)) (ne_eqb k i (λ e. other (sym e)))
    more (e ∷ fs) = ap (λ q. if nat_eq e.0.0 i then e.1 else q) (more fs)

    by : (b : Bool) → entry_of i (if b then es else es ++ (record { 0 = k }, x) ∷ []) ≡ entry_of i es
    by true = refl
    by false = more es

of_element-push : {A B : Type 0} (z : B) (g : A → B) (xs : List A) (a : A) (j : ℕ) → j ≢ length xs → of_element z g xs j ≡ of_element z g (xs ++ a ∷ []) j
of_element-push z g [] a zero other = absurd (other refl)
of_element-push z g [] a (suc j) other = refl
of_element-push z g (x ∷ xs) a zero other = refl
of_element-push z g (x ∷ xs) a (suc j) other = of_element-push z g xs a j (λ e. other (ap suc e))

-- a place but the last of a list that is one longer
there-push : {A : Type 0} (xs : List A) (a : A) (j : ℕ) → j ≢ length xs → j < length xs ↔ j < length (xs ++ a ∷ [])
there-push xs a j other =
    let n = length_push xs a in
    ((λ below. omega (arith, n, below)), (λ below. elim (cases_order j (length xs)) [ inl e ↦ absurd (other e) | inr o ↦ elim o [ inl low ↦ low | inr high ↦ absurd (omega (arith, n, below)) ] ]))

column_added : (M : Program) (new : Col) → AreAlikeBut (OneColumn (record { 0 = length M.cols })) M (record M { cols = M.cols ++ new ∷ [] })
column_added M new = record {
  sense = refl;
  constant_is = refl;
  cost_is = λ j left. of_element-push (int (pos 0)) (λ c. c.cost) M.cols new j (apart-column (record { 0 = length M.cols }) j left);
  columns = λ j left. let other = apart-column (record { 0 = length M.cols }) j left in record {
    there = there-push M.cols new j other;
    low = of_element-push None (λ c. c.lo) M.cols new j other;
    up = of_element-push None (λ c. c.up) M.cols new j other;
    integer = of_element-push false (λ c. c.int) M.cols new j other;
  };
  rows = λ i left. record { there = ((λ h. h), (λ h. h)); low = refl; high = refl };
  entry = λ i j left kept. of_element-push (int (pos 0)) (λ c. entry_of i c.rows) M.cols new j (apart-column (record { 0 = length M.cols }) j kept);
}

row_added : (M : Program) (name : List ℕ) (lo hi : Option ℚ) (named : Named) → AreAlikeBut (OneRow (record { 0 = length M.rows })) M (edited M (AddRow name lo hi named))
row_added M name lo hi named =
    let new : Row = record { name = name; lo = lo; hi = hi } in
    mapped M (record { 0 = length M.rows }) (M.rows ++ new ∷ []) (λ c. with_entry (length M.rows) (number_beside c.name named) c)
    (λ c. refl) (λ c. refl) (λ c. refl) (λ c. refl)
    (λ i other c. entry-added i (length M.rows) (number_beside c.name named) other c.rows)
    (λ i other. there-push M.rows new i other)
    (λ g i other. of_element-push None g M.rows new i other)

-- ---- a row replaced

-- of entries that a test leaves, those of a row that it keeps; and those of one that it drops say nothing
module _ (i : ℕ) (p : RowId × ℚ → Bool) where
  entry-kept : ((e : RowId × ℚ) → e.0.0 ≡ i → p e ≡ true) → (ys : List (RowId × ℚ)) → entry_of i ys ≡ int (pos 0) → (es : List (RowId × ℚ)) → entry_of i (filter p es ++ ys) ≡ entry_of i es
  entry-kept kept ys none [] = none
  entry-kept kept ys none (e ∷ es) = by (p e) (nat_eq e.0.0 i) refl refl (entry-kept kept ys none es)
    where
      by : (b d : Bool) → p e ≡ b → nat_eq e.0.0 i ≡ d → entry_of i (filter p es ++ ys) ≡ entry_of i es → entry_of i (filter p (e ∷ es) ++ ys) ≡ (if nat_eq e.0.0 i then e.1 else entry_of i es)
      by true d stays is rest = rw stays (ap (λ v. if nat_eq e.0.0 i then e.1 else v) rest)
      by false true goes is rest = absurd (true≢false (sym (kept e (eqb-true e.0.0 i is)) ∙ goes))
      by false false goes is rest = rw goes (rest ∙ ap (λ b. if b then e.1 else entry_of i es) (sym is))

  entry-dropped : ((e : RowId × ℚ) → e.0.0 ≡ i → p e ≡ false) → (ys es : List (RowId × ℚ)) → entry_of i (filter p es ++ ys) ≡ entry_of i ys
  entry-dropped dropped ys [] = refl
  entry-dropped dropped ys (e ∷ es) = by (p e) (nat_eq e.0.0 i) refl refl (entry-dropped dropped ys es)
    where
      by : (b d : Bool) → p e ≡ b → nat_eq e.0.0 i ≡ d → entry_of i (filter p es ++ ys) ≡ entry_of i ys → entry_of i (filter p (e ∷ es) ++ ys) ≡ entry_of i ys
      by false d goes is rest = rw goes rest
      by true true stays is rest = absurd (true≢false (sym stays ∙ dropped e (eqb-true e.0.0 i is)))
      by true false stays is rest = rw stays (ap (λ b. if b then e.1 else entry_of i (filter p es ++ ys)) is ∙ rest)

  entry-all_dropped : ((e : RowId × ℚ) → e.0.0 ≡ i → p e ≡ false) → (es : List (RowId × ℚ)) → entry_of i (filter p es) ≡ int (pos 0)
  entry-all_dropped dropped [] = refl
  entry-all_dropped dropped (e ∷ es) = by (p e) (nat_eq e.0.0 i) refl refl (entry-all_dropped dropped es)
    where
      by : (b d : Bool) → p e ≡ b → nat_eq e.0.0 i ≡ d → entry_of i (filter p es) ≡ int (pos 0) → entry_of i (filter p (e ∷ es)) ≡ int (pos 0)
      by false d goes is rest = rw goes rest
      by true true stays is rest = absurd (true≢false (sym stays ∙ dropped e (eqb-true e.0.0 i is)))
      by true false stays is rest = rw stays (ap (λ b. if b then e.1 else entry_of i (filter p es)) is ∙ rest)

  entry-all_kept : ((e : RowId × ℚ) → e.0.0 ≡ i → p e ≡ true) → (es : List (RowId × ℚ)) → entry_of i (filter p es) ≡ entry_of i es
  entry-all_kept kept [] = refl
  entry-all_kept kept (e ∷ es) = by (p e) (nat_eq e.0.0 i) refl refl (entry-all_kept kept es)
    where
      by : (b d : Bool) → p e ≡ b → nat_eq e.0.0 i ≡ d → entry_of i (filter p es) ≡ entry_of i es → entry_of i (filter p (e ∷ es)) ≡ (if nat_eq e.0.0 i then e.1 else entry_of i es)
      by true d stays is rest = rw stays (ap (λ v. if nat_eq e.0.0 i then e.1 else v) rest)
      by false true goes is rest = absurd (true≢false (sym (kept e (eqb-true e.0.0 i is)) ∙ goes))
      by false false goes is rest = rw goes (rest ∙ ap (λ b. if b then e.1 else entry_of i es) (sym is))

-- the row's own entry says nothing of another
entry-own : (i k : ℕ) (x : ℚ) → i ≢ k → (ys : List (RowId × ℚ)) → entry_of i (entry_at k x ++ ys) ≡ entry_of i ys
entry-own i k x other ys = by (is_zero x)
  where
    by : (b : Bool) → entry_of i ((if b then [] else (record { 0 = k }, x) ∷ []) ++ ys) ≡ entry_of i ys
    by true = refl
    by false = ap (λ b. if b then x else entry_of i ys) (ne_eqb k i (λ e. other (sym e)))

entry-replaced : (i k : ℕ) (x : ℚ) → i ≢ k → (es : List (RowId × ℚ)) → entry_of i (entries_with k x es) ≡ entry_of i es
entry-replaced i k x other es = elim (cases_order i k) [
  | inl e ↦ absurd (other e)
  | inr o ↦ elim o [
    | inl low ↦
        entry-kept i before (λ e is. lt-holds e.0.0 k (omega (arith, is))) (entry_at k x ++ filter behind es)
        (entry-own i k x other (filter behind es) ∙ entry-all_dropped i behind (λ e is. lt-fails k e.0.0 (omega (arith, is))) es) es
    | inr high ↦
        entry-dropped i before (λ e is. lt-fails e.0.0 k (omega (arith, is))) (entry_at k x ++ filter behind es) es
        ∙ entry-own i k x other (filter behind es)
        ∙ entry-all_kept i behind (λ e is. lt-holds k e.0.0 (omega (arith, is))) es
  ]
]
  where
    before : RowId × ℚ → Bool
    before e = nat_lt e.0.0 k

    behind : RowId × ℚ → Bool
    behind e = nat_lt k e.0.0

    lt-holds : (a b : ℕ) → a < b → nat_lt a b ≡ true
    lt-holds a b h = lt-ltb a b h

    lt-fails : (a b : ℕ) → b ≤ a → nat_lt a b ≡ false
    lt-fails a b h = le-ltb a b h

row_replaced : (M : Program) (row : List ℕ) (lo hi : Option ℚ) (named : Named) → AreAlikeBut (OneRow (record { 0 = row_place M row })) M (edited M (ReplaceRow row lo hi named))
row_replaced M row lo hi named =
    mapped M (record { 0 = k }) (changed_at (with_sides (Some lo) (Some hi)) M.rows k) (λ c. replaced_entry k (number_beside c.name named) c)
    (λ c. refl) (λ c. refl) (λ c. refl) (λ c. refl)
    (λ i other c. entry-replaced i k (number_beside c.name named) other c.rows)
    (λ i other. changed-there M k (with_sides (Some lo) (Some hi)) i)
    (λ g i other. changed-sides M k (with_sides (Some lo) (Some hi)) g i other)
  where
    k : ℕ
    k = row_place M row

-- ---- each edit

abbrev IsAlikeAfter : Option Touched → Program → Program → Type 0
IsAlikeAfter None M N = Unit {0}
IsAlikeAfter (Some t) M N = AreAlikeBut t M N

after : (M : Program) (e : Edit) → IsAlikeAfter (touched_by M e) M (edited M e)
after M (SetCost2 col v) = second_cost M col v
after M (SetRow row lo hi) = sides M row lo hi
after M (AddRow name lo hi named) = row_added M name lo hi named
after M (ReplaceRow row lo hi named) = row_replaced M row lo hi named
after M (SetCost col v) = first_cost M col v
after M (SetColBounds col lo up) = one_column M (col_place M col) (λ c. record c { lo = lo; up = up })
after M (SetKind col integer) = one_column M (col_place M col) (λ c. record c { int = integer })
after M (AddCol name integer lo up cost cost2 named) =
    column_added M (record { name = name; int = integer; lo = lo; up = up; cost = cost; cost2 = cost2; rows = entries_beside 0 (map (λ r. r.name) M.rows) named })
after M (DelCol col) = tt
after M (DelRow row) = tt

pub like_edits : LikeEditsLaw
like_edits M e t is = subst (λ u. IsAlikeAfter u M (edited M e)) is (after M e)
