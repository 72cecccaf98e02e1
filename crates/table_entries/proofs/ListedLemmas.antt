-- The list of the entries, from the numbers over their denominator.
use Rattle.std.specs.Prelude.{◌≡◌, ◌≢◌, ◌↔◌, ℕ, suc, ◌+◌, ◌-◌, ◌*◌, ◌/◌, ◌%◌, ◌<◌, ◌≤◌, ◌==◌, List, [], ◌∷◌, get_or, set, length, ◌<ℤ◌, ◌*ℤ◌, ℤ, pos, unsigned_abs, Bool, true, false}
use Rattle.std.proofs.Common.{◌++◌, refl, sym, ap, subst, subst₂, ◌∙◌, arith, below_more}
use Rattle.std.proofs.Math.ListN.{get_or-map}
use Rattle.std.proofs.lemmas.Nat.{div-mul-add, mod-mul-add}
use Rattle.std.proofs.lemmas.List.{length-map, ext_get_or, get_or_push, get_or_append_left, length-append}
use Rattle.std.proofs.lemmas.Int.{ints}
use Rattle.frac128.specs.Rational.{ℚ, den, int}
use Rattle.frac128.specs.Lowest.{reduced-cross, cancel_ℤ}
use Rattle.frac128.specs.RationalRing.{int_is}
use Rattle.frac128.specs.IntegerRing.{ring_ℤ, reads_ℤ}
use Rattle.frac128.proofs.Integers.{int-num, IsWhole-int}
use Rattle.frac128.specs.LowestTerms.{quotient_of}
use Rattle.table_entries.specs.Relaxation.{pivoted_entry}
use Rattle.table_entries.specs.Steps.{PivotStepFits, EntryFits, step_value}
use Rattle.table_entries.specs.FlatSteps.{dense_entry, FlatFits, flat_value}
use Rattle.table_entries.specs.WholeSteps.{IsShort, IsWholeStep, magnitude, whole_number_at, is_unwritten, AreShort, AreWithin, AreWritten}
use Rattle.table_entries.specs.Listed.{Listed, over, listed_costs, AreOver, IsListed, IsStored, IsShortWhole, IsExchangedList}
use Rattle.table_entries.specs.private.Listed.{ArePartsExchanged}
use Rattle.whole_sums.proofs.SumLemmas.{zero_over}
use Rattle.table_entries.proofs.PivotLemmas.{flat_within}
use Rattle.table_entries.proofs.RowLemmas.{flat_fits, flat_written}
use Rattle.table_entries.proofs.WholeListLemmas.{short_more}

pub whole_over_one : (n : ℤ) → int n ≡ quotient_of n (pos 1)
whole_over_one n = int_is n

-- ---- the list

num_int : (n : ℤ) → (int n).num ≡ n
unfolding int
num_int n = refl

pub over_at : (d : ℤ) (ns : List ℤ) → pos 0 <ℤ d → (at : ℕ) → get_or (over d ns) at (int (pos 0)) ≡ quotient_of (whole_number_at ns at) d
over_at d ns h at = subst (λ z. get_or (over d ns) at z ≡ quotient_of (whole_number_at ns at) d) (zero_over d h) (get_or-map (λ n. quotient_of n d) ns at (pos 0))

pub not_zero_number : (d : ℤ) (ns : List ℤ) → pos 0 <ℤ d → (at : ℕ) → get_or (over d ns) at (int (pos 0)) ≢ int (pos 0) → whole_number_at ns at ≢ pos 0
not_zero_number d ns h at some e = some (over_at d ns h at ∙ ap (λ n. quotient_of n d) e ∙ zero_over d h)

none : (a b : ℤ) → pos 0 *ℤ a ≡ pos 0 *ℤ b
none a b = ring_ℤ (a ∷ b ∷ []) (search reads_ℤ) (search reads_ℤ) tt

pub zero_number : (n d : ℤ) → pos 0 <ℤ d → (n ≡ pos 0) ↔ (quotient_of n d ≡ int (pos 0))
zero_number n d h = ((λ e. ap (λ m. quotient_of m d) e ∙ zero_over d h), back)
  where
    back : quotient_of n d ≡ int (pos 0) → n ≡ pos 0
    back e =
        let top : (quotient_of n d).num ≡ pos 0 = ap (λ x. x.num) e ∙ num_int (pos 0) in
        cancel_ℤ n (pos 0) (den (quotient_of n d)) (omega arith)
        (sym (reduced-cross n (unsigned_abs d - 1)) ∙ ap (λ t. t *ℤ pos (suc (unsigned_abs d - 1))) top ∙ none (pos (suc (unsigned_abs d - 1))) (pos (den (quotient_of n d))))

-- the list that fractions are, and that numbers are
pub listed_fractions : (b : Bool) (d : ℤ) (ns : List ℤ) (fs : List ℚ) → b ≡ false → listed_costs b d ns fs ≡ fs
listed_fractions b d ns fs e = ap (λ x. listed_costs x d ns fs) e

pub listed_numbers : (b : Bool) (d : ℤ) (ns : List ℤ) (fs : List ℚ) → b ≡ true → listed_costs b d ns fs ≡ over d ns
listed_numbers b d ns fs e = ap (λ x. listed_costs x d ns fs) e

-- ---- entries that are kept as whole numbers, by what a contract sees of them

abbrev pub viewed : Bool → ℤ → List ℤ → List ℚ → Listed
viewed is_whole d ns fs = record { is_whole = is_whole; list = listed_costs is_whole d ns fs; denominator = d; numbers = ns }

module _ (is_whole : Bool) (d : ℤ) (ns : List ℤ) (fs : List ℚ) (v : Listed) (view_is : viewed is_whole d ns fs ≡ v) (whole : v.is_whole ≡ true) where
  pub whole_form : is_whole ≡ true
  whole_form = ap (λ w. w.is_whole) view_is ∙ whole

  pub whole_list : v.list ≡ over d ns
  whole_list = sym (ap (λ w. w.list) view_is) ∙ listed_numbers is_whole d ns fs whole_form

  pub whole_numbers : v.numbers ≡ ns
  whole_numbers = sym (ap (λ w. w.numbers) view_is)

  pub whole_size : length ns ≡ length v.list
  whole_size = sym (length-map ns (λ n. quotient_of n d)) ∙ sym (ap length whole_list)

  pub whole_listed : AreOver d ns → IsListed v
  whole_listed are = record {
    are_over = subst (λ w. AreOver w.denominator w.numbers) view_is are;
    list = subst (λ w. w.list ≡ over w.denominator w.numbers) view_is (listed_numbers is_whole d ns fs whole_form);
  }

pub set_over : (d : ℤ) (ns : List ℤ) (at : ℕ) (n : ℤ) → AreOver d ns → IsShort n → AreOver d (set ns at n)
set_over d ns at n are short = record { positive = are.positive; denominator_short = are.denominator_short; short = short_more ns at n short are.short }

-- ---- after an exchange

module _ (m n r s : ℕ) (r_within : r < m) (s_within : s < n) (d after : ℤ) (ns : List ℤ) (unwritten : List Bool) (next : List ℤ) (are : AreOver d ns) (size : length ns ≡ m * n) (kept : length next ≡ m * n)
    (after_positive : pos 0 <ℤ after) (after_short : IsShort after) (next_short : AreShort next) (written : AreWritten n r s d after ns unwritten next (m * n)) where
  pub over_after : AreOver after next
  over_after = record { positive = after_positive; denominator_short = after_short; short = next_short }

  abbrev old_entry : ℕ → ℕ → ℚ
  old_entry = dense_entry n (over d ns)

  abbrev new_entry : ℕ → ℕ → ℚ
  new_entry = dense_entry n (over after next)

  read : (at : ℕ) → quotient_of (whole_number_at ns at) d ≡ get_or (over d ns) at (int (pos 0))
  read at = sym (over_at d ns are.positive at)

  whole_at : (i k : ℕ) → i < m → k < n → is_unwritten unwritten i ≡ false
      → IsWholeStep (i == r) (k == s) d after (whole_number_at ns (r * n + s)) (whole_number_at ns (r * n + k)) (whole_number_at ns (i * n + s)) (whole_number_at ns (i * n + k)) (whole_number_at next (i * n + k))
  whole_at i k i_within k_within flag =
      let row_is : (i * n + k) / n ≡ i = div-mul-add i n k k_within in
      let place_is : (i * n + k) % n ≡ k = mod-mul-add i n k k_within in
      subst (λ X. X)
      (λ j. IsWholeStep (row_is j == r) (place_is j == s) d after (whole_number_at ns (r * n + s)) (whole_number_at ns (r * n + place_is j)) (whole_number_at ns (row_is j * n + s)) (whole_number_at ns (i * n + k)) (whole_number_at next (i * n + k)))
      (written (i * n + k) (flat_within n m i k i_within k_within) (ap (is_unwritten unwritten) row_is ∙ flag))

  part_entry : (i k : ℕ) → i < m → k < n → is_unwritten unwritten i ≡ false → new_entry i k ≡ pivoted_entry old_entry r s i k
  part_entry i k i_within k_within flag =
      over_at after next after_positive (i * n + k) ∙ (whole_at i k i_within k_within flag).value
      ∙ (λ j. step_value (i == r) (k == s) (read (r * n + s) j) (read (r * n + k) j) (read (i * n + s) j) (read (i * n + k) j))

  part_fits : (i k : ℕ) → i < m → k < n → is_unwritten unwritten i ≡ false → EntryFits old_entry r s i k
  part_fits i k i_within k_within flag =
      subst (λ X. X) (λ j. PivotStepFits (i == r) (k == s) (read (r * n + s) j) (read (r * n + k) j) (read (i * n + s) j) (read (i * n + k) j)) (whole_at i k i_within k_within flag).fits

  pub parts_exchanged : (limit : ℤ) (old new : Listed) → old.list ≡ over d ns → old.numbers ≡ ns → new.is_whole ≡ true → new.list ≡ over after next → new.denominator ≡ after → new.numbers ≡ next → magnitude after <ℤ limit
      → AreWithin m n unwritten limit next → ArePartsExchanged m n r s unwritten limit old new
  parts_exchanged limit old new old_list old_numbers form new_list new_denominator new_numbers slim within = record {
    whole = form;
    listed = record {
      are_over = subst₂ AreOver (sym new_denominator) (sym new_numbers) over_after;
      list = new_list ∙ (λ j. over (sym new_denominator j) (sym new_numbers j));
    };
    entry = λ i k i_within k_within flag. subst₂ (λ xs ys. dense_entry n ys i k ≡ pivoted_entry (dense_entry n xs) r s i k) (sym old_list) (sym new_list) (part_entry i k i_within k_within flag);
    fits = λ i k i_within k_within flag. subst (λ xs. EntryFits (dense_entry n xs) r s i k) (sym old_list) (part_fits i k i_within k_within flag);
    within = subst (AreWithin m n unwritten limit) (sym new_numbers) within;
    denominator = subst (λ x. magnitude x <ℤ limit) (sym new_denominator) slim;
    size = ap length new_list ∙ length-map next (λ x. quotient_of x after) ∙ kept ∙ sym size ∙ sym (length-map ns (λ x. quotient_of x d)) ∙ sym (ap length old_list);
    numbers_size = ap length new_numbers ∙ kept ∙ sym size ∙ sym (ap length old_numbers);
  }

-- where no row is left out all entries are exchanged
pub all_exchanged : (m n r s : ℕ) (unwritten : List Bool) (limit : ℤ) (old new : Listed) → ((i : ℕ) → is_unwritten unwritten i ≡ false) → length old.list ≡ m * n
    → ArePartsExchanged m n r s unwritten limit old new → IsExchangedList n r s old.list new.list
all_exchanged m n r s unwritten limit old new none size parts = record {
  written = λ at q. flat_written n m r s old.list at (subst (λ k. at < k) size q) new.list (λ i k i_within k_within. parts.entry i k i_within k_within (none i));
  fits = λ at q. flat_fits n m r s old.list at (subst (λ k. at < k) size q) (λ i k i_within k_within. parts.fits i k i_within k_within (none i));
  size = parts.size;
}

-- `source` is what the entries were read from
pub fractions_exchanged : (m n r s : ℕ) (source next old : List ℚ) → source ≡ old → length old ≡ m * n → length next ≡ length old
    → ((at : ℕ) → at < m * n → get_or next at (int (pos 0)) ≡ flat_value n r s source at) → ((at : ℕ) → at < m * n → FlatFits n r s source at) → IsExchangedList n r s old next
fractions_exchanged m n r s source next old is size kept written fits = record {
  written = λ at q. subst (λ xs. get_or next at (int (pos 0)) ≡ flat_value n r s xs at) is (written at (subst (λ k. at < k) size q));
  fits = λ at q. subst (λ xs. FlatFits n r s xs at) is (fits at (subst (λ k. at < k) size q));
  size = kept;
}

pub fractions_written : (d : ℤ) (ns : List ℤ) (fs : List ℚ) → pos 0 <ℤ d → length fs ≡ length ns → ((at : ℕ) → at < length ns → get_or fs at (int (pos 0)) ≡ quotient_of (whole_number_at ns at) d) → fs ≡ over d ns
fractions_written d ns fs h size written =
    ext_get_or (int (pos 0)) fs (over d ns) (size ∙ sym (length-map ns (λ x. quotient_of x d))) (λ i q. written i (subst (λ k. i < k) size q) ∙ sym (over_at d ns h i))

pub zero_short_whole : IsShortWhole (int (pos 0))
zero_short_whole = record { whole = IsWhole-int (pos 0); short = subst IsShort (sym (num_int (pos 0))) (omega arith) }

-- one more number behind those of the first fractions
module _ (ns next : List ℤ) (n : ℕ) (y : ℤ) (pushed : next ≡ ns ++ y ∷ []) (size : length ns ≡ n) where
  pub number_size : length next ≡ n + 1
  number_size = ap length pushed ∙ length-append ns (y ∷ []) ∙ ap (λ k. k + 1) size

  pub number_pushed : (fs : List ℚ) → y ≡ (get_or fs n (int (pos 0))).num → ((at : ℕ) → at < n → whole_number_at ns at ≡ (get_or fs at (int (pos 0))).num)
      → (at : ℕ) → at < n + 1 → whole_number_at next at ≡ (get_or fs at (int (pos 0))).num
  number_pushed fs here before =
      subst (λ xs. (at : ℕ) → at < n + 1 → whole_number_at xs at ≡ (get_or fs at (int (pos 0))).num) (sym pushed)
      (below_more (λ at. whole_number_at (ns ++ y ∷ []) at ≡ (get_or fs at (int (pos 0))).num) n
      (λ at q. get_or_append_left ns (y ∷ []) (pos 0) at (omega (arith, q, size)) ∙ before at q)
      (get_or_push ns y (pos 0) n size ∙ here))

-- ---- new entries: the numbers are those of the first fractions, and where there are as many, of all

pub numerators_over : (ns : List ℤ) (fs : List ℚ) → length ns ≡ length fs → ((at : ℕ) → at < length ns → IsShortWhole (get_or fs at (int (pos 0))))
    → ((at : ℕ) → at < length ns → whole_number_at ns at ≡ (get_or fs at (int (pos 0))).num) → over (pos 1) ns ≡ fs
numerators_over ns fs size whole items =
    sym (fractions_written (pos 1) ns fs (omega (arith, ints)) (sym size) (λ at q.
    int-num (get_or fs at (int (pos 0))) (whole at q).whole ∙ int_is (get_or fs at (int (pos 0))).num ∙ ap (λ n. quotient_of n (pos 1)) (sym (items at q))))

pub new_listed : (b : Bool) (ns : List ℤ) (fs : List ℚ) → (b ≡ true → length ns ≡ length fs) → ((at : ℕ) → at < length ns → IsShortWhole (get_or fs at (int (pos 0))))
    → ((at : ℕ) → at < length ns → whole_number_at ns at ≡ (get_or fs at (int (pos 0))).num) → listed_costs b (pos 1) ns fs ≡ fs
new_listed true ns fs size whole items = numerators_over ns fs (size refl) whole items
new_listed false ns fs size whole items = refl

pub one_short : IsShort (pos 1)
one_short = omega arith

pub new_stored : (b : Bool) (ns spare_ns : List ℤ) (fs : List ℚ) (first_room : ℕ) (spare : List ℚ) (room : ℕ) → (b ≡ true → length ns ≡ length fs) → ((at : ℕ) → at < length ns → IsShortWhole (get_or fs at (int (pos 0))))
    → ((at : ℕ) → at < length ns → whole_number_at ns at ≡ (get_or fs at (int (pos 0))).num) → spare_ns ≡ ns → length spare ≤ length fs → length fs ≤ first_room → length fs ≤ room → IsStored b (pos 1) ns spare_ns fs first_room spare room
new_stored b ns spare_ns fs first_room spare room size whole items same within first has_room =
    let short : AreShort ns = λ at q. subst IsShort (sym (items at q)) (whole at q).short in
    record {
      spare_length = within;
      spare_room = has_room;
      fractions_length = λ e. let all = size e in omega (arith, all);
      fractions_room = λ e. let all = size e in omega (arith, all, first);
      numbers_room = λ e. let all = size e in omega (arith, all, has_room);
      spare_numbers_length = λ e. ap length same;
      over_one = λ e. record { positive = omega (arith, ints); denominator_short = one_short; short = short };
      spare_short = λ e. subst AreShort (sym same) short;
    }
