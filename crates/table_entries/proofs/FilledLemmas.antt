-- What holds of entries of which some rows are not written, by what a contract sees of them.
use Rattle.std.specs.Prelude.{◌≡◌, ◌≢◌, ℕ, ◌+◌, ◌-◌, ◌*◌, ◌^◌, ◌<◌, ◌≤◌, ◌==◌, ltb, if◌then◌else◌, List, [], get_or, length, replicate, ℤ, pos, ◌<ℤ◌, unsigned_abs, Bool, true, false}
use Rattle.std.proofs.Common.{refl, sym, ap, subst, ◌∙◌, arith, ⊎_elim, to_z, of_z, w64}
use Rattle.std.proofs.lemmas.Bool.{false≢true, cases_eq, cases_lt, ltb-true}
use Rattle.std.proofs.lemmas.Int.{ints}
use Rattle.std.proofs.Math.Nat.{mul-le-mul_left}
use Rattle.std.proofs.lemmas.List.{get_or_past, get_or-replicate, length-replicate}
use Rattle.frac128.specs.Rational.{int}
use Rattle.frac128.specs.RationalRing.{int_is}
use Rattle.frac128.specs.LowestTerms.{quotient_of}
use Rattle.table_entries.specs.Relaxation.{updated}
use Rattle.table_entries.proofs.SumBelowLaws.{if_same, if_other}
use Rattle.table_entries.specs.FlatSteps.{dense_entry}
use Rattle.table_entries.specs.WholeSteps.{IsShort, IsShortOver, magnitude, whole_number_at, is_unwritten}
use Rattle.table_entries.specs.Listed.{Listed, IsListed, IsExchangedList}
use Rattle.table_entries.specs.private.Listed.{ArePartsExchanged}
use Rattle.table_entries.specs.Parts.{Parts, IsParted, IsPartial, IsSwap, AreColumnsWritten, any_entry, part_entry, filled, listed_entries, row_coefficient, unwritten_entry, swapped}
use Rattle.table_entries.specs.private.Parts.{IsLight, IsRowTouched, slot_number, unwritten_number}
use Rattle.table_entries.proofs.PivotLemmas.{flat_within}
use Rattle.table_entries.proofs.PartNumbers.{combined_short, entry_is, unwritten_value, numbers_length}
use Rattle.table_entries.proofs.PartExchange.{after_is, all_fit, listed_at, listed_length, listed_same, lists_exchanged}
use Rattle.table_entries.proofs.PartRows.{all_written, row_added, slack_row}

-- ---- the list of all entries

pub filled_is : (v : Parts) (slots : ℕ → ℕ) → filled v slots ≡ listed_entries v.rows v.columns (part_entry v slots)
unfolding filled
filled_is v slots = refl

pub filled_length : (v : Parts) (slots : ℕ → ℕ) → length (filled v slots) ≡ v.rows * v.columns
filled_length v slots = ap length (filled_is v slots) ∙ listed_length v.rows v.columns (part_entry v slots)

module _ (v : Parts) (slots : ℕ → ℕ) (i k : ℕ) (i_within : i < v.rows) (k_within : k < v.columns) where
  filled_at : dense_entry v.columns (filled v slots) i k ≡ part_entry v slots i k
  filled_at = ap (λ xs. get_or xs (i * v.columns + k) (int (pos 0))) (filled_is v slots) ∙ listed_at v.rows v.columns (part_entry v slots) i k i_within k_within

  pub written_at : is_unwritten v.unwritten i ≡ false → dense_entry v.columns (filled v slots) i k ≡ dense_entry v.columns v.entries.list i k
  written_at e =
      filled_at ∙ ap (λ b. if b then unwritten_entry v.rows v.columns (dense_entry v.columns v.entries.list) slots (row_coefficient v.columns v.coefficients i) k else dense_entry v.columns v.entries.list i k) e

  pub unwritten_at : IsListed v.entries → is_unwritten v.unwritten i ≡ true
      → dense_entry v.columns (filled v slots) i k ≡ quotient_of (unwritten_number v.rows v.columns v.entries v.coefficients slots i k) v.entries.denominator
  unwritten_at listed e =
      filled_at ∙ ap (λ b. if b then unwritten_entry v.rows v.columns (dense_entry v.columns v.entries.list) slots (row_coefficient v.columns v.coefficients i) k else dense_entry v.columns v.entries.list i k) e
      ∙ unwritten_value v.rows v.columns v.entries listed (row_coefficient v.columns v.coefficients i) slots k

pub filled_same : (v w : Parts) (slots : ℕ → ℕ) → w.rows ≡ v.rows → w.columns ≡ v.columns → ((i k : ℕ) → i < v.rows → k < v.columns → any_entry v.rows v.columns w.coefficients slots w.unwritten w.entries.list i k ≡ part_entry v slots i k)
    → filled w slots ≡ filled v slots
filled_same v w slots rows columns same =
    filled_is w slots ∙ (λ z. listed_entries (rows z) (columns z) (any_entry (rows z) (columns z) w.coefficients slots w.unwritten w.entries.list))
    ∙ listed_same v.rows v.columns (any_entry v.rows v.columns w.coefficients slots w.unwritten w.entries.list) (part_entry v slots) same ∙ sym (filled_is v slots)

-- where all rows are written it is the list that is kept
pub filled_full : (v : Parts) (slots : ℕ → ℕ) → ((i : ℕ) → is_unwritten v.unwritten i ≡ false) → length v.entries.list ≡ v.rows * v.columns → filled v slots ≡ v.entries.list
filled_full v slots none size = filled_is v slots ∙ all_written v.rows v.columns v.entries.list v.unwritten v.coefficients slots none size

-- ---- rows that are not written

pub partial_of : (v : Parts) → IsParted v → (i : ℕ) → is_unwritten v.unwritten i ≡ true → IsPartial v
partial_of v is i e = by v.is_partial refl
  where
    by : (b : Bool) → v.is_partial ≡ b → IsPartial v
    by true h = is.partial h
    by false h = absurd (false≢true (sym (is.full h i) ∙ e))

below_limit : (n limit : ℤ) → pos 0 <ℤ limit → magnitude n <ℤ limit → unsigned_abs n < unsigned_abs limit
below_limit n limit h k = omega (arith, ints)

pub light_at : (v : Parts) → IsPartial v → (slots : ℕ → ℕ) → AreColumnsWritten v slots → (i : ℕ) → i < v.rows → is_unwritten v.unwritten i ≡ true → IsLight v.rows v.columns v.entries v.coefficients slots i
light_at v is slots columns_written i i_within e = record {
  form = is.form;
  listed = is.listed;
  limit = unsigned_abs v.limit;
  heaviest = is.heaviest;
  above = some;
  room = is.room;
  light = is.light i i_within e;
  within = λ j k w q. by j k w q (ltb (slots j) v.rows) refl;
}
  where
    some : 0 < unsigned_abs v.limit
    some = let h = is.positive in omega (arith, ints, h)

    own : (b : Bool) → unsigned_abs (if b then v.entries.denominator else pos 0) < unsigned_abs v.limit
    own true = below_limit v.entries.denominator v.limit is.positive is.denominator
    own false = some

    by : (j k : ℕ) → j < v.columns → k < v.columns → (b : Bool) → ltb (slots j) v.rows ≡ b
        → unsigned_abs (if b then whole_number_at v.entries.numbers (slots j * v.columns + k) else (if k == slots j - v.rows then v.entries.denominator else pos 0)) < unsigned_abs v.limit
    by j k w q true h = let in_row : slots j < v.rows = ltb-true (slots j) v.rows h in below_limit (whole_number_at v.entries.numbers (slots j * v.columns + k)) v.limit is.positive (is.numbers (slots j) k in_row q (columns_written j w in_row))
    by j k w q false h = own (k == slots j - v.rows)

-- the limit is read as it is
pub limit_read : (v : Parts) → IsPartial v → to_z w64 (of_z w64 v.limit) ≡ v.limit
limit_read v is =
    let more : (is.heaviest + 1) * unsigned_abs v.limit ≡ is.heaviest * unsigned_abs v.limit + unsigned_abs v.limit = omega arith in
    let room = is.room in
    omega (arith, ints, more, room)

-- a row in which a column stands is another
pub apart_at : (v : Parts) (slots : ℕ → ℕ) → AreColumnsWritten v slots → (i : ℕ) → i < v.rows → is_unwritten v.unwritten i ≡ true → (j : ℕ) → j < v.columns → slots j ≢ i
apart_at v slots columns_written i i_within e j w same = false≢true (sym (columns_written j w (subst (λ n. n < v.rows) (sym same) i_within)) ∙ ap (is_unwritten v.unwritten) same ∙ e)

pub short_number : (rows columns : ℕ) (entries : Listed) (coefficients : List ℤ) (slots : ℕ → ℕ) (i k : ℕ) → k < columns → IsLight rows columns entries coefficients slots i → IsShort (unwritten_number rows columns entries coefficients slots i k)
short_number rows columns entries coefficients slots i k q h =
    combined_short (row_coefficient columns coefficients i) (λ j. slot_number rows columns entries (slots j) k) h.limit h.heaviest columns h.room h.above h.light (λ j w. h.within j k w q)

-- ---- one row or all rows written

-- the row's numbers are below the limit, or it is still marked
module _ (v : Parts) (row : ℕ) (entries' : Listed) (flags' : List Bool) (was_open : is_unwritten v.unwritten row ≡ true) (touched : IsRowTouched v.columns row v.entries entries')
    (kept : (i : ℕ) → i ≢ row → is_unwritten flags' i ≡ is_unwritten v.unwritten i)
    (within : is_unwritten flags' row ≡ false → (k : ℕ) → k < v.columns → magnitude (whole_number_at entries'.numbers (row * v.columns + k)) <ℤ v.limit) where
  touched_partial : IsPartial v → IsPartial (record v { entries = entries'; unwritten = flags' })
  touched_partial is = record {
    form = touched.form;
    listed = touched.listed;
    coefficients_length = is.coefficients_length;
    positive = is.positive;
    denominator = subst (λ d. magnitude d <ℤ v.limit) (sym touched.denominator) is.denominator;
    numbers = λ i k p q e. ⊎_elim
        (λ same. subst (λ n. magnitude (whole_number_at entries'.numbers (n * v.columns + k)) <ℤ v.limit) (sym same) (within (subst (λ n. is_unwritten flags' n ≡ false) same e) k q))
        (λ other. subst (λ n. magnitude n <ℤ v.limit) (sym (touched.others i k other q)) (is.numbers i k p q (sym (kept i other) ∙ e)))
        (cases_eq i row);
    heaviest = is.heaviest;
    room = is.room;
    light = λ i p e. is.light i p (⊎_elim (λ same. subst (λ n. is_unwritten v.unwritten n ≡ true) (sym same) was_open) (λ other. sym (kept i other) ∙ e) (cases_eq i row));
  }

  pub touched_parted : IsParted v → length flags' ≡ length v.unwritten → IsParted (record v { entries = entries'; unwritten = flags' })
  touched_parted is size = record {
    few = is.few;
    flags = size ∙ is.flags;
    entries = touched.size ∙ is.entries;
    full = λ none. absurd (false≢true (sym (is.full none row) ∙ was_open));
    partial = λ some. touched_partial (is.partial some);
  }

  pub touched_filled : (slots : ℕ → ℕ) → IsListed v.entries → ((j : ℕ) → j < v.columns → slots j ≢ row)
      → ((k : ℕ) → k < v.columns → whole_number_at entries'.numbers (row * v.columns + k) ≡ unwritten_number v.rows v.columns v.entries v.coefficients slots row k)
      → filled (record v { entries = entries'; unwritten = flags' }) slots ≡ filled v slots
  touched_filled slots listed apart written =
      filled_same v (record v { entries = entries'; unwritten = flags' }) slots refl refl
      (λ i k p q. row_added v.rows v.columns v.coefficients slots row v.entries entries' listed touched apart written v.unwritten flags' was_open kept i k q)

-- behind the last row all is written
pub none_open : (rows : ℕ) (flags : List Bool) → length flags ≡ rows → ((i : ℕ) → i < rows → is_unwritten flags i ≡ false) → (i : ℕ) → is_unwritten flags i ≡ false
none_open rows flags size none i = ⊎_elim (none i) (λ past. get_or_past flags i false (subst (λ n. n ≤ i) (sym size) past)) (cases_lt i rows)

pub none_marked : (rows i : ℕ) → is_unwritten (replicate rows false) i ≡ false
none_marked rows i = ⊎_elim (get_or-replicate rows i false false) (λ past. get_or_past (replicate rows false) i false (subst (λ n. n ≤ i) (sym (length-replicate rows false)) past)) (cases_lt i rows)

pub full_parted : (v : Parts) (entries' : Listed) (flags' : List Bool) → IsParted v → length flags' ≡ length v.unwritten → length entries'.list ≡ length v.entries.list → ((i : ℕ) → is_unwritten flags' i ≡ false)
    → IsParted (record v { entries = entries'; unwritten = flags'; is_partial = false })
full_parted v entries' flags' is flags size none = record {
  few = is.few;
  flags = flags ∙ is.flags;
  entries = size ∙ is.entries;
  full = λ e. none;
  partial = λ e. absurd (false≢true e);
}

-- ---- an exchange

module _ (v : Parts) (entries' : Listed) (row place : ℕ) (row_within : row < v.rows) (place_within : place < v.columns) (is : IsParted v) (partial : IsPartial v)
    (row_written : is_unwritten v.unwritten row ≡ false) (after : ArePartsExchanged v.rows v.columns row place v.unwritten v.limit v.entries entries') where
  exchanged_partial : IsPartial (record v { entries = entries' })
  exchanged_partial = record {
    form = after.whole;
    listed = after.listed;
    coefficients_length = partial.coefficients_length;
    positive = partial.positive;
    denominator = after.denominator;
    numbers = after.within;
    heaviest = partial.heaviest;
    room = partial.room;
    light = partial.light;
  }

  pub exchanged_parted : IsParted (record v { entries = entries' })
  exchanged_parted = record {
    few = is.few;
    flags = is.flags;
    entries = after.size ∙ is.entries;
    full = is.full;
    partial = λ e. exchanged_partial;
  }

  -- that of the written rows is one of all rows
  pub exchanged_filled : dense_entry v.columns v.entries.list row place ≢ int (pos 0) → (slots : ℕ → ℕ) (entering leaving : ℕ) → AreColumnsWritten v slots → IsSwap v.columns slots row (v.rows + place) entering leaving
      → IsExchangedList v.columns row place (filled v slots) (filled (record v { entries = entries' }) (swapped slots row (v.rows + place) entering leaving))
  exchanged_filled some slots entering leaving columns_written swap =
      let made : IsExchangedList v.columns row place (listed_entries v.rows v.columns (part_entry v slots)) (listed_entries v.rows v.columns (part_entry (record v { entries = entries' }) (swapped slots row (v.rows + place) entering leaving))) =
      lists_exchanged v.rows v.columns row place (part_entry v slots) (part_entry (record v { entries = entries' }) (swapped slots row (v.rows + place) entering leaving)) row_within place_within
      (after_is v.rows v.columns row place row_within place_within (dense_entry v.columns v.entries.list) (dense_entry v.columns entries'.list) some (is_unwritten v.unwritten) (row_coefficient v.columns v.coefficients) slots row_written columns_written
      entering leaving swap.enters swap.leaves swap.leaves_alone swap.enters_alone after.entry)
      (all_fit v.rows v.columns row place row_within place_within v.entries partial.listed is.entries some v.unwritten v.coefficients slots row_written (λ i p e. light_at v partial slots columns_written i p e) after.fits) in
      subst (λ xs. IsExchangedList v.columns row place xs (filled (record v { entries = entries' }) (swapped slots row (v.rows + place) entering leaving))) (sym (filled_is v slots))
      (subst (λ ys. IsExchangedList v.columns row place (listed_entries v.rows v.columns (part_entry v slots)) ys) (sym (filled_is (record v { entries = entries' }) (swapped slots row (v.rows + place) entering leaving))) made)

-- whether or not it was made
pub part_parted : (v : Parts) (entries' : Listed) (row place : ℕ) → row < v.rows → place < v.columns → IsParted v → IsPartial v → is_unwritten v.unwritten row ≡ false
    → (made : Bool) → (made ≡ true → ArePartsExchanged v.rows v.columns row place v.unwritten v.limit v.entries entries') → (made ≡ false → entries' ≡ v.entries) → IsParted (record v { entries = entries' })
part_parted v entries' row place row_within place_within is partial row_written true after kept = exchanged_parted v entries' row place row_within place_within is partial row_written (after refl)
part_parted v entries' row place row_within place_within is partial row_written false after kept = subst (λ e. IsParted (record v { entries = e })) (sym (kept refl)) is

-- columns still stand in rows that are written
pub swapped_written : (rows columns row place entering leaving : ℕ) (flags : List Bool) (slots : ℕ → ℕ) → is_unwritten flags row ≡ false → ((j : ℕ) → j < columns → slots j < rows → is_unwritten flags (slots j) ≡ false)
    → (j : ℕ) → j < columns → swapped slots row (rows + place) entering leaving j < rows → is_unwritten flags (swapped slots row (rows + place) entering leaving j) ≡ false
swapped_written rows columns row place entering leaving flags slots row_written columns_written j w in_row = ⊎_elim leaves others (cases_eq j leaving)
  where
    leaves : j ≡ leaving → is_unwritten flags (swapped slots row (rows + place) entering leaving j) ≡ false
    leaves e =
        absurd (let at : swapped slots row (rows + place) entering leaving j ≡ rows + place = subst (λ v. swapped slots row (rows + place) entering leaving v ≡ rows + place) (sym e) (if_same leaving (rows + place) (updated slots entering row leaving)) in omega (arith, at, in_row))

    others : ¬ (j ≡ leaving) → is_unwritten flags (swapped slots row (rows + place) entering leaving j) ≡ false
    others other = ⊎_elim enters stays (cases_eq j entering)
      where
        past : swapped slots row (rows + place) entering leaving j ≡ updated slots entering row j
        past = if_other j leaving (rows + place) (updated slots entering row j) other

        enters : j ≡ entering → is_unwritten flags (swapped slots row (rows + place) entering leaving j) ≡ false
        enters e = ap (is_unwritten flags) (past ∙ subst (λ v. updated slots entering row v ≡ row) (sym e) (if_same entering row (slots entering))) ∙ row_written

        stays : ¬ (j ≡ entering) → is_unwritten flags (swapped slots row (rows + place) entering leaving j) ≡ false
        stays apart =
            let at : swapped slots row (rows + place) entering leaving j ≡ slots j = past ∙ if_other j entering row (slots j) apart in
            ap (is_unwritten flags) at ∙ columns_written j w (subst (λ n. n < rows) at in_row)

-- ---- the slack table

-- the greatest limit of which so many have room below 2 ^ 62
module _ (heaviest limit rest : ℕ) (few : heaviest < 64) (is : limit * (heaviest + 1) + rest ≡ 2 ^ 62) (less : rest < heaviest + 1) where
  turned : limit * (heaviest + 1) ≡ (heaviest + 1) * limit
  turned = omega arith

  pub limit_room : (heaviest + 1) * limit ≤ 2 ^ 62
  limit_room = omega (arith, turned, is)

  past : limit ≤ 1 → ⊥
  past small = let most : (heaviest + 1) * limit ≤ (heaviest + 1) * 1 = mul-le-mul_left (heaviest + 1) small in omega (arith, most, turned, is, less, few)

  pub limit_large : 1 < limit
  limit_large = ⊎_elim (λ h. h) (λ small. absurd (past small)) (cases_lt 1 limit)

  pub limit_small : limit < 2 ^ 63
  limit_small = let one : (heaviest + 1) * limit ≡ heaviest * limit + limit = omega arith in omega (arith, one, turned, is)

module _ (v : Parts) (listed : IsListed v.entries) (one : v.entries.denominator ≡ pos 1) (coefficients_are : v.coefficients ≡ v.entries.numbers) (size : length v.entries.list ≡ v.rows * v.columns) where
  -- a row that is not written has its coefficients
  pub slack_filled : (slots : ℕ → ℕ) → ((j : ℕ) → j < v.columns → slots j ≡ v.rows + j) → filled v slots ≡ v.entries.list
  slack_filled slots slack =
      filled_is v slots
      ∙ listed_same v.rows v.columns (part_entry v slots) (dense_entry v.columns v.entries.list) (λ i k p q. by i k q (is_unwritten v.unwritten i))
      ∙ back
    where
      coefficient_is : (i k : ℕ) → int (row_coefficient v.columns v.coefficients i k) ≡ dense_entry v.columns v.entries.list i k
      coefficient_is i k =
          int_is (row_coefficient v.columns v.coefficients i k) ∙ (λ z. quotient_of (whole_number_at (coefficients_are z) (i * v.columns + k)) (sym one z)) ∙ sym (entry_is v.rows v.columns v.entries listed i k)

      by : (i k : ℕ) → k < v.columns → (b : Bool)
          → (if b then unwritten_entry v.rows v.columns (dense_entry v.columns v.entries.list) slots (row_coefficient v.columns v.coefficients i) k else dense_entry v.columns v.entries.list i k) ≡ dense_entry v.columns v.entries.list i k
      by i k q true = slack_row v.rows v.columns (dense_entry v.columns v.entries.list) slots (row_coefficient v.columns v.coefficients i) k q slack ∙ coefficient_is i k
      by i k q false = refl

      back : listed_entries v.rows v.columns (dense_entry v.columns v.entries.list) ≡ v.entries.list
      back = all_written v.rows v.columns v.entries.list [] [] slots (λ i. refl) size

-- ---- all entries over one denominator

pub short_over : (v : Parts) → IsParted v → IsListed v.entries → (slots : ℕ → ℕ) → AreColumnsWritten v slots → (i k : ℕ) → i < v.rows → k < v.columns
    → IsShortOver v.entries.denominator (dense_entry v.columns (filled v slots) i k)
short_over v is listed slots columns_written i k p q = by (is_unwritten v.unwritten i) refl
  where
    size : length v.entries.numbers ≡ v.rows * v.columns
    size = numbers_length v.rows v.columns v.entries listed ∙ is.entries

    by : (b : Bool) → is_unwritten v.unwritten i ≡ b → IsShortOver v.entries.denominator (dense_entry v.columns (filled v slots) i k)
    by true e = (
      unwritten_number v.rows v.columns v.entries v.coefficients slots i k,
      (short_number v.rows v.columns v.entries v.coefficients slots i k q (light_at v (partial_of v is i e) slots columns_written i p e), unwritten_at v slots i k p q listed e),
    )
    by false e = (
      whole_number_at v.entries.numbers (i * v.columns + k),
      (listed.are_over.short (i * v.columns + k) (subst (λ l. i * v.columns + k < l) (sym size) (flat_within v.columns v.rows i k p q)), written_at v slots i k p q e ∙ entry_is v.rows v.columns v.entries listed i k),
    )
