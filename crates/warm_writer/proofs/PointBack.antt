-- What is written of a point is read back.
use Rattle.std.specs.Prelude.{◌≡◌, ℕ, zero, suc, ◌+◌, ◌<◌, ◌≤◌, Bool, true, false, if◌then◌else◌, nat_lt, nat_eq, List, [], ◌∷◌, ◌++◌, length, map, pos, All, Ok}
use Rattle.std.proofs.Common.{refl, sym, ap, ◌∙◌, arith}
use Rattle.std.proofs.lemmas.Bool.Decides.{nat_tests}
use Rattle.frac128.specs.Rational.{ℚ, int}
use Rattle.frac128.proofs.Comparison.{eq_by_cmp-decides}
use Rattle.frac128.specs.Range.{Fits}
use Rattle.lp_model.specs.Edits.{is_zero}
use Rattle.lp_model.specs.declared.types.ColId.{ColId}
use Rattle.serde_json.specs.Data.{Data, array}
use Rattle.serde_json.specs.View.{items_of}
use Rattle.warm_file.specs.Faults.{fault, or_fault, behind}
use Rattle.warm_file.specs.Values.{list_of, place_below}
use Rattle.warm_file.specs.Rising.{col_id, entry_behind, is_past, number_beside_place, col_entry_of}
use Rattle.warm_file.specs.Searches.{dense_numbers_from, point_of}
use Rattle.warm_file.proofs.Saying.{ok-next, ok-then, under-ok}
use Rattle.warm_writer.specs.Written.{number_json, place_json, two_json, list_json, nonzero_from, entry_json, point_json}
use Rattle.warm_writer.proofs.PartsBack.{nonzero-back, AreRead, read-here, read-none, list-back}
use Rattle.warm_writer.proofs.Splits.{past-push}

less-true : (a b : ℕ) → a < b → nat_lt a b ≡ true
less-true a b h = grind (arith, nat_tests)

pub place-back : (n k : ℕ) → k < n → place_below n (place_json k) ≡ Ok k
unfolding behind or_fault
place-back n k h = ap (λ b. if b then Ok k else fault 7) (less-true k n h)

-- `[place, V]`
pub entry-back : {I : Type 0} (id : ℕ → I) (place : I × ℚ → ℕ) (n k : ℕ) (before : List (I × ℚ)) (x : ℚ) → k < n → Fits x → is_zero x ≡ false → is_past place before k ≡ true
    → entry_behind id place n before (two_json (place_json k) (number_json x)) ≡ Ok (id k, x)
unfolding or_fault
entry-back {I} id place n k before x there fits some past =
    let parts : Data × Data = (place_json k, number_json x) in
    let made : I × ℚ = (id k, x) in
    ok-next _ _ parts made refl
    (ok-next _ _ k made (under-ok _ _ k (place-back n k there)) (ok-then _ _ _ made past (ok-next _ _ x made (under-ok _ _ x (nonzero-back x fits some)) refl)))

-- the entries of a point, by column
cols_from : ℕ → List ℚ → List (ColId × ℚ)
cols_from j [] = []
cols_from j (x ∷ xs) = if is_zero x then cols_from (suc j) xs else (col_id j, x) ∷ cols_from (suc j) xs

col_entry_json : ColId × ℚ → Data
col_entry_json e = two_json (place_json e.0.0) (number_json e.1)

same-text : (j : ℕ) (xs : List ℚ) → map entry_json (nonzero_from j xs) ≡ map col_entry_json (cols_from j xs)
unfolding cols_from col_entry_json
same-text j [] = refl
same-text j (x ∷ xs) = by (is_zero x) (same-text (suc j) xs)
  where
    by : (b : Bool) → map entry_json (nonzero_from (suc j) xs) ≡ map col_entry_json (cols_from (suc j) xs) → map entry_json (if b then nonzero_from (suc j) xs else (j, x) ∷ nonzero_from (suc j) xs) ≡ map col_entry_json (if b then cols_from (suc j) xs else (col_id j, x) ∷ cols_from (suc j) xs)
    by true rest = rest
    by false rest = ap (λ l. two_json (place_json j) (number_json x) ∷ l) rest

cols-read : (n j : ℕ) (before : List (ColId × ℚ)) (xs : List ℚ) → ((k : ℕ) → j ≤ k → is_past (λ (e : ColId × ℚ). e.0.0) before k ≡ true) → j + length xs ≤ n → All Fits xs
    → AreRead (col_entry_of n) col_entry_json before (cols_from j xs)
unfolding cols_from col_entry_json col_entry_of
cols-read n j before [] past few fits = read-none (col_entry_of n) col_entry_json before
cols-read n j before (x ∷ xs) past few fits =
    let rest : All Fits xs = λ k d below. fits (suc k) d (omega arith) in
    by (is_zero x) refl (cols-read n (suc j) before xs (λ k h. past k (omega arith)) (omega arith) rest)
    (cols-read n (suc j) (before ++ (col_id j, x) ∷ []) xs (λ k h. past-push (λ (e : ColId × ℚ). e.0.0) before (col_id j, x) k (omega arith)) (omega arith) rest)
  where
    by : (b : Bool) → is_zero x ≡ b → AreRead (col_entry_of n) col_entry_json before (cols_from (suc j) xs) → AreRead (col_entry_of n) col_entry_json (before ++ (col_id j, x) ∷ []) (cols_from (suc j) xs)
        → AreRead (col_entry_of n) col_entry_json before (if b then cols_from (suc j) xs else (col_id j, x) ∷ cols_from (suc j) xs)
    by true z without with_it = without
    by false z without with_it =
        read-here (col_entry_of n) col_entry_json before (col_id j, x) (cols_from (suc j) xs)
        (entry-back col_id (λ (e : ColId × ℚ). e.0.0) n j before x (omega arith) (fits 0 x (omega arith)) z (past j (omega arith))) with_it

-- ---- the numbers of the entries

other : (k j : ℕ) → k < j → nat_eq k j ≡ false
other k j h = grind (arith, nat_tests)

same : (j : ℕ) → nat_eq j j ≡ true
same j = grind (arith, nat_tests)

no-number : (k j : ℕ) (xs : List ℚ) → k < j → number_beside_place k (cols_from j xs) ≡ int (pos 0)
unfolding cols_from
no-number k j [] h = refl
no-number k j (x ∷ xs) h = by (is_zero x) (no-number k (suc j) xs (omega arith))
  where
    apart : nat_eq j k ≡ false
    apart = grind (arith, nat_tests)

    by : (b : Bool) → number_beside_place k (cols_from (suc j) xs) ≡ int (pos 0) → number_beside_place k (if b then cols_from (suc j) xs else (col_id j, x) ∷ cols_from (suc j) xs) ≡ int (pos 0)
    by true rest = rest
    by false rest = ap (λ b. if b then x else number_beside_place k (cols_from (suc j) xs)) apart ∙ rest

skipped : (k n j : ℕ) (x : ℚ) (es : List (ColId × ℚ)) → k < j → dense_numbers_from j n ((col_id k, x) ∷ es) ≡ dense_numbers_from j n es
skipped k zero j x es h = refl
skipped k (suc n) j x es h =
    ap (λ b. (if b then x else number_beside_place j es) ∷ dense_numbers_from (suc j) n ((col_id k, x) ∷ es)) (other k j h) ∙ ap (λ l. number_beside_place j es ∷ l) (skipped k n (suc j) x es (omega arith))

numbers-back : (j : ℕ) (xs : List ℚ) → dense_numbers_from j (length xs) (cols_from j xs) ≡ xs
unfolding cols_from
numbers-back j [] = refl
numbers-back j (x ∷ xs) = by (is_zero x) refl (numbers-back (suc j) xs)
  where
    by : (b : Bool) → is_zero x ≡ b → dense_numbers_from (suc j) (length xs) (cols_from (suc j) xs) ≡ xs → dense_numbers_from j (suc (length xs)) (if b then cols_from (suc j) xs else (col_id j, x) ∷ cols_from (suc j) xs) ≡ x ∷ xs
    by true z rest =
        let zero_is : x ≡ int (pos 0) = (eq_by_cmp-decides x (int (pos 0))).0 z in
        ap (λ y. y ∷ dense_numbers_from (suc j) (length xs) (cols_from (suc j) xs)) (no-number j (suc j) xs (omega arith) ∙ sym zero_is) ∙ ap (λ l. x ∷ l) rest
    by false z rest =
        ap (λ b. (if b then x else number_beside_place j (cols_from (suc j) xs)) ∷ dense_numbers_from (suc j) (length xs) ((col_id j, x) ∷ cols_from (suc j) xs)) (same j)
        ∙ ap (λ l. x ∷ l) (skipped j (length xs) (suc j) x (cols_from (suc j) xs) (omega arith) ∙ rest)

pub point-back : (x : List ℚ) → All Fits x → point_of (length x) (point_json x) ≡ Ok x
unfolding point_of
point-back x fits =
    let written : list_json entry_json (nonzero_from 0 x) ≡ list_json col_entry_json (cols_from 0 x) = ap (λ l. array (items_of l)) (same-text 0 x) in
    let read_back = list-back (col_entry_of (length x)) col_entry_json (cols_from 0 x) (cols-read (length x) 0 [] x (λ k h. refl) (omega arith) fits) in
    ok-next _ _ (cols_from 0 x) x (ap (λ d. list_of (col_entry_of (length x)) d) written ∙ read_back) (ap (λ l. Ok l) (numbers-back 0 x))
