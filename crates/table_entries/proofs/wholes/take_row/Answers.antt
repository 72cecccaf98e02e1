use Rattle.std.proofs.Common.{rules, ◌≡◌, ◌<◌, ◌≤◌, ◌+◌, ◌-◌, ◌*◌, ◌∙◌, ℕ, ℤ, List, length, sym, subst, ⊎_elim, arith}
use Rattle.std.proofs.lemmas.Bool.{cases_lt}
use Rattle.std.proofs.lemmas.List.{places}
use Rattle.std.proofs.Math.Nat.{mul-le-mul_right}
use borrow.Rule.Slice.PartMut.{put_mid}
use Rattle.table_entries.specs.WholeSteps.{IsShort, whole_number_at}
use Rattle.table_entries.proofs.wholes.take_row.Goals as goal

put_below : (a k : ℕ) (xs ys : List ℤ) (at : ℕ) → at < a → a ≤ length xs → whole_number_at (put_mid a k xs ys) at ≡ whole_number_at xs at
put_below a k xs ys at below within = search (rules, places)

put_above : (a k : ℕ) (xs ys : List ℤ) (at : ℕ) → a + k ≤ at → a + k ≤ length xs → length ys ≡ k → whole_number_at (put_mid a k xs ys) at ≡ whole_number_at xs at
put_above a k xs ys at past within size = search (rules, places)

put_inside : (a k : ℕ) (xs ys : List ℤ) (at : ℕ) → a ≤ at → at < a + k → a ≤ length xs → length ys ≡ k → whole_number_at (put_mid a k xs ys) at ≡ whole_number_at ys (at - a)
put_inside a k xs ys at past below within size = search (rules, places)

pub returns-clause-others : goal.returns-clause-others
returns-clause-others c = λ i k other k_within.
    let a = c.args in
    let S = a.row * a.columns in
    let ys = c.copy_from_slice.new.self in
    let n = S + a.columns - S in
    let row_within = c.requires.row in
    let end : (a.row + 1) * a.columns ≤ a.rows * a.columns = mul-le-mul_right a.columns (omega (arith, row_within)) in
    let size = c.requires.size in
    let within : S + n ≤ length a.numbers.now = omega (arith, end, size) in
    let long : length ys ≡ n = search (rules, places) in
    ⊎_elim
    (λ before.
    let up : (i + 1) * a.columns ≤ S = mul-le-mul_right a.columns (omega (arith, before)) in
    put_below S n a.numbers.now ys (i * a.columns + k) (omega (arith, up, k_within)) (omega (arith, within)))
    (λ behind.
    let up : (a.row + 1) * a.columns ≤ i * a.columns = mul-le-mul_right a.columns (omega (arith, behind, other)) in
    put_above S n a.numbers.now ys (i * a.columns + k) (omega (arith, up)) within long)
    (cases_lt i a.row)

pub returns-clause-short : goal.returns-clause-short
returns-clause-short c = λ at less.
    let a = c.args in
    let S = a.row * a.columns in
    let xs = a.numbers.now in
    let ys = c.copy_from_slice.new.self in
    let n = S + a.columns - S in
    let row_within = c.requires.row in
    let end : (a.row + 1) * a.columns ≤ a.rows * a.columns = mul-le-mul_right a.columns (omega (arith, row_within)) in
    let size = c.requires.size in
    let next_size = c.requires.next in
    let within : S + n ≤ length xs = omega (arith, end, size) in
    let long : length ys ≡ n = search (rules, places) in
    let all : length (put_mid S n xs ys) ≡ length xs = search (rules, places) in
    let inside : at < length xs = omega (arith, less, all) in
    ⊎_elim
    (λ before. subst IsShort (sym (put_below S n xs ys at before (omega (arith, within)))) (c.requires.short at inside))
    (λ behind.
    ⊎_elim
    (λ mid.
    let here : whole_number_at ys (at - S) ≡ whole_number_at a.next.now at = search (rules, places) in
    subst IsShort (sym (put_inside S n xs ys at (omega (arith, behind)) mid (omega (arith, within)) long ∙ here)) (c.requires.next_short at (omega (arith, inside, size, next_size))))
    (λ past. subst IsShort (sym (put_above S n xs ys at (omega (arith, past)) within long)) (c.requires.short at inside))
    (cases_lt at (S + n)))
    (cases_lt at S)
