-- One more column, coefficient or row.
use Rattle.std.specs.Prelude.{◌≡◌, ℕ, zero, suc, ◌+◌, ◌*◌, ◌<◌, ◌≤◌, ◌%◌, [], ◌∷◌, ◌++◌, pos}
use Rattle.std.proofs.Common.{sym, ap, ◌∙◌, arith}
use Rattle.frac128.specs.Rational.{int}
use Rattle.rand_pcg.specs.Lcg.{Lcg}
use Rattle.rand_pcg.specs.Pcg.{pcg32}
use Rattle.lp_model.specs.Program.{Program}
use Rattle.lp_model.specs.Edits.{Named, edited}
use Rattle.turn_order.specs.Words.{after_words}
use Rattle.bench_models.specs.BenchModels.{word_after, bench_col_name, added_column, with_columns, coefficient_by, row_coefficients, total, added_row, after_rows, with_rows}

one_more : (n : ℕ) → n + 1 ≡ suc n
one_more n = omega arith

pub after-next : (g now : Lcg) (n : ℕ) → now ≡ after_words n g → (pcg32 now).1 ≡ after_words (n + 1) g
after-next g now n e = ap (λ (h : Lcg). (pcg32 h).1) e ∙ sym (ap (λ m. after_words m g) (one_more n))

pub word-next : (g now : Lcg) (n : ℕ) → now ≡ after_words n g → (pcg32 now).0 ≡ word_after n g
word-next g now n e = ap (λ (h : Lcg). (pcg32 h).0) e

pub columns-next : (g : Lcg) (M now : Program) (n word : ℕ) → now ≡ with_columns g n M → word ≡ word_after n g → edited now (added_column n word) ≡ with_columns g (n + 1) M
columns-next g M now n word e w = (λ i. edited (e i) (added_column n (w i))) ∙ sym (ap (λ m. with_columns g m M) (one_more n))

pub coefficients-next : (g : Lcg) (now : Named) (n c : ℕ) → now ≡ row_coefficients g n → c ≡ coefficient_by (word_after n g) → now ++ (bench_col_name n, int (pos c)) ∷ [] ≡ row_coefficients g (n + 1)
coefficients-next g now n c e w = (λ i. e i ++ (bench_col_name n, int (pos (w i))) ∷ []) ∙ sym (ap (row_coefficients g) (one_more n))

pub total-next : (g : Lcg) (now n c : ℕ) → now ≡ total g n → c ≡ coefficient_by (word_after n g) → now + c ≡ total g (n + 1)
total-next g now n c e w = (λ i. e i + w i) ∙ sym (ap (total g) (one_more n))

pub total-most : (g : Lcg) (n : ℕ) → total g n ≤ 9 * n
total-most g zero = omega arith
total-most g (suc n) = let h = total-most g n in let few : word_after n g % 10 < 10 = omega arith in omega (arith, h, few)

pub rows-next : (g : Lcg) (cols : ℕ) (M now : Program) (n : ℕ) (words : Lcg) → now ≡ with_rows g cols n M → words ≡ after_rows g cols n → edited now (added_row n words cols) ≡ with_rows g cols (n + 1) M
rows-next g cols M now n words e w = (λ i. edited (e i) (added_row n (w i) cols)) ∙ sym (ap (λ m. with_rows g cols m M) (one_more n))

pub after_rows-next : (g : Lcg) (cols n : ℕ) (words : Lcg) → words ≡ after_rows g cols n → after_words cols words ≡ after_rows g cols (n + 1)
after_rows-next g cols n words w = ap (after_words cols) w ∙ sym (ap (after_rows g cols) (one_more n))
