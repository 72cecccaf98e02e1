-- Texts written piece by piece.
use Rattle.std.proofs.Common.{◌≡◌, ℕ, zero, suc, ◌+◌, ◌<◌, ◌≤◌, Bool, true, false, List, [], ◌∷◌, ◌++◌, length, take, get_or, refl, sym, ap, ◌∙◌, arith, append_assoc, if◌then◌else◌, pos}
use Rattle.std.specs.Prelude.{codes, nat_eq, unsigned_abs, Result, Ok, Err, IfOk, is_ok}
use Rattle.std.proofs.lemmas.List.{take_more, take_all, flat_map_more}
use Rattle.std.proofs.lemmas.List.Elements.{All-nil, All-cons, All-append, All-same}
use Rattle.std.specs.List.{All, flat_map}
use Rattle.std.proofs.Common.{length-take}
use Rattle.std.proofs.lemmas.Int.{ints}
use Rattle.std.proofs.lemmas.Bool.Decides.{nat_tests}
use Rattle.frac128.specs.Rational.{ℚ, int}
use Rattle.frac128.proofs.Rounding.{num_zero}
use Rattle.frac128.specs.Printing.{printed}
use Rattle.frac128.specs.Range.{Fits}
use Rattle.lp_model.specs.Elements.{of_element}
use Rattle.lp_model.specs.Program.{Program, Point}
use Rattle.lp_model.specs.declared.types.Derivation.{Derivation}
use Rattle.lp_model.specs.declared.types.Col.{Col}
use Rattle.reply_texts.specs.Places.{cut_line, cut_lines}
use Rattle.reply_texts.specs.Texts.{column_line, column_lines}

-- one piece behind another: of more pieces, the later ones first
pub join : (r a b p q : List ℕ) → p ≡ r ++ a → q ≡ p ++ b → q ≡ r ++ (a ++ b)
join r a b p q e f = f ∙ ap (λ t. t ++ b) e ∙ append_assoc r a b

pub join_two : (r a b c p q : List ℕ) → p ≡ r ++ a → q ≡ p ++ (b ++ c) → q ≡ r ++ ((a ++ b) ++ c)
join_two r a b c p q e f = join r a (b ++ c) p q e f ∙ ap (λ t. r ++ t) (sym (append_assoc a b c))

pub join_three : (r a b c d p q : List ℕ) → p ≡ r ++ a → q ≡ p ++ ((b ++ c) ++ d) → q ≡ r ++ (((a ++ b) ++ c) ++ d)
join_three r a b c d p q e f = join_two r a (b ++ c) d p q e f ∙ ap (λ t. r ++ (t ++ d)) (sym (append_assoc a b c))

-- the same where the last call may have had no memory
pub join_last : {T E : Type 0} (last : Result T E) (r a b p q : List ℕ) → p ≡ r ++ a → IfOk last (λ _. q ≡ p ++ b) → IfOk last (λ _. q ≡ r ++ (a ++ b))
join_last (Ok x) r a b p q e f = join r a b p q e f
join_last (Err x) r a b p q e f = tt

pub join_last_two : {T E : Type 0} (last : Result T E) (r a b c p q : List ℕ) → p ≡ r ++ a → IfOk last (λ _. q ≡ p ++ (b ++ c)) → IfOk last (λ _. q ≡ r ++ ((a ++ b) ++ c))
join_last_two (Ok x) r a b c p q e f = join_two r a b c p q e f
join_last_two (Err x) r a b c p q e f = tt

pub join_last_three : {T E : Type 0} (last : Result T E) (r a b c d p q : List ℕ) → p ≡ r ++ a → IfOk last (λ _. q ≡ p ++ ((b ++ c) ++ d)) → IfOk last (λ _. q ≡ r ++ (((a ++ b) ++ c) ++ d))
join_last_three (Ok x) r a b c d p q e f = join_three r a b c d p q e f
join_last_three (Err x) r a b c d p q e f = tt

-- a last piece
pub join_piece : {T E : Type 0} (last : Result T E) (r a b p q : List ℕ) → p ≡ r ++ a → q ≡ (if is_ok last then p ++ b else p) → IfOk last (λ _. q ≡ r ++ (a ++ b))
join_piece (Ok x) r a b p q e f = join r a b p q e f
join_piece (Err x) r a b p q e f = tt

pub nothing_more : (r : List ℕ) → r ≡ r ++ []
nothing_more [] = refl
nothing_more (b ∷ r) = ap (λ t. b ∷ t) (nothing_more r)

-- ---- the texts of a list's items, one behind another

pub texts-step : {A : Type 0} (f : A → List ℕ) (xs : List A) (k : ℕ) (d : A) (r p q : List ℕ) → k < length xs → p ≡ r ++ flat_map f (take k xs) → q ≡ p ++ f (get_or xs k d) → q ≡ r ++ flat_map f (take (k + 1) xs)
texts-step f xs k d r p q h before now =
    now ∙ ap (λ t. t ++ f (get_or xs k d)) before ∙ flat_map_more f r (take k xs) (get_or xs k d) ∙ ap (λ found. r ++ flat_map f found) (sym (take_more xs k d h))

pub texts-all : {A : Type 0} (f : A → List ℕ) (xs : List A) (k : ℕ) (r p : List ℕ) → length xs ≤ k → p ≡ r ++ flat_map f (take k xs) → p ≡ r ++ flat_map f xs
texts-all f xs k r p past e = e ∙ ap (λ found. r ++ flat_map f found) (take_all k xs past)

-- ---- a column's line

is_nothing : ℚ → Bool
is_nothing v = nat_eq (unsigned_abs v.num) 0

pub zero-no_line : (name : List ℕ) (v : ℚ) → v ≡ int (pos 0) → column_line name v ≡ []
unfolding int
zero-no_line name v e = ap (column_line name) e

pub other-line : (name : List ℕ) (v : ℚ) → ¬ (v ≡ int (pos 0)) → column_line name v ≡ codes "x " ++ name ++ codes " " ++ printed v ++ codes "\n"
other-line name v h = by (nat_eq (unsigned_abs v.num) 0) refl
  where
    by : (t : Bool) → nat_eq (unsigned_abs v.num) 0 ≡ t → (if t then [] else codes "x " ++ name ++ codes " " ++ printed v ++ codes "\n") ≡ codes "x " ++ name ++ codes " " ++ printed v ++ codes "\n"
    by true e = let z : unsigned_abs v.num ≡ 0 = grind (arith, nat_tests) in let n : v.num ≡ pos 0 = omega (arith, ints) in absurd (h (num_zero v n))
    by false e = refl

-- ---- the columns' lines

lines-more : (cs : List Col) (xs : Point) (c : Col) (x : ℚ) → length xs ≡ length cs → column_lines (cs ++ c ∷ []) (xs ++ x ∷ []) ≡ column_lines cs xs ++ column_line c.name x
unfolding column_lines
lines-more [] [] c x h = sym (nothing_more (column_line c.name x))
lines-more [] (y ∷ ys) c x h = absurd (omega arith)
lines-more (d ∷ cs) [] c x h = absurd (omega arith)
lines-more (d ∷ cs) (y ∷ ys) c x h = ap (λ t. column_line d.name y ++ t) (lines-more cs ys c x (omega arith)) ∙ sym (append_assoc (column_line d.name y) (column_lines cs ys) (column_line c.name x))

pub lines-begin : (cs : List Col) (xs : Point) (r : List ℕ) → r ≡ r ++ column_lines (take 0 cs) (take 0 xs)
unfolding column_lines
lines-begin cs xs r = nothing_more r

pub lines-step : (cs : List Col) (xs : Point) (k : ℕ) (c : Col) (x : ℚ) (r p q : List ℕ) → k < length cs → length xs ≡ length cs → c ≡ get_or cs k c → x ≡ get_or xs k x
    → p ≡ r ++ column_lines (take k cs) (take k xs) → q ≡ p ++ column_line c.name x → q ≡ r ++ column_lines (take (k + 1) cs) (take (k + 1) xs)
lines-step cs xs k c x r p q h shape c_is x_is before now =
    let within : k < length xs = omega arith in
    let columns : take (k + 1) cs ≡ take k cs ++ c ∷ [] = take_more cs k c h ∙ ap (λ d. take k cs ++ d ∷ []) (sym c_is) in
    let numbers : take (k + 1) xs ≡ take k xs ++ x ∷ [] = take_more xs k x within ∙ ap (λ d. take k xs ++ d ∷ []) (sym x_is) in
    let same : length (take k xs) ≡ length (take k cs) = omega (arith, length-take {A = ℚ}, length-take {A = Col}) in
    now ∙ ap (λ t. t ++ column_line c.name x) before ∙ append_assoc r (column_lines (take k cs) (take k xs)) (column_line c.name x)
    ∙ ap (λ t. r ++ t) (sym (lines-more (take k cs) (take k xs) c x same)) ∙ (λ i. r ++ column_lines (sym columns i) (sym numbers i))

-- ---- a column or a row that isn't there

pub of_element-past : {A B : Type 0} (d : B) (f : A → B) (xs : List A) (k : ℕ) → length xs ≤ k → of_element d f xs k ≡ d
of_element-past d f [] k h = refl
of_element-past d f (x ∷ xs) zero h = absurd (omega arith)
of_element-past d f (x ∷ xs) (suc k) h = let less : length xs ≤ k = omega arith in of_element-past d f xs k less

-- ---- cuts

cuts-more : (M : Program) (k : ℕ) (ds : List Derivation) (d : Derivation) → cut_lines M k (ds ++ d ∷ []) ≡ cut_lines M k ds ++ cut_line M (k + length ds) d
unfolding cut_lines
cuts-more M k [] d = let place : k ≡ k + 0 = omega arith in sym (nothing_more (cut_line M k d)) ∙ ap (λ n. cut_line M n d) place
cuts-more M k (c ∷ ds) d =
    let place : suc k + length ds ≡ k + suc (length ds) = omega arith in
    ap (λ t. cut_line M k c ++ t) (cuts-more M (suc k) ds d ∙ ap (λ n. cut_lines M (suc k) ds ++ cut_line M n d) place) ∙ sym (append_assoc (cut_line M k c) (cut_lines M (suc k) ds) (cut_line M (k + suc (length ds)) d))

pub cuts-begin : (M : Program) (ds : List Derivation) (r : List ℕ) → r ≡ r ++ cut_lines M 1 (take 0 ds)
unfolding cut_lines
cuts-begin M ds r = nothing_more r

pub cuts-step : (M : Program) (ds : List Derivation) (k : ℕ) (d : Derivation) (r p q : List ℕ) → k < length ds → p ≡ r ++ cut_lines M 1 (take k ds) → q ≡ p ++ cut_line M (k + 1) (get_or ds k d) → q ≡ r ++ cut_lines M 1 (take (k + 1) ds)
cuts-step M ds k d r p q below before now =
    let c : Derivation = get_or ds k d in
    let place : k + 1 ≡ 1 + length (take k ds) = omega (arith, length-take {A = Derivation}) in
    now ∙ ap (λ t. t ++ cut_line M (k + 1) c) before ∙ append_assoc r (cut_lines M 1 (take k ds)) (cut_line M (k + 1) c)
    ∙ ap (λ n. r ++ (cut_lines M 1 (take k ds) ++ cut_line M n c)) place
    ∙ ap (λ t. r ++ t) (sym (cuts-more M 1 (take k ds) c)) ∙ ap (λ t. r ++ cut_lines M 1 t) (sym (take_more ds k d below))

pub cuts-all : (M : Program) (ds : List Derivation) (k : ℕ) (r p : List ℕ) → length ds ≤ k → p ≡ r ++ cut_lines M 1 (take k ds) → p ≡ r ++ cut_lines M 1 ds
cuts-all M ds k r p h e = e ∙ ap (λ t. r ++ cut_lines M 1 t) (take_all k ds h)

-- ---- fractions that have room

pub room-more : (xs : List ℚ) (k : ℕ) (x : ℚ) → k < length xs → x ≡ get_or xs k x → Fits x → All Fits (take k xs) → All Fits (take (k + 1) xs)
room-more xs k x below is fits before =
    let taken : take (k + 1) xs ≡ take k xs ++ x ∷ [] = take_more xs k x below ∙ ap (λ d. take k xs ++ d ∷ []) (sym is) in
    All-same Fits (take (k + 1) xs) (take k xs ++ x ∷ []) taken (All-append Fits (take k xs) (x ∷ []) before (All-cons Fits x [] fits (All-nil Fits)))

pub room-all : (xs : List ℚ) (k : ℕ) → length xs ≤ k → All Fits (take k xs) → All Fits xs
room-all xs k h all = All-same Fits xs (take k xs) (sym (take_all k xs h)) all
