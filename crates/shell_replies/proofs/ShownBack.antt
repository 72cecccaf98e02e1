-- The point and the value of an optimum, and of a point within a gap, are read back from its text, and so is the gap.
use Rattle.std.proofs.Common.{◌≡◌, ◌≢◌, ℕ, suc, ◌^◌, ◌<◌, Bool, true, false, List, [], ◌∷◌, ◌++◌, length, map, refl, sym, ap, ap₂, ◌∙◌, arith, append_assoc, pos, unsigned_abs, if◌then◌else◌, Some}
use Rattle.std.specs.Prelude.{codes, nat_eq, decimal, AllPairs}
use Rattle.std.specs.Str.{bytes_eq}
use Rattle.std.specs.List.{All, filter}
use Rattle.std.proofs.lemmas.Bool.Decides.{nat_tests}
use Rattle.std.proofs.lemmas.Int.{ints}
use Rattle.std.proofs.lemmas.Slice.Eq.{bytes_eq-Decides}
use Rattle.std.proofs.lemmas.List.Elements.{All-head, All-tail}
use Rattle.frac128.specs.Rational.{ℚ, int}
use Rattle.frac128.proofs.Rounding.{num_zero}
use Rattle.frac128.specs.Range.{Fits}
use Rattle.frac128.specs.Printing.{printed}
use Rattle.frac_text.proofs.PrintedReads.{reading_of-printed}
use Rattle.lp_model.specs.Program.{Program, Point, value}
use Rattle.lp_model.specs.Lawful.{column_names}
use Rattle.lp_model.specs.declared.types.Col.{Col}
use Rattle.word_names.specs.WordNames.{HasWordNames}
use Rattle.script_session.specs.Request.{Command}
use Rattle.text_lines.specs.Words.{words_of, IsWord}
use Rattle.reply_texts.specs.Texts.{column_line, column_lines, value_line, optimal_text, within_line, within_text}
use Rattle.shell_replies.specs.Shown.{lines_shown, is_line_of, stated_number, number_in_word, or_zero, number_among, point_shown, value_shown, gap_shown, value_within_shown}
use Rattle.shell_replies.proofs.ShownWords.{decimal-plain, printed-plain, tested-plain, words_of-name, words_of-more, joined-one_line, lines_shown-more}

-- ---- the words of the lines that are written

abbrev words_of_column : List ℕ → ℚ → Command
words_of_column name v = codes "x" ∷ name ∷ printed v ∷ []

abbrev told_line : List ℕ → ℚ → List Command
told_line name v = if nat_eq (unsigned_abs v.num) 0 then [] else words_of_column name v ∷ []

told : List Col → Point → List Command
told [] x = []
told (c ∷ cs) [] = []
told (c ∷ cs) (v ∷ vs) = told_line c.name v ++ told cs vs

last_lines : List Command
last_lines = (codes "end" ∷ []) ∷ [] ∷ []

abbrev first_words : ℚ → ℕ → Command
first_words v n = codes "optimal" ∷ printed v ∷ codes "nodes" ∷ decimal n ∷ []

name_x : IsWord (codes "x")
name_x = tested-plain (codes "x") (omega arith) refl

-- the first line of a point within a gap
abbrev within_words : ℚ → ℚ → ℕ → Command
within_words g v n = codes "within" ∷ printed g ∷ printed v ∷ codes "nodes" ∷ decimal n ∷ []

name_within : IsWord (codes "within")
name_within = tested-plain (codes "within") (omega arith) refl

name_optimal : IsWord (codes "optimal")
name_optimal = tested-plain (codes "optimal") (omega arith) refl

name_nodes : IsWord (codes "nodes")
name_nodes = tested-plain (codes "nodes") (omega arith) refl

-- what is written piece by piece, with the newline behind all but what follows
moved : (a b c d rest : List ℕ) → ((((a ++ b) ++ c) ++ d) ++ (10 ∷ [])) ++ rest ≡ a ++ ((b ++ (c ++ d)) ++ (10 ∷ rest))
moved a b c d rest = simp append_assoc

moved_more : (a b c d e f rest : List ℕ) → ((((((a ++ b) ++ c) ++ d) ++ e) ++ f) ++ (10 ∷ [])) ++ rest ≡ a ++ ((b ++ (c ++ (d ++ (e ++ f)))) ++ (10 ∷ rest))
moved_more a b c d e f rest = simp append_assoc

-- a column's line
written : (name number rest : List ℕ) → IsWord name → IsWord number
    → lines_shown ((codes "x " ++ name ++ codes " " ++ number ++ codes "\n") ++ rest) ≡ (codes "x" ∷ name ∷ number ∷ []) ∷ lines_shown rest
written name number rest p q =
    let inner = name ++ (32 ∷ number) in
    ap lines_shown (moved (codes "x ") name (codes " ") number rest)
    ∙ (lines_shown-more (codes "x" ++ (32 ∷ inner)) rest (joined-one_line (codes "x") inner name_x (joined-one_line name number p q.one_line))
    ∙ ap (λ words. words ∷ lines_shown rest)
    (words_of-more (codes "x") inner name_x ∙ ap (λ words. codes "x" ∷ words) (words_of-more name number p ∙ ap (λ words. name ∷ words) (words_of-name number q))))

-- the first line
written_first : (number count rest : List ℕ) → IsWord number → IsWord count
    → lines_shown ((codes "optimal " ++ number ++ codes " nodes " ++ count ++ codes "\n") ++ rest) ≡ (codes "optimal" ∷ number ∷ codes "nodes" ∷ count ∷ []) ∷ lines_shown rest
written_first number count rest p q =
    let last = codes "nodes" ++ (32 ∷ count) in
    let inner = number ++ (32 ∷ last) in
    ap lines_shown (moved (codes "optimal ") number (codes " nodes ") count rest)
    ∙ (lines_shown-more (codes "optimal" ++ (32 ∷ inner)) rest
    (joined-one_line (codes "optimal") inner name_optimal (joined-one_line number last p (joined-one_line (codes "nodes") count name_nodes q.one_line)))
    ∙ ap (λ words. words ∷ lines_shown rest)
    (words_of-more (codes "optimal") inner name_optimal
    ∙ ap (λ words. codes "optimal" ∷ words) (words_of-more number last p
    ∙ ap (λ words. number ∷ words) (words_of-more (codes "nodes") count name_nodes ∙ ap (λ words. codes "nodes" ∷ words) (words_of-name count q)))))

-- the first line of a point within a gap
written_within : (gap number count rest : List ℕ) → IsWord gap → IsWord number → IsWord count
    → lines_shown ((codes "within " ++ gap ++ codes " " ++ number ++ codes " nodes " ++ count ++ codes "\n") ++ rest) ≡ (codes "within" ∷ gap ∷ number ∷ codes "nodes" ∷ count ∷ []) ∷ lines_shown rest
written_within gap number count rest o p q =
    let last = codes "nodes" ++ (32 ∷ count) in
    let second = number ++ (32 ∷ last) in
    let inner = gap ++ (32 ∷ second) in
    ap lines_shown (moved_more (codes "within ") gap (codes " ") number (codes " nodes ") count rest)
    ∙ (lines_shown-more (codes "within" ++ (32 ∷ inner)) rest
    (joined-one_line (codes "within") inner name_within (joined-one_line gap second o (joined-one_line number last p (joined-one_line (codes "nodes") count name_nodes q.one_line))))
    ∙ ap (λ words. words ∷ lines_shown rest)
    (words_of-more (codes "within") inner name_within
    ∙ ap (λ words. codes "within" ∷ words) (words_of-more gap second o
    ∙ ap (λ words. gap ∷ words) (words_of-more number last p
    ∙ ap (λ words. number ∷ words) (words_of-more (codes "nodes") count name_nodes ∙ ap (λ words. codes "nodes" ∷ words) (words_of-name count q))))))

column_shown : (name : List ℕ) (v : ℚ) (rest : List ℕ) → IsWord name → Fits v → lines_shown (column_line name v ++ rest) ≡ told_line name v ++ lines_shown rest
column_shown name v rest p f = by (nat_eq (unsigned_abs v.num) 0)
  where
    by : (b : Bool) → lines_shown ((if b then [] else codes "x " ++ name ++ codes " " ++ printed v ++ codes "\n") ++ rest) ≡ (if b then [] else words_of_column name v ∷ []) ++ lines_shown rest
    by true = refl
    by false = written name (printed v) rest p (printed-plain v f)

columns_shown : (cs : List Col) (xs : Point) (rest : List ℕ) → All (λ c. IsWord c.name) cs → All Fits xs → lines_shown (column_lines cs xs ++ rest) ≡ told cs xs ++ lines_shown rest
unfolding column_lines told
columns_shown [] xs rest p f = refl
columns_shown (c ∷ cs) [] rest p f = refl
columns_shown (c ∷ cs) (v ∷ vs) rest p f =
    ap lines_shown (append_assoc (column_line c.name v) (column_lines cs vs) rest)
    ∙ column_shown c.name v (column_lines cs vs ++ rest) (All-head (λ c. IsWord c.name) c cs p) (All-head Fits v vs f)
    ∙ ap (λ lines. told_line c.name v ++ lines) (columns_shown cs vs rest (All-tail (λ c. IsWord c.name) c cs p) (All-tail Fits v vs f))
    ∙ sym (append_assoc (told_line c.name v) (told cs vs) (lines_shown rest))

end_shown : lines_shown (codes "end\n") ≡ last_lines
unfolding lines_shown words_of last_lines
end_shown = refl

optimum_shown : (M : Program) (x : Point) (n : ℕ) → n < 2 ^ 64 → HasWordNames M → All Fits x → Fits (value M 1 x)
    → lines_shown (optimal_text M x n) ≡ first_words (value M 1 x) n ∷ told M.cols x ++ last_lines
optimum_shown M x n small p f g =
    let front = value_line (value M 1 x) n in
    ap lines_shown (append_assoc front (column_lines M.cols x) (codes "end\n"))
    ∙ written_first (printed (value M 1 x)) (decimal n) (column_lines M.cols x ++ codes "end\n") (printed-plain (value M 1 x) g) (decimal-plain n small)
    ∙ ap (λ lines. first_words (value M 1 x) n ∷ lines) (columns_shown M.cols x (codes "end\n") p.columns f ∙ ap (λ lines. told M.cols x ++ lines) end_shown)

within_shown : (M : Program) (g : ℚ) (x : Point) (n : ℕ) → n < 2 ^ 64 → HasWordNames M → Fits g → All Fits x → Fits (value M 1 x)
    → lines_shown (within_text M g x n) ≡ within_words g (value M 1 x) n ∷ told M.cols x ++ last_lines
within_shown M g x n small p room f v =
    let front = within_line g (value M 1 x) n in
    ap lines_shown (append_assoc front (column_lines M.cols x) (codes "end\n"))
    ∙ written_within (printed g) (printed (value M 1 x)) (decimal n) (column_lines M.cols x ++ codes "end\n") (printed-plain g room) (printed-plain (value M 1 x) v) (decimal-plain n small)
    ∙ ap (λ lines. within_words g (value M 1 x) n ∷ lines) (columns_shown M.cols x (codes "end\n") p.columns f ∙ ap (λ lines. told M.cols x ++ lines) end_shown)

-- ---- the number of a name among lines

found : (name : List ℕ) (v : ℚ) (lines : List Command) → Fits v → number_among name (words_of_column name v ∷ lines) ≡ v
found name v lines f =
    ap (λ b. or_zero (number_in_word 2 (if b then words_of_column name v ∷ filter (is_line_of name) lines else filter (is_line_of name) lines))) ((bytes_eq-Decides name name).1 refl)
    ∙ ap (λ r. or_zero (stated_number r)) (reading_of-printed v f)

apart : (a b : List ℕ) → a ≢ b → bytes_eq a b ≡ false
apart a b h = by (bytes_eq a b) refl
  where
    by : (t : Bool) → bytes_eq a b ≡ t → t ≡ false
    by true e = absurd (h ((bytes_eq-Decides a b).0 e))
    by false e = refl

passed : (name other : List ℕ) (v : ℚ) (lines : List Command) → other ≢ name → number_among name (told_line other v ++ lines) ≡ number_among name lines
passed name other v lines h = by (nat_eq (unsigned_abs v.num) 0)
  where
    by : (b : Bool) → number_among name ((if b then [] else words_of_column other v ∷ []) ++ lines) ≡ number_among name lines
    by true = refl
    by false = ap (λ b. or_zero (number_in_word 2 (if b then words_of_column other v ∷ filter (is_line_of name) lines else filter (is_line_of name) lines))) (apart other name h)

found_line : (name : List ℕ) (v : ℚ) (lines : List Command) → Fits v → number_among name lines ≡ int (pos 0) → number_among name (told_line name v ++ lines) ≡ v
found_line name v lines f none = by (nat_eq (unsigned_abs v.num) 0) refl
  where
    by : (b : Bool) → nat_eq (unsigned_abs v.num) 0 ≡ b → number_among name ((if b then [] else words_of_column name v ∷ []) ++ lines) ≡ v
    by true e =
        let nothing : unsigned_abs v.num ≡ 0 = grind (arith, nat_tests) in
        let zero_num : v.num ≡ pos 0 = omega (arith, ints) in
        none ∙ sym (num_zero v zero_num)
    by false e = found name v lines f

absent : (name : List ℕ) (cs : List Col) (xs : Point) (lines : List Command) → All (λ other. name ≢ other) (map (λ c. c.name) cs) → number_among name lines ≡ int (pos 0) → number_among name (told cs xs ++ lines) ≡ int (pos 0)
unfolding told
absent name [] xs lines h none = none
absent name (c ∷ cs) [] lines h none = none
absent name (c ∷ cs) (v ∷ vs) lines h none =
    ap (number_among name) (append_assoc (told_line c.name v) (told cs vs) lines)
    ∙ passed name c.name v (told cs vs ++ lines) (λ e. All-head (λ other. name ≢ other) c.name (map (λ c. c.name) cs) h (sym e))
    ∙ absent name cs vs lines (All-tail (λ other. name ≢ other) c.name (map (λ c. c.name) cs) h) none

-- a line of one name leaves the numbers of others
others : (name : List ℕ) (v : ℚ) (cs : List Col) (lines : List Command) → All (λ other. name ≢ other) (map (λ c. c.name) cs)
    → map (λ c. number_among c.name (told_line name v ++ lines)) cs ≡ map (λ c. number_among c.name lines) cs
others name v [] lines h = refl
others name v (c ∷ cs) lines h =
    ap₂ (λ x xs. x ∷ xs) (passed c.name name v lines (All-head (λ other. name ≢ other) c.name (map (λ c. c.name) cs) h)) (others name v cs lines (All-tail (λ other. name ≢ other) c.name (map (λ c. c.name) cs) h))

-- ---- names that are distinct

first_apart : (name : List ℕ) (more : List (List ℕ)) → AllPairs (λ a b. a ≢ b) (name ∷ more) → All (λ other. name ≢ other) more
first_apart name more h = λ k d below. h 0 (suc k) d (omega arith) (omega arith)

rest_distinct : (name : List ℕ) (more : List (List ℕ)) → AllPairs (λ a b. a ≢ b) (name ∷ more) → AllPairs (λ a b. a ≢ b) more
rest_distinct name more h = λ i j d before below. h (suc i) (suc j) d (omega arith) (omega arith)

numbers_back : (cs : List Col) (xs : Point) (lines : List Command) → length xs ≡ length cs → AllPairs (λ a b. a ≢ b) (map (λ c. c.name) cs) → All Fits xs → ((name : List ℕ) → number_among name lines ≡ int (pos 0))
    → map (λ c. number_among c.name (told cs xs ++ lines)) cs ≡ xs
unfolding told
numbers_back [] [] lines shape distinct f none = refl
numbers_back [] (v ∷ vs) lines shape distinct f none = absurd (omega arith)
numbers_back (c ∷ cs) [] lines shape distinct f none = absurd (omega arith)
numbers_back (c ∷ cs) (v ∷ vs) lines shape distinct f none =
    let away = first_apart c.name (map (λ c. c.name) cs) distinct in
    let same : (told_line c.name v ++ told cs vs) ++ lines ≡ told_line c.name v ++ (told cs vs ++ lines) = append_assoc (told_line c.name v) (told cs vs) lines in
    ap (λ (found : List Command). map (λ c. number_among c.name found) (c ∷ cs)) same
    ∙ ap₂ (λ x xs. x ∷ xs)
    (found_line c.name v (told cs vs ++ lines) (All-head Fits v vs f) (absent c.name cs vs lines away (none c.name)))
    (others c.name v cs (told cs vs ++ lines) away ∙ numbers_back cs vs lines (omega arith) (rest_distinct c.name (map (λ c. c.name) cs) distinct) (All-tail Fits v vs f) none)

no_number : (name : List ℕ) → number_among name last_lines ≡ int (pos 0)
unfolding last_lines
no_number name = refl

-- ---- the point and the value

pub point-shown : (M : Program) (x : Point) (n : ℕ) → n < 2 ^ 64 → length x ≡ length M.cols → HasWordNames M → AllPairs (λ a b. a ≢ b) (column_names M) → All Fits x → Fits (value M 1 x)
    → point_shown M (optimal_text M x n) ≡ x
unfolding point_shown
point-shown M x n small shape p distinct f g =
    ap (λ (lines : List Command). map (λ c. number_among c.name lines) M.cols) (optimum_shown M x n small p f g)
    ∙ numbers_back M.cols x last_lines shape distinct f no_number

pub value-shown : (M : Program) (x : Point) (n : ℕ) → n < 2 ^ 64 → length x ≡ length M.cols → HasWordNames M → AllPairs (λ a b. a ≢ b) (column_names M) → All Fits x → Fits (value M 1 x)
    → value_shown (optimal_text M x n) ≡ Some (value M 1 x)
unfolding value_shown
value-shown M x n small shape p distinct f g = ap (number_in_word 1) (optimum_shown M x n small p f g) ∙ ap stated_number (reading_of-printed (value M 1 x) g)

-- ---- of a point within a gap, and the gap

pub point-within : (M : Program) (g : ℚ) (x : Point) (n : ℕ) → n < 2 ^ 64 → length x ≡ length M.cols → HasWordNames M → AllPairs (λ a b. a ≢ b) (column_names M) → Fits g → All Fits x → Fits (value M 1 x)
    → point_shown M (within_text M g x n) ≡ x
unfolding point_shown
point-within M g x n small shape p distinct room f v =
    ap (λ (lines : List Command). map (λ c. number_among c.name lines) M.cols) (within_shown M g x n small p room f v)
    ∙ numbers_back M.cols x last_lines shape distinct f no_number

pub gap-within : (M : Program) (g : ℚ) (x : Point) (n : ℕ) → n < 2 ^ 64 → HasWordNames M → Fits g → All Fits x → Fits (value M 1 x) → gap_shown (within_text M g x n) ≡ Some g
unfolding gap_shown
gap-within M g x n small p room f v = ap (number_in_word 1) (within_shown M g x n small p room f v) ∙ ap stated_number (reading_of-printed g room)

pub value-within : (M : Program) (g : ℚ) (x : Point) (n : ℕ) → n < 2 ^ 64 → HasWordNames M → Fits g → All Fits x → Fits (value M 1 x) → value_within_shown (within_text M g x n) ≡ Some (value M 1 x)
unfolding value_within_shown
value-within M g x n small p room f v = ap (number_in_word 2) (within_shown M g x n small p room f v) ∙ ap stated_number (reading_of-printed (value M 1 x) v)
