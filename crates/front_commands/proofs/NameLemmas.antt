-- The rows and columns of each part's inner model have the names that they are told by.
use Rattle.std.proofs.Common.{◌≡◌, ℕ, zero, suc, ◌<◌, List, [], ◌∷◌, ◌++◌, length, map, refl, sym, ap, subst, ◌∙◌, arith, append_assoc, append-nil}
use Rattle.std.specs.Prelude.{ℤ, pos, ◌-ℤ◌, ◌*ℤ◌, Some, None}
use Rattle.frac128.specs.Rational.{ℚ, int, ◌+ℚ◌}
use Rattle.std.proofs.lemmas.List.{length-map, map-append}
use Rattle.lp_model.specs.Elements.{of_element}
use Rattle.lp_model.specs.Program.{Program}
use Rattle.lp_model.specs.declared.types.Row.{Row}
use Rattle.lp_model.specs.declared.types.Col.{Col}
use Rattle.inner_models.specs.Inner.{bare_model, with_objective, z_name, g1_name, g2_name, least2_model, left_model, right_model, pull_half, pull_model, gap_start, gap_half, gap_model}
use Rattle.wcn_driver.specs.declared.answers.Part.{Part}
use Rattle.wcn_driver.specs.declared.answers.Part.TheVariants.{Least1, Left, Least2, Right, Gap, Pull}
use Rattle.wcn_driver.specs.Parts.{part_model}
use Rattle.front_commands.specs.Names.{HasNamesOf, PartNamesLaw}

-- ---- names at their places

names-alone : {A : Type 0} (f : A → List ℕ) (xs : List A) (k : ℕ) → of_element [] f xs k ≡ of_element [] (λ n. n) (map f xs) k
names-alone f [] k = refl
names-alone f (x ∷ xs) zero = refl
names-alone f (x ∷ xs) (suc k) = names-alone f xs k

in-front : (names more : List (List ℕ)) (k : ℕ) → k < length names → of_element [] (λ n. n) (names ++ more) k ≡ of_element [] (λ n. n) names k
in-front [] more k h = absurd (omega arith)
in-front (n ∷ names) more zero h = refl
in-front (n ∷ names) more (suc k) h = in-front names more k (omega arith)

-- where the names of one list stand in front of those of the other
same-names : {A : Type 0} (f : A → List ℕ) (xs ys : List A) (more : List (List ℕ)) → map f ys ≡ map f xs ++ more → (k : ℕ) → k < length xs → of_element [] f ys k ≡ of_element [] f xs k
same-names f xs ys more e k h =
    names-alone f ys k
    ∙ ap (λ names. of_element [] (λ n. n) names k) e
    ∙ in-front (map f xs) more k (subst (λ n. k < n) (sym (length-map xs f)) h)
    ∙ sym (names-alone f xs k)

abbrev row_names_in : Program → List (List ℕ)
row_names_in P = map (λ (r : Row). r.name) P.rows

abbrev col_names_in : Program → List (List ℕ)
col_names_in P = map (λ (c : Col). c.name) P.cols

has-names : (P W : Program) (rows cols : List (List ℕ)) → row_names_in W ≡ row_names_in P ++ rows → col_names_in W ≡ col_names_in P ++ cols → HasNamesOf P W
has-names P W rows cols r c = record {
  rows = λ k h. same-names (λ (r : Row). r.name) P.rows W.rows rows r k h;
  columns = λ k h. same-names (λ (c : Col). c.name) P.cols W.cols cols c k h;
}

-- ---- what changes of columns leaves their names

names-kept : (f : Col → Col) → ((c : Col) → (f c).name ≡ c.name) → (cols : List Col) → map (λ (c : Col). c.name) (map f cols) ≡ map (λ (c : Col). c.name) cols
names-kept f same [] = refl
names-kept f same (c ∷ cols) = (λ i. same c i ∷ names-kept f same cols i)

one-more : (rows : List Row) (r : Row) → map (λ (r : Row). r.name) (rows ++ r ∷ []) ≡ map (λ (r : Row). r.name) rows ++ r.name ∷ []
one-more rows r = map-append (λ (r : Row). r.name) rows (r ∷ [])

two-more : (rows : List Row) (a b : Row) → map (λ (r : Row). r.name) ((rows ++ a ∷ []) ++ b ∷ []) ≡ map (λ (r : Row). r.name) rows ++ (a.name ∷ b.name ∷ [])
two-more rows a b =
    one-more (rows ++ a ∷ []) b
    ∙ ap (λ names. names ++ b.name ∷ []) (one-more rows a)
    ∙ append_assoc (map (λ (r : Row). r.name) rows) (a.name ∷ []) (b.name ∷ [])

-- ---- the widest inner model

abbrev row_at_most : List ℕ → ℚ → Row
row_at_most name hi = record { name = name; lo = None; hi = Some hi }

abbrev widest : Program → Program
widest N = gap_model N (pos 0) (pos 0) (pos 0) (pos 0)

widest-rows : (N : Program) → row_names_in (widest N) ≡ row_names_in N ++ (g1_name N ∷ g2_name N ∷ [])
widest-rows N = two-more N.rows (row_at_most (g1_name N) (int (pos 0 *ℤ pos 0))) (row_at_most (g2_name N) (int (pos 0 *ℤ pos 0)))

-- the columns of a gap's model, whatever its numbers
gap-cols : (N : Program) (a b i1 i2 : ℤ) → col_names_in (gap_model N a b i1 i2) ≡ col_names_in N ++ z_name N ∷ []
gap-cols N a b i1 i2 =
    names-kept _ (λ c. refl) (gap_half N a b i1).cols
    ∙ names-kept _ (λ c. refl) (gap_start N (a *ℤ b)).cols
    ∙ map-append (λ (c : Col). c.name) (with_objective (λ c. int (pos 0)) N).cols _
    ∙ ap (λ names. names ++ z_name N ∷ []) (names-kept _ (λ c. refl) N.cols)

-- ---- each part

-- one row more than the model itself has, and no column
one-row : (N P : Program) → row_names_in P ≡ row_names_in N ++ g1_name N ∷ [] → col_names_in P ≡ col_names_in N → HasNamesOf P (widest N)
one-row N P rows cols =
    has-names P (widest N) (g2_name N ∷ []) (z_name N ∷ [])
    (widest-rows N ∙ sym (append_assoc (row_names_in N) (g1_name N ∷ []) (g2_name N ∷ [])) ∙ ap (λ names. names ++ g2_name N ∷ []) (sym rows))
    (gap-cols N (pos 0) (pos 0) (pos 0) (pos 0) ∙ ap (λ names. names ++ z_name N ∷ []) (sym cols))

part-names : (N : Program) (i1 i2 : ℤ) (part : Part) → HasNamesOf (part_model N i1 i2 part) (widest N)
part-names N i1 i2 Least1 = has-names N (widest N) (g1_name N ∷ g2_name N ∷ []) (z_name N ∷ []) (widest-rows N) (gap-cols N (pos 0) (pos 0) (pos 0) (pos 0))
part-names N i1 i2 Least2 =
    has-names (least2_model N) (widest N) (g1_name N ∷ g2_name N ∷ []) (z_name N ∷ []) (widest-rows N)
    (gap-cols N (pos 0) (pos 0) (pos 0) (pos 0) ∙ ap (λ names. names ++ z_name N ∷ []) (sym (names-kept _ (λ c. refl) N.cols)))
part-names N i1 i2 Left = one-row N (left_model N i1) (one-more N.rows (row_at_most (g1_name N) (int i1))) (names-kept _ (λ c. refl) (least2_model N).cols ∙ names-kept _ (λ c. refl) N.cols)
part-names N i1 i2 Right = one-row N (right_model N i2) (one-more N.rows (row_at_most (g1_name N) (int i2))) (names-kept _ (λ c. refl) N.cols)
part-names N i1 i2 (Gap p q) =
    let a = p.f2 -ℤ i2 in
    let b = q.f1 -ℤ i1 in
    has-names (gap_model N a b i1 i2) (widest N) [] []
    (widest-rows N ∙ sym (two-more N.rows (row_at_most (g1_name N) (int (a *ℤ i1))) (row_at_most (g2_name N) (int (b *ℤ i2)))) ∙ sym (append-nil (row_names_in (gap_model N a b i1 i2))))
    (gap-cols N (pos 0) (pos 0) (pos 0) (pos 0) ∙ sym (gap-cols N a b i1 i2) ∙ sym (append-nil (col_names_in (gap_model N a b i1 i2))))
part-names N i1 i2 (Pull r) =
    has-names (pull_model N r.f1 r.f2) (widest N) [] (z_name N ∷ [])
    (widest-rows N ∙ sym (two-more N.rows (row_at_most (g1_name N) (int r.f1)) (row_at_most (g2_name N) (int r.f2))) ∙ sym (append-nil (row_names_in (pull_model N r.f1 r.f2))))
    (gap-cols N (pos 0) (pos 0) (pos 0) (pos 0)
    ∙ ap (λ names. names ++ z_name N ∷ []) (sym (names-kept _ (λ c. refl) (pull_half N r.f1).cols ∙ names-kept _ (λ c. refl) (with_objective (λ c. c.cost +ℚ c.cost2) N).cols ∙ names-kept _ (λ c. refl) N.cols)))

pub names-told : PartNamesLaw
names-told M i1 i2 part = part-names (bare_model M) i1 i2 part
