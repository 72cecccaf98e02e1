-- An edit of costs turns no cut: whether a derivation derives does not hang on costs. So each list of multipliers leaves what such
-- an edit touches.
use Rattle.std.specs.Prelude.{◌≡◌, ℕ, zero, suc, Bool, true, false, IsTrue, if◌then◌else◌, not, List, [], ◌∷◌, length, map, pos, None, IsSome}
use Rattle.std.proofs.Common.{refl, sym, ap, subst, ◌∙◌, arith}
use Rattle.std.proofs.Math.Path.{fun_ext}
use Rattle.frac128.specs.Rational.{ℚ, int, ◌*ℚ◌, ◌<ℚ◌}
use Rattle.frac128.specs.Sums.{sum_below}
use Rattle.checked_sum.specs.Steps.{AllFit}
use Rattle.lp_model.specs.Cuts.{is_live}
use Rattle.lp_model.specs.Sides.{needed_side, side_number}
use Rattle.lp_model.specs.Elements.{changed_at}
use Rattle.lp_model.specs.Program.{Program, is_integer, lower, upper, coefficient, entry_of}
use Rattle.lp_model.specs.Edits.{col_place, edited}
use Rattle.lp_model.specs.declared.types.Col.{Col}
use Rattle.lp_model.specs.declared.types.CutRow.{CutRow}
use Rattle.lp_model.specs.declared.types.Derivation.{Derivation}
use Rattle.lp_model.specs.declared.types.Edit.TheVariants.{SetCost, SetCost2}
use Rattle.lp_model.specs.declared.types.Literal.{Literal}
use Rattle.lp_model.specs.declared.types.Var.{Var}
use Rattle.lp_model.specs.declared.types.Var.TheVariants.{Col as ColOf, Row as RowOf, Cut as CutOf}
use Rattle.lp_model.proofs.ChangedLaws.{length-changed_at, of_element-changed_at}
use Rattle.cover_cuts.specs.Answers.{DerivesWithRoom}
use Rattle.cover_cuts.specs.Covers.{signed_by_side, side_coefficient, side_limit, literal_number, number_else, least_number, contribution_number, AreLiterals}
use Rattle.cover_cuts.specs.Cuts.{IsCutOf, IsPoolOf}
use Rattle.leaf_dual.specs.Dual.{Multipliers}
use Rattle.spared_leaves.specs.declared.touched.Touched.{Touched}
use Rattle.spared_leaves.specs.Touched.{leaves_row, leaves_cut, leaves_variable, leaves_list}

-- ---- derivations

-- two models that are alike but for their costs
record AreAlikeInColumns (M N : Program) : Type 0 where
  count : length M.cols ≡ length N.cols
  integer : (j : ℕ) → is_integer M j ≡ is_integer N j
  low : (j : ℕ) → lower M j ≡ lower N j
  high : (j : ℕ) → upper M j ≡ upper N j
  entry : (i j : ℕ) → coefficient M i j ≡ coefficient N i j
  rows : M.rows ≡ N.rows

module _ (M N : Program) (h : AreAlikeInColumns M N) (d : Derivation) where
  limit-same : side_limit M d.row.0 d.side ≡ side_limit N d.row.0 d.side
  limit-same = λ t. side_limit (record M { rows = h.rows t }) d.row.0 d.side

  number-alike : (j : ℕ) → least_number M d j ≡ least_number N d j
  number-alike j = λ t. number_else (literal_number d.literals j) (needed_side (signed_by_side d.side (h.entry d.row.0 j t)) (h.low j t) (h.high j t))

  contributions-same : contribution_number M d ≡ contribution_number N d
  contributions-same = fun_ext (λ j. ap side_number (number-alike j))

  coefficients-same : side_coefficient M d.row.0 d.side ≡ side_coefficient N d.row.0 d.side
  coefficients-same = fun_ext (λ j. ap (signed_by_side d.side) (h.entry d.row.0 j))

  literals-so : (from : ℕ) (ls : List Literal) → AreLiterals M from ls → AreLiterals N from ls
  literals-so from [] is = tt
  literals-so from (l ∷ ls) is = (
    is.0,
    record {
      integer = subst IsTrue (h.integer l.col.0) is.1.integer;
      low = sym (h.low l.col.0) ∙ is.1.low;
      high = sym (h.high l.col.0) ∙ is.1.high;
    },
    literals-so (suc l.col.0) ls is.2,
  )

  derives-so : DerivesWithRoom M d → DerivesWithRoom N d
  derives-so is = record {
    derives = record {
      posed = record {
        some = is.derives.posed.some;
        literals = literals-so 0 d.literals is.derives.posed.literals;
        side = subst IsSome limit-same is.derives.posed.side;
        bounds = λ j below. subst IsSome (number-alike j) (is.derives.posed.bounds j (omega (arith, below, h.count)));
      };
      fails = subst (λ P. P) (λ t. side_number (limit-same t) <ℚ sum_below (h.count t) (λ j. contributions-same t j *ℚ coefficients-same t j)) is.derives.fails;
    };
    fits = subst (λ P. P) (λ t. AllFit (int (pos 0)) (contributions-same t) (coefficients-same t) (h.count t)) is.fits;
  }

alike-back : (M N : Program) → AreAlikeInColumns M N → AreAlikeInColumns N M
alike-back M N h = record {
  count = sym h.count;
  integer = λ j. sym (h.integer j);
  low = λ j. sym (h.low j);
  high = λ j. sym (h.high j);
  entry = λ i j. sym (h.entry i j);
  rows = sym h.rows;
}

-- a change of costs of one column
changed-alike : (M : Program) (k : ℕ) (f : Col → Col) → ((c : Col) → (f c).lo ≡ c.lo) → ((c : Col) → (f c).up ≡ c.up) → ((c : Col) → (f c).int ≡ c.int) → ((c : Col) → (f c).rows ≡ c.rows)
    → AreAlikeInColumns M (record M { cols = changed_at f M.cols k })
changed-alike M k f low up integer rows = record {
  count = sym (length-changed_at f M.cols k);
  integer = λ j. sym (of_element-changed_at f false (λ c. c.int) integer M.cols k j);
  low = λ j. sym (of_element-changed_at f None (λ c. c.lo) low M.cols k j);
  high = λ j. sym (of_element-changed_at f None (λ c. c.up) up M.cols k j);
  entry = λ i j. sym (of_element-changed_at f (int (pos 0)) (λ c. entry_of i c.rows) (λ c. ap (entry_of i) (rows c)) M.cols k j);
  rows = refl;
}

cost-alike : (M : Program) (col : List ℕ) (v : ℚ) → AreAlikeInColumns M (edited M (SetCost col v))
cost-alike M col v = changed-alike M (col_place M col) (λ c. record c { cost = v }) (λ c. refl) (λ c. refl) (λ c. refl) (λ c. refl)

second-alike : (M : Program) (col : List ℕ) (v : ℚ) → AreAlikeInColumns M (edited M (SetCost2 col v))
second-alike M col v = changed-alike M (col_place M col) (λ c. record c { cost2 = v }) (λ c. refl) (λ c. refl) (λ c. refl) (λ c. refl)

-- ---- cuts

same-truth : (a b : Bool) → (IsTrue a → IsTrue b) → (IsTrue b → IsTrue a) → a ≡ b
same-truth true true f g = refl
same-truth true false f g = sym (f refl)
same-truth false true f g = g refl
same-truth false false f g = refl

module _ (M N : Program) (h : AreAlikeInColumns M N) where
  live-same : (c e : CutRow) → c.from ≡ e.from → IsCutOf M c → IsCutOf N e → c.live ≡ e.live
  live-same c e same is other =
      same-truth c.live e.live
      (λ live. other.live.1 (subst (DerivesWithRoom N) same (derives-so M N h c.from (is.live.0 live))))
      (λ live. is.live.1 (derives-so N M (alike-back M N h) c.from (subst (DerivesWithRoom N) (sym same) (other.live.0 live))))

  lives-same : (cuts others : List CutRow) → IsPoolOf M cuts → IsPoolOf N others → map (λ (c : CutRow). c.from) cuts ≡ map (λ (c : CutRow). c.from) others → (k : ℕ) → is_live cuts k ≡ is_live others k
  lives-same [] [] pool after same k = refl
  lives-same [] (e ∷ others) pool after same k = cc
  lives-same (c ∷ cuts) [] pool after same k = cc
  lives-same (c ∷ cuts) (e ∷ others) pool after same zero = let one : c.from ≡ e.from = cc in live-same c e one (pool 0 c (omega arith)) (after 0 e (omega arith))
  lives-same (c ∷ cuts) (e ∷ others) pool after same (suc k) =
      let rest : map (λ (d : CutRow). d.from) cuts ≡ map (λ (d : CutRow). d.from) others = cc in
      lives-same cuts others (λ i d below. pool (suc i) d (omega (arith, below))) (λ i d below. after (suc i) d (omega (arith, below))) rest k

-- ---- lists

pub cut-left : (cuts others : List CutRow) (k : ℕ) → is_live cuts k ≡ is_live others k → leaves_cut cuts others k ≡ true
cut-left cuts others k same = by (is_live cuts k) (is_live others k) same
  where
    by : (a b : Bool) → a ≡ b → (if a then b else not b) ≡ true
    by true true e = refl
    by true false e = sym e
    by false true e = e
    by false false e = refl

-- where no row is touched and no cut turns
pub list-left : (t : Touched) (cuts others : List CutRow) → ((i : ℕ) → leaves_row t i ≡ true) → ((k : ℕ) → is_live cuts k ≡ is_live others k) → (mult : Multipliers) → leaves_list t cuts others mult ≡ true
list-left t cuts others rows lives [] = refl
list-left t cuts others rows lives (m ∷ mult) = rw (left m.0) (list-left t cuts others rows lives mult)
  where
    left : (v : Var) → leaves_variable t cuts others v ≡ true
    left (ColOf col) = refl
    left (RowOf row) = rows row.0
    left (CutOf cut) = cut-left cuts others cut.0 (lives cut.0)

-- an edit of a cost, and one of a second cost
pub cost-lives : (M : Program) (col : List ℕ) (v : ℚ) (cuts others : List CutRow) → IsPoolOf M cuts → IsPoolOf (edited M (SetCost col v)) others → map (λ (c : CutRow). c.from) cuts ≡ map (λ (c : CutRow). c.from) others → (k : ℕ) → is_live cuts k ≡ is_live others k
cost-lives M col v cuts others pool after same = lives-same M (edited M (SetCost col v)) (cost-alike M col v) cuts others pool after same

pub second-lives : (M : Program) (col : List ℕ) (v : ℚ) (cuts others : List CutRow) → IsPoolOf M cuts → IsPoolOf (edited M (SetCost2 col v)) others → map (λ (c : CutRow). c.from) cuts ≡ map (λ (c : CutRow). c.from) others → (k : ℕ) → is_live cuts k ≡ is_live others k
second-lives M col v cuts others pool after same = lives-same M (edited M (SetCost2 col v)) (second-alike M col v) cuts others pool after same
