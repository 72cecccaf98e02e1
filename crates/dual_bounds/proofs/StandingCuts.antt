-- A cut counts at a model with other numbers exactly where it counts at its own, where these leave what it is derived from.
-- Idea: of a model a derivation reads the limit of its row's side, and of each column its bounds, whether it is integer and its
-- coefficient in that row.
use Rattle.std.specs.Prelude.{◌≡◌, ℕ, suc, ◌<◌, false, IsTrue, IsSome, List, [], ◌∷◌, length, pos, None}
use Rattle.std.proofs.Common.{refl, sym, subst, ◌∙◌, arith}
use Rattle.frac128.specs.Rational.{ℚ, int, ◌*ℚ◌, ◌<ℚ◌}
use Rattle.frac128.specs.Sums.{sum_below}
use Rattle.checked_sum.specs.Steps.{AllFit}
use Rattle.lp_model.specs.Elements.{of_element}
use Rattle.lp_model.specs.Program.{Program, is_integer, lower, upper, low_side, high_side, entry_of, coefficient}
use Rattle.lp_model.specs.Sides.{needed_side, side_number}
use Rattle.lp_model.specs.declared.types.Col.{Col}
use Rattle.lp_model.specs.declared.types.CutRow.{CutRow}
use Rattle.lp_model.specs.declared.types.Derivation.{Derivation}
use Rattle.lp_model.specs.declared.types.Literal.{Literal}
use Rattle.cover_cuts.specs.Covers.{signed_by_side, signed_side, side_limit, IsBinary, AreLiterals, literal_number, number_else, least_number}
use Rattle.cover_cuts.specs.Answers.{DerivesWithRoom}
use Rattle.cover_cuts.specs.Cuts.{IsCutOf}
use Rattle.dual_bounds.specs.NewNumbers.{col_index, with_cost, with_new_costs, with_new_numbers}
use Rattle.dual_bounds.specs.declared.new_numbers.OtherNumbers.{OtherNumbers}
use Rattle.dual_bounds.specs.declared.new_numbers.OtherNumbers.TheVariants.{Sides, Costs}
use Rattle.dual_bounds.specs.private.Spared.{LeavesDerivation}
use Rattle.dual_bounds.proofs.ChangedLists.{length-changed_all, of_element-changed_all}

-- what a derivation reads of two models is the same
record ReadsAlike (M N : Program) (d : Derivation) : Type 0 where
  pub count : length M.cols ≡ length N.cols
  pub integer : (j : ℕ) → is_integer M j ≡ is_integer N j
  pub low : (j : ℕ) → lower M j ≡ lower N j
  pub up : (j : ℕ) → upper M j ≡ upper N j
  pub entry : (j : ℕ) → coefficient M d.row.0 j ≡ coefficient N d.row.0 j
  pub low_limit : low_side M d.row.0 ≡ low_side N d.row.0
  pub high_limit : high_side M d.row.0 ≡ high_side N d.row.0

reads-back : (M N : Program) (d : Derivation) → ReadsAlike M N d → ReadsAlike N M d
reads-back M N d s = record {
  count = sym s.count;
  integer = λ j. sym (s.integer j);
  low = λ j. sym (s.low j);
  up = λ j. sym (s.up j);
  entry = λ j. sym (s.entry j);
  low_limit = sym s.low_limit;
  high_limit = sym s.high_limit;
}

module _ (M N : Program) (d : Derivation) (s : ReadsAlike M N d) where
  literals-alike : (from : ℕ) (ls : List Literal) → AreLiterals M from ls → AreLiterals N from ls
  literals-alike from [] h = tt
  literals-alike from (l ∷ ls) h =
      let j = l.col.0 in
      let binary : IsBinary N j = record { integer = subst IsTrue (s.integer j) h.1.integer; low = sym (s.low j) ∙ h.1.low; high = sym (s.up j) ∙ h.1.high } in
      (h.0, binary, literals-alike (suc j) ls h.2)

  limit-alike : side_limit M d.row.0 d.side ≡ side_limit N d.row.0 d.side
  limit-alike = λ t. signed_side d.side (s.low_limit t) (s.high_limit t)

  least-alike : (j : ℕ) → least_number M d j ≡ least_number N d j
  least-alike j = λ t. number_else (literal_number d.literals j) (needed_side (signed_by_side d.side (s.entry j t)) (s.low j t) (s.up j t))

  derives-alike : DerivesWithRoom M d → DerivesWithRoom N d
  derives-alike h = record {
    derives = record {
      posed = record {
        some = h.derives.posed.some;
        literals = literals-alike 0 d.literals h.derives.posed.literals;
        side = subst IsSome limit-alike h.derives.posed.side;
        bounds = λ j below. let n = s.count in let within : j < length M.cols = omega (arith, n, below) in subst IsSome (least-alike j) (h.derives.posed.bounds j within);
      };
      fails = subst (λ P. P) (λ t. side_number (limit-alike t) <ℚ sum_below (s.count t) (λ j. side_number (least-alike j t) *ℚ signed_by_side d.side (s.entry j t))) h.derives.fails;
    };
    fits = subst (λ P. P) (λ t. AllFit (int (pos 0)) (λ j. side_number (least-alike j t)) (λ j. signed_by_side d.side (s.entry j t)) (s.count t)) h.fits;
  }

reads-given : (M : Program) (given : OtherNumbers) (d : Derivation) → LeavesDerivation given M (with_new_numbers M given) d → ReadsAlike M (with_new_numbers M given) d
reads-given M (Sides sides) d same = record { count = refl; integer = λ j. refl; low = λ j. refl; up = λ j. refl; entry = λ j. refl; low_limit = same.low; high_limit = same.high }
reads-given M (Costs costs) d same = record {
  count = sym (length-changed_all col_index with_cost costs M.cols);
  integer = at false (λ (c : Col). c.int) (λ v c. refl);
  low = at None (λ (c : Col). c.lo) (λ v c. refl);
  up = at None (λ (c : Col). c.up) (λ v c. refl);
  entry = at (int (pos 0)) (λ (c : Col). entry_of d.row.0 c.rows) (λ v c. refl);
  low_limit = refl;
  high_limit = refl;
}
  where
    at : {B : Type 0} (z : B) (g : Col → B) → ((v : ℚ) (c : Col) → g (with_cost v c) ≡ g c) → (j : ℕ) → of_element z g M.cols j ≡ of_element z g (with_new_costs M costs).cols j
    at z g kept j = sym (of_element-changed_all col_index with_cost z g kept costs M.cols j)

-- a cut like one of a model, which counts as it does, is one of the other model
pub cut-stands : (M N : Program) (given : OtherNumbers) (c k : CutRow) → N ≡ with_new_numbers M given → LeavesDerivation given M N c.from → k.from ≡ c.from → k.terms ≡ c.terms → k.hi ≡ c.hi → k.live ≡ c.live → IsCutOf M c → IsCutOf N k
cut-stands M N given c k made left from terms high live h =
    let like : k ≡ c = (λ i. record { from = from i; terms = terms i; hi = high i; live = live i }) in
    let reads = reads-given M given c.from (subst (λ (P : Program). LeavesDerivation given M P c.from) made left) in
    subst (λ P. P) (λ i. IsCutOf (sym made i) (sym like i)) (record {
      row = h.row;
      live = (
        (λ t. derives-alike M (with_new_numbers M given) c.from reads (h.live.0 t)),
        (λ r. h.live.1 (derives-alike (with_new_numbers M given) M c.from (reads-back M (with_new_numbers M given) c.from reads) r)),
      );
    })
