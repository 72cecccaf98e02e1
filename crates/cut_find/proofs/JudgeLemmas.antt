-- What `valid` answers of a list of candidates, by its sum over the denominator; and sides whose covers never derive.
use Rattle.std.specs.Prelude.{◌≡◌, ◌≢◌, ℕ, ◌<◌, Bool, true, false, ℤ, pos, ◌<ℤ◌, List, [], ◌∷◌, ◌++◌, length, IsSome, is_some, Option, Some, None, Ok}
use Rattle.std.specs.declared.cmp.Ordering.{Ordering}
use Rattle.std.specs.declared.cmp.Ordering.TheVariants.{Less, Equal, Greater}
use Rattle.std.proofs.Common.{refl, sym, ap, subst, ◌∙◌, inl, inr, arith}
use Rattle.std.proofs.lemmas.List.Elements.{All-nil, All-head, All-tail, All-push}
use mathlib.Core.Path.{subst₂}
use Rattle.frac128.specs.Rational.{ℚ, int, ◌<ℚ◌, rational_cmp}
use Rattle.frac128.specs.RationalRing.{zero-+ℚ}
use Rattle.frac128.specs.LowestTerms.{quotient_of}
use Rattle.lp_model.specs.Program.{Program, Point, lower, upper}
use Rattle.lp_model.specs.Sides.{side_by, needed_side, side_number}
use Rattle.lp_model.specs.declared.types.Side.{Side}
use Rattle.lp_model.specs.declared.types.Literal.{Literal}
use Rattle.lp_model.specs.declared.types.Derivation.{Derivation}
use Rattle.cover_cuts.specs.Covers.{side_coefficient, side_limit, least_number, IsPosed, Fails}
use Rattle.cover_cuts.specs.Answers.{IsValidAnswer}
use Rattle.whole_sums.specs.Wholes.{IsShort, IsDenominator}
use Rattle.cut_find.specs.declared.whole_side.Sums.{Sums}
use Rattle.cut_find.specs.declared.whole_side.WholeSide.{WholeSide}
use Rattle.cut_find.specs.Greedy.{is_in, literals_below, cover_of, TakesGreedily}
use Rattle.cut_find.specs.WholeSides.{IsCandidateColumn, AreCandidateColumns, IsFoundInOrder, cover_sum, IsWholeSide}
use Rattle.cut_find.specs.private.WholeSides.{IsNeverCovered, AreSumsTo}
use Rattle.cut_find.proofs.CoverLemmas.{in_all, nothing_below, least_some, least_out, literals_lawful}
use Rattle.cut_find.proofs.SumLemmas.{quotient-less, quotient-not_less}

pub none_there : (o : Option ℚ) → is_some o ≡ false → o ≡ None
none_there None e = refl
none_there (Some v) e = let f : true ≡ false = e in cc

module _ (M : Program) (i : ℕ) (s : Side) where
  -- ---- from the sums

  module _ (d limit : ℤ) (sums : Sums) (is : IsDenominator d) (short : IsShort limit) (limit_is : side_limit M i s ≡ Some (quotient_of limit d)) (all : AreSumsTo M i s d (length M.cols) sums) (met : ¬ (limit <ℤ sums.base)) where
    base_is : cover_sum M i s [] ≡ quotient_of sums.base d
    base_is = sym (all.base ∙ zero-+ℚ (cover_sum M i s []))

    pub whole_of_sums : IsWholeSide M i s (record { denominator = d; limit = limit; base = sums.base })
    whole_of_sums = record {
      denominator = is;
      short = short;
      limit = limit_is;
      bounds = all.bounds;
      fits = λ js. (all.all js).fits;
      room = let w = all.base_within in let r = all.room in omega (arith, w, r);
      base = base_is;
      met = λ h. quotient-not_less limit sums.base d met (subst₂ (λ a b. a <ℚ b) (ap side_number limit_is) base_is h);
    }

  -- ---- by the sum

  module _ (side : WholeSide) (whole : IsWholeSide M i s side) (js : List ℕ) (cand : AreCandidateColumns M i s js) (total : ℤ) (sum : cover_sum M i s js ≡ quotient_of total side.denominator) where
    abbrev d : ℤ
    d = side.denominator

    abbrev lits : List Literal
    lits = literals_below M i s (length M.cols) js

    abbrev cover : List Literal → Derivation
    cover ls = record { row = record { 0 = i }; side = s; literals = ls }

    posed : 0 < length lits → IsPosed M (cover_of M i s js)
    posed some = record {
      some = some;
      literals = literals_lawful M i s js cand;
      side = subst IsSome (sym whole.limit) refl;
      bounds = λ j below. least_some M i s js j (whole.bounds j below);
    }

    fails_is : (quotient_of side.limit d <ℚ quotient_of total d) ≡ Fails M (cover_of M i s js)
    fails_is = λ t. side_number (sym whole.limit t) <ℚ sym sum t

    fails : side.limit <ℤ total → Fails M (cover_of M i s js)
    fails less = subst (λ P. P) fails_is (quotient-less side.limit total d less)

    fails_not : ¬ (side.limit <ℤ total) → ¬ Fails M (cover_of M i s js)
    fails_not met h = quotient-not_less side.limit total d met (subst (λ P. P) (sym fails_is) h)

    empty_met : lits ≡ [] → ¬ Fails M (cover_of M i s js)
    empty_met e = subst (λ ls. ¬ Fails M (cover ls)) (nothing_below M i s (length M.cols) ∙ sym e) whole.met

    pub judged_true : side.limit <ℤ total → IsValidAnswer M (cover_of M i s js) (Ok true)
    judged_true less = by lits refl
      where
        by : (ls : List Literal) → lits ≡ ls → IsValidAnswer M (cover_of M i s js) (Ok true)
        by [] e = absurd (empty_met e (fails less))
        by (l ∷ ls) e = let some : 0 < length lits = subst (λ k. 0 < length k) (sym e) (omega arith) in record { derives = record { posed = posed some; fails = fails less }; fits = whole.fits js }

    pub judged_false : ¬ (side.limit <ℤ total) → IsValidAnswer M (cover_of M i s js) (Ok false)
    judged_false met = by lits refl
      where
        by : (ls : List Literal) → lits ≡ ls → IsValidAnswer M (cover_of M i s js) (Ok false)
        by [] e = inl (λ p. let some = p.some in let none : length lits ≡ 0 = ap length e in omega (arith, some, none))
        by (l ∷ ls) e = let some : 0 < length lits = subst (λ k. 0 < length k) (sym e) (omega arith) in inr (posed some, whole.fits js, fails_not met)

  -- ---- never

  pub never_side : side_limit M i s ≡ None → IsNeverCovered M i s
  never_side none js cand = inl (λ p. let h : IsSome {T = ℚ} None = subst (IsSome {T = ℚ}) none p.side in let f : false ≡ true = h in cc)

  needed_binary : (y : ℚ) (lo up : Option ℚ) → lo ≡ Some (int (pos 0)) → up ≡ Some (int (pos 1)) → needed_side y lo up ≢ None
  needed_binary y lo up low high = by (rational_cmp (int (pos 0)) y)
    where
      by : (r : Ordering) → side_by r lo up ≢ None
      by Less e = let f : Some (int (pos 0)) ≡ None = sym low ∙ e in cc
      by Equal e = let f : Some (int (pos 0)) ≡ None = e in cc
      by Greater e = let f : Some (int (pos 1)) ≡ None = sym high ∙ e in cc

  pub never_bound : (j : ℕ) → j < length M.cols → needed_side (side_coefficient M i s j) (lower M j) (upper M j) ≡ None → IsNeverCovered M i s
  never_bound j within none js cand = inl (λ p. by (is_in js j) refl (p.bounds j within))
    where
      by : (b : Bool) → is_in js j ≡ b → ¬ IsSome {T = ℚ} (least_number M (cover_of M i s js) j)
      by true here some = let binary = (in_all (IsCandidateColumn M i s) js j cand here).candidate.binary in needed_binary (side_coefficient M i s j) (lower M j) (upper M j) binary.low binary.high none
      by false out some = let h : IsSome {T = ℚ} None = subst (IsSome {T = ℚ}) (least_out M i s js j out ∙ none) some in let f : false ≡ true = h in cc

  takes_never : IsNeverCovered M i s → (taken order : List ℕ) → AreCandidateColumns M i s taken → AreCandidateColumns M i s order → TakesGreedily M i s taken order None
  takes_never never taken [] cand all = (Ok false, (never taken cand, refl))
  takes_never never taken (j ∷ js) cand all =
      (Ok false, (never taken cand, takes_never never (taken ++ j ∷ []) js (All-push (IsCandidateColumn M i s) taken j cand (All-head (IsCandidateColumn M i s) j js all)) (All-tail (IsCandidateColumn M i s) j js all)))

  pub found_never : IsNeverCovered M i s → (x : Point) (order : List ℕ) → AreCandidateColumns M i s order → IsFoundInOrder M i s x order None
  found_never never x order all = (None, (takes_never never [] order (All-nil (IsCandidateColumn M i s)) all, refl))
