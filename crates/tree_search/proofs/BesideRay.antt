-- What the model without costs says of the search's own: which derivations derive, and what a result needs so that it is placed.
use Rattle.std.specs.Prelude.{◌≡◌, ℕ, suc, ◌<◌, List, [], ◌∷◌, pos, Option, None, IsSome}
use Rattle.std.proofs.Common.{sym, ap, subst, ◌∙◌, inl, inr}
use Rattle.std.proofs.lemmas.List.Elements.{All-weaker}
use Rattle.frac128.specs.Rational.{ℚ, int, ◌*ℚ◌, ◌<ℚ◌}
use Rattle.frac128.specs.Sums.{sum_below}
use Rattle.checked_sum.specs.Steps.{AllFit}
use Rattle.lp_model.specs.Program.{Program}
use Rattle.lp_model.specs.Regions.{Path}
use Rattle.lp_model.specs.Sides.{needed_side, side_number}
use Rattle.lp_model.specs.Formulations.{formulation}
use Rattle.lp_model.specs.declared.types.CutRow.{CutRow}
use Rattle.lp_model.specs.declared.types.Derivation.{Derivation}
use Rattle.lp_model.specs.declared.types.Literal.{Literal}
use Rattle.lp_model.specs.declared.types.Side.{Side}
use Rattle.model_points.specs.Rays.{without_costs}
use Rattle.model_points.proofs.SamePointsLemmas.{same_points}
use Rattle.cover_cuts.specs.Covers.{signed_by_side, side_coefficient, side_limit, IsBinary, AreLiterals, literal_number, number_else, least_number, IsPosed, Fails}
use Rattle.cover_cuts.specs.Answers.{CoverSumFits, DerivesWithRoom}
use Rattle.cover_cuts.specs.Cuts.{IsCutOf, IsPoolOf}
use Rattle.leaf_dual.specs.Dual.{Multipliers}
use Rattle.branch_tree.specs.declared.node.NodeResult.{NodeResult}
use Rattle.branch_tree.specs.declared.node.NodeResult.TheVariants.{Close, Split, PointAndClose, Keep}
use Rattle.leaf_judging.specs.declared.closing.LeafNumber.TheVariants.{Lag}
use Rattle.leaf_judging.specs.Closing.{NumberCloses}
use Rattle.node_solve.proofs.TakenLemmas.{CanClose, IsPlaceable}
use Rattle.tree_search.specs.Steps.{IsPlacedBy}
use Rattle.tree_search.specs.declared.searching.Ways.TheVariants.{Rays}
use Rattle.tree_search.proofs.SameLemmas.{multipliers-same, basis-same, allowed-same, refuted-same}

-- ---- derivations

module _ (M : Program) where
  side-same : (i : ℕ) (s : Side) (j : ℕ) → side_coefficient (without_costs M) i s j ≡ side_coefficient M i s j
  side-same i s j = ap (signed_by_side s) ((same_points M).coefficients i j)

  number-same : (d : Derivation) (j : ℕ) → least_number (without_costs M) d j ≡ least_number M d j
  number-same d j t = number_else (literal_number d.literals j) (needed_side (side-same d.row.0 d.side j t) ((same_points M).lowers j t) ((same_points M).uppers j t))

  binary-to : (j : ℕ) → IsBinary (without_costs M) j → IsBinary M j
  binary-to j h = record { integer = sym ((same_points M).integers j) ∙ h.integer; low = sym ((same_points M).lowers j) ∙ h.low; high = sym ((same_points M).uppers j) ∙ h.high }

  binary-back : (j : ℕ) → IsBinary M j → IsBinary (without_costs M) j
  binary-back j h = record { integer = (same_points M).integers j ∙ h.integer; low = (same_points M).lowers j ∙ h.low; high = (same_points M).uppers j ∙ h.high }

  literals-to : (from : ℕ) (ls : List Literal) → AreLiterals (without_costs M) from ls → AreLiterals M from ls
  literals-to from [] h = tt
  literals-to from (l ∷ ls) (low, binary, rest) = (low, binary-to l.col.0 binary, literals-to (suc l.col.0) ls rest)

  literals-back : (from : ℕ) (ls : List Literal) → AreLiterals M from ls → AreLiterals (without_costs M) from ls
  literals-back from [] h = tt
  literals-back from (l ∷ ls) (low, binary, rest) = (low, binary-back l.col.0 binary, literals-back (suc l.col.0) ls rest)

  posed-to : (d : Derivation) → IsPosed (without_costs M) d → IsPosed M d
  posed-to d h = record {
    some = h.some;
    literals = literals-to 0 d.literals h.literals;
    side = h.side;
    bounds = λ j below. subst IsSome (number-same d j) (h.bounds j (subst (λ n. j < n) (sym (same_points M).count) below));
  }

  posed-back : (d : Derivation) → IsPosed M d → IsPosed (without_costs M) d
  posed-back d h = record {
    some = h.some;
    literals = literals-back 0 d.literals h.literals;
    side = h.side;
    bounds = λ j below. subst IsSome (sym (number-same d j)) (h.bounds j (subst (λ n. j < n) (same_points M).count below));
  }

  fails-same : (d : Derivation) → Fails (without_costs M) d ≡ Fails M d
  fails-same d t = side_number (side_limit M d.row.0 d.side) <ℚ sum_below ((same_points M).count t) (λ j. side_number (number-same d j t) *ℚ side-same d.row.0 d.side j t)

  fits-same : (d : Derivation) → CoverSumFits (without_costs M) d ≡ CoverSumFits M d
  fits-same d t = AllFit (int (pos 0)) (λ j. side_number (number-same d j t)) (λ j. side-same d.row.0 d.side j t) ((same_points M).count t)

  derives-to : (d : Derivation) → DerivesWithRoom (without_costs M) d → DerivesWithRoom M d
  derives-to d h = record { derives = record { posed = posed-to d h.derives.posed; fails = subst (λ P. P) (fails-same d) h.derives.fails }; fits = subst (λ P. P) (fits-same d) h.fits }

  derives-back : (d : Derivation) → DerivesWithRoom M d → DerivesWithRoom (without_costs M) d
  derives-back d h = record { derives = record { posed = posed-back d h.derives.posed; fails = subst (λ P. P) (sym (fails-same d)) h.derives.fails }; fits = subst (λ P. P) (sym (fits-same d)) h.fits }

  cut-to : (c : CutRow) → IsCutOf (without_costs M) c → IsCutOf M c
  cut-to c h = record { row = h.row; live = ((λ on. derives-to c.from (h.live.0 on)), (λ d. h.live.1 (derives-back c.from d))) }

  cut-back : (c : CutRow) → IsCutOf M c → IsCutOf (without_costs M) c
  cut-back c h = record { row = h.row; live = ((λ on. derives-back c.from (h.live.0 on)), (λ d. h.live.1 (derives-to c.from d))) }

  pub pool-to : (cuts : List CutRow) → IsPoolOf (without_costs M) cuts → IsPoolOf M cuts
  pool-to cuts h = All-weaker (IsCutOf (without_costs M)) (IsCutOf M) cut-to cuts h

  pub pool-back : (cuts : List CutRow) → IsPoolOf M cuts → IsPoolOf (without_costs M) cuts
  pool-back cuts h = All-weaker (IsCutOf M) (IsCutOf (without_costs M)) cut-back cuts h

-- ---- results, where no point is kept

module _ (M : Program) (pool : List CutRow) (t : Option ℚ) (none : t ≡ None) (path : Path) where
  closes-same : (mult farkas : Multipliers) → CanClose (formulation (without_costs M) pool) t path mult farkas → CanClose (formulation M pool) t path mult farkas
  closes-same mult farkas (inl refuted) = inl (refuted-same M pool path farkas refuted)
  closes-same mult farkas (inr (empty, (v, (answer, closes)))) = absurd (subst (λ o. NumberCloses (without_costs M) o (Lag v)) none closes)

  pub placeable-same : (Y : _) (result : NodeResult) → IsPlacedBy (Rays Y) result → IsPlaceable (formulation (without_costs M) pool) t path result → IsPlaceable (formulation M pool) t path result
  placeable-same Y (Close mult farkas basis) by (lists, closes) = (
    record { mult = multipliers-same M pool mult lists.mult; farkas = multipliers-same M pool farkas lists.farkas; basis = basis-same M pool basis lists.basis },
    closes-same mult farkas closes,
  )
  placeable-same Y (Split col v mult basis) by h = record { allowed = allowed-same M path col.0 v h.allowed; mult_is = multipliers-same M pool mult h.mult_is; basis_is = basis-same M pool basis h.basis_is }
  placeable-same Y (PointAndClose x mult basis) by h = absurd by
  placeable-same Y (Keep point basis) by h = absurd by
