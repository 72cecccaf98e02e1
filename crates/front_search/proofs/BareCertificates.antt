-- The checker accepts a certificate that no point is feasible for a model where it does for the model in least form without constants: neither
-- cuts nor Farkas numbers, nor their steps, ask for costs. N is the model in least form.
use Rattle.std.specs.Prelude.{◌≡◌, ℕ, suc, ◌<◌, true, false, if◌then◌else◌, IsTrue, List, [], ◌∷◌, ◌++◌, map, length, All, Contains, pos, None, IsSome, Ok}
use Rattle.std.specs.Option.{option_map}
use Rattle.std.proofs.Common.{refl, sym, ap, subst, ◌∙◌, inl, inr}
use Rattle.std.proofs.lemmas.List.{length-map}
use Rattle.std.proofs.lemmas.List.Elements.{All-weaker}
use Rattle.frac128.specs.Rational.{ℚ, int, ◌-ℚ◌, ◌*ℚ◌, neg_ℚ, ◌<ℚ◌, floor, ceil}
use Rattle.frac128.specs.Sums.{sum_below}
use Rattle.checked_sum.specs.Steps.{AllFit, StepFitsAt}
use Rattle.lp_model.specs.Program.{Program, lower, upper, is_integer, coefficient, entry_of}
use Rattle.lp_model.specs.Lawful.{column_names}
use Rattle.lp_model.specs.Edits.{place_in}
use Rattle.lp_model.specs.Regions.{Path, low_along, high_along, region_low, region_high, IsCrossed, IsEmptyRegion}
use Rattle.lp_model.specs.Sides.{needed_side, side_number}
use Rattle.lp_model.specs.Formulations.{Formulation, formulation, cut_coefficient}
use Rattle.lp_model.specs.declared.types.Side.{Side}
use Rattle.lp_model.specs.declared.types.Col.{Col}
use Rattle.lp_model.specs.declared.types.CutRow.{CutRow}
use Rattle.lp_model.specs.declared.types.Literal.{Literal}
use Rattle.lp_model.specs.declared.types.Derivation.{Derivation}
use Rattle.cover_cuts.specs.Covers.{signed_by_side, side_coefficient, side_limit, AreLiterals, literal_number, number_else, least_number, Fails, Derives}
use Rattle.cover_cuts.specs.Answers.{CoverSumFits, DerivesWithRoom}
use Rattle.cover_cuts.specs.Cuts.{cover_terms, cover_high}
use Rattle.leaf_dual.specs.Dual.{Multipliers, multiplier, cut_weight, left_by_cuts, column_reduced_cost, column_side, times, plus, total_below, rows_number, cuts_number, farkas, IsPositiveNumber}
use Rattle.leaf_dual.specs.Answers.{cuts_total, RowEntriesFit, CutEntriesFit, EntriesFit, ColumnsFit, LacksSide, IsFarkasAnswer}
use Rattle.leaf_dual.specs.declared.dual.LagValue.{LagValue}
use Rattle.leaf_dual.specs.declared.dual.LagValue.TheVariants.{Minus, Num}
use Rattle.branch_tree.specs.Tree.{left_path, right_path}
use Rattle.cert_text.specs.declared.cert.CertMult.{CertMult}
use Rattle.cert_text.specs.declared.cert.CertMult.TheVariants as mult
use Rattle.cert_text.specs.declared.cert.CertNode.{CertNode}
use Rattle.cert_text.specs.declared.cert.CertNode.TheVariants as node
use Rattle.cert_text.specs.declared.cert.NamedCut.{NamedCut}
use Rattle.cert_text.specs.declared.cert.Claim.{Claim}
use Rattle.cert_text.specs.declared.cert.Claim.TheVariants.{Infeasible}
use Rattle.cert_text.specs.declared.cert.Cert.{Cert}
use Rattle.cert_text.specs.Tree.{CertTree, Bound, Farkas, Empty, Split}
use Rattle.cert_check.specs.declared.verdict.Judgement.TheVariants.{Passes, Breaks}
use Rattle.cert_check.specs.declared.verdict.Verdict.TheVariants.{Accepted}
use Rattle.cert_check.specs.Mults.{IsMultiplierThere, AreMults, mult_of, mults_of}
use Rattle.cert_check.specs.Cuts.{formulation_by, derivation_of, literal_names, rows_of, IsCutJudged, AreCutsJudged}
use Rattle.cert_check.specs.Verdict.{IsFarkasJudged, IsSplitJudged, IsNodeJudged, IsClaimJudged, visits, AreVisits, IsVisitJudged, IsVerdict}
use Rattle.front_check.proofs.FrontVerdicts.{both}
use Rattle.inner_models.specs.Inner.{least_col, bare_model}
use Rattle.inner_models.proofs.ListLemmas.{of_element-map}
use Rattle.front_search.proofs.LeastForm.{names_is}

module _ (M : Program) where
  abbrev N : Program
  N = bare_model M

  abbrev g : Col → Col
  g c = least_col M.sense c

  -- ---- what stays of the model

  count : length N.cols ≡ length M.cols
  count = length-map M.cols g

  names : column_names N ≡ column_names M
  names = names_is M.sense M.cols

  lowers : (j : ℕ) → lower N j ≡ lower M j
  lowers j = of_element-map None (λ c. c.lo) g M.cols j

  uppers : (j : ℕ) → upper N j ≡ upper M j
  uppers j = of_element-map None (λ c. c.up) g M.cols j

  integers : (j : ℕ) → is_integer N j ≡ is_integer M j
  integers j = of_element-map false (λ c. c.int) g M.cols j

  coefficients : (i j : ℕ) → coefficient N i j ≡ coefficient M i j
  coefficients i j = of_element-map (int (pos 0)) (λ c. entry_of i c.rows) g M.cols j

  region_lows : (path : Path) (j : ℕ) → region_low N path j ≡ region_low M path j
  region_lows path j t = low_along path j (if integers j t then option_map (λ l. int (ceil l)) (lowers j t) else lowers j t)

  region_highs : (path : Path) (j : ℕ) → region_high N path j ≡ region_high M path j
  region_highs path j t = high_along path j (if integers j t then option_map (λ h. int (floor h)) (uppers j t) else uppers j t)

  empty-to : (path : Path) → IsEmptyRegion N path → IsEmptyRegion M path
  empty-to path = subst (λ P. P) (λ t. (j : ℕ) × ((j < count t) × IsCrossed (region_lows path j t) (region_highs path j t)))

  -- ---- cuts

  side-same : (i : ℕ) (s : Side) (j : ℕ) → side_coefficient N i s j ≡ side_coefficient M i s j
  side-same i s j = ap (signed_by_side s) (coefficients i j)

  number-same : (d : Derivation) (j : ℕ) → least_number N d j ≡ least_number M d j
  number-same d j t = number_else (literal_number d.literals j) (needed_side (side-same d.row.0 d.side j t) (lowers j t) (uppers j t))

  literals-to : (from : ℕ) (ls : List Literal) → AreLiterals N from ls → AreLiterals M from ls
  literals-to from [] h = tt
  literals-to from (l ∷ ls) (low, binary, rest) = (
    low,
    record { integer = sym (integers l.col.0) ∙ binary.integer; low = sym (lowers l.col.0) ∙ binary.low; high = sym (uppers l.col.0) ∙ binary.high },
    literals-to (suc l.col.0) ls rest,
  )

  fails-same : (d : Derivation) → Fails N d ≡ Fails M d
  fails-same d t = side_number (side_limit M d.row.0 d.side) <ℚ sum_below (count t) (λ j. side_number (number-same d j t) *ℚ side-same d.row.0 d.side j t)

  derives-to : (d : Derivation) → Derives N d → Derives M d
  derives-to d h = record {
    posed = record {
      some = h.posed.some;
      literals = literals-to 0 d.literals h.posed.literals;
      side = h.posed.side;
      bounds = λ j below. subst IsSome (number-same d j) (h.posed.bounds j (subst (λ n. j < n) (sym count) below));
    };
    fails = subst (λ P. P) (fails-same d) h.fails;
  }

  derivation_is : (cut : NamedCut) → derivation_of N cut ≡ derivation_of M cut
  derivation_is cut t = record (derivation_of M cut) { literals = map (λ l. record { col = record { 0 = place_in (names t) l.0 }; plus = l.1 }) cut.literals }

  sum_fits-to : (d : Derivation) → CoverSumFits N d → CoverSumFits M d
  sum_fits-to d h = subst (λ (T : Type 0). T) (λ t. AllFit (int (pos 0)) (λ j. side_number (number-same d j t)) (λ j. side-same d.row.0 d.side j t) (count t)) h

  cut-to : (cut : NamedCut) → IsCutJudged N cut Passes → IsCutJudged M cut Passes
  cut-to cut (known, counts) =
      let d = derivation_of M cut in
      let held : DerivesWithRoom N d = subst (DerivesWithRoom N) (derivation_is cut) counts in (
        record {
          row = known.row;
          literals = record { there = subst (λ names. All (Contains names) (literal_names cut.literals)) names known.literals.there; once = known.literals.once };
        },
        record { derives = derives-to d held.derives; fits = sum_fits-to d held.fits },
      )

  rows_is : (cuts : List NamedCut) → rows_of N cuts ≡ rows_of M cuts
  rows_is cuts t = map (λ cut. record { from = derivation_is cut t; terms = cover_terms (derivation_is cut t).literals; hi = cover_high (derivation_is cut t).literals; live = true }) cuts

  -- ---- Farkas numbers

  module _ (cuts : List CutRow) (path : Path) (y z : ℕ → ℚ) where
    abbrev none : ℕ → ℚ
    none j = int (pos 0)

    reduced_is : (j : ℕ) → column_reduced_cost (formulation N cuts) y z none j ≡ column_reduced_cost (formulation M cuts) y z none j
    reduced_is j t = left_by_cuts cuts z none j -ℚ sum_below (length M.rows) (λ i. y i *ℚ coefficients i j t)

    side_is : (j : ℕ) → column_side (formulation N cuts) path y z none j ≡ column_side (formulation M cuts) path y z none j
    side_is j t = needed_side (reduced_is j t) (region_lows path j t) (region_highs path j t)

  farkas_is : (cuts : List CutRow) (path : Path) (list : Multipliers) → farkas (formulation N cuts) path list ≡ farkas (formulation M cuts) path list
  farkas_is cuts path list t =
      plus (plus (plus (Num (int (pos 0))) (rows_number M (multiplier list))) (cuts_number cuts (cut_weight cuts list)))
      (total_below (count t) (λ j. times (reduced_is cuts path (multiplier list) (cut_weight cuts list) j t) (side_is cuts path (multiplier list) (cut_weight cuts list) j t)))

  -- the steps of Farkas numbers are the same, and so are the sides that are missing
  module _ (cuts : List CutRow) (path : Path) (y z : ℕ → ℚ) where
    abbrev F0 : Formulation
    F0 = formulation N cuts

    abbrev G0 : Formulation
    G0 = formulation M cuts

    abbrev free : ℕ → ℚ
    free j = int (pos 0)

    rows_fit : (j : ℕ) → RowEntriesFit N y free j ≡ RowEntriesFit M y free j
    rows_fit j t = AllFit (int (pos 0)) (λ i. neg_ℚ (y i)) (λ i. coefficients i j t) (length M.rows)

    cuts_fit : (j : ℕ) → CutEntriesFit F0 y z free j ≡ CutEntriesFit G0 y z free j
    cuts_fit j t = AllFit (int (pos 0) -ℚ sum_below (length M.rows) (λ i. y i *ℚ coefficients i j t)) (λ k. neg_ℚ (z k)) (λ k. cut_coefficient cuts k j) (length cuts)

    entries-to : (j : ℕ) → EntriesFit F0 y z free j → EntriesFit G0 y z free j
    entries-to j h = record { of_rows = subst (λ (T : Type 0). T) (rows_fit j) h.of_rows; of_cuts = subst (λ (T : Type 0). T) (cuts_fit j) h.of_cuts }

    entries-back : (j : ℕ) → EntriesFit G0 y z free j → EntriesFit F0 y z free j
    entries-back j h = record { of_rows = subst (λ (T : Type 0). T) (sym (rows_fit j)) h.of_rows; of_cuts = subst (λ (T : Type 0). T) (sym (cuts_fit j)) h.of_cuts }

    lacks-back : LacksSide G0 path y z free → LacksSide F0 path y z free
    lacks-back (inl row) = inl row
    lacks-back (inr (inl cut)) = inr (inl cut)
    lacks-back (inr (inr (j, (below, (entries, none))))) = inr (inr (j, (subst (λ n. j < n) (sym count) below, (entries-back j entries, side_is cuts path y z j ∙ none))))

    columns-to : (start : ℚ) → ColumnsFit F0 path y z free start (length N.cols) → ColumnsFit G0 path y z free start (length M.cols)
    columns-to start h = λ j below.
        let held = h j (subst (λ n. j < n) (sym count) below) in
        record {
          entries = entries-to j held.entries;
          term = subst (λ (T : Type 0). T) (λ t. StepFitsAt start (λ k. reduced_is cuts path y z k t) (λ k. side_number (side_is cuts path y z k t)) j) held.term;
        }

  farkas-to : (cuts : List CutRow) (path : Path) (list : Multipliers) (q : LagValue) → IsPositiveNumber q → IsFarkasAnswer (formulation N cuts) path list (Ok q) → IsFarkasAnswer (formulation M cuts) path list (Ok q)
  farkas-to cuts path list Minus some h = absurd some
  farkas-to cuts path list (Num q) some (full, rows, of_cuts, cols, is) =
      let y = multiplier list in
      let z = cut_weight cuts list in (
        (λ lacks. full (lacks-back cuts path y z lacks)),
        rows,
        of_cuts,
        columns-to cuts path y z (cuts_total (formulation N cuts) y z (int (pos 0))) cols,
        is ∙ farkas_is cuts path list,
      )

  -- ---- nodes

  there-to : (n : ℕ) (m : CertMult) → IsMultiplierThere N n m → IsMultiplierThere M n m
  there-to n (mult.Row name v) h = h
  there-to n (mult.Cut k v) h = h

  mult_is : (m : CertMult) → mult_of N m ≡ mult_of M m
  mult_is (mult.Row name v) = refl
  mult_is (mult.Cut k v) = refl

  mults-to : (n : ℕ) (mults : List CertMult) → AreMults N n mults → AreMults M n mults
  mults-to n mults h = record { there = All-weaker (IsMultiplierThere N n) (IsMultiplierThere M n) (there-to n) mults h.there; once = h.once }

  mults_is : (mults : List CertMult) → mults_of N mults ≡ mults_of M mults
  mults_is mults t = map (λ m. mult_is m t) mults

  split-to : (col : List ℕ) → IsSplitJudged N col Passes → IsSplitJudged M col Passes
  split-to col (inl (there, kind)) =
      let at : place_in (column_names N) col ≡ place_in (column_names M) col = ap (λ known. place_in known col) names in
      inl (subst (λ known. Contains known col) names there, subst (λ k. IsTrue (is_integer M k)) at (sym (integers (place_in (column_names N) col)) ∙ kind))
  split-to col (inr (none, is)) = let e : Passes ≡ Breaks 1 = is in absurd cc

  visits_are : (path : Path) (tree : CertTree) → visits N path tree ≡ visits M path tree
  visits_are path (Bound mults) = refl
  visits_are path (Farkas mults) = refl
  visits_are path Empty = refl
  visits_are path (Split col v left right) =
      let at : place_in (column_names N) col ≡ place_in (column_names M) col = ap (λ known. place_in known col) names in
      (λ t. (path, node.Split col v) ∷ (visits_are (left_path path (at t) v) left t ++ visits_are (right_path path (at t) v) right t))

  module _ (cuts : List NamedCut) where
    abbrev F : Formulation
    F = formulation_by N cuts

    abbrev G : Formulation
    G = formulation_by M cuts

    cuts_count : length F.cuts ≡ length G.cuts
    cuts_count = ap length (rows_is cuts)

    refuted-to : (path : Path) (mults : List CertMult) → IsFarkasJudged F path (mults_of N mults) Passes → IsFarkasJudged G path (mults_of M mults) Passes
    refuted-to path mults (q, (answer, some)) = (
      q,
      (
        subst (λ list. IsFarkasAnswer G path list (Ok q)) (mults_is mults)
            (subst (λ rows. IsFarkasAnswer (formulation M rows) path (mults_of N mults) (Ok q)) (rows_is cuts) (farkas-to (rows_of N cuts) path (mults_of N mults) q some answer)),
        some,
      ),
    )

    node-to : (path : Path) (n : CertNode) → IsNodeJudged F Infeasible path n Passes → IsNodeJudged G Infeasible path n Passes
    node-to path (node.Split col v) h = split-to col h
    node-to path (node.Bound mults) (inl (there, is)) = let e : Passes ≡ Breaks 7 = is in absurd cc
    node-to path (node.Bound mults) (inr (none, is)) = let e : Passes ≡ Breaks 1 = is in absurd cc
    node-to path (node.Farkas mults) (inl (there, judged)) = inl (mults-to (length G.cuts) mults (subst (λ n. AreMults N n mults) cuts_count there), refuted-to path mults judged)
    node-to path (node.Farkas mults) (inr (none, is)) = let e : Passes ≡ Breaks 1 = is in absurd cc
    node-to path node.Empty h = empty-to path h

  -- ---- the certificate

  -- what the judging of the certificate's nodes asks, by its claim
  abbrev NodesPass : Program → List NamedCut → Claim → List (Path × CertNode) → Type 0
  NodesPass P cuts c visited = All (λ p. IsVisitJudged (formulation_by P cuts) c p Passes) visited

  pub emptiness-to : (cert : Cert) → cert.claim ≡ Infeasible → IsVerdict N cert (Accepted cert.claim) → IsVerdict M cert (Accepted Infeasible)
  emptiness-to cert claims h =
      let visited : List (Path × CertNode) = h.visited in
      let are : AreVisits N Infeasible cert.nodes visited = subst (λ (c : Claim). AreVisits N c cert.nodes visited) claims h.are in
      let pass : NodesPass N cert.cuts Infeasible visited = subst (λ (c : Claim). NodesPass N cert.cuts c visited) claims h.is.2 in
      let cuts : AreCutsJudged N cert.cuts Passes = (both (IsClaimJudged N cert.claim cert.point cert.ray) (AreCutsJudged N cert.cuts) h.is.1).1 in
      let there : AreVisits M Infeasible cert.nodes visited = record { tree = are.tree; nodes_are = are.nodes_are; are = are.are ∙ visits_are [] are.tree } in
      let held : NodesPass M cert.cuts Infeasible visited =
      All-weaker (λ p. IsVisitJudged (formulation_by N cert.cuts) Infeasible p Passes) (λ p. IsVisitJudged (formulation_by M cert.cuts) Infeasible p Passes) (λ p judged. node-to cert.cuts p.0 p.1 judged) visited pass in
      record {
        visited = visited;
        are = subst (λ (c : Claim). AreVisits M c cert.nodes visited) (sym claims) there;
        is = (
          sym claims,
          inl (
            subst (λ (c : Claim). IsClaimJudged M c cert.point cert.ray Passes) (sym claims) refl,
            All-weaker (λ c. IsCutJudged N c Passes) (λ c. IsCutJudged M c Passes) cut-to cert.cuts cuts,
          ),
          subst (λ (c : Claim). NodesPass M cert.cuts c visited) (sym claims) held,
        );
      }
