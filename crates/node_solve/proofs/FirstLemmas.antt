-- A basis to fall back to without cuts is one with cuts that count, where their activities are basic besides.
-- Idea: the table has a row more for each cut (MoreRows). The parts of the cuts' tilts come behind all others, so each sign is
-- told before them. A variable without sides has no part that is not 0: a cut names columns of 0 or 1 alone, of which none is
-- without sides, and a basic one has the entry 0 there, since its own tilt is a part.
use Rattle.std.specs.Prelude.{◌≡◌, ◌≢◌, ℕ, zero, suc, ◌+◌, ◌-◌, ◌<◌, ◌≤◌, ◌==◌, nat_eq, if◌then◌else◌, Bool, true, false, IsSome, List, [], ◌∷◌, ◌++◌, length, get_or, filter, pos, All, Option, Some, None}
use Rattle.std.specs.List.{range_with_len}
use Rattle.std.proofs.Common.{refl, sym, ap, ap₂, subst, ◌∙◌, arith, ⊎_elim, cond, append_assoc, append-nil, length-append, get_or-append-add}
use Rattle.std.proofs.lemmas.Bool.{false≢true, cases_lt, lt-ltb, le-ltb, eqb-true}
use Rattle.std.proofs.lemmas.List.{get_or_append_left, map-append}
use Rattle.std.proofs.lemmas.List.Elements.{All-nil, All-push}
use Rattle.frac128.specs.Rational.{ℚ, int, ◌+ℚ◌, ◌*ℚ◌, neg_ℚ, ◌<ℚ◌}
use Rattle.frac128.specs.RationalRing.{ring, reads_ℚ}
use Rattle.frac128.specs.RationalOrder.{<ℚ_irrefl}
use Rattle.frac128.specs.Sums.{sum_below}
use Rattle.lp_model.specs.Program.{Program, lower, upper, cost, in_least_form}
use Rattle.lp_model.specs.Lawful.{IsLawful}
use Rattle.lp_model.specs.Regions.{Path}
use Rattle.lp_model.specs.CutTerms.{term_of}
use Rattle.lp_model.specs.Formulations.{formulation, cut_coefficient}
use Rattle.lp_model.specs.declared.types.Basis.{Basis}
use Rattle.lp_model.specs.declared.types.CutRow.{CutRow}
use Rattle.lp_model.specs.declared.types.Literal.{Literal}
use Rattle.lp_model.specs.declared.types.Var.{Var}
use Rattle.lp_model.specs.declared.types.Var.TheVariants.{Col, Row, Cut}
use Rattle.lp_model.proofs.ElementLemmas.{element, of_element-get}
use Rattle.cover_cuts.specs.Covers.{IsBinary, AreLiterals}
use Rattle.cover_cuts.specs.Cuts.{IsPoolOf, cover_terms, literal_term}
use Rattle.table_entries.specs.declared.stand.Stand.{Stand}
use Rattle.table_entries.specs.declared.stand.Stand.TheVariants.{Low, High, Free}
use Rattle.table_entries.specs.Relaxation.{Table, reduced_cost}
use Rattle.table_entries.specs.Bases.{Found, listed, Lists, IsNamedBy}
use Rattle.table_entries.specs.States.{State, IsGood, LawfulAt, sign, reduced_parts}
use Rattle.table_entries.specs.Directions.{stand_number}
use Rattle.table_entries.proofs.SumBelowLaws.{if_same, if_other, sum_below-zero}
use Rattle.table_entries.proofs.BringIn.{zero_or_not, basic_within, nonbasic_within}
use Rattle.table_entries.proofs.ReducedCosts.{reduced_alone-basic}
use Rattle.row_tableau.specs.declared.relax.Relax.{Relax}
use Rattle.row_tableau.specs.declared.relax.RelaxKind.TheVariants.{Plain}
use Rattle.row_tableau.specs.Activities.{activity_count, activity_low, activity_high}
use Rattle.row_tableau.specs.Dense.{Dense}
use Rattle.row_tableau.specs.Variables.{variable_number, numbers}
use Rattle.row_tableau.specs.Relaxations.{plain, of_kind, relaxation_of}
use Rattle.row_tableau.proofs.CutLemmas.{row_low, row_high, rows_alone}
use Rattle.basic_solution.specs.Held.{Held}
use Rattle.row_tableau.specs.Tilts.{model_low, model_high, stand_by_sides, tilt_of, has_side, is_sided, sided, tilted_cost, parts_of, KeepsFree}
use Rattle.basic_solution.specs.Slack.{IsStateOfRelax, CanStand}
use Rattle.basic_solution.specs.ListedStates.{IsStandBy, IsLawfulBasis}
use Rattle.row_tableau.proofs.OrderLemmas.{filter_more}
use Rattle.basic_solution.proofs.SlackLemmas.{columns_is, activities_is}
use Rattle.basic_solution.proofs.SignLemmas.{stands_of, can_of}
use Rattle.row_tableau.proofs.TiltLemmas.{by_column, by_activity, sided_listed, listed_there}
use Rattle.dual_simplex.specs.SlackBases.{no_entries, IsRootBasis}
use Rattle.dual_simplex.proofs.BasisLemmas.{good_in}
use Rattle.dual_simplex.proofs.ContinueLemmas.{There, low_there}
use Rattle.dual_simplex.proofs.OneStateLemmas.{lawful_list}
use Rattle.dual_simplex.proofs.RegionSideLemmas.{keeps_free}
use Rattle.node_solve.specs.Laws.{AreAllLive, FirstCutsLaw}
use Rattle.node_solve.specs.Places.{cut_variables, with_cut_variables}
use Rattle.node_solve.specs.Runs.{IsPlainOf, NamesIntegers}
use Rattle.node_solve.proofs.EndLemmas.{bounded_changes}
use Rattle.node_solve.proofs.MoreRows.{F₀, F₁, p₀, p₁, n, m, c, count, low-old, high-old, cut_cost, cost-column, cost-past, d₁, basic-old, basic-new, table-more, arranged-more, reduced-more}

-- ---- the columns that a cut names

literal-of : (M : Program) (from : ℕ) (ls : List Literal) → AreLiterals M from ls → (j : ℕ) → term_of j (cover_terms ls) ≢ int (pos 0) → IsBinary M j
literal-of M from [] h j some = absurd (some refl)
literal-of M from (l ∷ ls) (low, binary, rest) j some = by (nat_eq l.col.0 j) refl (literal-of M (suc l.col.0) ls rest j) some
  where
    by : (b : Bool) → nat_eq l.col.0 j ≡ b → (term_of j (cover_terms ls) ≢ int (pos 0) → IsBinary M j) → (if b then (literal_term l).1 else term_of j (cover_terms ls)) ≢ int (pos 0) → IsBinary M j
    by true e on other = subst (IsBinary M) (eqb-true l.col.0 j e) binary
    by false e on other = on other

named-binary : (M : Program) (cuts : List CutRow) → IsPoolOf M cuts → AreAllLive cuts → (k j : ℕ) → k < length cuts → cut_coefficient cuts k j ≢ int (pos 0) → IsBinary M j
named-binary M cuts pool live k j below some =
    let el = element cuts k below in
    let cut : CutRow = get_or cuts k el.0 in
    let is = pool k el.0 below in
    let derives = is.live.0 (live k el.0 below) in
    let terms : cut_coefficient cuts k j ≡ term_of j (cover_terms cut.from.literals) =
    of_element-get (int (pos 0)) (λ (r : CutRow). term_of j r.terms) cuts k el.0 below el.1 ∙ ap (λ (r : CutRow). term_of j r.terms) el.1 ∙ ap (term_of j) is.row.terms in
    literal-of M 0 cut.from.literals derives.derives.posed.literals j (λ e. some (terms ∙ e))

times-none : (a b : ℚ) → b ≡ int (pos 0) → a *ℚ b ≡ int (pos 0)
times-none a b e = ap (λ t. a *ℚ t) e ∙ ring (a ∷ []) {x = a *ℚ int (pos 0)} {y = int (pos 0)} (search reads_ℚ) tt

none-times : (a b : ℚ) → a ≡ int (pos 0) → a *ℚ b ≡ int (pos 0)
none-times a b e = ap (λ t. t *ℚ b) e ∙ ring (b ∷ []) {x = int (pos 0) *ℚ b} {y = int (pos 0)} (search reads_ℚ) tt

none-more : (a b : ℚ) → b ≡ int (pos 0) → a +ℚ b ≡ a
none-more a b e = ap (λ t. a +ℚ t) e ∙ ring (a ∷ []) {x = a +ℚ int (pos 0)} {y = a} (search reads_ℚ) tt

none-before : (a b : ℚ) → a ≡ int (pos 0) → a +ℚ b ≡ b
none-before a b e = ap (λ t. t +ℚ b) e ∙ ring (b ∷ []) {x = int (pos 0) +ℚ b} {y = b} (search reads_ℚ) tt

-- ---- the parts of the costs

module _ (M : Program) (cuts : List CutRow) (path : Path) where
  abbrev N : ℕ
  N = n M cuts path + m M cuts path

  abbrev b₀ : ℕ → ℕ → ℚ
  b₀ = parts_of Plain (F₀ M cuts path) path

  abbrev b₁ : ℕ → ℕ → ℚ
  b₁ = parts_of Plain (F₁ M cuts path) path

  abbrev front : List ℕ
  front = sided (F₀ M cuts path)

  abbrev all : List ℕ
  all = sided (F₁ M cuts path)

  low-same : (v : ℕ) → v < N → model_low (F₁ M cuts path) v ≡ model_low (F₀ M cuts path) v
  low-same v w = ⊎_elim
      (λ q. by_column (length M.cols) (lower M) (activity_low (F₁ M cuts path)) v q ∙ sym (by_column (length M.cols) (lower M) (activity_low (F₀ M cuts path)) v q))
      (λ q.
      let e = rows_alone M in
      let r : v - length M.cols < length M.rows = omega (arith, w, q, e) in
      by_activity (length M.cols) (lower M) (activity_low (F₁ M cuts path)) v q ∙ sym (row_low (F₁ M cuts path) (v - length M.cols) r) ∙ row_low (F₀ M cuts path) (v - length M.cols) r
      ∙ sym (by_activity (length M.cols) (lower M) (activity_low (F₀ M cuts path)) v q))
      (cases_lt v (length M.cols))

  high-same : (v : ℕ) → v < N → model_high (F₁ M cuts path) v ≡ model_high (F₀ M cuts path) v
  high-same v w = ⊎_elim
      (λ q. by_column (length M.cols) (upper M) (activity_high (F₁ M cuts path)) v q ∙ sym (by_column (length M.cols) (upper M) (activity_high (F₀ M cuts path)) v q))
      (λ q.
      let e = rows_alone M in
      let r : v - length M.cols < length M.rows = omega (arith, w, q, e) in
      by_activity (length M.cols) (upper M) (activity_high (F₁ M cuts path)) v q ∙ sym (row_high (F₁ M cuts path) (v - length M.cols) r) ∙ row_high (F₀ M cuts path) (v - length M.cols) r
      ∙ sym (by_activity (length M.cols) (upper M) (activity_high (F₀ M cuts path)) v q))
      (cases_lt v (length M.cols))

  tilt-same : (v : ℕ) → v < N → tilt_of Plain (F₁ M cuts path) v ≡ tilt_of Plain (F₀ M cuts path) v
  tilt-same v w = ap₂ (stand_by_sides Free) (low-same v w) (high-same v w)

  sided-same : (v : ℕ) → v < N → is_sided (F₁ M cuts path) v ≡ is_sided (F₀ M cuts path) v
  sided-same v w = ap₂ has_side (low-same v w) (high-same v w)

  -- ---- the order of the parts

  below-same : (k : ℕ) → k ≤ N → filter (is_sided (F₁ M cuts path)) (range_with_len 0 k) ≡ filter (is_sided (F₀ M cuts path)) (range_with_len 0 k)
  below-same zero w = refl
  below-same (suc k) w =
      let e : suc k ≡ k + 1 = omega arith in
      ap (λ j. filter (is_sided (F₁ M cuts path)) (range_with_len 0 j)) e ∙ filter_more (is_sided (F₁ M cuts path)) k
      ∙ ap₂ (λ l b. l ++ cond b (k ∷ []) []) (below-same k (omega arith)) (sided-same k (omega arith))
      ∙ sym (filter_more (is_sided (F₀ M cuts path)) k) ∙ ap (λ j. filter (is_sided (F₀ M cuts path)) (range_with_len 0 j)) (sym e)

  record IsFurther (k : ℕ) : Type 0 where
    pub rest : List ℕ
    pub is : filter (is_sided (F₁ M cuts path)) (range_with_len 0 (N + k)) ≡ front ++ rest
    pub past : All (λ v. N ≤ v) rest

  further : (k : ℕ) → IsFurther k
  further zero =
      let e : N + 0 ≡ N = omega arith in
      record { rest = []; is = ap (λ j. filter (is_sided (F₁ M cuts path)) (range_with_len 0 j)) e ∙ below-same N (omega arith) ∙ sym (append-nil front); past = All-nil (λ v. N ≤ v) }
  further (suc k) = by (further k) (is_sided (F₁ M cuts path) (N + k)) refl
    where
      e : N + suc k ≡ N + k + 1
      e = omega arith

      step : filter (is_sided (F₁ M cuts path)) (range_with_len 0 (N + suc k)) ≡ filter (is_sided (F₁ M cuts path)) (range_with_len 0 (N + k)) ++ cond (is_sided (F₁ M cuts path) (N + k)) ((N + k) ∷ []) []
      step = ap (λ j. filter (is_sided (F₁ M cuts path)) (range_with_len 0 j)) e ∙ filter_more (is_sided (F₁ M cuts path)) (N + k)

      by : IsFurther k → (b : Bool) → is_sided (F₁ M cuts path) (N + k) ≡ b → IsFurther (suc k)
      by h true t = record {
        rest = h.rest ++ (N + k) ∷ [];
        is = step ∙ ap₂ (λ l b. l ++ cond b ((N + k) ∷ []) []) h.is t ∙ append_assoc front h.rest ((N + k) ∷ []);
        past = All-push (λ v. N ≤ v) h.rest (N + k) h.past (omega arith);
      }
      by h false t = record { rest = h.rest; is = step ∙ ap₂ (λ l b. l ++ cond b ((N + k) ∷ []) []) h.is t ∙ append-nil (front ++ h.rest); past = h.past }

  behind : IsFurther (c M cuts path)
  behind = further (c M cuts path)

  order-is : all ≡ front ++ behind.rest
  order-is =
      let e : length M.cols + activity_count (F₁ M cuts path) ≡ N + c M cuts path = let a = count M cuts path in omega (arith, a) in
      ap (λ j. filter (is_sided (F₁ M cuts path)) (range_with_len 0 j)) e ∙ behind.is

  longer : length all ≡ length front + length behind.rest
  longer = ap length order-is ∙ length-append front behind.rest

  own-front : (r : ℕ) → r < length front → get_or all r 0 ≡ get_or front r 0
  own-front r w = ap (λ l. get_or l r 0) order-is ∙ get_or_append_left front behind.rest 0 r w

  own-behind : (r : ℕ) → length front ≤ r → r < length all → N ≤ get_or all r 0
  own-behind r low w =
      let e = longer in
      let place : length front + (r - length front) ≡ r = omega (arith, low) in
      let is : get_or all r 0 ≡ get_or behind.rest (r - length front) 0 = ap (λ l. get_or l r 0) order-is ∙ ap (λ k. get_or (front ++ behind.rest) k 0) (sym place) ∙ get_or-append-add front behind.rest (r - length front) 0 in
      subst (λ v. N ≤ v) (sym is) (behind.past (r - length front) 0 (omega (arith, e, low, w)))

  own-there : (r : ℕ) → r < length front → get_or front r 0 < N
  own-there r w = listed_there (F₀ M cuts path) path Plain (get_or front r 0) (r, w, refl)

  -- ---- each part

  part-front : (r : ℕ) → r < length front → (v : ℕ) → b₀ (suc r) v ≡ tilted_cost (tilt_of Plain (F₀ M cuts path)) (get_or front r 0) v
  part-front r w v = ap (λ b. if b then tilted_cost (tilt_of Plain (F₀ M cuts path)) (get_or front r 0) v else int (pos 0)) (lt-ltb r (length front) w)

  part-same : (t v : ℕ) → t ≤ length front → b₁ t v ≡ b₀ t v
  part-same zero v w = refl
  part-same (suc r) v w =
      let less : r < length front = omega (arith, w) in
      let within : r < length all = let e = longer in omega (arith, e, less) in
      ap (λ b. if b then tilted_cost (tilt_of Plain (F₁ M cuts path)) (get_or all r 0) v else int (pos 0)) (lt-ltb r (length all) within)
      ∙ ap (λ u. tilted_cost (tilt_of Plain (F₁ M cuts path)) u v) (own-front r less)
      ∙ ap (λ x. if v == get_or front r 0 then sign x else int (pos 0)) (tilt-same (get_or front r 0) (own-there r less))
      ∙ sym (part-front r less v)

  part-past : (t v : ℕ) → t ≤ length front → N ≤ v → b₀ t v ≡ int (pos 0)
  part-past zero v w past = by_activity (length M.cols) (λ x. in_least_form (F₀ M cuts path).model.sense (cost (F₀ M cuts path).model 1 x)) (λ i. int (pos 0)) v (omega (arith, past))
  part-past (suc r) v w past =
      let less : r < length front = omega (arith, w) in
      let own = own-there r less in
      part-front r less v ∙ if_other v (get_or front r 0) (sign (tilt_of Plain (F₀ M cuts path) (get_or front r 0))) (int (pos 0)) (λ e. omega (arith, e, own, past))

  part-over : (r v : ℕ) → length front ≤ r → b₀ (suc r) v ≡ int (pos 0)
  part-over r v w = ap (λ b. if b then tilted_cost (tilt_of Plain (F₀ M cuts path)) (get_or front r 0) v else int (pos 0)) (le-ltb r (length front) w)

  part-behind : (r v : ℕ) → length front ≤ r → v < N → b₁ (suc r) v ≡ int (pos 0)
  part-behind r v low below = ⊎_elim
      (λ w.
      let own = own-behind r low w in
      ap (λ b. if b then tilted_cost (tilt_of Plain (F₁ M cuts path)) (get_or all r 0) v else int (pos 0)) (lt-ltb r (length all) w)
      ∙ if_other v (get_or all r 0) (sign (tilt_of Plain (F₁ M cuts path) (get_or all r 0))) (int (pos 0)) (λ e. omega (arith, e, own, below)))
      (λ w. ap (λ b. if b then tilted_cost (tilt_of Plain (F₁ M cuts path)) (get_or all r 0) v else int (pos 0)) (le-ltb r (length all) w))
      (cases_lt r (length all))

  -- ---- reduced costs of the parts

  module _ (pool : IsPoolOf M cuts) (live : AreAllLive cuts) (st : State) (good : IsGood (p₀ M cuts path) b₀ st) where
    abbrev d : Table
    d = st.table

    abbrev more : Table
    more = d₁ M cuts path d good.table good.arranged

    abbrev cut_reduced : ℕ → ℕ → ℚ
    cut_reduced k s = reduced_cost (p₀ M cuts path) d (cut_cost M cuts path k) s

    reduced-none : (s : ℕ) (b : ℕ → ℚ) → ((v : ℕ) → b v ≡ int (pos 0)) → reduced_cost (p₀ M cuts path) d b s ≡ int (pos 0)
    reduced-none s b h =
        none-before (b (d.nonbasic s)) (sum_below (m M cuts path) (λ i. b (d.basic i) *ℚ d.entry i s)) (h (d.nonbasic s))
        ∙ sum_below-zero (m M cuts path) (λ i. b (d.basic i) *ℚ d.entry i s) (λ i w. none-times (b (d.basic i)) (d.entry i s) (h (d.basic i)))

    reduced-front : (s : ℕ) → s < length M.cols → (t : ℕ) → t ≤ length front → reduced_cost (p₁ M cuts path) more (b₁ t) s ≡ reduced_cost (p₀ M cuts path) d (b₀ t) s
    reduced-front s w t low =
        reduced-more M cuts path d good.table good.arranged (b₀ t) (b₁ t) (λ v below. part-same t v low) s w
        ∙ none-more (reduced_cost (p₀ M cuts path) d (b₀ t) s) (sum_below (c M cuts path) (λ k. b₁ t (length M.cols + (m M cuts path + k)) *ℚ cut_reduced k s))
        (sum_below-zero (c M cuts path) (λ k. b₁ t (length M.cols + (m M cuts path + k)) *ℚ cut_reduced k s)
        (λ k q. none-times (b₁ t (length M.cols + (m M cuts path + k))) (cut_reduced k s)
        (part-same t (length M.cols + (m M cuts path + k)) low ∙ part-past t (length M.cols + (m M cuts path + k)) low (omega arith))))

    reduced-over : (s r : ℕ) → length front ≤ r → reduced_cost (p₀ M cuts path) d (b₀ (suc r)) s ≡ int (pos 0)
    reduced-over s r low = reduced-none s (b₀ (suc r)) (λ v. part-over r v low)

    -- where a variable stands free

    module _ (s : ℕ) (s_within : s < length M.cols) (free : st.stand s ≡ Free) where
      all_none : (t : ℕ) → reduced_cost (p₀ M cuts path) d (b₀ t) s ≡ int (pos 0)
      all_none = subst (λ stand. LawfulAt stand (reduced_parts (p₀ M cuts path) b₀ d s)) free (good.lawful.lawful s s_within)

      no_low : (p₀ M cuts path).low (d.nonbasic s) ≡ None
      no_low = (subst (λ stand. CanStand stand ((p₀ M cuts path).low (d.nonbasic s)) ((p₀ M cuts path).high (d.nonbasic s))) free
          (can_of (p₀ M cuts path) (d.nonbasic s) (st.stand s) (st.at s) (good.lawful.stands s s_within))).0

      -- a column that a cut names has a low side, and so a part
      cost-there : (k v : ℕ) → k < c M cuts path → cut_cost M cuts path k v ≢ int (pos 0) → (v < length M.cols) × IsBinary M v
      cost-there k v w some = ⊎_elim
          (λ q. (q, named-binary M cuts pool live k v w (λ e. some (cost-column M cuts path k v q ∙ e))))
          (λ q. absurd (some (cost-past M cuts path k v q)))
          (cases_lt v (length M.cols))

      model-low-there : (v : ℕ) → v < length M.cols → IsBinary M v → model_low (F₀ M cuts path) v ≡ Some (int (pos 0))
      model-low-there v w binary = by_column (length M.cols) (lower M) (activity_low (F₀ M cuts path)) v w ∙ binary.low

      nonbasic-none : (k : ℕ) → k < c M cuts path → cut_cost M cuts path k (d.nonbasic s) ≡ int (pos 0)
      nonbasic-none k w = ⊎_elim (λ e. e)
          (λ some.
          let b = cost-there k (d.nonbasic s) w some in
          let has : There ((p₀ M cuts path).low (d.nonbasic s)) = low_there (F₀ M cuts path) path (d.nonbasic s) (int (pos 0), model-low-there (d.nonbasic s) b.0 b.1) in
          absurd (some_not_none has.0 (sym has.1 ∙ no_low)))
          (zero_or_not (cut_cost M cuts path k (d.nonbasic s)))
        where
          some_not_none : (x : ℚ) → ¬ (Some x ≡ None)
          some_not_none x e = cc

      entry-none : (i k : ℕ) → i < m M cuts path → k < c M cuts path → cut_cost M cuts path k (d.basic i) ≢ int (pos 0) → d.entry i s ≡ int (pos 0)
      entry-none i k w q some =
          let b = cost-there k (d.basic i) q some in
          let u = d.basic i in
          let low = model-low-there u b.0 b.1 in
          let has : is_sided (F₀ M cuts path) u ≡ true = has_low (model_low (F₀ M cuts path) u) (model_high (F₀ M cuts path) u) low in
          let place = sided_listed (F₀ M cuts path) path Plain u has (omega (arith, b.0)) in
          let r = place.0 in
          let own : get_or front r 0 ≡ u = sym place.2 in
          let tilt : sign (tilt_of Plain (F₀ M cuts path) u) ≡ int (pos 1) = up (model_low (F₀ M cuts path) u) (model_high (F₀ M cuts path) u) low in
          let alone : reduced_cost (p₀ M cuts path) d (b₀ (suc r)) s ≡ b₀ (suc r) u *ℚ d.entry i s =
          reduced_alone-basic (p₀ M cuts path) d good.arranged (b₀ (suc r)) i s w s_within
          (λ v other. part-front r place.1 v ∙ if_other v (get_or front r 0) (sign (tilt_of Plain (F₀ M cuts path) (get_or front r 0))) (int (pos 0)) (λ e. other (e ∙ own))) in
          let part : b₀ (suc r) u ≡ int (pos 1) =
          part-front r place.1 u ∙ ap (λ a. tilted_cost (tilt_of Plain (F₀ M cuts path)) a u) own ∙ if_same u (sign (tilt_of Plain (F₀ M cuts path) u)) (int (pos 0)) ∙ tilt in
          one_times (d.entry i s) ∙ ap (λ t. t *ℚ d.entry i s) (sym part) ∙ sym alone ∙ all_none (suc r)
        where
          has_low : (lo hi : Option ℚ) → lo ≡ Some (int (pos 0)) → has_side lo hi ≡ true
          has_low (Some x) hi e = refl
          has_low None hi e = absurd cc

          up : (lo hi : Option ℚ) → lo ≡ Some (int (pos 0)) → sign (stand_by_sides Free lo hi) ≡ int (pos 1)
          up (Some x) hi e = refl
          up None hi e = absurd cc

          one_times : (a : ℚ) → a ≡ int (pos 1) *ℚ a
          one_times a = ring (a ∷ []) {x = a} {y = int (pos 1) *ℚ a} (search reads_ℚ) tt

      cut-none : (k : ℕ) → k < c M cuts path → cut_reduced k s ≡ int (pos 0)
      cut-none k w =
          none-before (cut_cost M cuts path k (d.nonbasic s)) (sum_below (m M cuts path) (λ i. cut_cost M cuts path k (d.basic i) *ℚ d.entry i s)) (nonbasic-none k w)
          ∙ sum_below-zero (m M cuts path) (λ i. cut_cost M cuts path k (d.basic i) *ℚ d.entry i s)
          (λ i q. ⊎_elim
          (λ e. none-times (cut_cost M cuts path k (d.basic i)) (d.entry i s) e)
          (λ some. times-none (cut_cost M cuts path k (d.basic i)) (d.entry i s) (entry-none i k q w some))
          (zero_or_not (cut_cost M cuts path k (d.basic i))))

      free-more : (t : ℕ) → reduced_cost (p₁ M cuts path) more (b₁ t) s ≡ int (pos 0)
      free-more t = ⊎_elim
          (λ w. reduced-front s s_within t (omega (arith, w)) ∙ all_none t)
          (λ w. past t w)
          (cases_lt t (suc (length front)))
        where
          past : (t : ℕ) → suc (length front) ≤ t → reduced_cost (p₁ M cuts path) more (b₁ t) s ≡ int (pos 0)
          past zero w = absurd (omega arith)
          past (suc r) w =
              reduced-more M cuts path d good.table good.arranged (λ v. int (pos 0)) (b₁ (suc r)) (λ v below. part-behind r v (omega arith) below) s s_within
              ∙ none-before (reduced_cost (p₀ M cuts path) d (λ v. int (pos 0)) s) (sum_below (c M cuts path) (λ k. b₁ (suc r) (length M.cols + (m M cuts path + k)) *ℚ cut_reduced k s)) (reduced-none s (λ v. int (pos 0)) (λ v. refl))
              ∙ sum_below-zero (c M cuts path) (λ k. b₁ (suc r) (length M.cols + (m M cuts path + k)) *ℚ cut_reduced k s)
              (λ k q. times-none (b₁ (suc r) (length M.cols + (m M cuts path + k))) (cut_reduced k s) (cut-none k q))

    -- ---- signs

    first-front : (s r : ℕ) → int (pos 0) <ℚ reduced_cost (p₀ M cuts path) d (b₀ r) s → r ≤ length front
    first-front s zero above = omega arith
    first-front s (suc r) above = ⊎_elim (λ w. omega (arith, w)) (λ w. absurd (<ℚ_irrefl (subst (λ x. int (pos 0) <ℚ x) (reduced-over s r w) above))) (cases_lt r (length front))

    first-front-down : (s r : ℕ) → int (pos 0) <ℚ neg_ℚ (reduced_cost (p₀ M cuts path) d (b₀ r) s) → r ≤ length front
    first-front-down s zero above = omega arith
    first-front-down s (suc r) above = ⊎_elim (λ w. omega (arith, w))
        (λ w. absurd (<ℚ_irrefl (subst (λ x. int (pos 0) <ℚ x) (ap neg_ℚ (reduced-over s r w) ∙ ring [] {x = neg_ℚ (int (pos 0))} {y = int (pos 0)} (search reads_ℚ) tt) above)))
        (cases_lt r (length front))

    lawful-more : (s : ℕ) → s < length M.cols → (stand : Stand) → st.stand s ≡ stand → LawfulAt stand (reduced_parts (p₀ M cuts path) b₀ d s) → LawfulAt stand (reduced_parts (p₁ M cuts path) b₁ more s)
    lawful-more s w Low e h =
        let within : h.first ≤ length front = first-front s h.first h.above in
        record {
          first = h.first;
          before = λ q less. reduced-front s w q (omega (arith, less, within)) ∙ h.before q less;
          above = subst (λ x. int (pos 0) <ℚ x) (sym (reduced-front s w h.first within)) h.above;
        }
    lawful-more s w High e h =
        let within : h.first ≤ length front = first-front-down s h.first h.above in
        record {
          first = h.first;
          before = λ q less. ap neg_ℚ (reduced-front s w q (omega (arith, less, within))) ∙ h.before q less;
          above = subst (λ x. int (pos 0) <ℚ x) (sym (ap neg_ℚ (reduced-front s w h.first within))) h.above;
        }
    lawful-more s w Free e h = free-more s w e

    -- ---- the state with the cuts

    nonbasic-low : (s : ℕ) → s < length M.cols → d.nonbasic s < N
    nonbasic-low s w = nonbasic_within (p₀ M cuts path) d good.arranged s w

    pub can-more : (s : ℕ) → s < length M.cols → CanStand (st.stand s) ((p₁ M cuts path).low (d.nonbasic s)) ((p₁ M cuts path).high (d.nonbasic s))
    can-more s w = subst (λ X. X)
        (λ i. CanStand (st.stand s) (sym (low-old M cuts path (d.nonbasic s) (nonbasic-low s w)) i) (sym (high-old M cuts path (d.nonbasic s) (nonbasic-low s w)) i))
        (can_of (p₀ M cuts path) (d.nonbasic s) (st.stand s) (st.at s) (good.lawful.stands s w))

    abbrev stood : State
    stood = record { table = more; stand = st.stand; at = λ k. stand_number (st.stand k) ((p₁ M cuts path).low (d.nonbasic k)) ((p₁ M cuts path).high (d.nonbasic k)) }

    pub good-more : IsGood (p₁ M cuts path) b₁ stood
    good-more = record {
      table = table-more M cuts path d good.table good.arranged;
      arranged = arranged-more M cuts path d good.table good.arranged;
      lawful = record {
        stands = λ s w. stands_of (p₁ M cuts path) (d.nonbasic s) (st.stand s) (can-more s w);
        lawful = λ s w. lawful-more s w (st.stand s) refl (good.lawful.lawful s w);
      };
    }

-- ---- the lists

-- so many numbers, from a on
abbrev numbers_from : ℕ → ℕ → List ℕ
numbers_from a zero = []
numbers_from a (suc k) = a ∷ numbers_from (suc a) k

numbers_from-length : (a k : ℕ) → length (numbers_from a k) ≡ k
numbers_from-length a zero = refl
numbers_from-length a (suc k) = ap suc (numbers_from-length (suc a) k)

numbers_from-at : (a k i : ℕ) → i < k → listed (numbers_from a k) i ≡ a + i
numbers_from-at a zero i w = absurd (omega arith)
numbers_from-at a (suc k) zero w = omega arith
numbers_from-at a (suc k) (suc i) w = let e = numbers_from-at (suc a) k i (omega arith) in omega (arith, e)

module _ (M : Program) (cuts : List CutRow) (t : Dense) (columns : t.columns ≡ length M.cols) (rows : t.rows ≡ length M.rows) (activities : t.activities ≡ length M.rows + length cuts) where
  abbrev e : Dense
  e = no_entries M

  abbrev bound : ℕ
  bound = length M.cols + length M.rows

  number-same : (v : Var) → variable_number e v < bound → variable_number t v ≡ variable_number e v
  number-same (Col col) below = ⊎_elim
      (λ w.
      ap (λ b. if b then col.0 else t.columns + t.activities) (lt-ltb col.0 t.columns (omega (arith, w, columns)))
      ∙ sym (ap (λ b. if b then col.0 else bound) (lt-ltb col.0 (length M.cols) w)))
      (λ w. let b : variable_number e (Col col) ≡ bound = ap (λ b. if b then col.0 else bound) (le-ltb col.0 (length M.cols) w) in absurd (omega (arith, b, below)))
      (cases_lt col.0 (length M.cols))
  number-same (Row row) below = ⊎_elim
      (λ w.
      ap (λ b. if b then t.columns + row.0 else t.columns + t.activities) (lt-ltb row.0 t.rows (omega (arith, w, rows)))
      ∙ ap (λ k. k + row.0) columns
      ∙ sym (ap (λ b. if b then length M.cols + row.0 else bound) (lt-ltb row.0 (length M.rows) w)))
      (λ w. let b : variable_number e (Row row) ≡ bound = ap (λ b. if b then length M.cols + row.0 else bound) (le-ltb row.0 (length M.rows) w) in absurd (omega (arith, b, below)))
      (cases_lt row.0 (length M.rows))
  number-same (Cut cut) below =
      let b : variable_number e (Cut cut) ≡ bound = ap (λ b. if b then length M.cols + (length M.rows + cut.0) else bound) (le-ltb (length M.rows + cut.0) (length M.rows) (omega arith)) in
      absurd (omega (arith, b, below))

  number-back : (v : Var) → variable_number t v < bound → variable_number e v ≡ variable_number t v
  number-back (Col col) below = ⊎_elim
      (λ w. sym (number-same (Col col) (let b : variable_number e (Col col) ≡ col.0 = ap (λ b. if b then col.0 else bound) (lt-ltb col.0 (length M.cols) w) in omega (arith, b, w))))
      (λ w. let b : variable_number t (Col col) ≡ t.columns + t.activities = ap (λ b. if b then col.0 else t.columns + t.activities) (le-ltb col.0 t.columns (omega (arith, w, columns))) in absurd (omega (arith, b, below, columns, activities)))
      (cases_lt col.0 (length M.cols))
  number-back (Row row) below = ⊎_elim
      (λ w. sym (number-same (Row row) (let b : variable_number e (Row row) ≡ length M.cols + row.0 = ap (λ b. if b then length M.cols + row.0 else bound) (lt-ltb row.0 (length M.rows) w) in omega (arith, b, w))))
      (λ w. let b : variable_number t (Row row) ≡ t.columns + t.activities = ap (λ b. if b then t.columns + row.0 else t.columns + t.activities) (le-ltb row.0 t.rows (omega (arith, w, rows))) in absurd (omega (arith, b, below, columns, activities)))
      (cases_lt row.0 (length M.rows))
  number-back (Cut cut) below = ⊎_elim
      (λ w. let b : variable_number t (Cut cut) ≡ t.columns + (t.rows + cut.0) = ap (λ b. if b then t.columns + (t.rows + cut.0) else t.columns + t.activities) (lt-ltb (t.rows + cut.0) t.activities w) in absurd (omega (arith, b, below, columns, rows)))
      (λ w. let b : variable_number t (Cut cut) ≡ t.columns + t.activities = ap (λ b. if b then t.columns + (t.rows + cut.0) else t.columns + t.activities) (le-ltb (t.rows + cut.0) t.activities w) in absurd (omega (arith, b, below, columns, activities)))
      (cases_lt (t.rows + cut.0) t.activities)

  list-same : (vs : List Var) → ((k : ℕ) → k < length (numbers e vs) → listed (numbers e vs) k < bound) → numbers t vs ≡ numbers e vs
  list-same [] h = refl
  list-same (v ∷ vs) h =
      let first = number-same v (h 0 (omega arith)) in
      let rest = list-same vs (λ k w. h (suc k) (omega (arith, w))) in
      (λ i. first i ∷ rest i)

  cuts-list : (a k : ℕ) → a + k ≤ length cuts → numbers t (cut_variables a k) ≡ numbers_from (bound + a) k
  cuts-list a zero w = refl
  cuts-list a (suc k) w =
      let within : t.rows + a < t.activities = omega (arith, rows, activities, w) in
      let first : variable_number t (Cut (record { 0 = a })) ≡ bound + a =
      ap (λ b. if b then t.columns + (t.rows + a) else t.columns + t.activities) (lt-ltb (t.rows + a) t.activities within) ∙ omega (arith, columns, rows) in
      let same : suc (bound + a) ≡ bound + suc a = omega arith in
      let rest : numbers t (cut_variables (suc a) k) ≡ numbers_from (suc (bound + a)) k = cuts-list (suc a) k (omega (arith, w)) ∙ ap (λ b. numbers_from b k) (sym same) in
      (λ i. first i ∷ rest i)

  -- a variable of the model is listed in both or in neither
  listed-to : (vs : List Var) (v : ℕ) → v < bound → Lists (numbers t vs) v → Lists (numbers e vs) v
  listed-to [] v below (k, within, is) = absurd (omega (arith, within))
  listed-to (x ∷ vs) v below (zero, within, is) = (0, omega arith, is ∙ sym (number-back x (subst (λ n. n < bound) is below)))
  listed-to (x ∷ vs) v below (suc k, within, is) = let h = listed-to vs v below (k, omega (arith, within), is) in let w = h.1 in (suc h.0, omega (arith, w), h.2)

  listed-back : (vs : List Var) (v : ℕ) → v < bound → Lists (numbers e vs) v → Lists (numbers t vs) v
  listed-back [] v below (k, within, is) = absurd (omega (arith, within))
  listed-back (x ∷ vs) v below (zero, within, is) = (0, omega arith, is ∙ sym (number-same x (subst (λ n. n < bound) is below)))
  listed-back (x ∷ vs) v below (suc k, within, is) = let h = listed-back vs v below (k, omega (arith, within), is) in let w = h.1 in (suc h.0, omega (arith, w), h.2)

-- the basic variables of the longer table are those of the shorter one and the activities of the cuts
module _ (size more bound : ℕ) (xs : List ℕ) (d d' : Table) (named : IsNamedBy size xs d) (below : (i : ℕ) → i < size → d.basic i < bound)
    (old : (i : ℕ) → i < size → d'.basic i ≡ d.basic i) (new : (k : ℕ) → k < more → d'.basic (size + k) ≡ bound + k) where
  abbrev both : List ℕ
  both = xs ++ numbers_from bound more

  count-both : length both ≡ size + more
  count-both = let a = length-append xs (numbers_from bound more) in let b = numbers_from-length bound more in let s = named.size in omega (arith, a, b, s)

  at-front : (k : ℕ) → k < size → listed both k ≡ listed xs k
  at-front k w = get_or_append_left xs (numbers_from bound more) 0 k (let s = named.size in omega (arith, s, w))

  at-behind : (k : ℕ) → size ≤ k → k < size + more → listed both k ≡ bound + (k - size)
  at-behind k low w =
      let s = named.size in
      let place : length xs + (k - size) ≡ k = omega (arith, s, low) in
      ap (listed both) (sym place) ∙ get_or-append-add xs (numbers_from bound more) (k - size) 0 ∙ numbers_from-at bound more (k - size) (omega (arith, low, w))

  front-below : (k : ℕ) → k < size → listed xs k < bound
  front-below k w = let f = named.names k (let s = named.size in omega (arith, s, w)) in let v = below f.0 f.1 in subst (λ x. x < bound) (sym f.2) v

  once-both : (s t : ℕ) → s < length both → t < length both → listed both s ≡ listed both t → s ≡ t
  once-both s t v w e =
      let count = count-both in
      ⊎_elim
      (λ a. ⊎_elim
      (λ b. named.once s t (let z = named.size in omega (arith, z, a)) (let z = named.size in omega (arith, z, b)) (sym (at-front s a) ∙ e ∙ at-front t b))
      (λ b. let f = at-front s a in let g = at-behind t b (omega (arith, count, w)) in let low = front-below s a in absurd (omega (arith, e, f, g, low)))
      (cases_lt t size))
      (λ a. ⊎_elim
      (λ b. let f = at-behind s a (omega (arith, count, v)) in let g = at-front t b in let low = front-below t b in absurd (omega (arith, e, f, g, low)))
      (λ b. let f = at-behind s a (omega (arith, count, v)) in let g = at-behind t b (omega (arith, count, w)) in omega (arith, e, f, g, a, b))
      (cases_lt t size))
      (cases_lt s size)

  basics-both : (i : ℕ) → i < size + more → Lists both (d'.basic i)
  basics-both i w = ⊎_elim
      (λ a.
      let f = named.basics i a in
      let z = named.size in
      let u = f.1 in
      (f.0, (let c' = count-both in omega (arith, c', z, u)), old i a ∙ f.2 ∙ sym (at-front f.0 (omega (arith, z, u)))))
      (λ a.
      let k : size + (i - size) ≡ i = omega (arith, a) in
      (i, (let c' = count-both in omega (arith, c', w)), ap d'.basic (sym k) ∙ new (i - size) (omega (arith, a, w)) ∙ sym (at-behind i a w)))
      (cases_lt i size)

  names-both : (t : ℕ) → t < length both → Found (size + more) d'.basic (listed both t)
  names-both t w = ⊎_elim
      (λ a.
      let f = named.names t (let z = named.size in omega (arith, z, a)) in
      let u = f.1 in
      (f.0, omega (arith, u), at-front t a ∙ f.2 ∙ sym (old f.0 f.1)))
      (λ a.
      let c' = count-both in
      let k : size + (t - size) ≡ t = omega (arith, a) in
      (t, omega (arith, c', w), at-behind t a (omega (arith, c', w)) ∙ sym (new (t - size) (omega (arith, a, c', w))) ∙ ap d'.basic k))
      (cases_lt t size)

  pub named-both : IsNamedBy (size + more) both d'
  named-both = record { size = count-both; once = once-both; basics = basics-both; names = names-both }

-- ---- the law

module _ (M : Program) (lawful : IsLawful M) (path : Path) (names : NamesIntegers M path) (first : Basis) (root : IsRootBasis M first) (cuts : List CutRow) (pool : IsPoolOf M cuts) (live : AreAllLive cuts) (relax : Relax) (is : IsPlainOf (formulation M cuts) path relax) where
  keeps : KeepsFree M path
  keeps = keeps_free M path (bounded_changes M lawful path names)

  abbrev root_table : Table
  root_table = root.state.table

  abbrev st : State
  st = record { table = root_table; stand = root.state.stand; at = λ k. stand_number (root.state.stand k) ((p₀ M cuts path).low (root_table.nonbasic k)) ((p₀ M cuts path).high (root_table.nonbasic k)) }

  good₀ : IsGood (p₀ M cuts path) (parts_of Plain (F₀ M cuts path) path) st
  good₀ = good_in (F₀ M cuts path) path keeps root.state root.good

  abbrev there : State
  there = record {
    table = d₁ M cuts path root_table good₀.table good₀.arranged;
    stand = st.stand;
    at = λ k. stand_number (st.stand k) ((p₁ M cuts path).low (root_table.nonbasic k)) ((p₁ M cuts path).high (root_table.nonbasic k));
  }

  good : IsGood (p₁ M cuts path) (parts_of Plain (F₁ M cuts path) path) there
  good = good-more M cuts path pool live st good₀

  relaxation_is : p₁ M cuts path ≡ relaxation_of relax
  relaxation_is = λ i. of_kind (sym is.kind i) (plain (sym is.form i) (sym is.region i))

  rows_count : activity_count (F₀ M cuts path) ≡ length M.rows
  rows_count = rows_alone M

  basic-low : (i : ℕ) → i < length M.rows → root_table.basic i < length M.cols + length M.rows
  basic-low i w = subst (λ k. root_table.basic i < length M.cols + k) rows_count (basic_within (p₀ M cuts path) root_table good₀.arranged i (subst (λ k. i < k) (sym rows_count) w))

  listed-low : (k : ℕ) → k < length (numbers (no_entries M) first.basic) → listed (numbers (no_entries M) first.basic) k < length M.cols + length M.rows
  listed-low k w = let f = root.named.names k w in subst (λ x. x < length M.cols + length M.rows) (sym f.2) (basic-low f.0 f.1)

  module _ (s : Held) (of : IsStateOfRelax relax s) where
    t-columns : s.tableau.columns ≡ length M.cols
    t-columns = columns_is relax s of ∙ ap (λ F. length F.model.cols) is.form

    t-rows : s.tableau.rows ≡ length M.rows
    t-rows = of.rows ∙ ap (λ F. length F.model.rows) is.form

    t-activities : s.tableau.activities ≡ length M.rows + length cuts
    t-activities = activities_is relax s of ∙ ap activity_count is.form

    lists : numbers s.tableau (first.basic ++ cut_variables 0 (length cuts)) ≡ numbers (no_entries M) first.basic ++ numbers_from (length M.cols + length M.rows) (length cuts)
    lists =
        let z : length M.cols + length M.rows + 0 ≡ length M.cols + length M.rows = omega arith in
        map-append (variable_number s.tableau) first.basic (cut_variables 0 (length cuts))
        ∙ ap₂ ◌++◌ (list-same M cuts s.tableau t-columns t-rows t-activities first.basic listed-low)
        (cuts-list M cuts s.tableau t-columns t-rows t-activities 0 (length cuts) (omega arith) ∙ ap (λ b. numbers_from b (length cuts)) z)

    named-in : IsNamedBy (length M.rows + length cuts) (numbers s.tableau (first.basic ++ cut_variables 0 (length cuts))) there.table
    named-in = subst (λ l. IsNamedBy (length M.rows + length cuts) l there.table) (sym lists)
        (named-both (length M.rows) (length cuts) (length M.cols + length M.rows) (numbers (no_entries M) first.basic) root_table there.table root.named basic-low
        (λ i w. basic-old M cuts path root_table good₀.table good₀.arranged i (subst (λ k. i < k) (sym rows_count) w))
        (λ k w. basic-new M cuts path root_table good₀.table good₀.arranged (length M.rows + k) (let r = rows_count in omega (arith, r)) ∙ omega arith))

  named-at : (s : Held) → IsStateOfRelax relax s → IsNamedBy (relaxation_of relax).activities (numbers s.tableau (first.basic ++ cut_variables 0 (length cuts))) there.table
  named-at s of = subst (λ k. IsNamedBy k (numbers s.tableau (first.basic ++ cut_variables 0 (length cuts))) there.table) (ap (λ p. p.activities) relaxation_is) (named-in s of)

  stand-by : (s : Held) → IsStateOfRelax relax s → (k : ℕ) → k < length M.cols → (stand : Stand) → root.state.stand k ≡ stand → CanStand stand ((p₁ M cuts path).low (root_table.nonbasic k)) ((p₁ M cuts path).high (root_table.nonbasic k)) → IsStandBy (p₁ M cuts path) (numbers s.tableau first.high) (root_table.nonbasic k) stand
  stand-by s of k w stand e can = go stand e can
    where
      low : root_table.nonbasic k < length M.cols + length M.rows
      low = subst (λ r. root_table.nonbasic k < length M.cols + r) rows_count (nonbasic_within (p₀ M cuts path) root_table good₀.arranged k w)

      high-listed : Lists (numbers s.tableau first.high) (root_table.nonbasic k) → root.state.stand k ≡ High
      high-listed h = (root.highs k w).0 (listed-to M cuts s.tableau (t-columns s of) (t-rows s of) (t-activities s of) first.high (root_table.nonbasic k) low h)

      none_some : (o : Option ℚ) → IsSome o → ¬ (o ≡ None)
      none_some (Some x) h f = cc
      none_some None h f = false≢true h

      go : (stand : Stand) → root.state.stand k ≡ stand → CanStand stand ((p₁ M cuts path).low (root_table.nonbasic k)) ((p₁ M cuts path).high (root_table.nonbasic k)) → IsStandBy (p₁ M cuts path) (numbers s.tableau first.high) (root_table.nonbasic k) stand
      go Low e h = ((λ l. let high = high-listed l in cc), (λ free. none_some ((p₁ M cuts path).low (root_table.nonbasic k)) h free.0))
      go High e h = listed-back M cuts s.tableau (t-columns s of) (t-rows s of) (t-activities s of) first.high (root_table.nonbasic k) low ((root.highs k w).1 e)
      go Free e h = ((λ l. let high = high-listed l in cc), h)

  stands-at : (s : Held) → IsStateOfRelax relax s → (k : ℕ) → k < (relaxation_of relax).columns → IsStandBy (relaxation_of relax) (numbers s.tableau first.high) (root_table.nonbasic k) (root.state.stand k)
  stands-at s of k w =
      let here : k < length M.cols = subst (λ r. k < r) (ap (λ p. p.columns) (sym relaxation_is)) w in
      subst (λ p. IsStandBy p (numbers s.tableau first.high) (root_table.nonbasic k) (root.state.stand k)) relaxation_is
      (stand-by s of k here (root.state.stand k) refl (can-more M cuts path pool live st good₀ k here))

  lawful-with : IsLawfulBasis relax (with_cut_variables first 0 (length cuts))
  lawful-with =
      lawful_list relax (with_cut_variables first 0 (length cuts)) there
      (subst (λ X. X) (λ i. IsGood (relaxation_is i) (parts_of (sym is.kind i) (sym is.form i) (sym is.region i)) there) good)
      (record { named = named-at; stands = stands-at })

pub first_cuts : FirstCutsLaw
first_cuts M lawful path names first root cuts pool live relax is = lawful-with M lawful path names first root cuts pool live relax is
