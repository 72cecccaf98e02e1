-- Bringing a list in is one way: tables that agree lead to tables that agree.
use Rattle.std.specs.Prelude.{◌≡◌, ℕ, zero, suc, ◌<◌, ◌≤◌, ◌==◌, if◌then◌else◌, List}
use Rattle.std.proofs.Common.{sym, ap, subst, ◌∙◌, arith, inl, inr, ⊎_elim}
use Rattle.std.proofs.lemmas.Bool.{cases_eq, cases_order}
use Rattle.frac128.specs.Rational.{◌-ℚ◌, ◌*ℚ◌, ◌/ℚ◌, neg_ℚ, inverse}
use Rattle.table_entries.specs.Relaxation.{Relaxation, Table, IsArranged, Agree, pivoted}
use Rattle.table_entries.specs.Bases.{Found, listed, Lists, IsNamedBy, IsNextOfList, MayLeave, BringsIn, IsStuck, OpenWay, IsOnOpenWay}
use Rattle.table_entries.specs.Steps.{PivotStepFits, ExchangeFits}
use Rattle.table_entries.proofs.OneTable.{agree_turned, IsArranged-agree, IsArranged-after}

-- ---- tables that agree

pub agree_on : {n m : ℕ} {d e f : Table} → Agree n m d e → Agree n m e f → Agree n m d f
agree_on a b = record { basic = λ i q. a.basic i q ∙ b.basic i q; nonbasic = λ k q. a.nonbasic k q ∙ b.nonbasic k q; entry = λ i k q w. a.entry i k q w ∙ b.entry i k q w }

module _ (n m : ℕ) (d e : Table) (a : Agree n m d e) where
  module _ (r s : ℕ) (r_within : r < m) (s_within : s < n) where
    -- so do those after one exchange
    pivoted_agree : Agree n m (pivoted d r s) (pivoted e r s)
    pivoted_agree = record {
      basic = λ i q. (λ j. if i == r then a.nonbasic s s_within j else a.basic i q j);
      nonbasic = λ k q. (λ j. if k == s then a.basic r r_within j else a.nonbasic k q j);
      entry = λ i k q w. (λ j.
          if i == r
          then (if k == s then inverse (a.entry r s r_within s_within j) else neg_ℚ (a.entry r k r_within w j /ℚ a.entry r s r_within s_within j))
          else (if k == s then a.entry i s q s_within j /ℚ a.entry r s r_within s_within j else a.entry i k q w j -ℚ a.entry i s q s_within j *ℚ (a.entry r k r_within w j /ℚ a.entry r s r_within s_within j)));
    }

    fits_agree : ExchangeFits n m d r s → ExchangeFits n m e r s
    fits_agree fits i k q w = subst (λ X. X)
        (λ j. PivotStepFits (i == r) (k == s) (a.entry r s r_within s_within j) (a.entry r k r_within w j) (a.entry i s q s_within j) (a.entry i k q w j)) (fits i k q w)

  found_agree : (v : ℕ) → Found m d.basic v → Found m e.basic v
  found_agree v f = (f.0, f.1, f.2 ∙ a.basic f.0 f.1)

module _ (list : List ℕ) (n m : ℕ) (d e : Table) (a : Agree n m d e) where
  next_agree : (turn place : ℕ) → IsNextOfList n m list d turn place → IsNextOfList n m list e turn place
  next_agree turn place h = record {
    turn_within = h.turn_within;
    before = λ t q. found_agree n m d e a (listed list t) (h.before t q);
    not_basic = λ f. h.not_basic (found_agree n m e d (agree_turned a) (listed list turn) f);
    place_within = h.place_within;
    is = sym (a.nonbasic place h.place_within) ∙ h.is;
  }

  leave_agree : (place row : ℕ) → place < n → row < m → MayLeave list d place row → MayLeave list e place row
  leave_agree place row q w h = record { unlisted = λ l. h.unlisted (subst (Lists list) (sym (a.basic row w)) l); some = λ nothing. h.some (a.entry row place w q ∙ nothing) }

-- what may leave there may leave here
leave_back : (list : List ℕ) (n m : ℕ) (d e : Table) → Agree n m d e → (place row : ℕ) → place < n → row < m → MayLeave list e place row → MayLeave list d place row
leave_back list n m d e a place row q w h = leave_agree list n m e d (agree_turned a) place row q w h

module _ (list : List ℕ) (n m : ℕ) (d e : Table) (a : Agree n m d e) where
  pub brings_agree : (row place : ℕ) → BringsIn n m list d row place → BringsIn n m list e row place
  brings_agree row place h = record {
    turn = h.turn;
    next = next_agree list n m d e a h.turn place h.next;
    row_within = h.row_within;
    leaves = leave_agree list n m d e a place row h.next.place_within h.row_within h.leaves;
    first = λ i q may. subst (λ X. X) (λ j. a.basic row h.row_within j ≤ a.basic i q j) (h.first i q (leave_back list n m d e a place i h.next.place_within q may));
  }

  pub stuck_agree : IsStuck n m list d → IsStuck n m list e
  stuck_agree h = record { turn = h.turn; place = h.place; next = next_agree list n m d e a h.turn h.place h.next; none = λ i q may. h.none i q (leave_back list n m d e a h.place i h.next.place_within q may) }

-- ---- one exchange comes next

module _ (p : Relaxation) (list : List ℕ) where
  abbrev n : ℕ
  n = p.columns

  abbrev m : ℕ
  m = p.activities

  abbrev Next : Table → ℕ → ℕ → Type 0
  Next d turn place = IsNextOfList n m list d turn place

  abbrev Brings : Table → ℕ → ℕ → Type 0
  Brings d row place = BringsIn n m list d row place

  abbrev Way : ℕ → Table → Table → Type 0
  Way c d e = OpenWay n m list c d e

  module _ (d : Table) (is : IsArranged p d) where
    turn_once : (t u place other : ℕ) → Next d t place → Next d u other → t ≡ u
    turn_once t u place other h g =
        elim (cases_order t u) [
          | inl same ↦ same
          | inr apart ↦ elim apart [ inl less ↦ absurd (h.not_basic (g.before t less)) | inr more ↦ absurd (g.not_basic (h.before u more)) ]
        ]

    place_once : (t u place other : ℕ) → Next d t place → Next d u other → place ≡ other
    place_once t u place other h g = is.nonbasic_once place other h.place_within g.place_within (h.is ∙ ap (listed list) (turn_once t u place other h g) ∙ sym g.is)

    pub brings_once : (row place other also : ℕ) → Brings d row place → Brings d other also → (row ≡ other) × (place ≡ also)
    brings_once row place other also h g =
        let same : place ≡ also = place_once h.turn g.turn place also h.next g.next in
        let before : d.basic row ≤ d.basic other = h.first other g.row_within (subst (λ k. MayLeave list d k other) (sym same) g.leaves) in
        let past : d.basic other ≤ d.basic row = g.first row h.row_within (subst (λ k. MayLeave list d k row) same h.leaves) in
        (is.basic_once row other h.row_within g.row_within (omega (arith, before, past)), same)

    pub stuck_not_brings : IsStuck n m list d → (row place : ℕ) → ¬ Brings d row place
    stuck_not_brings s row place h = s.none row h.row_within (subst (λ k. MayLeave list d k row) (place_once h.turn s.turn place s.place h.next s.next) h.leaves)

  pub named_not_brings : (d : Table) → IsNamedBy m list d → (row place : ℕ) → ¬ Brings d row place
  named_not_brings d named row place h = h.next.not_basic (named.names h.turn h.next.turn_within)

  pub named_not_stuck : (d : Table) → IsNamedBy m list d → ¬ IsStuck n m list d
  named_not_stuck d named s = s.next.not_basic (named.names s.turn s.next.turn_within)

  -- ---- ways of one length

  pub way_arranged : (c : ℕ) (d f : Table) → IsArranged p d → Way c d f → IsArranged p f
  way_arranged zero d f is w = IsArranged-agree p d f (agree_turned w) is
  way_arranged (suc c) d f is (g, (row, (place, (way, brings, _, agree)))) = IsArranged-after p g f row place brings.row_within brings.next.place_within agree (way_arranged c d g is way)

  way_one : (c : ℕ) (d e f g : Table) → IsArranged p d → Agree n m d e → Way c d f → Way c e g → Agree n m f g
  way_one zero d e f g is a v w = agree_on v (agree_on a (agree_turned w))
  way_one (suc c) d e f g is a (f', (r, (s, (v, b, _, x)))) (g', (r', (s', (w, b', _, y)))) =
      let rest : Agree n m f' g' = way_one c d e f' g' is a v w in
      let once : (r ≡ r') × (s ≡ s') = brings_once f' (way_arranged c d f' is v) r s r' s' b (brings_agree list n m g' f' (agree_turned rest) r' s' b') in
      let next : Agree n m (pivoted f' r s) (pivoted g' r' s') = subst (λ X. X) (λ i. Agree n m (pivoted f' r s) (pivoted g' (once.0 i) (once.1 i))) (pivoted_agree n m f' g' rest r s b.row_within b.next.place_within) in
      agree_on x (agree_on next (agree_turned y))

  -- ---- a longer way goes on

  pub record GoesOn (c : ℕ) (e : Table) : Type 0 where
    pub mid : Table
    pub row : ℕ
    pub place : ℕ
    pub way : Way c e mid
    pub brings : Brings mid row place
    pub fits : ExchangeFits n m mid row place

  goes_on : (c b : ℕ) (e g : Table) → c < b → Way b e g → GoesOn c e
  goes_on c zero e g less w = absurd (omega (arith, less))
  goes_on c (suc b) e g less (f, (r, (s, (w, brings, fits, _)))) = ⊎_elim
      (λ same. record { mid = f; row = r; place = s; way = subst (λ k. Way k e f) (sym same) w; brings = brings; fits = fits })
      (λ other. goes_on c b e f (omega (arith, less, other)) w)
      (cases_eq c b)

  -- no exchange with room goes on from the table
  abbrev pub Closed : Table → Type 0
  Closed d = (row place : ℕ) → Brings d row place → ¬ ExchangeFits n m d row place

  pub named_closed : (d : Table) → IsNamedBy m list d → Closed d
  named_closed d named row place brings fits = named_not_brings d named row place brings

  pub stuck_closed : (d : Table) → IsArranged p d → IsStuck n m list d → Closed d
  stuck_closed d is s row place brings fits = stuck_not_brings d is s row place brings

  pub wide_closed : (d : Table) → IsArranged p d → (row place : ℕ) → Brings d row place → ¬ ExchangeFits n m d row place → Closed d
  wide_closed d is row place brings wide other also goes fits =
      let once = brings_once d is other also row place goes brings in
      wide (subst (λ X. X) (λ i. ExchangeFits n m d (once.0 i) (once.1 i)) fits)

  not_beyond : (d f : Table) → Agree n m d f → Closed f → (row place : ℕ) → Brings d row place → ¬ ExchangeFits n m d row place
  not_beyond d f a closed row place brings fits = closed row place (brings_agree list n m d f a row place brings) (fits_agree n m d f a row place brings.row_within brings.next.place_within fits)

  -- ways from tables that agree to such ends
  pub ends_agree : (d e f g : Table) → IsArranged p d → Agree n m d e → IsOnOpenWay n m list d f → IsOnOpenWay n m list e g → Closed f → Closed g → Agree n m f g
  ends_agree d e f g is a (c, v) (b, w) f_closed g_closed =
      elim (cases_order c b) [
        | inl same ↦ way_one c d e f g is a v (subst (λ k. Way k e g) (sym same) w)
        | inr apart ↦ elim apart [
          | inl less ↦
              let on = goes_on c b e g less w in
              absurd (not_beyond on.mid f (agree_turned (way_one c d e f on.mid is a v on.way)) f_closed on.row on.place on.brings on.fits)
          | inr more ↦
              let on = goes_on b c d f more v in
              absurd (not_beyond on.mid g (way_one b d e on.mid g is a on.way w) g_closed on.row on.place on.brings on.fits)
        ]
      ]
