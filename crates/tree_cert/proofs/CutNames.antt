-- A cut that counts is read back from its names: the row and the columns of its derivation are there, and no column's name stands twice.
use Rattle.std.proofs.Common.{◌≡◌, ◌≢◌, ℕ, zero, suc, ◌<◌, ◌≤◌, Bool, true, false, List, [], ◌∷◌, length, get_or, map, refl, sym, ap, subst, ◌∙◌, arith}
use Rattle.std.specs.Prelude.{IsTrue, IsSome, All, AllPairs, Contains, None}
use Rattle.std.specs.Option.{option_map}
use Rattle.std.proofs.lemmas.List.{length-map, get_or_default}
use Rattle.std.proofs.lemmas.List.Elements.{All-map}
use Rattle.frac128.specs.Rational.{neg_ℚ}
use Rattle.lp_model.specs.Program.{Program}
use Rattle.lp_model.specs.Elements.{of_element}
use Rattle.lp_model.specs.Lawful.{IsLawful, column_names, column_name, row_name}
use Rattle.lp_model.specs.Edits.{only_row_names, place_in}
use Rattle.lp_model.specs.Cuts.{is_live}
use Rattle.lp_model.specs.declared.types.Side.{Side}
use Rattle.lp_model.specs.declared.types.Side.TheVariants.{Lo, Hi}
use Rattle.lp_model.specs.declared.types.Row.{Row}
use Rattle.lp_model.specs.declared.types.Literal.{Literal}
use Rattle.lp_model.specs.declared.types.Derivation.{Derivation}
use Rattle.lp_model.specs.declared.types.CutRow.{CutRow}
use Rattle.lp_model.proofs.ElementLemmas.{element, of_element-get}
use Rattle.lp_model.proofs.NameLemmas.{get_or-map}
use Rattle.cover_cuts.specs.Covers.{side_limit, AreLiterals}
use Rattle.cover_cuts.specs.Answers.{DerivesWithRoom}
use Rattle.cover_cuts.specs.Cuts.{cover_terms, cover_high, IsCutOf, IsPoolOf}
use Rattle.cert_text.specs.declared.cert.NamedCut.{NamedCut}
use Rattle.cert_check.specs.declared.verdict.Judgement.TheVariants.{Passes}
use Rattle.cert_check.specs.Cuts.{literal_names, AreCutNames, literal_of, derivation_of, row_of_cut, rows_of, IsCutJudged}
use Rattle.cert_check.proofs.PairLemmas.{place_is}
use Rattle.cert_check.proofs.PlaceLemmas.{rows_differ}
use Rattle.tree_cert.specs.Cuts.{named_literal, named_cut, no_derivation, derivation_at, named_cuts}
use Rattle.tree_cert.specs.private.Marked.{IsDerivationThere}
use Rattle.tree_cert.proofs.NameLaws.{element-get, contains_at, all_cons, all_none, all_first, all_rest, once_cons, once_none, column_place, column_there}
use Rattle.tree_cert.proofs.ChosenLaws.{live_there}

-- ---- what is there

true_there : {A : Type 0} (f : A → Bool) (xs : List A) (k : ℕ) → IsTrue (of_element false f xs k) → k < length xs
true_there f [] k on = let e : false ≡ true = on in absurd (cc)
true_there f (x ∷ xs) zero on = omega arith
true_there f (x ∷ xs) (suc k) on = let below : k < length xs = true_there f xs k on in omega (arith, below)

high_there : (rows : List Row) (k : ℕ) → IsSome (of_element None (λ r. r.hi) rows k) → k < length rows
high_there [] k some = let e : false ≡ true = some in absurd (cc)
high_there (r ∷ rows) zero some = omega arith
high_there (r ∷ rows) (suc k) some = let below : k < length rows = high_there rows k some in omega (arith, below)

low_there : (rows : List Row) (k : ℕ) → IsSome (option_map neg_ℚ (of_element None (λ r. r.lo) rows k)) → k < length rows
low_there [] k some = let e : false ≡ true = some in absurd (cc)
low_there (r ∷ rows) zero some = omega arith
low_there (r ∷ rows) (suc k) some = let below : k < length rows = low_there rows k some in omega (arith, below)

module _ (M : Program) where
  side_there : (i : ℕ) (s : Side) → IsSome (side_limit M i s) → i < length M.rows
  side_there i Hi some = high_there M.rows i some
  side_there i Lo some = low_there M.rows i some

  literals_there : (from : ℕ) (ls : List Literal) → AreLiterals M from ls → All (λ l. l.col.0 < length M.cols) ls
  literals_there from [] h = all_none (λ l. l.col.0 < length M.cols)
  literals_there from (l ∷ ls) (low, binary, rest) =
      all_cons (λ l. l.col.0 < length M.cols) l ls (true_there (λ c. c.int) M.cols l.col.0 binary.integer) (literals_there (suc l.col.0) ls rest)

  pub derivation_there : (d : Derivation) → DerivesWithRoom M d → IsDerivationThere M d
  derivation_there d h = record { row = side_there d.row.0 d.side h.derives.posed.side; literals = literals_there 0 d.literals h.derives.posed.literals }

  later : (from : ℕ) (ls : List Literal) → AreLiterals M from ls → All (λ l. from ≤ l.col.0) ls
  later from [] h = all_none (λ l. from ≤ l.col.0)
  later from (l ∷ ls) (low, binary, rest) =
      let behind : All (λ k. suc l.col.0 ≤ k.col.0) ls = later (suc l.col.0) ls rest in
      all_cons (λ k. from ≤ k.col.0) l ls low (λ i d below. let h = behind i d below in omega (arith, h, low))

-- ---- those of a pool

-- the cut at a place, which counts
record IsAtPlace (M : Program) (cuts : List CutRow) (k : ℕ) (c : CutRow) : Type 0 where
  pub is : c ≡ get_or cuts k c
  pub cut : IsCutOf M c
  pub on : IsTrue c.live
  pub from : derivation_at cuts k ≡ c.from

module _ (M : Program) (cuts : List CutRow) (pool : IsPoolOf M cuts) where
  at_place : (k : ℕ) → IsTrue (is_live cuts k) → (c : CutRow) × IsAtPlace M cuts k c
  at_place k on =
      let below : k < length cuts = live_there cuts k on in
      let el = element cuts k below in (
        el.0,
        record {
          is = el.1;
          cut = subst (IsCutOf M) (sym el.1) (pool k el.0 below);
          on = sym (of_element-get false (λ (c : CutRow). c.live) cuts k el.0 below el.1) ∙ on;
          from = of_element-get no_derivation (λ (c : CutRow). c.from) cuts k el.0 below el.1;
        },
      )

  pub derives_at : (k : ℕ) → IsTrue (is_live cuts k) → DerivesWithRoom M (derivation_at cuts k)
  derives_at k on = let a = at_place k on in subst (DerivesWithRoom M) (sym a.1.from) (a.1.cut.live.0 a.1.on)

  pub used_there : (used : List ℕ) → All (λ k. IsTrue (is_live cuts k)) used → All (λ k. IsDerivationThere M (derivation_at cuts k)) used
  used_there used live i d below = derivation_there M (derivation_at cuts (get_or used i d)) (derives_at (get_or used i d) (live i d below))

  pub used_within : (used : List ℕ) → All (λ k. IsTrue (is_live cuts k)) used → All (λ k. k < length cuts) used
  used_within used live i d below = live_there cuts (get_or used i d) (live i d below)

-- ---- names

module _ (M : Program) (lawful : IsLawful M) where
  columns_once : AllPairs (λ a b. a ≢ b) (column_names M)
  columns_once = lawful.columns_distinct

  rows_once : AllPairs (λ a b. a ≢ b) (only_row_names M)
  rows_once = rows_differ M lawful.rows_distinct

  row_within : (k : ℕ) → k < length M.rows → k < length (only_row_names M)
  row_within k there = let l = length-map M.rows (λ r. r.name) in omega (arith, l, there)

  row_back : (k : ℕ) → k < length M.rows → place_in (only_row_names M) (row_name M k) ≡ k
  row_back k there = sym (place_is (only_row_names M) (row_name M k) k rows_once (row_within k there) (element-get [] (λ r. r.name) M.rows k))

  literal_back : (l : Literal) → l.col.0 < length M.cols → literal_of M (named_literal M l) ≡ l
  literal_back l there = ap (λ k. record { col = record { 0 = k }; plus = l.plus }) (column_place M columns_once l.col.0 there)

  literals_back : (ls : List Literal) → All (λ l. l.col.0 < length M.cols) ls → map (literal_of M) (map (named_literal M) ls) ≡ ls
  literals_back [] there = refl
  literals_back (l ∷ ls) there =
      let first = literal_back l (all_first (λ l. l.col.0 < length M.cols) l ls there) in
      let rest = literals_back ls (all_rest (λ l. l.col.0 < length M.cols) l ls there) in
      (λ i. first i ∷ rest i)

  derivation_back : (d : Derivation) → IsDerivationThere M d → derivation_of M (named_cut M d) ≡ d
  derivation_back d there = let row = row_back d.row.0 there.row in let literals = literals_back d.literals there.literals in (λ i. record { row = record { 0 = row i }; side = d.side; literals = literals i })

  names_there : (ls : List Literal) → All (λ l. l.col.0 < length M.cols) ls → All (Contains (column_names M)) (literal_names (map (named_literal M) ls))
  names_there [] there = all_none (Contains (column_names M))
  names_there (l ∷ ls) there =
      all_cons (Contains (column_names M)) (column_name M l.col.0) (literal_names (map (named_literal M) ls)) (column_there M columns_once l.col.0 (all_first (λ l. l.col.0 < length M.cols) l ls there))
      (names_there ls (all_rest (λ l. l.col.0 < length M.cols) l ls there))

  names_apart : (j : ℕ) → j < length M.cols → (ls : List Literal) → All (λ l. l.col.0 < length M.cols) ls → All (λ l. suc j ≤ l.col.0) ls → All (λ n. column_name M j ≢ n) (literal_names (map (named_literal M) ls))
  names_apart j here [] there behind = all_none (λ n. column_name M j ≢ n)
  names_apart j here (l ∷ ls) there behind =
      let own : l.col.0 < length M.cols = all_first (λ l. l.col.0 < length M.cols) l ls there in
      let past : suc j ≤ l.col.0 = all_first (λ l. suc j ≤ l.col.0) l ls behind in
      all_cons (λ n. column_name M j ≢ n) (column_name M l.col.0) (literal_names (map (named_literal M) ls))
      (λ same.
      let place : j ≡ l.col.0 = sym (column_place M columns_once j here) ∙ ap (place_in (column_names M)) same ∙ column_place M columns_once l.col.0 own in
      omega (arith, place, past))
      (names_apart j here ls (all_rest (λ l. l.col.0 < length M.cols) l ls there) (all_rest (λ l. suc j ≤ l.col.0) l ls behind))

  names_once : (from : ℕ) (ls : List Literal) → AreLiterals M from ls → All (λ l. l.col.0 < length M.cols) ls → AllPairs (λ a b. a ≢ b) (literal_names (map (named_literal M) ls))
  names_once from [] h there = once_none
  names_once from (l ∷ ls) (low, binary, rest) there =
      let others : All (λ l. l.col.0 < length M.cols) ls = all_rest (λ l. l.col.0 < length M.cols) l ls there in
      once_cons (column_name M l.col.0) (literal_names (map (named_literal M) ls))
      (names_apart l.col.0 (all_first (λ l. l.col.0 < length M.cols) l ls there) ls others (later M (suc l.col.0) ls rest))
      (names_once (suc l.col.0) ls rest others)

  cut_names : (d : Derivation) → DerivesWithRoom M d → AreCutNames M (named_cut M d)
  cut_names d h =
      let there : IsDerivationThere M d = derivation_there M d h in
      record {
        row = contains_at (only_row_names M) d.row.0 (row_name M d.row.0) (row_within d.row.0 there.row) (element-get [] (λ r. r.name) M.rows d.row.0);
        literals = record { there = names_there d.literals there.literals; once = names_once 0 d.literals h.derives.posed.literals there.literals };
      }

  pub cut_passes : (d : Derivation) → DerivesWithRoom M d → IsCutJudged M (named_cut M d) Passes
  cut_passes d h = (cut_names d h, subst (DerivesWithRoom M) (sym (derivation_back d (derivation_there M d h))) h)

  -- a cut that counts is the one that its names stand for
  cut_back : (c : CutRow) → IsCutOf M c → IsTrue c.live → row_of_cut M (named_cut M c.from) ≡ c
  cut_back c is on =
      let from : derivation_of M (named_cut M c.from) ≡ c.from = derivation_back c.from (derivation_there M c.from (is.live.0 on)) in
      let terms : cover_terms (derivation_of M (named_cut M c.from)).literals ≡ c.terms = ap (λ (d : Derivation). cover_terms d.literals) from ∙ sym is.row.terms in
      let high : cover_high (derivation_of M (named_cut M c.from)).literals ≡ c.hi = ap (λ (d : Derivation). cover_high d.literals) from ∙ sym is.row.high in
      (λ i. record { from = from i; terms = terms i; hi = high i; live = sym on i })

  -- ---- those of a pool, by names

  module _ (cuts : List CutRow) (pool : IsPoolOf M cuts) where
    pub used_pass : (used : List ℕ) → All (λ k. IsTrue (is_live cuts k)) used → All (λ cut. IsCutJudged M cut Passes) (named_cuts M cuts used)
    used_pass used live =
        All-map (λ cut. IsCutJudged M cut Passes) (λ k. named_cut M (derivation_at cuts k)) used (λ i d below. cut_passes (derivation_at cuts (get_or used i d)) (derives_at M cuts pool (get_or used i d) (live i d below)))

    pub used_size : (used : List ℕ) → length (rows_of M (named_cuts M cuts used)) ≡ length used
    used_size used = length-map (named_cuts M cuts used) (row_of_cut M) ∙ length-map used (λ k. named_cut M (derivation_at cuts k))

    pub used_rows : (used : List ℕ) → All (λ k. IsTrue (is_live cuts k)) used → (k : ℕ) (d : CutRow) → k < length used → get_or cuts (get_or used k 0) d ≡ get_or (rows_of M (named_cuts M cuts used)) k d
    used_rows used live k d below =
        let p : ℕ = get_or used k 0 in
        let on : IsTrue (is_live cuts p) = live k 0 below in
        let a = at_place M cuts pool p on in
        let named : NamedCut = named_cut M (derivation_at cuts p) in
        let size : length (named_cuts M cuts used) ≡ length used = length-map used (λ k. named_cut M (derivation_at cuts k)) in
        let inner : get_or (named_cuts M cuts used) k named ≡ named = get_or-map (λ k. named_cut M (derivation_at cuts k)) used k p named below (get_or_default used k 0 p below) in
        let outer : get_or (rows_of M (named_cuts M cuts used)) k d ≡ row_of_cut M named = get_or-map (row_of_cut M) (named_cuts M cuts used) k named d (omega (arith, size, below)) (sym inner) in
        let back : row_of_cut M named ≡ a.0 = ap (λ e. row_of_cut M (named_cut M e)) a.1.from ∙ cut_back a.0 a.1.cut a.1.on in
        get_or_default cuts p d a.0 (live_there cuts p on) ∙ sym a.1.is ∙ sym back ∙ sym outer
