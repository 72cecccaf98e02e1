-- What the calls of a task come to: whether a round may follow, what is added, and how the relaxation of a round is solved.
use Rattle.std.specs.Prelude.{◌≡◌, ◌↔◌, ◌+◌, ◌<◌, ◌≤◌, ℕ, Bool, true, false, not, is_some, IsTrue, List, ◌∷◌, [], ◌++◌, length, get_or, Option, Some, None, MatchOption, Result, Ok, Err}
use Rattle.std.specs.declared.alloc.AllocError.{AllocError}
use Rattle.std.proofs.Common.{refl, sym, ap, subst, ◌∙◌, arith, inl, inr}
use Rattle.std.proofs.lemmas.Bool.{false≢true}
use Rattle.frac128.specs.Rational.{ℚ}
use Rattle.lp_model.specs.Program.{Point}
use Rattle.lp_model.specs.Lawful.{IsLawful}
use Rattle.lp_model.specs.declared.types.ColId.{ColId}
use Rattle.lp_model.specs.declared.types.CutRow.{CutRow}
use Rattle.lp_model.specs.declared.types.Derivation.{Derivation}
use Rattle.lp_model.specs.declared.types.Basis.{Basis}
use Rattle.row_tableau.specs.declared.relax.Relax.{Relax}
use Rattle.basic_solution.specs.Held.{Held, IsLawfulHeld}
use Rattle.basic_solution.specs.ListedStates.{IsLawfulBasis}
use Rattle.cover_cuts.specs.Cuts.{IsCutOf, IsPoolOf}
use Rattle.dual_simplex.specs.Starts.{IsStarted, IsStartFault, IsWideStart}
use Rattle.dual_simplex.specs.SlackBases.{IsRootBasis}
use Rattle.dual_simplex.specs.Walks.{Moves}
use Rattle.dual_simplex.specs.Solves.{IsSolved}
use Rattle.dual_simplex.specs.declared.solve.Lp.{Lp}
use Rattle.dual_simplex.specs.declared.solve.Lp.TheVariants as lp
use Rattle.dual_simplex.specs.declared.start.StartFault.{StartFault}
use Rattle.dual_simplex.specs.declared.start.StartFault.TheVariants as fault
use Rattle.dual_simplex.proofs.HeldLemmas.{same_list}
use Rattle.node_solve.specs.Laws.{AreAllLive}
use Rattle.node_solve.specs.Runs.{IsPlainOf, NamesIntegers}
use Rattle.node_solve.specs.Works.{IsWholeAt, IsFirstFractional, IsAllowedBy}
use Rattle.node_solve.specs.Rounds.{Work, Round, form_in, first_in, RunsTo, HasRowOf, IsAddable, AddsOne, MayGoOn}
use Rattle.node_solve.specs.private.Rounds.{IsSolvedIn}
use Rattle.node_solve.specs.private.RoundCode.{round_of, run_end, unstarted}
use Rattle.node_solve.specs.declared.rounds.Round.{Round as HeldRound}
use Rattle.node_solve.proofs.EndLemmas.{not_whole, run_of, optimum_allowed}
use Rattle.node_solve.proofs.FirstLemmas.{first_cuts}

pub is_so : {P : Type 0} → P → IsTrue true ↔ P
is_so p = ((λ _. p), (λ _. refl))

pub is_not : {P : Type 0} → ¬ P → IsTrue false ↔ P
is_not none = ((λ e. absurd (false≢true e)), (λ p. absurd (none p)))

-- ---- whether a round may follow

module _ (W : Work) (made : ℕ) (r : Round) (x : Point) where
  pub may_not_rounds : W.rounds ≤ made → IsTrue false ↔ MayGoOn W made r x
  may_not_rounds past = is_not (λ (may : MayGoOn W made r x). let fewer : made < W.rounds = may.fewer in absurd (omega (arith, fewer, past)))

  pub may_not_room : 200 ≤ length r.cuts → IsTrue false ↔ MayGoOn W made r x
  may_not_room full = is_not (λ (may : MayGoOn W made r x). let room : length r.cuts < 200 = may.room in absurd (omega (arith, room, full)))

  pub may_by_point : made < W.rounds → length r.cuts < 200 → (o : Option ℕ) → MatchOption o (IsWholeAt W.model x) (IsFirstFractional W.model x) → IsTrue (is_some o) ↔ MayGoOn W made r x
  may_by_point fewer room None whole = is_not (λ (may : MayGoOn W made r x). may.fractional whole)
  may_by_point fewer room (Some j) first = is_so (record { fractional = not_whole W.model x j first; fewer = fewer; room = room })

-- ---- whether a cut may be added

module _ (W : Work) (r : Round) (c : CutRow) where
  pub not_dead : c.live ≡ false → IsTrue false ↔ IsAddable W r c
  not_dead dead = is_not (λ (may : IsAddable W r c). false≢true (sym dead ∙ may.live))

  pub not_past : 200 ≤ length r.cuts → IsTrue false ↔ IsAddable W r c
  not_past full = is_not (λ (may : IsAddable W r c). let room : length r.cuts < 200 = may.room in absurd (omega (arith, room, full)))

  pub not_in_pool : 10000 ≤ length W.pool + length r.added → IsTrue false ↔ IsAddable W r c
  not_in_pool full = is_not (λ (may : IsAddable W r c). let room : length W.pool + length r.added < 10000 = may.pool_room in absurd (omega (arith, room, full)))

  pub addable_by : c.live ≡ true → length r.cuts < 200 → length W.pool + length r.added < 10000 → (b : Bool) → IsTrue b ↔ HasRowOf r.cuts c → IsTrue (not b) ↔ IsAddable W r c
  addable_by live room pool_room true has = is_not (λ (may : IsAddable W r c). may.other (has.0 refl))
  addable_by live room pool_room false has = is_so (record { live = live; other = λ h. false≢true (has.1 h); room = room; pool_room = pool_room })

-- ---- equal rows

pub term_is : (a b : ColId × ℚ) → a.0.0 ≡ b.0.0 → a.1 ≡ b.1 → a ≡ b
term_is a b col number = λ i. (record { 0 = col i }, number i)

pub terms_are : (xs ys : List (ColId × ℚ)) → length xs ≡ length ys → ((k : ℕ) (d : ColId × ℚ) → k < length xs → get_or xs k d ≡ get_or ys k d) → xs ≡ ys
terms_are [] [] size same = refl
terms_are [] (y ∷ ys) size same = absurd (omega (arith, size))
terms_are (x ∷ xs) ys size same = same_list x (x ∷ xs) ys size (λ k q. same k x q)

-- ---- what one derivation adds

pub added_is : (W : Work) (r : HeldRound) (after : List CutRow) (behind : List ℕ) (more : List Derivation) (c : CutRow) (place : ℕ) (d noted : Derivation) → c.from ≡ d → IsCutOf W.model c → IsAddable W (round_of r) c
    → after ≡ r.cuts ++ c ∷ [] → behind ≡ r.places.items ++ place ∷ [] → place ≡ length W.pool + length r.added.items
    → more ≡ r.added.items ++ noted ∷ [] → noted ≡ d → AddsOne W (round_of r) d (record { cuts = after; places = behind; added = more; list = r.list })
added_is W r after behind more c place d noted from is may cuts places place_is added noted_is =
    let placed = places ∙ ap (λ p. r.places.items ++ p ∷ []) place_is in
    let named = added ∙ ap (λ x. r.added.items ++ x ∷ []) (noted_is ∙ sym from) in
    (c, (from, (is, inl (may, (λ i. record { cuts = cuts i; places = placed i; added = named i; list = r.list })))))

-- ---- the relaxation of a round

module _ (W : Work) (r : Round) (relax : Relax) (first : Basis) (first_is : first ≡ first_in W r) where
  -- where the list is not lawful the run begins at the first basis with the cuts' activities, which is
  pub first_lawful : IsPlainOf (form_in W r) W.job.region relax → IsLawful W.model → NamesIntegers W.model W.job.region → IsRootBasis W.model W.first → IsPoolOf W.model r.cuts → AreAllLive r.cuts → IsLawfulBasis relax first
  first_lawful is lawful names root are live = subst (IsLawfulBasis relax) (sym first_is) (first_cuts W.model lawful W.job.region names W.first root r.cuts are live relax is)

  pub start_stops : (of : StartFault) → IsStartFault relax r.list first of → IsPlainOf (form_in W r) W.job.region relax → IsSolvedIn W r (unstarted of)
  start_stops (fault.Wide step basis) wide is = inl (relax, (is, subst (λ f. IsWideStart relax r.list f step basis) first_is wide))
  start_stops fault.Memory memory is = tt

  pub round_run : (began : Held) → IsStarted relax r.list first began → IsPlainOf (form_in W r) W.job.region relax → IsLawfulHeld began → (n : ℕ) (s : Held) → Moves n began s → RunsTo W r n s
  round_run began started is kept n s moves = run_of (form_in W r) W.job.region relax r.list (first_in W r) began (subst (λ f. IsStarted relax r.list f began) first_is started) is kept n s moves

-- where the run ends so, the relaxation of the round comes to that
pub run_told : (W : Work) (r : Round) (began after : Held) → ((n : ℕ) → Moves n began after → RunsTo W r n after) → (end : Result Lp AllocError) → IsSolved began W.pivots end after → IsSolvedIn W r (run_end end)
run_told W r began after run (Ok (lp.Pivots basis)) told = record { moves = told.0; state = after; run = run told.0 told.1.1.0; holds = told.1.1.1 }
run_told W r began after run (Ok (lp.Wide step basis)) told = inr (told.0, (after, (run told.0 told.1.1.0, (inl (told.1.0, told.1.1.1.0), told.1.1.1.1))))
run_told W r began after run (Ok (lp.Optimal point mult basis)) told =
    record { moves = told.0; state = after; run = run told.0 told.1.1.0; holds = (optimum_allowed W.pivots told.0 after point mult told.1.0 told.1.1.1.0, told.1.1.1) }
run_told W r began after run (Ok (lp.Infeasible farkas mult basis)) told =
    let allowed : IsAllowedBy W.pivots told.0 after = record { within = told.1.0; further = λ row side out. told.1.1.1.0 } in
    record { moves = told.0; state = after; run = run told.0 told.1.1.0; holds = (allowed, told.1.1.1.1) }
run_told W r began after run (Err error) told = tt
