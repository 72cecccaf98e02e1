-- A search stays in order as results are placed, and where it stops.
use Rattle.std.specs.Prelude.{◌≡◌, ℕ, List, [], ◌∷◌, take, length, All, Option, Some, None}
use Rattle.std.proofs.Common.{refl, sym, subst, ◌∙◌, inl, inr}
use Rattle.std.proofs.lemmas.List.{length-map}
use Rattle.std.proofs.lemmas.List.Elements.{All-nil, All-take}
use Rattle.tree_search.specs.GivingUp.{cuts_found, LeavesTurn}
use Rattle.lp_model.specs.Formulations.{Formulation}
use Rattle.lp_model.specs.Program.{Program, Point}
use Rattle.lp_model.specs.Regions.{Path}
use Rattle.lp_model.specs.declared.types.Basis.{Basis}
use Rattle.lp_model.specs.declared.types.Derivation.{Derivation}
use Rattle.lp_model.specs.declared.types.WideStep.{WideStep}
use Rattle.lp_model.specs.declared.answers.StopWhy.{StopWhy}
use Rattle.lp_model.specs.declared.answers.StopWhy.TheVariants as why
use Rattle.model_points.specs.Rays.{without_costs}
use Rattle.branch_tree.specs.declared.node.Job.{Job}
use Rattle.branch_tree.specs.declared.node.NodeResult.TheVariants.{Keep}
use Rattle.sound_searches.specs.Pool.{AddsCuts, AddsSome}
use Rattle.sound_searches.specs.Sound.{PlainSearch}
use Rattle.sound_searches.specs.declared.taken.Taken.TheVariants.{Kept}
use Rattle.search_parts.specs.Lists.{IsBasis}
use Rattle.basic_solution.specs.Held.{Held}
use Rattle.dual_simplex.proofs.SolveLemmas.{of_after}
use Rattle.list_order.specs.Order.{IsBasisInOrder}
use Rattle.list_order.specs.Ordered.{IsCutInOrder, AreCutsInOrder}
use Rattle.list_order.proofs.TakenOrder.{IsKeptInOrder, open-order, taken-order, adds-kept}
use Rattle.node_solve.specs.Places.{live_places, basis_in_pool}
use Rattle.node_solve.specs.Rounds.{Work, Round, MakesRounds, form_in, first_in, EndsRounds, IsWorked}
use Rattle.node_solve.specs.Works.{IsRunWide}
use Rattle.node_solve.specs.declared.working.Worked.{Worked}
use Rattle.node_solve.specs.declared.working.Worked.TheVariants.{Done, Pivots, Wide, Memory}
use Rattle.node_solve.proofs.EndLemmas.{state_of}
use Rattle.node_solve.proofs.ListLemmas.{basis_there}
use Rattle.result_order.specs.Laws.{IsWorkedInOrder}
use Rattle.result_order.proofs.PoolOrder.{basis-in-pool}
use Rattle.result_order.proofs.StateOrder.{basis-order}
use Rattle.result_order.proofs.WorkedOrder.{wide-order, worked-order}
use Rattle.tree_search.specs.Steps.{worked_model, FoundCuts, work_next, kept_basis, WorksNext, Places, KeepsOpen, PointAtNext, StopsAtNext}
use Rattle.tree_search.specs.Turns.{Order, Crew, first_crew, Turn, HandOut, PlaceResult, Drives, Goes}
use Rattle.tree_search.specs.declared.searching.Ways.{Ways}
use Rattle.tree_search.specs.declared.searching.Ways.TheVariants.{Own, Rays}
use Rattle.tree_search.proofs.CrewLemmas.{hands-same}
use Rattle.tree_search.proofs.JobLemmas.{IsWorkedBy}
use Rattle.tree_search.proofs.KeepLemmas.{keeps-cuts}
use Rattle.tree_search.proofs.PlacedLemmas.{round-places, round-at}

module _ (M : Program) (ways : Ways) (first : Basis) (pivots : ℕ) (S : PlainSearch) (by : IsWorkedBy ways S.model) where
  -- the model that is worked has the same rows and columns
  own-cuts : (ds : List Derivation) → AreCutsInOrder (worked_model ways S.model) ds → AreCutsInOrder S.model ds
  own-cuts ds h = at ways by h
    where
      costless : (c : AreCutsInOrder (without_costs S.model) ds) → AreCutsInOrder S.model ds
      costless c = subst (λ n. All (IsCutInOrder (length S.model.rows) n) ds) (length-map S.model.cols _) c

      at : (w : Ways) → IsWorkedBy w S.model → AreCutsInOrder (worked_model w S.model) ds → AreCutsInOrder S.model ds
      at Own b c = c
      at (Rays Z) b c = costless (subst (λ N. AreCutsInOrder N ds) b c)

  module _ (job : Job) where
    abbrev W : Work
    W = work_next ways first pivots S job

    worked : (w : Worked) → WorksNext ways first pivots S job w → IsWorkedInOrder (worked_model ways S.model) w
    worked w works = worked-order W w works.worked_is

    -- the basis of a stop, by the names of the pool
    module _ (found : List Derivation) (T : PlainSearch) (adds : AddsCuts S found T) where
      round-basis : (made : ℕ) (r : Round) → MakesRounds W made r → found ≡ r.added → (basis : Basis) → IsBasis (form_in W r) basis → IsBasisInOrder basis → IsBasisInOrder (kept_basis T basis)
      round-basis made r makes same basis there order =
          subst (λ p. IsBasisInOrder (basis_in_pool p basis)) (round-places ways first pivots S by job found T adds made r makes same)
          (basis-in-pool (worked_model ways S.model) T.cuts r.cuts r.places (round-at ways first pivots S by job found T adds made r makes same) basis there order)

      wide-basis : (F : Formulation) (path : Path) (list other : Basis) (limit : ℕ) (Last : Held → Type 0) (basis : Basis) (step : WideStep) → IsRunWide F path list other limit Last basis step → IsBasis F basis
      wide-basis F path list other limit Last basis step (inl (relax, (is, wide))) = basis_there F path wide.state (relax, (is, wide.reached.is)) basis wide.basis_is
      wide-basis F path list other limit Last basis step (inr (n, (s, (run, (here, basis_is))))) =
          basis_there F path s (run.relax, (run.relax_is, of_after run.relax n run.began s run.moves run.started.reached.is)) basis basis_is

      pivots-kept : (basis : Basis) (vec : FoundCuts) → vec.items ≡ found → IsWorked W (Pivots basis vec) → IsBasisInOrder (kept_basis T basis)
      pivots-kept basis vec same (made, (r, (makes, d))) =
          round-basis made r makes (sym same ∙ d.found_are) basis (basis_there (form_in W r) W.job.region d.state (state_of W r W.pivots d.state d.run) basis d.basis_is) (basis-order d.state basis d.basis_is)

      step-kept : (at : _) (vec : FoundCuts) → vec.items ≡ found → IsWorked W (Wide at vec) → IsBasisInOrder (kept_basis T at.basis)
      step-kept at vec same (made, (r, (makes, (leaf, (wide, found_are))))) =
          round-basis made r makes (sym same ∙ found_are) at.basis (wide-basis (form_in W r) W.job.region r.list (first_in W r) W.pivots (EndsRounds W made r) at.basis at.step wide)
          (wide-order (form_in W r) W.job.region r.list (first_in W r) W.pivots (EndsRounds W made r) at.basis at.step wide)

    -- the leaf stays open
    keeps : (found : List Derivation) (point : Option Point) (basis : Basis) (new : PlainSearch) → KeepsOpen S job found point basis new → AreCutsInOrder (worked_model ways S.model) found → IsBasisInOrder basis → IsKeptInOrder M S
        → IsKeptInOrder M new
    keeps found point basis new k cuts order h = open-order M k.mid job.id (Keep point basis) new Kept k.takes order (adds-kept M S found k.mid k.adds (own-cuts found cuts) h)

    at-cuts : (found : List Derivation) (point : Option Point) (kept basis : Basis) (new : PlainSearch) (k : KeepsOpen S job found point kept new) → IsBasisInOrder (kept_basis k.mid basis) → IsBasisInOrder (kept_basis new basis)
    at-cuts found point kept basis new k h = subst (λ cs. IsBasisInOrder (basis_in_pool (live_places 200 0 cs) basis)) (sym (keeps-cuts S job found point kept new k)) h

  -- ---- a result

  pub placed : (new : PlainSearch) → Places ways first pivots S new → IsKeptInOrder M S → IsKeptInOrder M new
  placed new p h =
      let w = worked p.job (Done p.result p.found) p.works in
      taken-order M p.mid p.job.id p.result new p.taken p.takes w.0 (adds-kept M S p.found.items p.mid p.adds (own-cuts p.found.items w.1) h)

  -- ---- stops

  pub point-next : (new : PlainSearch) → PointAtNext ways first pivots S new → IsKeptInOrder M S → IsKeptInOrder M new
  point-next new p h = let w = worked p.job (Done _ p.found) p.works in keeps p.job p.found.items (Some p.point) p.basis new p.keeps w.1 w.0.1 h

  pub stops-next : (new : PlainSearch) (reason : StopWhy) → StopsAtNext ways first pivots S new reason → IsKeptInOrder M S → IsKeptInOrder M new
  stops-next new why.Nodes p h = absurd p
  stops-next new why.Tree p h = let w = worked p.job (Done _ p.found) p.works in adds-kept M S p.found.items new p.adds (own-cuts p.found.items w.1) h
  stops-next new (why.Pivots place) p h =
      let w = worked p.job (Pivots place.basis p.found) p.works in
      let basis = pivots-kept p.job p.found.items p.keeps.mid p.keeps.adds place.basis p.found refl p.works.worked_is in
      keeps p.job p.found.items None (kept_basis new place.basis) new p.keeps w.1 (at-cuts p.job p.found.items None (kept_basis new place.basis) place.basis new p.keeps basis) h
  stops-next new (why.Wide at) (inl p) h =
      let w = worked p.job (Wide at p.found) p.works in
      let basis = step-kept p.job p.found.items p.keeps.mid p.keeps.adds at p.found refl p.works.worked_is in
      keeps p.job p.found.items None (kept_basis new at.basis) new p.keeps w.1 (at-cuts p.job p.found.items None (kept_basis new at.basis) at.basis new p.keeps basis) h
  stops-next new (why.Wide at) (inr p) h = let w = worked p.job (Done _ p.found) p.works in keeps p.job p.found.items None p.basis new p.keeps w.1 w.0.1 h

-- ---- results, one after the other

module _ (M : Program) (ways : Ways) (first : Basis) (pivots : ℕ) (by : IsWorkedBy ways M) where
  by-here : (S : PlainSearch) → IsKeptInOrder M S → IsWorkedBy ways S.model
  by-here S h = subst (IsWorkedBy ways) (sym h.model) by

  -- turns, one after the other
  many : (turns : List Turn) (a b : Crew) → Drives ways first pivots turns a b → IsKeptInOrder M a.search → IsKeptInOrder M b.search
  many [] a b e h = subst (λ (c : Crew). IsKeptInOrder M c.search) (sym e) h
  many (HandOut ∷ turns) a b (mid, (before, p)) h = subst (IsKeptInOrder M) (sym (hands-same mid b p)) (many turns a mid before h)
  many (PlaceResult ∷ turns) a b (mid, (before, p)) h = let k = many turns a mid before h in placed M ways first pivots mid.search (by-here mid.search k) b.search p.places k

  pub went : (order : Order) (n : ℕ) (old new : PlainSearch) → Goes ways first pivots order n old new → IsKeptInOrder M old → IsKeptInOrder M new
  went order n old new goes h = subst (IsKeptInOrder M) goes.search_is (many goes.turns (first_crew old order) goes.crew goes.drives h)

  pub stops : (S new : PlainSearch) (reason : StopWhy) → StopsAtNext ways first pivots S new reason → IsKeptInOrder M S → IsKeptInOrder M new
  stops S new reason p h = stops-next M ways first pivots S (by-here S h) new reason p h

  pub points : (S new : PlainSearch) → PointAtNext ways first pivots S new → IsKeptInOrder M S → IsKeptInOrder M new
  points S new p h = point-next M ways first pivots S (by-here S h) new p h

  -- the first of the cuts that were found
  left-found : (S new : PlainSearch) (job : Job) (w : Worked) → WorksNext ways first pivots S job w → AddsSome S (cuts_found w) new → IsKeptInOrder M S → IsKeptInOrder M new
  left-found S new job w works (n, adds) h =
      let k = by-here S h in
      adds-kept M S (take n (cuts_found w)) new adds (own-cuts M ways first pivots S k (take n (cuts_found w)) (some w (worked M ways first pivots S k job w works))) h
    where
      some : (v : Worked) → IsWorkedInOrder (worked_model ways S.model) v → AreCutsInOrder (worked_model ways S.model) (take n (cuts_found v))
      some (Done result found) o = All-take (IsCutInOrder (length (worked_model ways S.model).rows) (length (worked_model ways S.model).cols)) n found.items o.1
      some (Pivots basis found) o = All-take (IsCutInOrder (length (worked_model ways S.model).rows) (length (worked_model ways S.model).cols)) n found.items o.1
      some (Wide at found) o = All-take (IsCutInOrder (length (worked_model ways S.model).rows) (length (worked_model ways S.model).cols)) n found.items o.1
      some Memory o =
          All-take (IsCutInOrder (length (worked_model ways S.model).rows) (length (worked_model ways S.model).cols)) n []
          (All-nil (IsCutInOrder (length (worked_model ways S.model).rows) (length (worked_model ways S.model).cols)))

  pub leaves : (crew : Crew) (S new : PlainSearch) → LeavesTurn ways first pivots crew S new → IsKeptInOrder M S → IsKeptInOrder M new
  leaves crew S new (job, (acts, p)) h = left-found S new job p.worked p.works p.adds h
