-- What the work on a leaf answers stands in order.
use Rattle.std.specs.Prelude.{ℕ, zero, suc, List, [], ◌∷◌, ◌++◌, length}
use Rattle.std.proofs.Common.{refl, sym, subst, inl, inr}
use Rattle.std.proofs.lemmas.List.Elements.{All-nil, All-push, All-head, All-tail}
use Rattle.lp_model.specs.Formulations.{Formulation}
use Rattle.lp_model.specs.Regions.{Path}
use Rattle.lp_model.specs.declared.types.Basis.{Basis}
use Rattle.lp_model.specs.declared.types.CutRow.{CutRow}
use Rattle.lp_model.specs.declared.types.Derivation.{Derivation}
use Rattle.lp_model.specs.declared.types.WideStep.{WideStep}
use Rattle.basic_solution.specs.Held.{Held}
use Rattle.list_order.specs.Order.{IsBasisInOrder, IsResultInOrder}
use Rattle.list_order.specs.Ordered.{IsCutInOrder, AreCutsInOrder}
use Rattle.node_solve.specs.Laws.{AreAt}
use Rattle.node_solve.specs.Rounds.{Work, Round, AddsOne, AddsAll, MakesRounds, form_in, first_in, EndsRounds}
use Rattle.node_solve.specs.Works.{IsRunWide}
use Rattle.node_solve.specs.declared.working.Worked.TheVariants.{Done, Pivots, Wide, Memory}
use Rattle.node_solve.proofs.AddedLemmas.{HasAdded, rounds-added, cuts-live, places-live}
use Rattle.node_solve.proofs.EndLemmas.{state_of}
use Rattle.node_solve.proofs.LiveLemmas.{live-at}
use Rattle.node_solve.proofs.TakenLemmas.{lists_there}
use Rattle.result_order.specs.Laws.{WorkedOrderLaw}
use Rattle.result_order.proofs.CutOrder.{cut-order}
use Rattle.result_order.proofs.PoolOrder.{in-pool}
use Rattle.result_order.proofs.StateOrder.{basis-order, done-order}

module _ (W : Work) where
  abbrev P : Derivation → Type 0
  P = IsCutInOrder (length W.model.rows) (length W.model.cols)

  -- ---- cuts that are found

  one-rises : (r : Round) (d : Derivation) (after : Round) → AddsOne W r d after → P d → AreCutsInOrder W.model r.added → AreCutsInOrder W.model after.added
  one-rises r d after (c, (from, (is, inl (may, e)))) rises h =
      subst (λ (q : Round). AreCutsInOrder W.model q.added) (sym e) (All-push P r.added c.from h (subst P (sym from) rises))
  one-rises r d after (c, (from, (is, inr (not, e)))) rises h = subst (λ (q : Round). AreCutsInOrder W.model q.added) (sym e) h

  all-rise : (ds : List Derivation) (r after : Round) → AddsAll W r ds after → AreCutsInOrder W.model ds → AreCutsInOrder W.model r.added → AreCutsInOrder W.model after.added
  all-rise [] r after e rises h = subst (λ (q : Round). AreCutsInOrder W.model q.added) (sym e) h
  all-rise (d ∷ ds) r after (mid, (one, rest)) rises h =
      all-rise ds mid after rest (All-tail P d ds rises) (one-rises r d mid one (All-head P d ds rises) h)

  rounds-rise : (made : ℕ) (r : Round) → MakesRounds W made r → AreCutsInOrder W.model r.added
  rounds-rise zero r e = subst (λ (q : Round). AreCutsInOrder W.model q.added) (sym e) (All-nil P)
  rounds-rise (suc n) r (before, (makes, m)) =
      subst (λ (q : Round). AreCutsInOrder W.model q.added) (sym m.next_is)
      (all-rise m.separates.0 before m.after m.separates.1.1 (cut-order W.model m.point 20 m.separates.0 m.separates.1.0) (rounds-rise n before makes))

  -- ---- lists

  pool-at : (made : ℕ) (r : Round) → MakesRounds W made r → (pool : List CutRow) × AreAt pool r.cuts r.places
  pool-at made r makes =
      let h : HasAdded W r = rounds-added W made r makes in
      let pool : List CutRow = W.pool ++ h.new in
      let cuts = cuts-live W r h pool refl in
      let places = places-live W r h pool refl in
      (pool, subst (λ X. X) (λ i. AreAt pool (sym cuts i) (sym places i)) (live-at 200 pool))

pub wide-order : (F : Formulation) (path : Path) (list other : Basis) (limit : ℕ) (Last : Held → Type 0) (basis : Basis) (step : WideStep) → IsRunWide F path list other limit Last basis step → IsBasisInOrder basis
wide-order F path list other limit Last basis step (inl (relax, (is, wide))) = basis-order wide.state basis wide.basis_is
wide-order F path list other limit Last basis step (inr (n, (s, (run, (here, basis_is))))) = basis-order s basis basis_is

pub worked-order : WorkedOrderLaw
worked-order W (Done result found) (made, (r, (makes, d))) =
    let at = pool-at W made r makes in
    let F : Formulation = form_in W r in
    let there = lists_there F W.job.region d.state (state_of W r d.moves d.state d.run) W.job.target d.own_result d.done in
    let own = done-order F W.job.region W.job.target d.state d.own_result d.done in (
      subst IsResultInOrder (sym d.result_is) (in-pool W.model at.0 r.cuts r.places at.1 d.own_result there own),
      subst (AreCutsInOrder W.model) (sym d.found_are) (rounds-rise W made r makes),
    )
worked-order W (Pivots basis found) (made, (r, (makes, d))) = (basis-order d.state basis d.basis_is, subst (AreCutsInOrder W.model) (sym d.found_are) (rounds-rise W made r makes))
worked-order W (Wide at found) (made, (r, (makes, (leaf, (wide, found_are))))) = (
  wide-order (form_in W r) W.job.region r.list (first_in W r) W.pivots (EndsRounds W made r) at.basis at.step wide,
  subst (AreCutsInOrder W.model) (sym found_are) (rounds-rise W made r makes),
)
worked-order W Memory h = tt
