-- The cuts that the work on a leaf found have room in the pool, and no work ends in a leaf that is kept.
use Rattle.std.specs.Prelude.{◌≡◌, ℕ, zero, suc, ◌+◌, ◌<◌, ◌≤◌, List, [], ◌∷◌, ◌++◌, length, Option}
use Rattle.std.proofs.Common.{ap, arith, inl, inr}
use Rattle.std.proofs.lemmas.List.{length_push}
use Rattle.std.proofs.lemmas.List.Elements.{All-weaker}
use Rattle.lp_model.specs.Program.{Point}
use Rattle.lp_model.specs.declared.types.Basis.{Basis}
use Rattle.lp_model.specs.declared.types.CutRow.{CutRow}
use Rattle.lp_model.specs.declared.types.Derivation.{Derivation}
use Rattle.lp_model.specs.declared.answers.WideAt.{WideAt}
use Rattle.branch_tree.specs.declared.node.NodeResult.{NodeResult}
use Rattle.branch_tree.specs.declared.node.NodeResult.TheVariants.{Close, Split, PointAndClose, Keep}
use Rattle.node_solve.specs.Works.{IsDone}
use Rattle.node_solve.specs.Rounds.{Work, Round, form_in, AddsOne, AddsAll, MakesRound, MakesRounds, IsWorked}
use Rattle.node_solve.specs.Places.{live_places, ArePoolPlaces, mult_in_pool, basis_in_pool, result_in_pool}
use Rattle.node_solve.specs.declared.working.Worked.TheVariants.{Done, Pivots, Wide}
use Rattle.node_solve.proofs.LiveLemmas.{live-few, places-length, live-at}
use Rattle.tree_search.specs.Steps.{FoundCuts}
use Rattle.tree_search.specs.private.Stepping.{worked_with}
use Rattle.tree_search.specs.declared.stepping.WorkEnd.{WorkEnd}
use Rattle.tree_search.specs.declared.stepping.WorkEnd.TheVariants as end

-- ---- the places of a relaxation's cuts

pub places-few : (pool : List CutRow) → length (live_places 200 0 pool) ≤ 200
places-few pool = let same = places-length 200 0 pool in let few = live-few 200 pool in omega (arith, same, few)

pub places-within : (pool : List CutRow) → length pool ≤ 10000 → ArePoolPlaces (live_places 200 0 pool)
places-within pool few = All-weaker (λ (p : ℕ). p < length pool) (λ (p : ℕ). p < 10000) (λ p below. omega (arith, below, few)) (live_places 200 0 pool) (live-at 200 pool).there

-- ---- room

module _ (W : Work) where
  abbrev Fits : Round → Type 0
  Fits r = length W.pool + length r.added ≤ 10000

  one-fits : (d : Derivation) (a b : Round) → AddsOne W a d b → Fits a → Fits b
  one-fits d a b (c, (from, (is, inl (may, e)))) h =
      let count : length b.added ≡ length (a.added ++ c.from ∷ []) = ap (λ (r : Round). length r.added) e in
      let more = length_push a.added c.from in
      let room : length W.pool + length a.added < 10000 = may.pool_room in
      omega (arith, count, more, room)
  one-fits d a b (c, (from, (is, inr (not, e)))) h = let same : length b.added ≡ length a.added = ap (λ (r : Round). length r.added) e in omega (arith, same, h)

  all-fit : (ds : List Derivation) (a b : Round) → AddsAll W a ds b → Fits a → Fits b
  all-fit [] a b e h = let same : length b.added ≡ length a.added = ap (λ (r : Round). length r.added) e in omega (arith, same, h)
  all-fit (d ∷ ds) a b (mid, (one, rest)) h = all-fit ds mid b rest (one-fits d a mid one h)

  round-fits : (made : ℕ) (r next : Round) → MakesRound W made r next → Fits r → Fits next
  round-fits made r next m h =
      let fits : length W.pool + length m.after.added ≤ 10000 = all-fit m.separates.0 r m.after m.separates.1.1 h in
      let same : length next.added ≡ length m.after.added = ap (λ (q : Round). length q.added) m.next_is in
      omega (arith, fits, same)

  module _ (few : length W.pool ≤ 10000) where
    rounds-fit : (made : ℕ) (r : Round) → MakesRounds W made r → Fits r
    rounds-fit zero r e = let none : length r.added ≡ 0 = ap (λ (q : Round). length q.added) e in omega (arith, none, few)
    rounds-fit (suc n) r (before, (makes, m)) = round-fits n before r m (rounds-fit n before makes)

    found-fit : (made : ℕ) (r : Round) → MakesRounds W made r → (vec : FoundCuts) → vec.items ≡ r.added → length W.pool + length vec.items ≤ 10000
    found-fit made r makes vec e =
        let fits : length W.pool + length r.added ≤ 10000 = rounds-fit made r makes in
        let same : length vec.items ≡ length r.added = ap length e in
        omega (arith, fits, same)

    done-fits : (result : NodeResult) (vec : FoundCuts) → IsWorked W (Done result vec) → length W.pool + length vec.items ≤ 10000
    done-fits result vec (made, (r, (makes, d))) = found-fit made r makes vec d.found_are

    pivots-fit : (basis : Basis) (vec : FoundCuts) → IsWorked W (Pivots basis vec) → length W.pool + length vec.items ≤ 10000
    pivots-fit basis vec (made, (r, (makes, d))) = found-fit made r makes vec d.found_are

    wide-fits : (at : WideAt) (vec : FoundCuts) → IsWorked W (Wide at vec) → length W.pool + length vec.items ≤ 10000
    wide-fits at vec (made, (r, (makes, (leaf, (wide, found_are))))) = found-fit made r makes vec found_are

    pub found-fits : (came : WorkEnd) (vec : FoundCuts) → IsWorked W (worked_with came vec) → length W.pool + length vec.items ≤ 10000
    found-fits (end.Done result) vec h = done-fits result vec h
    found-fits (end.Pivots basis) vec h = pivots-fit basis vec h
    found-fits (end.Wide at) vec h = wide-fits at vec h

  -- ---- results

  pub never-keeps : (point : Option Point) (basis : Basis) (vec : FoundCuts) → ¬ IsWorked W (Done (Keep point basis) vec)
  never-keeps point basis vec (made, (r, (makes, d))) = by d.own_result d.done d.result_is
    where
      by : (own : NodeResult) → IsDone (form_in W r) W.job.region W.job.target d.state own → Keep point basis ≡ result_in_pool r.places own → ⊥
      by (Close mult farkas b) h e = let f : Keep point basis ≡ Close (mult_in_pool r.places mult) (mult_in_pool r.places farkas) (basis_in_pool r.places b) = e in cc
      by (Split col v mult b) h e = let f : Keep point basis ≡ Split col v (mult_in_pool r.places mult) (basis_in_pool r.places b) = e in cc
      by (PointAndClose x mult b) h e = let f : Keep point basis ≡ PointAndClose x (mult_in_pool r.places mult) (basis_in_pool r.places b) = e in cc
      by (Keep p b) h e = h
