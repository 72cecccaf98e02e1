-- What a search leaves that began in order is in order, wherever it ends or stops.
use Rattle.std.specs.Prelude.{ℕ, ◌≤◌}
use Rattle.std.proofs.Common.{refl, sym, subst, arith, inl, inr}
use Rattle.lp_model.specs.Formulations.{without_cuts}
use Rattle.lp_model.specs.Program.{Program}
use Rattle.lp_model.specs.declared.types.Basis.{Basis}
use Rattle.search_answers.specs.declared.answers.Answer.{Answer}
use Rattle.lp_model.specs.declared.answers.StopWhy.{StopWhy}
use Rattle.lp_model.specs.declared.answers.StopWhy.TheVariants as why
use Rattle.std.specs.Prelude.{None}
use Rattle.lp_model.specs.Limits.{node_limit}
use Rattle.branch_tree.specs.Changes.{first_tree}
use Rattle.branch_tree.specs.Numbered.{IsNumbered}
use Rattle.branch_tree.proofs.CountLemmas.{same_other}
use Rattle.list_order.specs.Ordered.{IsInOrder}
use Rattle.list_order.proofs.TakenOrder.{HasOwnLeaves, own-leaves, IsKeptInOrder, one-at-most, fresh-order}
use Rattle.list_order.proofs.TreeOrder.{judged-ids, judged-last}
use Rattle.sound_searches.specs.Calls.{IsFresh, search_with_limit}
use Rattle.sound_searches.specs.Sound.{PlainSearch}
use Rattle.tree_search.specs.Beginnings.{BeginsWith}
use Rattle.tree_search.specs.Search.{StopsFor, Ends, Finds, GivesUp}
use Rattle.tree_search.specs.Turns.{Order}
use Rattle.tree_search.specs.Solves.{turn_order_of, Course, NothingOpen, StopsFirst, Searches, WantsBefore, WantsWithin, Solved, SolvesModel}
use Rattle.tree_search.specs.Warm.{BesidePoint, GoesOn, Warms, Still, SomeOpen}
use Rattle.tree_search.specs.declared.limits.Limits.{Limits}
use Rattle.tree_search.specs.declared.searching.Ended.{Ended}
use Rattle.tree_search.specs.declared.searching.Ended.TheVariants.{Finished, Within, Unbounded, Stopped}
use Rattle.tree_search.specs.declared.searching.Searched.{Searched}
use Rattle.tree_search.specs.declared.searching.Ways.{Ways}
use Rattle.tree_search.specs.declared.searching.Ways.TheVariants.{Own, Rays}
use Rattle.tree_search.proofs.JobLemmas.{IsWorkedBy}
use Rattle.search_order.specs.Laws.{SearchOrderLaw}
use Rattle.search_order.proofs.GoneOn.{went, stops, points, leaves}

worked-begin : (ways : Ways) (M : Program) (pivots : ℕ) (first : Basis) → BeginsWith M pivots ways first → IsWorkedBy ways M
worked-begin Own M pivots first h = tt
worked-begin (Rays Z) M pivots first h = h.costless

module _ (M : Program) (ways : Ways) (first : Basis) (order : Order) (nodes pivots : ℕ) (by : IsWorkedBy ways M) (old new : PlainSearch) (h : IsKeptInOrder M old) where
  stops-for : (n : ℕ) (reason : StopWhy) → StopsFor ways first order nodes pivots n old new reason → IsKeptInOrder M new
  stops-for n why.Nodes p = went M ways first pivots by order n old new p.goes h
  stops-for n why.Tree p = stops M ways first pivots by p.mid new why.Tree p.here (went M ways first pivots by order n old p.mid p.goes h)
  stops-for n (why.Pivots place) p = stops M ways first pivots by p.mid new (why.Pivots place) p.here (went M ways first pivots by order n old p.mid p.goes h)
  stops-for n (why.Wide at) p = stops M ways first pivots by p.mid new (why.Wide at) p.here (went M ways first pivots by order n old p.mid p.goes h)

  ends : (n : ℕ) (ended : Ended) → Ends ways first order nodes pivots n old new ended → IsKeptInOrder M new
  ends n Finished p = went M ways first pivots by order n old new p.goes h
  ends n (Within g) p = went M ways first pivots by order n old new p.goes h
  ends n Unbounded p = points M ways first pivots by p.after.mid new p.after.here (went M ways first pivots by order p.before old p.after.mid p.after.goes h)
  ends n (Stopped reason) p = stops-for n reason p

  finds : (searched : Searched) → Finds ways first order nodes pivots old new searched → IsKeptInOrder M new
  finds searched f = ends searched.results searched.ended f.ends

  gives : GivesUp ways first order nodes pivots old new → IsKeptInOrder M new
  gives g =
      let k = went M ways first pivots by order g.results old g.mid g.goes h in
      elim g.adds [ inl same ↦ subst (IsKeptInOrder M) (sym same) k | inr more ↦ leaves M ways first pivots by g.goes.crew g.mid new more.1 k ]

-- ---- a course

course : (M : Program) (l : Limits) (begun : PlainSearch) (answer : Answer) (S : PlainSearch) → Course M l begun answer S → IsKeptInOrder M begun → IsInOrder S
course M l begun answer S (NothingOpen closed e a) h = subst IsInOrder (sym e) h.order
course M l begun answer S (StopsFirst some reason before e a) h = subst IsInOrder (sym e) h.order
course M l begun answer S (Searches some ways first begins searched f a) h = (finds M ways first (turn_order_of l) l.nodes l.pivots (worked-begin ways M l.pivots first begins) begun S h searched f).order
course M l begun answer S (WantsBefore e a) h = subst IsInOrder (sym e) h.order
course M l begun answer S (WantsWithin ways first begins g a) h = (gives M ways first (turn_order_of l) l.nodes l.pivots (worked-begin ways M l.pivots first begins) begun S h g).order

-- the leaf of a fresh search has an id of its own
fresh-own : (M : Program) (limit : ℕ) (S : PlainSearch) → IsFresh M limit S → HasOwnLeaves S.tree
fresh-own M limit S f = record {
  distinct = λ k. omega (arith, judged-ids (without_cuts M) None (first_tree limit) S.tree f.tree k, one-at-most 1 k);
  given = λ k past.
      let last = judged-last (without_cuts M) None (first_tree limit) S.tree f.tree in
      omega (arith, judged-ids (without_cuts M) None (first_tree limit) S.tree f.tree k, same_other 1 k (λ e. absurd (omega (arith, past, last, e))));
}

solved : (M : Program) (l : Limits) (answer : Answer) (S : PlainSearch) → Solved M l answer S → l.tree ≤ node_limit → IsInOrder S
solved M l answer S s few =
    course M l s.fresh answer S s.course (record { order = fresh-order.fresh M l.tree s.fresh s.begins few; own = fresh-own M l.tree s.fresh s.begins; model = s.begins.model })

warmed : (l : Limits) (begun : PlainSearch) (answer : Answer) (S : PlainSearch) → Warms l begun answer S → IsKeptInOrder begun.model begun → IsInOrder S
warmed l begun answer S (Still closed e a) h = subst IsInOrder (sym e) h.order
warmed l begun answer S (SomeOpen some (BesidePoint point d none ray e a)) h = subst IsInOrder (sym e) h.order
warmed l begun answer S (SomeOpen some (GoesOn untold went)) h = course begun.model l begun answer S went.course h

kept-of : (S : PlainSearch) → IsNumbered S.tree → IsInOrder S → IsKeptInOrder S.model S
kept-of S numbered h = record { order = h; own = own-leaves S.tree numbered; model = refl }

pub search-order : SearchOrderLaw
search-order = record {
  finds = λ ways first order nodes pivots old new searched begins f numbered h.
      (finds old.model ways first order nodes pivots (worked-begin ways old.model pivots first begins) old new (kept-of old numbered h) searched f).order;
  gives = λ ways first order nodes pivots old new begins g numbered h.
      (gives old.model ways first order nodes pivots (worked-begin ways old.model pivots first begins) old new (kept-of old numbered h) g).order;
  solves = λ M l old answer new s few h. solves-order M l old answer new s few h;
  warms = λ l old answer new w few numbered h.
      let own : HasOwnLeaves old.tree = own-leaves old.tree numbered in
      warmed l (search_with_limit old l.tree) answer new w.warms
      (record { order = fresh-order.limited old l.tree few h; own = record { distinct = own.distinct; given = own.given }; model = refl });
}
  where
    solves-order : (M : Program) (l : Limits) (old : PlainSearch) (answer : Answer) (new : PlainSearch) → SolvesModel M l old answer new → l.tree ≤ node_limit → IsInOrder old → IsInOrder new
    solves-order M l old answer new (inl s) few h = solved M l answer new s few
    solves-order M l old answer new (inr w) few h = subst IsInOrder (sym w.kept) (fresh-order.limited old l.tree few h)
