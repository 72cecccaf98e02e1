-- A search that is done within its gap takes no turn.
use Rattle.std.specs.Prelude.{◌≡◌, ℕ, List, [], ◌∷◌, Option}
use Rattle.std.proofs.Common.{refl, sym, subst, ap, ◌∙◌}
use Rattle.frac128.specs.Rational.{ℚ}
use Rattle.lp_model.specs.declared.types.Basis.{Basis}
use Rattle.lp_model.specs.declared.answers.StopWhy.TheVariants as why
use Rattle.sound_searches.specs.Sound.{PlainSearch}
use Rattle.tree_search.specs.Turns.{Order, Crew, Turn, Drives, NoneDone, placings, Goes, first_crew}
use Rattle.tree_search.specs.Within.{IsGapReached}
use Rattle.tree_search.specs.Search.{Ends}
use Rattle.tree_search.specs.declared.searching.Ways.{Ways}
use Rattle.tree_search.specs.declared.searching.Ended.{Ended}
use Rattle.tree_search.specs.declared.searching.Ended.TheVariants.{Finished, Within, Unbounded, Stopped}

none-taken : (ways : Ways) (first : Basis) (pivots : ℕ) (gap : Option ℚ) (turns : List Turn) (a b : Crew) (d : Drives ways first pivots turns a b) → NoneDone ways first pivots gap turns a b d → IsGapReached ways gap a.search → (turns ≡ []) × (b ≡ a)
none-taken ways first pivots gap [] a b same going done = (refl, same)
none-taken ways first pivots gap (t ∷ turns) a b (mid, (before, turn)) going done =
    let was : mid ≡ a = (none-taken ways first pivots gap turns a mid before going.0 done).1 in
    absurd (going.1 (subst (λ (c : Crew). IsGapReached ways gap c.search) (sym was) done))

module _ (ways : Ways) (first : Basis) (order : Order) (nodes pivots : ℕ) (old : PlainSearch) (done : IsGapReached ways order.gap old) where
  stays : (n : ℕ) (mid : PlainSearch) → Goes ways first pivots order n old mid → (mid ≡ old) × (n ≡ 0)
  stays n mid goes =
      let none = none-taken ways first pivots order.gap goes.turns (first_crew old order) goes.crew goes.drives goes.going done in
      (sym goes.search_is ∙ ap (λ (c : Crew). c.search) none.1, sym goes.results ∙ ap placings none.0)

  goes-none : (n : ℕ) (mid : PlainSearch) → Goes ways first pivots order n old mid → ¬ IsGapReached ways order.gap mid → ⊥
  goes-none n mid goes going = going (subst (IsGapReached ways order.gap) (sym (stays n mid goes).0) done)

  pub ends-at-once : (n : ℕ) (new : PlainSearch) (e : Ended) → Ends ways first order nodes pivots n old new e → (new ≡ old) × (n ≡ 0)
  ends-at-once n new Finished h = stays n new h.goes
  ends-at-once n new (Within g) h = stays n new h.goes
  ends-at-once n new Unbounded h = absurd (goes-none h.before h.after.mid h.after.goes h.after.going)
  ends-at-once n new (Stopped why.Nodes) h = stays n new h.goes
  ends-at-once n new (Stopped why.Tree) h = absurd (goes-none n h.mid h.goes h.going)
  ends-at-once n new (Stopped (why.Pivots place)) h = absurd (goes-none n h.mid h.goes h.going)
  ends-at-once n new (Stopped (why.Wide at)) h = absurd (goes-none n h.mid h.goes h.going)
