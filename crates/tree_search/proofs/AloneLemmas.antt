-- One worker without others: it holds nothing, or the job of the leaf that goes first in this search.
use Rattle.std.specs.Prelude.{◌≡◌, ◌⊎◌, ℕ, suc, ◌+◌, Bool, true, false, List, [], ◌∷◌, length, get_or, set, Option, Some, None}
use Rattle.std.proofs.Common.{refl, sym, subst, ap, ◌∙◌, inl, inr, arith}
use Rattle.frac128.specs.Rational.{ℚ}
use Rattle.lp_model.specs.Formulations.{Formulation}
use Rattle.lp_model.specs.declared.types.Basis.{Basis}
use Rattle.branch_tree.specs.Leaves.{region_leaf}
use Rattle.branch_tree.specs.declared.node.Job.{Job}
use Rattle.leaf_judging.specs.Choosing.{GoesFirst, IsCandidate}
use Rattle.leaf_judging.specs.declared.choosing.Candidate.{Candidate}
use Rattle.sound_searches.specs.Calls.{IsNext}
use Rattle.sound_searches.specs.Free.{IsNotFree, IsNextFree}
use Rattle.sound_searches.specs.Sound.{PlainSearch, formulation_of}
use Rattle.sound_searches.proofs.SoundLemmas.{each-weaker}
use Rattle.branch_tree.specs.declared.node.LeafState.TheVariants.{IsClosed}
use Rattle.tree_edit.proofs.NextLemmas.{one-leaf, before-leaves}
use Rattle.rand_pcg.specs.Lcg.{Lcg}
use Rattle.turn_order.specs.Turns.{IsNextTurn}
use Rattle.tree_search.specs.Turns.{Crew, first_crew, held_of, jobs_on, Acts, ActsOn, HandsOut, PlacesInTurn, Turn, HandOut, PlaceResult, Drives, placings}
use Rattle.tree_search.specs.Alone.{IsNextJob, PlacesAlone, OneWorkerLaw}
use Rattle.tree_search.specs.declared.searching.Ways.{Ways}
use Rattle.tree_search.proofs.CrewLemmas.{idle-job, hands-same}

-- ---- leaves

abbrev no_holding : List (Option ℕ)
no_holding = None ∷ []

-- of the leaves that nobody holds that goes first which does so of all, since nobody holds any
pub free-next : (S : PlainSearch) (id : ℕ) → IsNextFree S no_holding (Some id) → IsNext S (Some id)
free-next S id (c, (first, same)) =
    let F : Formulation = formulation_of S in (
      c,
      (
        (
          one-leaf F c [] S.tree.root first.is_open,
          before-leaves F c [] S.tree.root
              (each-weaker
              (λ p l. IsNotFree no_holding l ⊎ ((d : Candidate) × (IsCandidate F (region_leaf (p, l)) d × GoesFirst c.leaf_number c.id d.leaf_number d.id))) (λ p l. (l.kept.state ≡ IsClosed) ⊎ ((d : Candidate) × (IsCandidate F (region_leaf (p, l)) d × GoesFirst c.leaf_number c.id d.leaf_number d.id)))
              (λ p l h. elim h [ inl none ↦ elim none [ inl closed ↦ inl closed | inr held ↦ let f : false ≡ true = held in absurd cc ] | inr k ↦ inr k ])
              [] S.tree.root first.first),
        ),
        same,
      ),
    )

-- ---- the worker

-- it is the only one, and holds nothing, or the job of the leaf that goes first
pub data IsAlone (S : PlainSearch) (jobs : List (Option Job)) : Type 0 where
  Idle : jobs ≡ None ∷ [] → IsAlone S jobs
  Works : (job : Job) → jobs ≡ Some job ∷ [] → IsNextJob S job → IsAlone S jobs

some-job : (a b : Job) → Some a ≡ Some b → a ≡ b
some-job a b e = cc

no-job : (a : Job) → ¬ (None ≡ Some a)
no-job a e = cc

-- it has each turn
turn-zero : (g : Lcg) (free : Bool) (j : Option ℕ) (w : ℕ) (left : Lcg) → IsNextTurn g free (j ∷ []) w left → w ≡ 0
turn-zero g free j w left (inl only) = only.turn
turn-zero g free j w left (inr drawn) = absurd (drawn.many refl)

acts-zero : (crew : Crew) (w : ℕ) (left : Lcg) (j : Option Job) → crew.jobs ≡ j ∷ [] → Acts crew w left → w ≡ 0
acts-zero crew w left j same acts = by (held_of crew.jobs) (ap held_of same) acts.turn
  where
    by : (held : List (Option ℕ)) → held ≡ held_of (j ∷ []) → IsNextTurn crew.words acts.free held w left → w ≡ 0
    by held is (inl only) = only.turn
    by held is (inr drawn) = absurd (drawn.many (ap length is))

-- what it holds at its turn is what it works
held-next : (crew : Crew) → IsAlone crew.search crew.jobs → (w : ℕ) (job : Job) → w ≡ 0 → get_or crew.jobs w None ≡ Some job → IsNextJob crew.search job
held-next crew (Idle same) w job first_is holds = absurd (no-job job (ap (λ (l : List (Option Job)). get_or l 0 None) (sym same) ∙ ap (λ k. get_or crew.jobs k None) (sym first_is) ∙ holds))
held-next crew (Works own same next) w job first_is holds =
    subst (IsNextJob crew.search) (some-job own job (ap (λ (l : List (Option Job)). get_or l 0 None) (sym same) ∙ ap (λ k. get_or crew.jobs k None) (sym first_is) ∙ holds)) next

one-of : (crew : Crew) → IsAlone crew.search crew.jobs → (j : Option Job) × (crew.jobs ≡ j ∷ [])
one-of crew (Idle same) = (None, same)
one-of crew (Works own same next) = (Some own, same)

pub works-next : (crew : Crew) → IsAlone crew.search crew.jobs → (job : Job) → ActsOn crew job → IsNextJob crew.search job
works-next crew alone job h = let one = one-of crew alone in held-next crew alone h.w job (acts-zero crew h.w h.left one.0 one.1 h.acts) h.holds

-- ---- turns

module _ (a b : Crew) (alone : IsAlone a.search a.jobs) where
  hands-alone : HandsOut a b → IsAlone b.search b.jobs
  hands-alone h =
      let (j, same) = one-of a alone in
      let first_is : h.w ≡ 0 = acts-zero a h.w b.words j same h.acts in
      let idle : a.jobs ≡ None ∷ [] = same ∙ ap (λ k. k ∷ []) (ap (λ (l : List (Option Job)). get_or l 0 None) (sym same) ∙ ap (λ k. get_or a.jobs k None) (sym first_is) ∙ idle-job a.jobs h.w h.gives.idle) in
      let free : IsNextFree a.search no_holding (Some h.job.id) = subst (λ l. IsNextFree a.search (held_of l) (Some h.job.id)) idle h.gives.next in
      let jobs : b.jobs ≡ Some h.job ∷ [] = h.jobs_are ∙ (λ i. set (idle i) (first_is i) (Some h.job)) in
      Works h.job jobs (subst (λ S. IsNextJob S h.job) (sym (hands-same a b h)) (record { next = free-next a.search h.job.id free; job_is = h.gives.job_is }))

  module _ (ways : Ways) (first : Basis) (pivots : ℕ) (h : PlacesInTurn ways first pivots a b) where
    turn : h.w ≡ 0
    turn = let one = one-of a alone in acts-zero a h.w b.words one.0 one.1 h.acts

    places-next : IsNextJob a.search h.places.job
    places-next = held-next a alone h.w h.places.job turn h.holds

    places-alone : IsAlone b.search b.jobs
    places-alone = let (j, same) = one-of a alone in Idle (h.jobs_are ∙ (λ i. jobs_on b.search (set (same i) (turn i) None)))

-- ---- one turn after the other

module _ (ways : Ways) (first : Basis) (pivots : ℕ) (old : PlainSearch) (seed : ℕ) (gap : Option ℚ) where
  abbrev begin : Crew
  begin = first_crew old (record { workers = 1; seed = seed; gap = gap })

  alone : (turns : List Turn) (b : Crew) → Drives ways first pivots turns begin b → IsAlone b.search b.jobs × PlacesAlone ways first pivots (placings turns) old b.search
  alone [] b same = (subst (λ (c : Crew). IsAlone c.search c.jobs) (sym same) (Idle refl), ap (λ (c : Crew). c.search) same)
  alone (HandOut ∷ turns) b (mid, (before, h)) =
      let (is, places) = alone turns mid before in
      let none : placings turns ≡ placings turns + 0 = omega arith in
      (hands-alone mid b is h, subst (λ n. PlacesAlone ways first pivots n old b.search) none (subst (PlacesAlone ways first pivots (placings turns) old) (sym (hands-same mid b h)) places))
  alone (PlaceResult ∷ turns) b (mid, (before, h)) =
      let (is, places) = alone turns mid before in
      let one : suc (placings turns) ≡ placings turns + 1 = omega arith in
      (places-alone mid b is ways first pivots h, subst (λ n. PlacesAlone ways first pivots n old b.search) one (mid.search, (places, (h.places, places-next mid b is ways first pivots h))))

pub one-worker : OneWorkerLaw
one-worker = record {
  places = λ ways first pivots seed n gap old new goes.
      let places = (alone ways first pivots old seed gap goes.turns goes.crew goes.drives).1 in
      subst (λ m. PlacesAlone ways first pivots m old new) goes.results (subst (PlacesAlone ways first pivots (placings goes.turns) old) goes.search_is places);
  turn = λ ways first pivots seed n gap old new goes job acts.
      subst (λ S. IsNextJob S job) goes.search_is (works-next goes.crew (alone ways first pivots old seed gap goes.turns goes.crew goes.drives).0 job acts);
}
