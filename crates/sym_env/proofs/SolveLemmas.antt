-- What was done in a search, put together.
use Rattle.std.proofs.Common.{◌≡◌, ℕ, refl, sym, ap, subst, ◌∙◌, inl, inr}
use Rattle.std.specs.Prelude.{take}
use Rattle.lp_model.specs.declared.types.Basis.{Basis}
use Rattle.search_answers.specs.declared.answers.Answer.{Answer}
use Rattle.search_answers.specs.declared.answers.Answer.TheVariants.{Memory}
use Rattle.lp_model.specs.declared.answers.StopWhy.{StopWhy}
use Rattle.sound_searches.specs.Calls.{IsFresh}
use Rattle.sound_searches.specs.Sound.{PlainSearch, IsSound}
use Rattle.ray_phase.specs.Laws.{NoRayFoundLaw}
use Rattle.tree_search.specs.Causes.{IsAtEnd}
use Rattle.tree_search.specs.Extends.{Extends}
use Rattle.tree_search.specs.GivingUp.{cuts_found, LeavesTurn}
use Rattle.tree_search.specs.Turns.{Crew}
use Rattle.tree_search.specs.Causes as search
use Rattle.tree_search.specs.Search.{Finds, GivesUp, IsAnswerAtEnd, IsStoppedAnswer}
use Rattle.tree_search.specs.Steps.{HasOpenLeaf}
use Rattle.tree_search.specs.declared.searching.Searched.{Searched}
use Rattle.tree_search.specs.declared.searching.Ways.{Ways}
use Rattle.tree_search.proofs.ExtendLemmas.{extends-self, extends-on, extends-added}
use Rattle.tree_search.proofs.KeepLemmas.{added-model}
use Rattle.ray_phase.specs.Beginnings.{StopsBefore}
use Rattle.tree_search.specs.Beginnings.{BeginsWith}
use Rattle.tree_search.specs.Enough.{IsEnoughFrom}
use Rattle.tree_search.specs.Solves.{turn_order_of, StopsFirst, Searches, WantsBefore, WantsWithin, Solved}
use Rattle.tree_search.specs.Truth.{HasEnded}
use Rattle.tree_search.specs.Warm.{Went}
use Rattle.tree_search.specs.declared.limits.Limits.{Limits}
use Rattle.sym_env.proofs.EnoughLemmas.{enough-for, at-end, goes-on}

-- what is left without memory has the model, and every node
left-model : (ways : Ways) (first : Basis) (pivots : ℕ) (crew : Crew) (S T : PlainSearch) → LeavesTurn ways first pivots crew S T → T.model ≡ S.model
left-model ways first pivots crew S T (job, (next, h)) = added-model S (take h.adds.0 (cuts_found h.worked)) T h.adds.1

left-extends : (ways : Ways) (first : Basis) (pivots : ℕ) (crew : Crew) (S T : PlainSearch) → LeavesTurn ways first pivots crew S T → Extends S.tree.root T.tree.root
left-extends ways first pivots crew S T (job, (next, h)) = extends-added (take h.adds.0 (cuts_found h.worked)) S T h.adds.1

module _ (l : Limits) (S : PlainSearch) (sound : IsSound S) where
  pub gave-up : (ways : Ways) (first : Basis) → BeginsWith S.model l.pivots ways first → (T : PlainSearch) → GivesUp ways first (turn_order_of l) l.nodes l.pivots S T → Went l S Memory T
  gave-up ways first b T gives =
      let mid = gives.mid in
      let crew = gives.goes.crew in
      let model : T.model ≡ mid.model = elim gives.adds [ inl same ↦ ap (λ (N : PlainSearch). N.model) same | inr more ↦ left-model ways first l.pivots crew mid T more.1 ] in
      let nodes : Extends mid.tree.root T.tree.root = elim gives.adds [
        | inl same ↦ subst (λ (N : PlainSearch). Extends mid.tree.root N.tree.root) (sym same) (extends-self mid.tree.root)
        | inr more ↦ left-extends ways first l.pivots crew mid T more.1
      ] in
      record { sound = sound; course = WantsWithin ways first b gives refl; model = model ∙ gives.goes.model; extends = extends-on S.tree.root mid.tree.root T.tree.root gives.goes.extends nodes }

  pub searched-so : (ways : Ways) (first : Basis) → BeginsWith S.model l.pivots ways first → HasOpenLeaf S → (T : PlainSearch) (searched : Searched) (answer : Answer) → Finds ways first (turn_order_of l) l.nodes l.pivots S T searched
      → IsAnswerAtEnd T searched.ended searched.results answer → Went l S answer T
  searched-so ways first b some T searched answer finds told =
      record { sound = sound; course = Searches some ways first b searched finds told; model = finds.model; extends = finds.extends }

  pub stopped-first : HasOpenLeaf S → (why : StopWhy) → StopsBefore S.model l.pivots why → (answer : Answer) → IsStoppedAnswer S why 0 answer → Went l S answer S
  stopped-first some why stops answer told = record { sound = sound; course = StopsFirst some why stops refl told; model = refl; extends = extends-self S.tree.root }

  pub wants-first : Went l S Memory S
  wants-first = record { sound = sound; course = WantsBefore refl refl; model = refl; extends = extends-self S.tree.root }

  pub fresh-solved : IsFresh S.model l.tree S → (answer : Answer) (T : PlainSearch) → Went l S answer T → Solved S.model l answer T
  fresh-solved begins answer T went = record { fresh = S; begins = begins; sound = sound; course = went.course; model = went.model }

pub searched-whole : NoRayFoundLaw → (l : Limits) (S : PlainSearch) (ways : Ways) (first : Basis) → BeginsWith S.model l.pivots ways first → (T : PlainSearch) (searched : Searched) (answer : Answer)
    → (search.IsEnoughForSearch S T.cuts ways l.nodes l.pivots → IsAtEnd searched.ended) → IsAnswerAtEnd T searched.ended searched.results answer → IsEnoughFrom S T.cuts l.nodes l.pivots → HasEnded answer
searched-whole none l S ways first b T searched answer complete told enough =
    at-end T searched.ended searched.results answer (complete (enough-for none S T.cuts l.nodes l.pivots ways first b enough)) told

pub stopped-never : (l : Limits) (S : PlainSearch) (why : StopWhy) → StopsBefore S.model l.pivots why → (answer : Answer) → IsEnoughFrom S S.cuts l.nodes l.pivots → HasEnded answer
stopped-never l S why stops answer enough = absurd (goes-on S S.cuts l.nodes l.pivots why enough stops)
