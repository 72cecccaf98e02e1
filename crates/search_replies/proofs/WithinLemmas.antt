-- An answer within a gap is told of a search whose leaves are within it, one being open.
use Rattle.std.proofs.Common.{◌≡◌, ℕ, sym, subst, inl, inr}
use Rattle.frac128.specs.Rational.{ℚ}
use Rattle.lp_model.specs.Program.{Program, Point}
use Rattle.search_answers.specs.declared.answers.Answer.TheVariants.{Within, Memory}
use Rattle.sound_searches.specs.Sound.{PlainSearch}
use Rattle.search_gaps.specs.Within.{AreLeavesWithin}
use Rattle.tree_search.specs.Search.{IsAnswerAtEnd}
use Rattle.tree_search.specs.Solves.{Course, NothingOpen, StopsFirst, Searches, WantsBefore, WantsWithin, SolvesModel}
use Rattle.tree_search.specs.Steps.{HasOpenLeaf}
use Rattle.tree_search.specs.Warm.{Warms, Still, SomeOpen, BesidePoint, GoesOn}
use Rattle.tree_search.specs.declared.limits.Limits.{Limits}
use Rattle.tree_search.specs.declared.searching.Ended.{Ended}
use Rattle.tree_search.specs.declared.searching.Ended.TheVariants as ended

-- a leaf is open, and all leaves are within the gap
abbrev pub Reached : ℚ → PlainSearch → Type 0
Reached g S = HasOpenLeaf S × AreLeavesWithin S g

module _ (g v : ℚ) (x : Point) (n : ℕ) where
  ended-within : (S : PlainSearch) (e : Ended) (m : ℕ) → IsAnswerAtEnd S e m (Within g v x n) → Reached g S
  ended-within S ended.Finished m told = absurd told
  ended-within S ended.Unbounded m told = absurd told
  ended-within S (ended.Within h) m told = subst (λ k. Reached k S) (sym told.0) (told.1.left, told.1.leaves)
  ended-within S (ended.Stopped why) m told = absurd told

  course-within : (M : Program) (l : Limits) (fresh S : PlainSearch) → Course M l fresh (Within g v x n) S → Reached g S
  course-within M l fresh S (NothingOpen none kept is) = absurd (cc)
  course-within M l fresh S (StopsFirst left why stops kept told) = absurd told
  course-within M l fresh S (Searches left ways first begins searched finds told) = ended-within S searched.ended searched.results told
  course-within M l fresh S (WantsBefore kept is) = absurd (cc)
  course-within M l fresh S (WantsWithin ways first begins gives is) = absurd (cc)

  pub solved-within : (M : Program) (l : Limits) (old S : PlainSearch) → SolvesModel M l old (Within g v x n) S → Reached g S
  solved-within M l old S (inl solved) = course-within M l solved.fresh S solved.course
  solved-within M l old S (inr wants) = let clash : Within g v x n ≡ Memory = wants.wants in absurd (cc)

  pub warmed-within : (l : Limits) (begun S : PlainSearch) → Warms l begun (Within g v x n) S → Reached g S
  warmed-within l begun S (Still none kept told) = absurd told
  warmed-within l begun S (SomeOpen left (BesidePoint point d none found kept is)) = absurd (cc)
  warmed-within l begun S (SomeOpen left (GoesOn untold went)) = course-within begun.model l begun S went.course
