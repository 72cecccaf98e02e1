-- What contracts of private functions alone cite, beside specs/Greedy.
use Rattle.std.specs.Prelude.{◌≡◌, ℕ, Bool, true, false, List, length, Option, Some, None, Result}
use Rattle.frac128.specs.Rational.{ℚ}
use Rattle.lp_model.specs.Program.{Program, Point}
use Rattle.lp_model.specs.declared.types.Side.{Side}
use Rattle.lp_model.specs.declared.types.WideStep.{WideStep}
use Rattle.cover_cuts.specs.Answers.{IsValidAnswer}
use Rattle.cut_find.specs.Greedy.{HasWideGap, AreCandidates, cover_of, by_answer, places_without}

-- the list, if it counts
abbrev pub list_if : {X : Type 0} → Bool → List X → Option (List X)
list_if true xs = Some xs
list_if false xs = None

-- None where a gap has no room
abbrev pub IsCandidatesAnswer : Program → ℕ → Side → Point → Option (List (ℚ × ℕ)) → Type 0
IsCandidatesAnswer M i s x None = HasWideGap M i s x
IsCandidatesAnswer M i s x (Some found) = AreCandidates M i s x (length M.cols) found

-- the column was dropped where the rest still derives; false: a step has no room
abbrev pub IsColumnDropped : Program → ℕ → Side → ℕ → List ℕ → Bool → List ℕ → Type 0
IsColumnDropped M i s j kept told after =
    (r : Result Bool WideStep) × (IsValidAnswer M (cover_of M i s (places_without j kept)) r × by_answer r ((told ≡ true) × (after ≡ places_without j kept)) ((told ≡ true) × (after ≡ kept)) (told ≡ false))
