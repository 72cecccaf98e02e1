-- What nothing hinders comes to its end.
use Rattle.std.specs.Prelude.{◌≡◌, ◌⊎◌, ℕ, ◌≤◌, Option, Some, None, Err}
use Rattle.std.proofs.Common.{arith, inl, inr}
use Rattle.lp_model.specs.Program.{Program, HasWholeObjective}
use Rattle.lp_model.specs.declared.types.ColId.{ColId}
use Rattle.search_answers.specs.declared.answers.Answer.{Answer}
use Rattle.search_answers.specs.declared.answers.Answer.TheVariants as solve
use Rattle.model_points.specs.Answers.{IsFirstNotWhole, IsWholeAnswer}
use Rattle.wcn_driver.specs.declared.answers.Mc.TheVariants as mc
use Rattle.wcn_driver.specs.Laws.{SweptToEndLaw}

whole : (N : Program) (w : ℕ) (col : Option ColId) → HasWholeObjective N w → ¬ IsFirstNotWhole N w col
whole N w (Some col) is first = first.2 (is.costs col.0 first.0)
whole N w None is first = first.1 is.constant

not_whole : (N : Program) (which : ℕ) (col : Option ColId) → HasWholeObjective N 1 → HasWholeObjective N 2
    → ((which ≡ 1) × IsWholeAnswer N 1 (Err (record { col = col }))) ⊎ ((which ≡ 2) × HasWholeObjective N 1 × IsWholeAnswer N 2 (Err (record { col = col }))) → ⊥
not_whole N which col one two (inl first) = whole N 1 col one first.1
not_whole N which col one two (inr second) = whole N 2 col two second.2

pub swept_to_end : (stops : Program → ℕ → Answer → Type 0) → SweptToEndLaw stops
swept_to_end stops N nodes c d (mc.Complete front cert) is free = tt
swept_to_end stops N nodes c d (mc.Infeasible cert results) is free = tt
swept_to_end stops N nodes c d (mc.Stopped front part why results bound best) is free =
    let before = is.1.before in
    let sum = is.1.sum in
    let few : before ≤ results = omega arith in
    free.unstopped front part is.0 before (solve.Stopped why is.1.here bound best) few tt is.1.stopped
swept_to_end stops N nodes c d (mc.NotWhole which col) is free = not_whole N which col free.first_whole free.second_whole is
swept_to_end stops N nodes c d (mc.WideScale front part place) is free = free.narrow front part is.0 place is.1
swept_to_end stops N nodes c d mc.Memory is free = tt
