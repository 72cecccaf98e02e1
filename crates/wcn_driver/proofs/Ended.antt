-- What is told where a sweep ends at a part is so.
use Rattle.std.specs.Prelude.{◌≡◌, ◌⊎◌, ℕ, ◌-◌, ℤ, pos, List, [], ◌∷◌, get_or, map, All}
use Rattle.std.proofs.Common.{refl, sym, ap, ap₂, subst, ◌∙◌, arith, inl, inr}
use Rattle.std.proofs.lemmas.Int.{ints}
use Rattle.std.proofs.lemmas.List.Elements.{All-head, All-tail, All-cons, All-nil, All-map}
use Rattle.std.proofs.lemmas.List.Kept.{AllPairs-cons}
use Rattle.frac128.specs.Range.{IsNarrow}
use Rattle.lp_model.specs.Program.{Program, Point}
use Rattle.search_answers.specs.declared.answers.Answer.{Answer}
use Rattle.frontier.specs.declared.outcomes.Outcome.{Outcome}
use Rattle.frontier.specs.Covers.{IsAhead, IsFront}
use Rattle.frontier.specs.Outcomes.{HasLeastOutcome}
use Rattle.inner_models.proofs.CappedModels.{least_is}
use Rattle.front_sweeps.specs.Steps.{IsBase, IsNondominatedOutcome, with_constants, moved}
use Rattle.front_sweeps.proofs.Constants.{stands-moved, has-moved}
use Rattle.front_solver.specs.Stops.{AddsNoStop}
use Rattle.front_solver.specs.Solved.{IsRecosted}
use Rattle.wcn_driver.specs.declared.answers.Part.{Part}
use Rattle.wcn_driver.specs.declared.answers.Part.TheVariants as parts
use Rattle.wcn_driver.specs.declared.answers.Mc.{Mc}
use Rattle.wcn_driver.specs.declared.answers.Mc.TheVariants as mc
use Rattle.wcn_driver.specs.declared.task.Task.{Task}
use Rattle.wcn_driver.specs.declared.found.Found.{Found}
use Rattle.wcn_driver.specs.declared.ends.PartLeast.{PartLeast}
use Rattle.wcn_driver.specs.declared.settling.Halt.{Halt}
use Rattle.wcn_driver.specs.declared.settling.Halt.TheVariants.{Stopped, Wide, Memory}
use Rattle.wcn_driver.specs.Parts.{IsPartDue, part_model}
use Rattle.wcn_driver.specs.Answers.{StandsAtPart, StopsAtPart, IsMc}
use Rattle.wcn_driver.specs.private.Kept.{Stays, UnlessMemory}
use Rattle.wcn_driver.specs.private.Settled.{IsHalt}
use Rattle.wcn_driver.specs.private.Ends.{IsFoundOf, IsLeastFirst, IsLeastSecond}
use Rattle.wcn_driver.specs.private.State.{outcomes_found, HasLeft, IsSweepEndAt, IsSweepEnd}
use Rattle.wcn_driver.specs.private.Told.{shown_outcome, IsToldAtPart, IsCompleted}
use Rattle.wcn_driver.proofs.Turns.{front_first, front_rest}

-- ---- outcomes with the constants

ahead_moved : (c d : ℤ) (a b : Outcome) → IsAhead a b → IsAhead (moved c d a) (moved c d b)
ahead_moved c d a b h =
    let up = h.first in
    let down = h.second in
    record { first = omega (arith, ints); second = omega (arith, ints) }

pub front_none : IsFront []
front_none i j d h k = absurd (omega arith)

pub front_one : (o : Outcome) → IsFront (o ∷ [])
front_one o i j d h k = absurd (omega arith)

pub front_moved : (c d : ℤ) (l : List Outcome) → IsFront l → IsFront (map (moved c d) l)
front_moved c d [] front = front_none
front_moved c d (o ∷ l) front =
    AllPairs-cons IsAhead (moved c d o) (map (moved c d) l)
    (All-map (IsAhead (moved c d o)) (moved c d) l (λ k e below. ahead_moved c d o (get_or l k e) (front_first o l front k e below)))
    (front_moved c d l (front_rest o l front))

module _ (N : Program) (c d : ℤ) (base : IsBase N) where
  pub moved_found : (fs : List Found) → All (IsFoundOf N c d) fs → map shown_outcome fs ≡ map (moved c d) (outcomes_found fs)
  moved_found [] all = refl
  moved_found (f ∷ fs) all =
      ap₂ (λ (o : Outcome) (l : List Outcome). o ∷ l) (All-head (IsFoundOf N c d) f fs all).narrow.1.shown.is (moved_found fs (All-tail (IsFoundOf N c d) f fs all))

  stands_shown : (f : Found) → IsFoundOf N c d f → IsNondominatedOutcome (with_constants c d N) (shown_outcome f)
  stands_shown f h =
      let x : Point = h.stands.point in
      let P : Program = with_constants c d N in
      let least : HasLeastOutcome N x f.outcome = record { first = least_is N base.bare N refl 1 x ∙ h.stands.has.first; second = least_is N base.bare N refl 2 x ∙ h.stands.has.second } in
      let there : HasLeastOutcome P x (moved c d f.outcome) = has-moved N c d base x f.outcome least in
      subst (IsNondominatedOutcome P) (sym h.narrow.1.shown.is) (record {
        point = x;
        stands = stands-moved N c d base x h.stands.stands;
        has = record { first = sym (least_is N base.bare P refl 1 x) ∙ there.first; second = sym (least_is N base.bare P refl 2 x) ∙ there.second };
      })

  pub narrow_shown : (fs : List Found) → All (IsFoundOf N c d) fs → All (λ (o : Outcome). IsNarrow o.f1 × IsNarrow o.f2) (map shown_outcome fs)
  narrow_shown fs all =
      All-map (λ (o : Outcome). IsNarrow o.f1 × IsNarrow o.f2) shown_outcome fs (λ k e below.
      let h = all k e below in
      subst (λ (o : Outcome). IsNarrow o.f1 × IsNarrow o.f2) (sym h.narrow.1.shown.is) (h.narrow.1.has.first_sum, h.narrow.1.has.second_sum))

  pub front_shown : (fs : List Found) → All (IsFoundOf N c d) fs → IsFront (outcomes_found fs) → IsFront (map shown_outcome fs)
  front_shown fs all front = subst IsFront (sym (moved_found fs all)) (front_moved c d (outcomes_found fs) front)

  each_shown : (fs : List Found) → All (IsFoundOf N c d) fs → All (IsNondominatedOutcome (with_constants c d N)) (map shown_outcome fs)
  each_shown fs all = All-map (IsNondominatedOutcome (with_constants c d N)) shown_outcome fs (λ k e below. stands_shown (get_or fs k e) (all k e below))

-- ---- an end at a part

module _ (stops : Program → ℕ → Answer → Type 0) (g : Task) (base : IsBase g.base) (fs : List Found) (part : Part) where
  abbrev stands_at : (halt : Halt) → IsSweepEndAt stops g fs part halt → StandsAtPart g.base g.constant1 g.constant2 (map shown_outcome fs) part
  stands_at halt end = record {
    apart = front_shown g.base g.constant1 g.constant2 base fs end.each end.apart;
    each = each_shown g.base g.constant1 g.constant2 base fs end.each;
    i1 = end.i1;
    i2 = end.i2;
    found = outcomes_found fs;
    moved_by = moved_found g.base g.constant1 g.constant2 base fs end.each;
    due = end.due;
    narrow = narrow_shown g.base g.constant1 g.constant2 base fs end.each;
  }

  pub tellable : (halt : Halt) → IsSweepEnd stops g fs part halt → UnlessMemory (IsFront (map shown_outcome fs)) halt
  tellable (Stopped why results bound best) end = front_shown g.base g.constant1 g.constant2 base fs end.each end.apart
  tellable (Wide at) end = front_shown g.base g.constant1 g.constant2 base fs end.each end.apart
  tellable Memory end = tt

  pub ended : (halt : Halt) (answer : Mc) → IsSweepEnd stops g fs part halt → IsToldAtPart (map shown_outcome fs) part halt answer → IsMc stops g.base g.nodes g.constant1 g.constant2 answer
  ended (Stopped why results bound best) answer end (inl is) = subst (IsMc stops g.base g.nodes g.constant1 g.constant2) (sym is) tt
  ended (Stopped why results bound best) answer end (inr is) =
      subst (IsMc stops g.base g.nodes g.constant1 g.constant2) (sym is) (stands_at (Stopped why results bound best) end, end.cause.0, end.cause.1)
  ended (Wide at) answer end (inl is) = subst (IsMc stops g.base g.nodes g.constant1 g.constant2) (sym is) tt
  ended (Wide at) answer end (inr is) = subst (IsMc stops g.base g.nodes g.constant1 g.constant2) (sym is) (stands_at (Wide at) end, end.cause)
  ended Memory answer end is = subst (IsMc stops g.base g.nodes g.constant1 g.constant2) (sym is) tt

pub completed_mc : (stops : Program → ℕ → Answer → Type 0) (g : Task) (answer : Mc) → IsCompleted g answer → IsMc stops g.base g.nodes g.constant1 g.constant2 answer
completed_mc stops g (mc.Complete front cert) h = h
completed_mc stops g (mc.Infeasible cert results) h = absurd h
completed_mc stops g (mc.Stopped front part why results bound best) h = absurd h
completed_mc stops g (mc.NotWhole which col) h = absurd h
completed_mc stops g (mc.WideScale front part place) h = absurd h
completed_mc stops g mc.Memory h = tt

-- ---- what could be answered before

module _ (new old : Program → ℕ → Answer → Type 0) (steady : AddsNoStop new old) (N : Program) (nodes : ℕ) (c d : ℤ) where
  stops_before : (P : Program) (results : ℕ) (answer : ℕ → Answer) → StopsAtPart new P nodes results answer → StopsAtPart old P nodes results answer
  stops_before P results answer h = record { before = h.before; here = h.here; sum = h.sum; within = h.within; stopped = steady P (nodes - h.before) (answer h.here) h.stopped }

  halt_before : (i1 i2 : ℤ) (part : Part) (halt : Halt) → IsHalt new N nodes c d i1 i2 part halt → IsHalt old N nodes c d i1 i2 part halt
  halt_before i1 i2 part (Stopped why results bound best) h = (stops_before (part_model N i1 i2 part) results _ h.0, h.1)
  halt_before i1 i2 part (Wide at) h = h
  halt_before i1 i2 part Memory h = tt

  pub mc_before : (answer : Mc) → IsMc new N nodes c d answer → IsMc old N nodes c d answer
  mc_before (mc.Complete front cert) h = h
  mc_before (mc.Infeasible cert results) h = h
  mc_before (mc.Stopped front part why results bound best) h = (h.0, stops_before (part_model N h.0.i1 h.0.i2 part) results _ h.1, h.2)
  mc_before (mc.NotWhole which col) h = h
  mc_before (mc.WideScale front part place) h = h
  mc_before mc.Memory h = tt

pub end_before : (new old : Program → ℕ → Answer → Type 0) → AddsNoStop new old → (g : Task) (fs : List Found) (part : Part) (halt : Halt) → IsSweepEnd new g fs part halt → IsSweepEnd old g fs part halt
end_before new old steady g fs part (Stopped why results bound best) h = record {
  i1 = h.i1;
  i2 = h.i2;
  each = h.each;
  apart = h.apart;
  due = h.due;
  cause = halt_before new old steady g.base g.nodes g.constant1 g.constant2 h.i1 h.i2 part (Stopped why results bound best) h.cause;
}
end_before new old steady g fs part (Wide at) h = record { i1 = h.i1; i2 = h.i2; each = h.each; apart = h.apart; due = h.due; cause = h.cause }
end_before new old steady g fs part Memory h = tt

-- ---- the parts at the ends

-- it is told as its cause is, whatever the least value that its part does not name
pub due_at : (stops : Program → ℕ → Answer → Type 0) (g : Task) (fs : List Found) (part : Part) (i1 i2 : ℤ) → All (IsFoundOf g.base g.constant1 g.constant2) fs → IsFront (outcomes_found fs)
    → IsPartDue g.base i1 i2 (outcomes_found fs) part → (halt : Halt) → IsHalt stops g.base g.nodes g.constant1 g.constant2 i1 i2 part halt → IsSweepEnd stops g fs part halt
due_at stops g fs part i1 i2 each apart due (Stopped why results bound best) h = record { i1 = i1; i2 = i2; each = each; apart = apart; due = due; cause = h }
due_at stops g fs part i1 i2 each apart due (Wide at) h = record { i1 = i1; i2 = i2; each = each; apart = apart; due = due; cause = h }
due_at stops g fs part i1 i2 each apart due Memory h = tt

module _ (stops : Program → ℕ → Answer → Type 0) (N : Program) (nodes : ℕ) (c d : ℤ) where
  pub least2_any : (i1 i2 : ℤ) (halt : Halt) → IsHalt stops N nodes c d (pos 0) (pos 0) parts.Least2 halt → IsHalt stops N nodes c d i1 i2 parts.Least2 halt
  least2_any i1 i2 (Stopped why results bound best) h = h
  least2_any i1 i2 (Wide at) h = h
  least2_any i1 i2 Memory h = tt

  pub right_any : (i1 i2 : ℤ) (halt : Halt) → IsHalt stops N nodes c d (pos 0) i2 parts.Right halt → IsHalt stops N nodes c d i1 i2 parts.Right halt
  right_any i1 i2 (Stopped why results bound best) h = h
  right_any i1 i2 (Wide at) h = h
  right_any i1 i2 Memory h = tt

module _ (stops : Program → ℕ → Answer → Type 0) (g : Task) (halt : Halt) where
  pub first_ended : IsHalt stops g.base g.nodes g.constant1 g.constant2 (pos 0) (pos 0) parts.Least1 halt → IsSweepEnd stops g [] parts.Least1 halt
  first_ended h = due_at stops g [] parts.Least1 (pos 0) (pos 0) (All-nil (IsFoundOf g.base g.constant1 g.constant2)) front_none refl halt h

  module _ (first : PartLeast) (low : IsLeastFirst g first) where
    pub left_ended : IsHalt stops g.base g.nodes g.constant1 g.constant2 first.least (pos 0) parts.Left halt → IsSweepEnd stops g [] parts.Left halt
    left_ended h = due_at stops g [] parts.Left first.least (pos 0) (All-nil (IsFoundOf g.base g.constant1 g.constant2)) front_none (refl, low.least) halt h

    module _ (fs : List Found) (has : HasLeft g first.least fs) where
      each_left : All (IsFoundOf g.base g.constant1 g.constant2) fs
      each_left =
          subst (All (IsFoundOf g.base g.constant1 g.constant2)) (sym has.only)
          (All-cons (IsFoundOf g.base g.constant1 g.constant2) has.left [] has.found_of (All-nil (IsFoundOf g.base g.constant1 g.constant2)))

      only_left : outcomes_found fs ≡ has.left.outcome ∷ []
      only_left = ap outcomes_found has.only

      apart_left : IsFront (outcomes_found fs)
      apart_left = subst IsFront (sym only_left) (front_one has.left.outcome)

      pub least2_ended : IsHalt stops g.base g.nodes g.constant1 g.constant2 (pos 0) (pos 0) parts.Least2 halt → IsSweepEnd stops g fs parts.Least2 halt
      least2_ended h =
          due_at stops g fs parts.Least2 first.least (pos 0) each_left apart_left (has.left.outcome, (only_left, has.first, low.least)) halt
          (least2_any stops g.base g.nodes g.constant1 g.constant2 first.least (pos 0) halt h)

      pub right_ended : (second : PartLeast) → IsLeastSecond g second → IsHalt stops g.base g.nodes g.constant1 g.constant2 (pos 0) second.least parts.Right halt → IsSweepEnd stops g fs parts.Right halt
      right_ended second low2 h =
          due_at stops g fs parts.Right first.least second.least each_left apart_left (has.left.outcome, (only_left, has.first, low.least, low2.least)) halt
          (right_any stops g.base g.nodes g.constant1 g.constant2 first.least second.least halt h)

-- ---- what is kept of the solver

pub told_recosted : (N P : Program) (new old : Program → ℕ → Answer → Type 0) (front : List Outcome) (part : Part) (halt : Halt) (answer : Mc)
    → UnlessMemory (Stays N P new old) halt → IsToldAtPart front part halt answer → (answer ≡ mc.Memory) ⊎ IsRecosted N P
told_recosted N P new old front part (Stopped why results bound best) answer stays told = inr stays.recosted
told_recosted N P new old front part (Wide at) answer stays told = inr stays.recosted
told_recosted N P new old front part Memory answer stays told = inl told

pub stays_before : (N P : Program) (new old first : Program → ℕ → Answer → Type 0) → AddsNoStop old first → (halt : Halt) → UnlessMemory (Stays N P new old) halt → UnlessMemory (Stays N P new first) halt
stays_before N P new old first steady (Stopped why results bound best) stays = record { recosted = stays.recosted; steady = λ M n answer stop. steady M n answer (stays.steady M n answer stop) }
stays_before N P new old first steady (Wide at) stays = record { recosted = stays.recosted; steady = λ M n answer stop. steady M n answer (stays.steady M n answer stop) }
stays_before N P new old first steady Memory stays = tt
