use Rattle.std.proofs.Common.{◌∙◌, ◌↔◌, ◌≤ℤ◌, ◌<ℤ◌, pos, neg_ℤ, FitsSigned, rules, IsTrue, false, subst, sym}
use Rattle.std.proofs.lemmas.Bool.{false≢true}
use Rattle.std.specs.Int.{w128}
use Rattle.std.proofs.lemmas.Int.{to_z-of_z}
use Rattle.frac128.specs.Range.{largest}
use Rattle.lp_model.specs.Formulations.{formulation}
use Rattle.search_parts.specs.Checks.{IsSplitAllowed}
use Rattle.search_parts.specs.Lists.{AreMultipliers}
use Rattle.sound_searches.specs.Placing.{IsSplitSound}
use Rattle.sound_searches.specs.Sound.{PlainSearch, formulation_of}
use Rattle.tree_edit.proofs.search.Search.split_fits.Goals as goal

pub returns-then-not-is_split_allowed-clause-sound : goal.returns-then-not-is_split_allowed-clause-sound
returns-then-not-is_split_allowed-clause-sound c =
    let i = c.self.inside in
    let split = c.args.split.now in
    let path = c.args.region.now in
    let fits : FitsSigned w128 split.v = search rules in
    let allowed : IsTrue c.is_split_allowed.result ↔ IsSplitAllowed i.model path split.col.0 split.v = simp to_z-of_z at c.is_split_allowed.ensures.allowed in
    subst (λ (S : PlainSearch). IsTrue false ↔ IsSplitSound (formulation_of S) path split.col.0 split.v split.mult split.basis) c.self.view_is (
      (λ t. absurd (false≢true t)),
      (λ s. absurd (false≢true (sym c.if-not-is_split_allowed.true ∙ allowed.1 s.allowed))),
    )

pub returns-then-not-is_split_allowed-clause-room : goal.returns-then-not-is_split_allowed-clause-room
returns-then-not-is_split_allowed-clause-room c = λ t. absurd (false≢true t)

pub returns-in-Ok-true-clause-sound : goal.returns-in-Ok-true-clause-sound
returns-in-Ok-true-clause-sound c =
    let i = c.self.inside in
    let split = c.args.split.now in
    let path = c.args.region.now in
    let fits : FitsSigned w128 split.v = search rules in
    let allowed : IsTrue c.is_split_allowed.result ↔ IsSplitAllowed i.model path split.col.0 split.v = simp to_z-of_z at c.is_split_allowed.ensures.allowed in
    let are : AreMultipliers (formulation i.model i.pool) split.mult = c.in-Ok-true.ensures.0 c.in-Ok-true.field-0-test in
    subst (λ (S : PlainSearch). IsTrue c.is_basis.result ↔ IsSplitSound (formulation_of S) path split.col.0 split.v split.mult split.basis) c.self.view_is (
      (λ t. record { allowed = allowed.0 c.if-not-is_split_allowed.false; mult_is = are; basis_is = c.is_basis.ensures.0 t }),
      (λ s. c.is_basis.ensures.1 s.basis_is),
    )

pub returns-in-Ok-true-clause-room : goal.returns-in-Ok-true-clause-room
returns-in-Ok-true-clause-room c =
    let v = c.args.split.now.v in
    let fits : FitsSigned w128 v = search rules in
    let room : IsTrue c.is_split_allowed.result → (neg_ℤ (pos largest) ≤ℤ v) × (v <ℤ pos largest) = simp to_z-of_z at c.is_split_allowed.ensures.room in
    λ t. room c.if-not-is_split_allowed.false

pub returns-in-Ok-false-clause-sound : goal.returns-in-Ok-false-clause-sound
returns-in-Ok-false-clause-sound c =
    let i = c.self.inside in
    let split = c.args.split.now in
    let path = c.args.region.now in
    subst (λ (S : PlainSearch). IsTrue false ↔ IsSplitSound (formulation_of S) path split.col.0 split.v split.mult split.basis) c.self.view_is (
      (λ t. absurd (false≢true t)),
      (λ s. absurd (false≢true (sym c.in-Ok-false.field-0-test ∙ c.in-Ok-false.ensures.1 s.mult_is))),
    )

pub returns-in-Ok-false-clause-room : goal.returns-in-Ok-false-clause-room
returns-in-Ok-false-clause-room c = λ t. absurd (false≢true t)
