-- What is shown of a model is shown of the same model by another name, and rows and columns that are taken out again leave the model.
use Rattle.std.specs.Prelude.{◌≡◌, ℕ, List, true, Contains, pos, Option, Some, None, IsSome}
use Rattle.std.proofs.Common.{refl, subst, ◌∙◌}
use Rattle.frac128.specs.Rational.{ℚ, int}
use Rattle.lp_model.specs.Program.{Program}
use Rattle.lp_model.specs.Lawful.{IsLawful, column_names}
use Rattle.lp_model.specs.Edits.{Named, only_row_names, edited}
use Rattle.search_answers.specs.declared.answers.Answer.{Answer}
use Rattle.lp_model.specs.declared.types.Edit.TheVariants.{DelRow, DelCol}
use Rattle.inner_models.specs.Inner.{capped}
use Rattle.inner_models.proofs.Undone.{undone}
use Rattle.front_solver.specs.declared.solved.Solved.{Solved}
use Rattle.cert_text.specs.declared.cert.Claim.{Claim}
use Rattle.cert_text.specs.declared.cert.Cert.{Cert}
use Rattle.front_solver.specs.Truth.{IsTrueOf, IsStop, shown_claim, IsCertifiedAs}
use Rattle.front_solver.specs.Stops.{AddsNoStop}
use Rattle.front_solver.specs.Solved.{HasSolved}
use Rattle.front_solver.specs.Columns.{whole_column}

-- the row is taken out again
pub row_undone : (P A B C : Program) → IsLawful P → (name row : List ℕ) (hi : ℚ) (named : Named) → ¬ Contains (only_row_names P) name → A ≡ edited P (capped name hi named) → B ≡ A → row ≡ name → C ≡ edited B (DelRow row) → C ≡ P
row_undone P A B C lawful name row hi named free added kept same out =
    out ∙ (λ i. edited ((kept ∙ added) i) (DelRow (same i))) ∙ (undone P lawful).row name None (Some hi) named free

-- the column is taken out again
pub column_undone : (P A B C : Program) → IsLawful P → (name col : List ℕ) (up : ℚ) → ¬ Contains (column_names P) name → A ≡ edited P (whole_column name up) → B ≡ A → col ≡ name → C ≡ edited B (DelCol col) → C ≡ P
column_undone P A B C lawful name col up free added kept same out =
    out ∙ (λ i. edited ((kept ∙ added) i) (DelCol (same i))) ∙ (undone P lawful).column name true (Some (int (pos 0))) (Some up) (int (pos 1)) (int (pos 0)) free

-- by another name
pub solved_of : (stops : Program → ℕ → Answer → Type 0) (M N : Program) (n : ℕ) (solved : Solved) → M ≡ N → HasSolved stops M n solved → HasSolved stops N n solved
solved_of stops M N n solved same h = subst (λ (P : Program). HasSolved stops P n solved) same h

-- of a solver that stops no more than one before it
pub solved_before : (new old : Program → ℕ → Answer → Type 0) (M N : Program) (n : ℕ) (solved : Solved) → AddsNoStop new old → M ≡ N → HasSolved new M n solved → HasSolved old N n solved
solved_before new old M N n solved steady same h =
    solved_of old M N n solved same (record { lawful = h.lawful; true_of = h.true_of; certified = h.certified; stopped = λ stop. steady M n solved.answer (h.stopped stop) })

-- ---- what is answered

-- without a claim there is no certificate
pub solved_bare : (stops : Program → ℕ → Answer → Type 0) (M N : Program) (n : ℕ) (answer : Answer)
    → IsLawful M → N ≡ M → IsTrueOf N n answer → (IsStop answer → stops M n answer) → ¬ IsSome (shown_claim answer)
    → HasSolved stops M n (record { answer = answer; cert = None })
solved_bare stops M N n answer lawful same is stopped bare = record {
  lawful = lawful;
  true_of = subst (λ (P : Program). IsTrueOf P n answer) same is;
  certified = none (shown_claim answer) bare;
  stopped = stopped;
}
  where
    none : (shown : Option Claim) → ¬ IsSome shown → shown ≡ None
    none None free = refl
    none (Some claim) free = absurd (free refl)

-- with a claim there is one
pub solved_finished : (stops : Program → ℕ → Answer → Type 0) (M N : Program) (n : ℕ) (answer : Answer) (shown : Option Claim) (cert : Cert)
    → IsLawful M → N ≡ M → IsTrueOf N n answer → (IsStop answer → stops M n answer) → shown ≡ shown_claim answer → IsCertifiedAs N shown cert
    → HasSolved stops M n (record { answer = answer; cert = Some cert })
solved_finished stops M N n answer shown cert lawful same is stopped claims accepted = record {
  lawful = lawful;
  true_of = subst (λ (P : Program). IsTrueOf P n answer) same is;
  certified = subst (λ (claim : Option Claim). IsCertifiedAs M claim cert) claims (subst (λ (P : Program). IsCertifiedAs P shown cert) same accepted);
  stopped = stopped;
}
