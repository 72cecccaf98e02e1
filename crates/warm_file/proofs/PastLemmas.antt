-- A variable past those before it, and what is read behind it.
use Rattle.std.specs.Prelude.{◌≡◌, ℕ, Bool, true, false, if◌then◌else◌, List, Result, Ok, Err}
use Rattle.std.proofs.Common.{refl, sym, subst, ap, ◌∙◌}
use Rattle.lp_model.specs.declared.types.Var.{Var}
use Rattle.serde_json.specs.Data.{Data}
use Rattle.warm_file.specs.Faults.{Fault, fault, behind, at_item}
use Rattle.warm_file.specs.private.Faults.{SaysFault}
use Rattle.warm_file.specs.Values.{place_below}
use Rattle.warm_file.specs.Rising.{is_past, count_of_kind, var_of, variable_rank}
use Rattle.warm_file.specs.private.RisingItems.{past_variable}
use Rattle.warm_file.specs.declared.fault.WarmFault.{WarmFault}
use Rattle.warm_file.specs.declared.rising.Counts.{Counts}
use Rattle.warm_file.specs.declared.rising.Kind.{Kind}
use Rattle.warm_file.proofs.Saying.{says-first, says-next, says-else, ok-next, ok-then}

-- ---- one variable

module _ {A : Type 0} (n : Counts) (kinds : Data → Result Kind Fault) (place : A → ℕ) (before : List A) (first second : Data) where
  abbrev at_place : Kind → ℕ → Result Var Fault
  at_place k i = if is_past place before (variable_rank (var_of k i)) then Ok (var_of k i) else fault 8

  abbrev at_kind : Kind → Result Var Fault
  at_kind k = behind (at_item 1 (place_below (count_of_kind n k) second)) (at_place k)

  pub past-kind : (w : WarmFault) → SaysFault {A = Kind} (at_item 0 (kinds first)) (Err w) → SaysFault {A = Var} (past_variable n kinds place before first second) (Err w)
  past-kind w h = says-first (at_item 0 (kinds first)) at_kind w h

  module _ (k : Kind) (kind : at_item 0 (kinds first) ≡ Ok k) (count : ℕ) (many : count ≡ count_of_kind n k) where
    pub past-place : (w : WarmFault) → SaysFault {A = ℕ} (at_item 1 (place_below count second)) (Err w) → SaysFault {A = Var} (past_variable n kinds place before first second) (Err w)
    past-place w h =
        says-next (at_item 0 (kinds first)) at_kind k (Err w) kind
        (says-first (at_item 1 (place_below (count_of_kind n k) second)) (at_place k) w (subst (λ m. SaysFault {A = ℕ} (at_item 1 (place_below m second)) (Err w)) many h))

    module _ (i : ℕ) (stated : at_item 1 (place_below count second) ≡ Ok i) (v : Var) (is : v ≡ var_of k i) (rank : ℕ) (ranked : rank ≡ variable_rank v) (b : Bool) (past : b ≡ is_past place before rank) where
      at : at_item 1 (place_below (count_of_kind n k) second) ≡ Ok i
      at = subst (λ m. at_item 1 (place_below m second) ≡ Ok i) many stated

      order : is_past place before (variable_rank (var_of k i)) ≡ b
      order = sym (past ∙ ap (is_past place before) (ranked ∙ ap variable_rank is))

      pub past-ok : b ≡ true → past_variable n kinds place before first second ≡ Ok v
      past-ok met =
          ok-next (at_item 0 (kinds first)) at_kind k v kind
          (ok-next (at_item 1 (place_below (count_of_kind n k) second)) (at_place k) i v at (ok-then (is_past place before (variable_rank (var_of k i))) (Ok (var_of k i)) (fault 8) v (order ∙ met) (λ j. Ok (sym is j))))

      pub past-not : (r : Result Var WarmFault) → b ≡ false → SaysFault {A = Var} (fault 8) r → SaysFault (past_variable n kinds place before first second) r
      past-not r unmet h =
          says-next (at_item 0 (kinds first)) at_kind k r kind
          (says-next (at_item 1 (place_below (count_of_kind n k) second)) (at_place k) i r at (says-else (is_past place before (variable_rank (var_of k i))) (Ok (var_of k i)) (fault 8) r (order ∙ unmet) h))

-- ---- what is read behind it

behind-test : {E : Type 0} (b : Bool) (v : Var) (next : Var → Result E Fault) → behind {A = Var} {B = E} (if b then Ok v else fault 8) next ≡ (if b then next v else fault 8)
unfolding behind
behind-test true v next = refl
behind-test false v next = refl

pub behind-past : {A E : Type 0} (n : Counts) (kinds : Data → Result Kind Fault) (place : A → ℕ) (before : List A) (first second : Data) (next : Var → Result E Fault)
    → behind (past_variable n kinds place before first second) next
    ≡ behind (at_item 0 (kinds first)) (λ k. behind (at_item 1 (place_below (count_of_kind n k) second)) (λ i. if is_past place before (variable_rank (var_of k i)) then next (var_of k i) else fault 8))
unfolding behind
behind-past {A} {E} n kinds place before first second next = by (at_item 0 (kinds first))
  where
    on_place : (k : Kind) (i : Result ℕ Fault) → behind {A = Var} {B = E} (behind i (λ i. if is_past place before (variable_rank (var_of k i)) then Ok (var_of k i) else fault 8)) next
        ≡ behind {A = ℕ} {B = E} i (λ i. if is_past place before (variable_rank (var_of k i)) then next (var_of k i) else fault 8)
    on_place k (Err e) = refl
    on_place k (Ok i) = behind-test (is_past place before (variable_rank (var_of k i))) (var_of k i) next

    by : (kind : Result Kind Fault) → behind {A = Var} {B = E} (behind kind (λ k. behind (at_item 1 (place_below (count_of_kind n k) second)) (λ i. if is_past place before (variable_rank (var_of k i)) then Ok (var_of k i) else fault 8))) next
        ≡ behind {A = Kind} {B = E} kind (λ k. behind (at_item 1 (place_below (count_of_kind n k) second)) (λ i. if is_past place before (variable_rank (var_of k i)) then next (var_of k i) else fault 8))
    by (Err e) = refl
    by (Ok k) = on_place k (at_item 1 (place_below (count_of_kind n k) second))
