-- A lawful model without its rows and columns is lawful.
use Rattle.std.specs.Prelude.{◌≢◌, zero, suc, List, [], ◌∷◌, AllPairs}
use Rattle.std.proofs.Common.{arith}
use Rattle.std.proofs.lemmas.List.Elements.{All-nil}
use Rattle.lp_model.specs.Program.{Program}
use Rattle.lp_model.specs.Lawful.{IsRange, IsLawfulColumn, IsLawful}
use Rattle.lp_model.specs.declared.types.Row.{Row}

first_two : {A : Type 0} (R : A → A → Type 0) (a b : A) (xs : List A) → AllPairs R (a ∷ b ∷ xs) → AllPairs R (a ∷ b ∷ [])
first_two R a b xs apart zero zero d below within = absurd (omega arith)
first_two R a b xs apart zero (suc zero) d below within = apart 0 1 d (omega arith) (omega arith)
first_two R a b xs apart i (suc (suc j)) d below within = absurd (omega arith)
first_two R a b xs apart (suc i) (suc zero) d below within = absurd (omega arith)
first_two R a b xs apart (suc i) zero d below within = absurd (omega arith)

pub emptied-lawful : (M : Program) → IsLawful M → IsLawful (record M { rows = []; cols = [] })
emptied-lawful M lawful =
    record {
      constants = lawful.constants;
      ranges = All-nil (λ (r : Row). IsRange r.lo r.hi);
      columns = All-nil (IsLawfulColumn 0);
      rows_distinct = first_two (λ a b. a ≢ b) M.obj M.obj2 _ lawful.rows_distinct;
      columns_distinct = λ i j d below within. absurd (omega arith);
      limits = record { few_rows = omega arith; few_columns = omega arith; few_entries = omega arith };
    }
