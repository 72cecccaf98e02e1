-- The relaxation of directions: what may be added to a solution without end.
use Rattle.std.specs.Prelude.{◌≡◌, ◌≢◌, ℕ, ◌+◌, ◌<◌, ◌≤◌, pos, negsuc, Option, Some, None, Bool, ltb, if◌then◌else◌}
use Rattle.frac128.specs.Rational.{ℚ, int, ◌≤ℚ◌, ◌<ℚ◌}
use Rattle.table_entries.specs.Relaxation.{Relaxation, Solves, total_cost}
use Rattle.table_entries.specs.declared.stand.Stand.{Stand}
use Rattle.table_entries.specs.States.{State}
use Rattle.table_entries.specs.declared.stand.Stand.TheVariants.{Low, High, Free}

-- 0 where the variable has that side, and else a bound for a column and none for an activity
abbrev pub direction_side : Bool → ℚ → Option ℚ → Option ℚ
direction_side column bound (Some x) = Some (int (pos 0))
direction_side column bound None = if column then Some bound else None

abbrev pub directions : Relaxation → Relaxation
directions p = record {
  columns = p.columns;
  activities = p.activities;
  coefficient = p.coefficient;
  low = λ v. direction_side (ltb v p.columns) (int (negsuc 0)) (p.low v);
  high = λ v. direction_side (ltb v p.columns) (int (pos 1)) (p.high v);
  cost = p.cost;
}

-- the parts of the model's costs, and those of the directions': the latter go on where the former end
pub record Continues (p : Relaxation) (parts longer : ℕ → ℕ → ℚ) : Type 0 where
  pub ends : ℕ
  pub some : 0 < ends
  pub same : (q v : ℕ) → q < ends → longer q v ≡ parts q v
  pub over : (q v : ℕ) → ends ≤ q → parts q v ≡ int (pos 0)
  -- after the costs, a variable has a part above 0 only with a low side, and below 0 only with a high one
  pub lower : (q v : ℕ) → 0 < q → int (pos 0) <ℚ parts q v → p.low v ≢ None
  pub upper : (q v : ℕ) → 0 < q → parts q v <ℚ int (pos 0) → p.high v ≢ None

abbrev pub stand_number : Stand → Option ℚ → Option ℚ → ℚ
stand_number Low (Some x) high = x
stand_number Low None high = int (pos 0)
stand_number High low (Some x) = x
stand_number High low None = int (pos 0)
stand_number Free low high = int (pos 0)

abbrev pub model_stand : Stand → Option ℚ → Option ℚ → Stand
model_stand stand None None = Free
model_stand stand (Some x) high = stand
model_stand stand None (Some x) = stand

-- the state of the model at a basis of the directions: columns without sides stand at 0
abbrev pub model_state : Relaxation → State → State
model_state p st = record {
  table = st.table;
  stand = λ k. model_stand (st.stand k) (p.low (st.table.nonbasic k)) (p.high (st.table.nonbasic k));
  at = λ k. stand_number (model_stand (st.stand k) (p.low (st.table.nonbasic k)) (p.high (st.table.nonbasic k))) (p.low (st.table.nonbasic k)) (p.high (st.table.nonbasic k));
}

-- a solution along which the model's sides are kept without end, of a cost below 0
pub record IsRelaxationRay (p : Relaxation) (x : ℕ → ℚ) : Type 0 where
  pub solves : Solves p x
  pub low : (v : ℕ) → v < p.columns + p.activities → p.low v ≢ None → int (pos 0) ≤ℚ x v
  pub high : (v : ℕ) → v < p.columns + p.activities → p.high v ≢ None → x v ≤ℚ int (pos 0)
  pub improves : total_cost p p.cost x <ℚ int (pos 0)
