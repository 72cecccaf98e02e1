-- Lists told by how they differ from others. All of them rise.
--     differing us vs       the variables that stand in exactly one of two lists
--     difference ms ns      how the multipliers ns differ from ms: each of ns that ms has not, or has with another number, and with
--                           the number 0 each that ms alone has
--     changed ms k ds       the multipliers ms with these changes, of which the first has the place k: the number of a change takes the
--                           place of the one that stood there, and 0 takes it out. Err i where the change at i is the first that says
--                           nothing: its number stood there, or is 0 and none stood there
use Rattle.std.specs.Prelude.{ℕ, suc, Bool, if◌then◌else◌, List, [], ◌∷◌, pos, Result, Ok, Err}
use Rattle.std.specs.Ordering.{eq_by_cmp}
use Rattle.frac128.specs.Rational.{ℚ, int, rational_cmp}
use Rattle.lp_model.specs.Edits.{is_zero}
use Rattle.lp_model.specs.declared.types.Var.{Var}
use Rattle.node_differences.specs.Order.{stands_before}

abbrev pub same_number : ℚ → ℚ → Bool
same_number x y = eq_by_cmp rational_cmp x y

-- ---- variables

-- where u stands before all others of its list, and `rest` is had with those others
abbrev pub differing_behind : Var → (List Var → List Var) → List Var → List Var
differing_behind u rest [] = u ∷ rest []
differing_behind u rest (v ∷ vs) =
    if stands_before u v then u ∷ rest (v ∷ vs)
    else if stands_before v u then v ∷ differing_behind u rest vs
    else rest vs

abbrev pub differing : List Var → List Var → List Var
differing [] vs = vs
differing (u ∷ us) vs = differing_behind u (differing us) vs

-- ---- multipliers

-- the number 0 beside a variable that goes
abbrev pub gone : Var × ℚ → Var × ℚ
gone m = (m.0, int (pos 0))

abbrev pub difference_behind : Var × ℚ → (List (Var × ℚ) → List (Var × ℚ)) → List (Var × ℚ) → List (Var × ℚ)
difference_behind m rest [] = gone m ∷ rest []
difference_behind m rest (n ∷ ns) =
    if stands_before m.0 n.0 then gone m ∷ rest (n ∷ ns)
    else if stands_before n.0 m.0 then n ∷ difference_behind m rest ns
    else if same_number m.1 n.1 then rest ns else n ∷ rest ns

abbrev pub difference : List (Var × ℚ) → List (Var × ℚ) → List (Var × ℚ)
difference [] ns = ns
difference (m ∷ ms) ns = difference_behind m (difference ms) ns

-- ---- multipliers with changes

abbrev pub put_before : Var × ℚ → Result (List (Var × ℚ)) ℕ → Result (List (Var × ℚ)) ℕ
put_before m (Ok ms) = Ok (m ∷ ms)
put_before m (Err i) = Err i

-- a change of what did not stand there
abbrev pub entered : ℕ → Var × ℚ → Result (List (Var × ℚ)) ℕ → Result (List (Var × ℚ)) ℕ
entered k d rest = if is_zero d.1 then Err k else put_before d rest

-- a change of what stood there
abbrev pub changed_there : ℕ → Var × ℚ → Var × ℚ → Result (List (Var × ℚ)) ℕ → Result (List (Var × ℚ)) ℕ
changed_there k m d rest = if same_number m.1 d.1 then Err k else if is_zero d.1 then rest else put_before d rest

abbrev pub all_entered : ℕ → List (Var × ℚ) → Result (List (Var × ℚ)) ℕ
all_entered k [] = Ok []
all_entered k (d ∷ ds) = entered k d (all_entered (suc k) ds)

abbrev pub changed_behind : Var × ℚ → (ℕ → List (Var × ℚ) → Result (List (Var × ℚ)) ℕ) → ℕ → List (Var × ℚ) → Result (List (Var × ℚ)) ℕ
changed_behind m rest k [] = put_before m (rest k [])
changed_behind m rest k (d ∷ ds) =
    if stands_before m.0 d.0 then put_before m (rest k (d ∷ ds))
    else if stands_before d.0 m.0 then entered k d (changed_behind m rest (suc k) ds)
    else changed_there k m d (rest (suc k) ds)

abbrev pub changed : List (Var × ℚ) → ℕ → List (Var × ℚ) → Result (List (Var × ℚ)) ℕ
changed [] k ds = all_entered k ds
changed (m ∷ ms) k ds = changed_behind m (changed ms) k ds
