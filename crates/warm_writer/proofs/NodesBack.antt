-- What is written of a node is read back.
use Rattle.std.specs.Prelude.{◌≡◌, ◌≢◌, ℕ, ◌<◌, Bool, true, false, List, ℤ, pos, codes, get_or, All, Some, Result, Ok}
use Rattle.std.specs.Fmt.{signed_decimal}
use Rattle.std.specs.Ordering.{int_eq}
use Rattle.std.proofs.Common.{refl, sym, ap, ◌∙◌, arith}
use Rattle.std.proofs.lemmas.Bool.Decides.{Decides-int_eq}
use Rattle.frac128.specs.Rational.{ℚ, int}
use Rattle.frac128.specs.Range.{IsNarrow, Fits, largest}
use Rattle.frac128.proofs.Printed.{printed-int}
use Rattle.lp_model.specs.declared.types.ColId.{ColId}
use Rattle.lp_model.specs.declared.types.Basis.{Basis}
use Rattle.lp_model.specs.declared.types.Var.{Var}
use Rattle.lp_model.specs.declared.types.Var.TheVariants as var
use Rattle.branch_tree.specs.declared.node.LeafState.{LeafState}
use Rattle.branch_tree.specs.declared.node.LeafState.TheVariants.{IsOpen, IsClosed}
use Rattle.branch_tree.specs.declared.node.NodeData.{NodeData}
use Rattle.branch_tree.specs.declared.node.NodeData.TheVariants.{Split, Leaf}
use Rattle.serde_json.specs.Data.{Data, string}
use Rattle.serde_json.specs.Find.{get}
use Rattle.warm_file.specs.Faults.{Fault, or_fault, behind, at_key}
use Rattle.warm_file.specs.Values.{list_of}
use Rattle.warm_file.specs.Numbers.{number_of, nonzero_of, whole_of}
use Rattle.warm_file.specs.Rising.{is_past, variable_rank, kind_of, dual_kind_of, variable_of, multiplier_by}
use Rattle.warm_file.specs.declared.rising.Counts.{Counts}
use Rattle.warm_file.specs.Searches.{variables_of, multipliers_of, node_multipliers_of, basis_of, branching_of, split_of, state_of, leaf_of, node_of}
use Rattle.warm_file.proofs.Saying.{ok-next, ok-then, ok-else, under-ok}
use Rattle.warm_writer.specs.Written.{number_json, place_json, list_json, two_json, variable_json, multiplier_json, state_word, split_json, leaf_json, node_json}
use Rattle.warm_writer.specs.Writable.{ArePlacesRising, IsVariableThere, IsActivity, AreWritableVariables, AreWritableMultipliers, IsWritableBasis, NodeFits}
use Rattle.warm_writer.proofs.PartsBack.{number-back, nonzero-back}
use Rattle.warm_writer.proofs.PointBack.{place-back}
use Rattle.warm_writer.proofs.ModelBack.{nonzero-false}
use Rattle.warm_writer.proofs.Splits.{all-here, pair-here, past-all, member-back, list-splits}

-- ---- variables

variable-back : (n : Counts) (before : List Var) (v : Var) → IsVariableThere n v → is_past variable_rank before (variable_rank v) ≡ true → variable_of n before (variable_json v) ≡ Ok v
unfolding variable_of kind_of behind or_fault at_key
variable-back n before (var.Col j) there past =
    ok-next _ _ j.0 (var.Col j) (under-ok _ _ j.0 (place-back n.columns j.0 there)) (ok-then _ _ _ (var.Col j) past refl)
variable-back n before (var.Row i) there past =
    ok-next _ _ i.0 (var.Row i) (under-ok _ _ i.0 (place-back n.rows i.0 there)) (ok-then _ _ _ (var.Row i) past refl)
variable-back n before (var.Cut k) there past =
    ok-next _ _ k.0 (var.Cut k) (under-ok _ _ k.0 (place-back n.cuts k.0 there)) (ok-then _ _ _ (var.Cut k) past refl)

variables-back : (n : Counts) (vs : List Var) → AreWritableVariables n vs → variables_of n (list_json variable_json vs) ≡ Ok vs
variables-back n vs w =
    list-splits (variable_of n) variable_json vs
    (λ before after v e. variable-back n before v (all-here vs before after v e (IsVariableThere n) w.there)
    (past-all variable_rank before (variable_rank v) (λ k d below. pair-here vs before after v e (λ (a b : Var). variable_rank a < variable_rank b) w.rising k d below)))

-- ---- multipliers

-- whose number is read by this rule
multiplier-back : (numbers : Data → Result ℚ Fault) (n : Counts) (before : List (Var × ℚ)) (v : Var) (x : ℚ) → IsVariableThere n v → IsActivity v → numbers (number_json x) ≡ Ok x → is_past (λ (e : Var × ℚ). variable_rank e.0) before (variable_rank v) ≡ true
    → multiplier_by numbers n before (multiplier_json (v, x)) ≡ Ok (v, x)
unfolding multiplier_by dual_kind_of kind_of behind or_fault at_key
multiplier-back numbers n before (var.Col j) x there dual read past = absurd dual
multiplier-back numbers n before (var.Row i) x there dual read past =
    let made : Var × ℚ = (var.Row i, x) in
    ok-next _ _ i.0 made (under-ok _ _ i.0 (place-back n.rows i.0 there)) (ok-then _ _ _ made past (ok-next _ _ x made (under-ok _ _ x read) refl))
multiplier-back numbers n before (var.Cut k) x there dual read past =
    let made : Var × ℚ = (var.Cut k, x) in
    ok-next _ _ k.0 made (under-ok _ _ k.0 (place-back n.cuts k.0 there)) (ok-then _ _ _ made past (ok-next _ _ x made (under-ok _ _ x read) refl))

-- they name what is there, in order; their numbers may be 0
pub record AreWritableChanges (n : Counts) (es : List (Var × ℚ)) : Type 0 where
  pub there : All (λ (e : Var × ℚ). IsVariableThere n e.0) es
  pub dual : All (λ (e : Var × ℚ). IsActivity e.0) es
  pub rising : ArePlacesRising (λ (e : Var × ℚ). variable_rank e.0) es

module _ (numbers : Data → Result ℚ Fault) (n : Counts) (es : List (Var × ℚ)) (w : AreWritableChanges n es) (reads : All (λ (e : Var × ℚ). numbers (number_json e.1) ≡ Ok e.1) es) where
  by-back : list_of (multiplier_by numbers n) (list_json multiplier_json es) ≡ Ok es
  by-back =
      list-splits (multiplier_by numbers n) multiplier_json es
      (λ before after e is.
      multiplier-back numbers n before e.0 e.1 (all-here es before after e is (λ (d : Var × ℚ). IsVariableThere n d.0) w.there) (all-here es before after e is (λ (d : Var × ℚ). IsActivity d.0) w.dual)
      (all-here es before after e is (λ (d : Var × ℚ). numbers (number_json d.1) ≡ Ok d.1) reads)
      (past-all (λ (d : Var × ℚ). variable_rank d.0) before (variable_rank e.0) (λ k d below. pair-here es before after e is (λ (a b : Var × ℚ). variable_rank a.0 < variable_rank b.0) w.rising k d below)))

pub changes-of : (n : Counts) (es : List (Var × ℚ)) → AreWritableMultipliers n es → AreWritableChanges n es
changes-of n es w = record { there = λ k d lt. (w.each k d lt).there; dual = λ k d lt. (w.each k d lt).dual; rising = w.rising }

multipliers-back : (n : Counts) (es : List (Var × ℚ)) → AreWritableMultipliers n es → All (λ (e : Var × ℚ). Fits e.1) es → multipliers_of n (list_json multiplier_json es) ≡ Ok es
multipliers-back n es w fits =
    by-back nonzero_of n es (changes-of n es w) (λ k d lt. nonzero-back (get_or es k d).1 (fits k d lt) (nonzero-false (get_or es k d).1 (w.each k d lt).nonzero))

-- the multipliers of a node, whole or told
abbrev pub IsRawMult : Bool → Counts → List (Var × ℚ) → Type 0
IsRawMult true n es = AreWritableChanges n es
IsRawMult false n es = AreWritableMultipliers n es

mult-back : (told : Bool) (n : Counts) (es : List (Var × ℚ)) → IsRawMult told n es → All (λ (e : Var × ℚ). Fits e.1) es → node_multipliers_of told n (list_json multiplier_json es) ≡ Ok es
mult-back true n es w fits = by-back number_of n es w (λ k d lt. number-back (get_or es k d).1 (fits k d lt))
mult-back false n es w fits = multipliers-back n es w fits

-- ---- splits and leaves

basis-back : (n : Counts) (d : Data) (b : Basis) → IsWritableBasis n b → Some (list_json variable_json b.basic) ≡ get (codes "basis") d → Some (list_json variable_json b.high) ≡ get (codes "high") d → basis_of n d ≡ Ok b
unfolding basis_of
basis-back n d b w basic high =
    ok-next _ _ b.basic b (member-back (codes "basis") (variables_of n) d (list_json variable_json b.basic) b.basic basic (variables-back n b.basic w.basic))
    (ok-next _ _ b.high b (member-back (codes "high") (variables_of n) d (list_json variable_json b.high) b.high high (variables-back n b.high w.high)) refl)

not-largest : (v : ℤ) → v ≢ pos largest → int_eq v (pos largest) ≡ false
not-largest v h = by (int_eq v (pos largest)) refl
  where
    by : (b : Bool) → int_eq v (pos largest) ≡ b → int_eq v (pos largest) ≡ false
    by true e = absurd (h ((Decides-int_eq v (pos largest)).0 e))
    by false e = e

whole-back : (v : ℤ) → IsNarrow v → v ≢ pos largest → whole_of (string (signed_decimal v)) ≡ Ok (int v)
unfolding whole_of int
whole-back v narrow some =
    let fits : Fits (int v) = record { numerator = narrow; denominator = omega arith } in
    ok-next _ _ (int v) (int v) (ap (λ text. number_of (string text)) (sym (printed-int v)) ∙ number-back (int v) fits) (ok-else (int_eq v (pos largest)) _ _ (int v) (not-largest v some) refl)

branching-back : (columns : ℕ) (col : ColId) (v : ℤ) → col.0 < columns → IsNarrow v → v ≢ pos largest → branching_of columns (two_json (place_json col.0) (string (signed_decimal v))) ≡ Ok (col, int v)
unfolding branching_of behind or_fault
branching-back columns col v there narrow some =
    let made : ColId × ℚ = (col, int v) in
    ok-next _ _ col.0 made (under-ok _ _ col.0 (place-back columns col.0 there)) (ok-next _ _ (int v) made (under-ok _ _ (int v) (whole-back v narrow some)) refl)

pub state-back : (s : LeafState) → state_of (state_word s) ≡ Ok s
unfolding state_of behind or_fault
state-back IsOpen = refl
state-back IsClosed = refl

-- a node, whole or told
abbrev pub IsRawNode : Bool → Counts → NodeData → Type 0
IsRawNode told n (Split col v mult basis) = (col.0 < n.columns) × IsNarrow v × (v ≢ pos largest) × IsRawMult told n mult × IsWritableBasis n basis
IsRawNode told n (Leaf kept) = IsRawMult told n kept.mult × AreWritableMultipliers n kept.farkas × IsWritableBasis n kept.basis

pub node-back : (told : Bool) (n : Counts) (d : NodeData) → IsRawNode told n d → NodeFits d → node_of told n (node_json d) ≡ Ok d
unfolding node_of split_of leaf_of int
node-back told n (Split col v mult basis) w fits =
    let made : ColId × ℚ = (col, int v) in
    ok-next _ _ made (Split col v mult basis)
    (member-back (codes "split") (branching_of n.columns) (split_json col v mult basis) (two_json (place_json col.0) (string (signed_decimal v))) made refl (branching-back n.columns col v w.0 w.1 w.2))
    (ok-next _ _ mult (Split col v mult basis) (member-back (codes "mult") (node_multipliers_of told n) (split_json col v mult basis) (list_json multiplier_json mult) mult refl (mult-back told n mult w.3 fits))
    (ok-next _ _ basis (Split col v mult basis) (basis-back n (split_json col v mult basis) basis w.4 refl refl) refl))
node-back told n (Leaf kept) w fits =
    ok-next _ _ kept.state (Leaf kept) (member-back (codes "leaf") state_of (leaf_json kept) (state_word kept.state) kept.state refl (state-back kept.state))
    (ok-next _ _ kept.mult (Leaf kept) (member-back (codes "mult") (node_multipliers_of told n) (leaf_json kept) (list_json multiplier_json kept.mult) kept.mult refl (mult-back told n kept.mult w.0 fits.0))
    (ok-next _ _ kept.farkas (Leaf kept) (member-back (codes "farkas") (multipliers_of n) (leaf_json kept) (list_json multiplier_json kept.farkas) kept.farkas refl (multipliers-back n kept.farkas w.1 fits.1))
    (ok-next _ _ kept.basis (Leaf kept) (basis-back n (leaf_json kept) kept.basis w.2 refl refl) refl)))
