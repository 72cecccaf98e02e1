-- Where what is written of a node, a cut or a point is read without fault, it is read back.
use Rattle.std.specs.Prelude.{◌≡◌, ℕ, Bool, true, false, if◌then◌else◌, nat_lt, List, ℤ, pos, codes, All, Some, Result, Ok}
use Rattle.std.specs.Fmt.{signed_decimal}
use Rattle.std.specs.Ordering.{int_eq}
use Rattle.std.proofs.Common.{refl, sym, ap, ◌∙◌, arith}
use Rattle.frac128.specs.Rational.{ℚ, int}
use Rattle.frac128.specs.Range.{IsNarrow, Fits, largest}
use Rattle.frac128.proofs.Printed.{printed-int}
use Rattle.lp_model.specs.Edits.{is_zero}
use Rattle.lp_model.specs.declared.types.ColId.{ColId}
use Rattle.lp_model.specs.declared.types.Basis.{Basis}
use Rattle.lp_model.specs.declared.types.Literal.{Literal}
use Rattle.lp_model.specs.declared.types.Derivation.{Derivation}
use Rattle.lp_model.specs.declared.types.Var.{Var}
use Rattle.lp_model.specs.declared.types.Var.TheVariants as var
use Rattle.branch_tree.specs.declared.node.NodeData.{NodeData}
use Rattle.branch_tree.specs.declared.node.NodeData.TheVariants.{Split, Leaf}
use Rattle.serde_json.specs.Data.{Data, string}
use Rattle.serde_json.specs.Find.{get}
use Rattle.warm_file.specs.Faults.{Fault, fault, or_fault, behind, at_key}
use Rattle.warm_file.specs.Values.{place_below, list_of}
use Rattle.warm_file.specs.Numbers.{number_of, nonzero_of, whole_of}
use Rattle.warm_file.specs.Rising.{kind_of, dual_kind_of, variable_of, multiplier_by, literal_of}
use Rattle.warm_file.specs.declared.rising.Counts.{Counts}
use Rattle.warm_file.specs.Searches.{row_side_of, cut_of, variables_of, multipliers_of, node_multipliers_of, basis_of, branching_of, split_of, state_of, leaf_of, node_of}
use Rattle.warm_writer.specs.Written.{number_json, place_json, list_json, two_json, variable_json, multiplier_json, state_word, row_side_word, literal_json, cut_json, split_json, leaf_json, node_json}
use Rattle.warm_writer.specs.Writable.{HasNarrowSplit, NodeFits}
use Rattle.warm_writer.proofs.Alone.{IsAlone, alone-ok, alone-is, alone-err, alone-next, alone-then, alone-else, alone-key, alone-member, list-alone}
use Rattle.warm_writer.proofs.CutBack.{side-word-back}
use Rattle.warm_writer.proofs.NodesBack.{state-back}
use Rattle.warm_writer.proofs.PartsBack.{number-back}
use Rattle.warm_writer.proofs.Splits.{all-here}

pub place-alone : (n k : ℕ) → IsAlone (place_below n (place_json k)) k
unfolding behind or_fault
place-alone n k = alone-then (nat_lt k n) (Ok k) _ k (alone-ok k)

pub nonzero-alone : (x : ℚ) → Fits x → IsAlone (nonzero_of (number_json x)) x
unfolding nonzero_of
nonzero-alone x fits = alone-next (number_of (number_json x)) (λ y. if is_zero y then fault 5 else Ok y) x x (alone-is (number_of (number_json x)) x (number-back x fits)) (alone-else (is_zero x) (Ok x) _ x (alone-ok x))

-- ---- variables

variable-alone : (n : Counts) (before : List Var) (v : Var) → IsAlone (variable_of n before (variable_json v)) v
unfolding variable_of kind_of behind or_fault at_key
variable-alone n before (var.Col j) = alone-next _ _ j.0 (var.Col j) (alone-key _ _ j.0 (place-alone n.columns j.0)) (alone-then _ _ _ (var.Col j) (alone-ok (var.Col j)))
variable-alone n before (var.Row i) = alone-next _ _ i.0 (var.Row i) (alone-key _ _ i.0 (place-alone n.rows i.0)) (alone-then _ _ _ (var.Row i) (alone-ok (var.Row i)))
variable-alone n before (var.Cut k) = alone-next _ _ k.0 (var.Cut k) (alone-key _ _ k.0 (place-alone n.cuts k.0)) (alone-then _ _ _ (var.Cut k) (alone-ok (var.Cut k)))

variables-alone : (n : Counts) (vs : List Var) → IsAlone (variables_of n (list_json variable_json vs)) vs
variables-alone n vs = list-alone (variable_of n) variable_json vs (λ before after v e. variable-alone n before v)

-- ---- multipliers

multiplier-alone : (numbers : Data → Result ℚ Fault) (n : Counts) (before : List (Var × ℚ)) (v : Var) (x : ℚ) → IsAlone (numbers (number_json x)) x → IsAlone (multiplier_by numbers n before (multiplier_json (v, x))) (v, x)
unfolding multiplier_by dual_kind_of kind_of behind or_fault at_key
multiplier-alone numbers n before (var.Col j) x read = alone-err _ (var.Col j, x)
multiplier-alone numbers n before (var.Row i) x read =
    let made : Var × ℚ = (var.Row i, x) in
    alone-next _ _ i.0 made (alone-key _ _ i.0 (place-alone n.rows i.0)) (alone-then _ _ _ made (alone-next _ _ x made (alone-key _ _ x read) (alone-ok made)))
multiplier-alone numbers n before (var.Cut k) x read =
    let made : Var × ℚ = (var.Cut k, x) in
    alone-next _ _ k.0 made (alone-key _ _ k.0 (place-alone n.cuts k.0)) (alone-then _ _ _ made (alone-next _ _ x made (alone-key _ _ x read) (alone-ok made)))

multipliers-alone : (n : Counts) (es : List (Var × ℚ)) → All (λ (e : Var × ℚ). Fits e.1) es → IsAlone (multipliers_of n (list_json multiplier_json es)) es
multipliers-alone n es fits =
    list-alone (multiplier_by nonzero_of n) multiplier_json es (λ before after e is. multiplier-alone nonzero_of n before e.0 e.1 (nonzero-alone e.1 (all-here es before after e is (λ (d : Var × ℚ). Fits d.1) fits)))

-- of a node, whole or told
mult-alone : (told : Bool) (n : Counts) (es : List (Var × ℚ)) → All (λ (e : Var × ℚ). Fits e.1) es → IsAlone (node_multipliers_of told n (list_json multiplier_json es)) es
mult-alone true n es fits =
    list-alone (multiplier_by number_of n) multiplier_json es
    (λ before after e is. multiplier-alone number_of n before e.0 e.1 (alone-is (number_of (number_json e.1)) e.1 (number-back e.1 (all-here es before after e is (λ (d : Var × ℚ). Fits d.1) fits))))
mult-alone false n es fits = multipliers-alone n es fits

-- ---- splits and leaves

basis-alone : (n : Counts) (d : Data) (b : Basis) → Some (list_json variable_json b.basic) ≡ get (codes "basis") d → Some (list_json variable_json b.high) ≡ get (codes "high") d → IsAlone (basis_of n d) b
unfolding basis_of
basis-alone n d b basic high =
    alone-next _ _ b.basic b (alone-member (codes "basis") (variables_of n) d (list_json variable_json b.basic) b.basic basic (variables-alone n b.basic))
    (alone-next _ _ b.high b (alone-member (codes "high") (variables_of n) d (list_json variable_json b.high) b.high high (variables-alone n b.high)) (alone-ok b))

whole-alone : (v : ℤ) → IsNarrow v → IsAlone (whole_of (string (signed_decimal v))) (int v)
unfolding whole_of int
whole-alone v narrow =
    let fits : Fits (int v) = record { numerator = narrow; denominator = omega arith } in
    alone-next _ _ (int v) (int v) (alone-is _ (int v) (ap (λ text. number_of (string text)) (sym (printed-int v)) ∙ number-back (int v) fits)) (alone-else (int_eq v (pos largest)) _ _ (int v) (alone-ok (int v)))

branching-alone : (columns : ℕ) (col : ColId) (v : ℤ) → IsNarrow v → IsAlone (branching_of columns (two_json (place_json col.0) (string (signed_decimal v)))) (col, int v)
unfolding branching_of behind or_fault
branching-alone columns col v narrow =
    let made : ColId × ℚ = (col, int v) in
    alone-next _ _ col.0 made (alone-key _ _ col.0 (place-alone columns col.0)) (alone-next _ _ (int v) made (alone-key _ _ (int v) (whole-alone v narrow)) (alone-ok made))

pub node-alone : (told : Bool) (n : Counts) (d : NodeData) → HasNarrowSplit d → NodeFits d → IsAlone (node_of told n (node_json d)) d
unfolding node_of split_of leaf_of int
node-alone told n (Split col v mult basis) narrow fits =
    let made : ColId × ℚ = (col, int v) in
    alone-next _ _ made (Split col v mult basis)
    (alone-member (codes "split") (branching_of n.columns) (split_json col v mult basis) (two_json (place_json col.0) (string (signed_decimal v))) made refl (branching-alone n.columns col v narrow))
    (alone-next _ _ mult (Split col v mult basis) (alone-member (codes "mult") (node_multipliers_of told n) (split_json col v mult basis) (list_json multiplier_json mult) mult refl (mult-alone told n mult fits))
    (alone-next _ _ basis (Split col v mult basis) (basis-alone n (split_json col v mult basis) basis refl refl) (alone-ok (Split col v mult basis))))
node-alone told n (Leaf kept) narrow fits =
    alone-next _ _ kept.state (Leaf kept) (alone-member (codes "leaf") state_of (leaf_json kept) (state_word kept.state) kept.state refl (alone-is _ kept.state (state-back kept.state)))
    (alone-next _ _ kept.mult (Leaf kept) (alone-member (codes "mult") (node_multipliers_of told n) (leaf_json kept) (list_json multiplier_json kept.mult) kept.mult refl (mult-alone told n kept.mult fits.0))
    (alone-next _ _ kept.farkas (Leaf kept) (alone-member (codes "farkas") (multipliers_of n) (leaf_json kept) (list_json multiplier_json kept.farkas) kept.farkas refl (multipliers-alone n kept.farkas fits.1))
    (alone-next _ _ kept.basis (Leaf kept) (basis-alone n (leaf_json kept) kept.basis refl refl) (alone-ok (Leaf kept)))))

-- ---- cuts

literal-alone : (n : ℕ) (before : List Literal) (l : Literal) → IsAlone (literal_of n before (literal_json l)) l
unfolding literal_of or_fault
literal-alone n before l =
    alone-next _ _ _ l (alone-ok _) (alone-next _ _ l.col.0 l (alone-key _ _ l.col.0 (place-alone n l.col.0)) (alone-then _ _ _ l (alone-next _ _ l.plus l (alone-key _ _ l.plus (alone-ok l.plus)) (alone-ok l))))

pub cut-alone : (rows columns : ℕ) (d : Derivation) → IsAlone (cut_of rows columns (cut_json d)) d
unfolding cut_of
cut-alone rows columns d =
    let literals = list-alone (literal_of columns) literal_json d.literals (λ before after l e. literal-alone columns before l) in
    alone-next _ _ d.row.0 d (alone-member (codes "row") (place_below rows) (cut_json d) (place_json d.row.0) d.row.0 refl (place-alone rows d.row.0))
    (alone-next _ _ d.side d (alone-member (codes "side") row_side_of (cut_json d) (row_side_word d.side) d.side refl (alone-is _ d.side (side-word-back d.side)))
    (alone-next _ _ d.literals d (alone-member (codes "lits") (list_of (literal_of columns)) (cut_json d) (list_json literal_json d.literals) d.literals refl literals) (alone-ok d)))
