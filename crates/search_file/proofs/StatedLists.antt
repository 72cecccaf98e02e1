-- Lists of variables and of multipliers that are stated without fault: they name what is there, each once, in order.
use Rattle.std.specs.Prelude.{◌≡◌, ◌≢◌, ℕ, zero, suc, ◌<◌, Bool, true, false, if◌then◌else◌, nat_lt, List, [], ◌∷◌, ◌++◌, length, get_or, pos, All, Result, Ok}
use Rattle.std.proofs.Common.{refl, subst, arith}
use Rattle.std.proofs.lemmas.Bool.Decides.{nat_tests}
use Rattle.std.proofs.lemmas.List.Elements.{All-nil, All-push}
use Rattle.std.proofs.lemmas.List.Quantifiers.{all_pairs_push}
use Rattle.frac128.specs.Rational.{ℚ, int}
use Rattle.frac128.proofs.Comparison.{eq_by_cmp-decides}
use Rattle.lp_model.specs.Edits.{is_zero}
use Rattle.lp_model.specs.declared.types.Var.{Var}
use Rattle.serde_json.specs.Data.{Data}
use Rattle.warm_file.specs.Faults.{Fault, fault, at_item}
use Rattle.warm_file.specs.Values.{count_of, place_below, list_of}
use Rattle.warm_file.specs.Numbers.{number_of, nonzero_of}
use Rattle.warm_file.specs.Rising.{is_past, kind_of, row_or_cut, dual_kind_of, count_of_kind, var_of, variable_rank, variable_of, multiplier_at, multiplier_by}
use Rattle.warm_file.specs.declared.rising.Counts.{Counts}
use Rattle.warm_file.specs.declared.rising.Kind.{Kind}
use Rattle.warm_file.specs.declared.rising.Kind.TheVariants as kind
use Rattle.warm_file.proofs.Inversions.{next-ok, key-ok, test-ok, list-keeps}
use Rattle.warm_file.specs.Searches.{variables_of, multipliers_of, node_multipliers_of}
use Rattle.warm_writer.specs.Writable.{ArePlacesRising, IsVariableThere, IsActivity, AreWritableVariables, AreWritableMultipliers}
use Rattle.warm_writer.proofs.NodesBack.{AreWritableChanges, IsRawMult}

less : (k m : ℕ) → nat_lt k m ≡ true → k < m
less k m h = grind (arith, nat_tests)

pub placed : (n : ℕ) (d : Data) (k : ℕ) → place_below n d ≡ Ok k → k < n
placed n d k e =
    let count = next-ok (count_of d) (λ j. if nat_lt j n then Ok j else fault 7) k e in
    let t = test-ok (nat_lt count.0 n) (Ok count.0) 7 k count.1.1 in
    let same : count.0 ≡ k = let h = t.1 in cc in
    subst (λ j. j < n) same (less count.0 n t.0)

-- ---- rising lists

-- each place of a rising list is below one that is past its last
past-below : {A : Type 0} (place : A → ℕ) (before : List A) (k : ℕ) → ArePlacesRising place before → is_past place before k ≡ true → (i : ℕ) (d : A) → i < length before → place (get_or before i d) < k
past-below place [] k rising past i d below = absurd (omega arith)
past-below place (a ∷ []) k rising past zero d below = less (place a) k past
past-below place (a ∷ []) k rising past (suc i) d below = absurd (omega arith)
past-below place (a ∷ b ∷ more) k rising past zero d below =
    let next : place b < k = past-below place (b ∷ more) k (λ i j e lt within. rising (suc i) (suc j) e (omega arith) (omega arith)) past 0 d (omega arith) in
    let step : place a < place b = rising 0 1 d (omega arith) (omega arith) in
    omega (arith, next, step)
past-below place (a ∷ b ∷ more) k rising past (suc i) d below =
    past-below place (b ∷ more) k (λ n m e lt within. rising (suc n) (suc m) e (omega arith) (omega arith)) past i d (omega arith)

pub rising-push : {A : Type 0} (place : A → ℕ) (before : List A) (a : A) → ArePlacesRising place before → is_past place before (place a) ≡ true → ArePlacesRising place (before ++ a ∷ [])
rising-push place before a rising past = all_pairs_push (λ x y. place x < place y) before a rising (past-below place before (place a) rising past)

-- ---- variables

there-of : (n : Counts) (k : Kind) (i : ℕ) → i < count_of_kind n k → IsVariableThere n (var_of k i)
there-of n kind.Col i h = h
there-of n kind.Row i h = h
there-of n kind.Cut i h = h

variable-next : (n : Counts) (before : List Var) (d : Data) (v : Var) → AreWritableVariables n before → variable_of n before d ≡ Ok v → AreWritableVariables n (before ++ v ∷ [])
unfolding variable_of
variable-next n before d v p said =
    let two = next-ok _ _ v said in
    let k = next-ok (at_item 0 (kind_of two.0.0)) _ v two.1.1 in
    let place = next-ok (at_item 1 (place_below (count_of_kind n k.0) two.0.1)) _ v k.1.1 in
    let past = test-ok (is_past variable_rank before (variable_rank (var_of k.0 place.0))) (Ok (var_of k.0 place.0)) 8 v place.1.1 in
    let same : var_of k.0 place.0 ≡ v = let h = past.1 in cc in
    let below = placed (count_of_kind n k.0) two.0.1 place.0 (key-ok _ (place_below (count_of_kind n k.0) two.0.1) place.0 place.1.0) in
    subst (λ w. AreWritableVariables n (before ++ w ∷ [])) same (record {
      there = All-push (IsVariableThere n) before (var_of k.0 place.0) p.there (there-of n k.0 place.0 below);
      rising = rising-push variable_rank before (var_of k.0 place.0) p.rising past.0;
    })

pub variables-stated : (n : Counts) (d : Data) (vs : List Var) → variables_of n d ≡ Ok vs → AreWritableVariables n vs
variables-stated n d vs e =
    list-keeps (variable_of n) (AreWritableVariables n) (λ before w v p said. variable-next n before w v p said) d vs
    (record { there = All-nil (IsVariableThere n); rising = λ i j x lt within. absurd (omega arith) }) e

-- ---- multipliers

dual-of : (d : Data) (k : Kind) (i : ℕ) → dual_kind_of d ≡ Ok k → IsActivity (var_of k i)
unfolding dual_kind_of
dual-of d k i e = let n = next-ok (kind_of d) row_or_cut k e in by n.0 n.1.1
  where
    by : (j : Kind) → row_or_cut j ≡ Ok k → IsActivity (var_of k i)
    by kind.Col h = absurd (cc)
    by kind.Row h = let same : kind.Row ≡ k = cc in subst (λ m. IsActivity (var_of m i)) same tt
    by kind.Cut h = let same : kind.Cut ≡ k = cc in subst (λ m. IsActivity (var_of m i)) same tt

not_zero : (x : ℚ) → is_zero x ≡ false → x ≢ int (pos 0)
not_zero x e h = let t : is_zero x ≡ true = (eq_by_cmp-decides x (int (pos 0))).1 h in absurd (cc)

nonzero : (d : Data) (x : ℚ) → nonzero_of d ≡ Ok x → x ≢ int (pos 0)
unfolding nonzero_of
nonzero d x e =
    let n = next-ok (number_of d) (λ y. if is_zero y then fault 5 else Ok y) x e in
    by n.0 (is_zero n.0) refl n.1.1
  where
    by : (y : ℚ) (b : Bool) → is_zero y ≡ b → (if b then fault {A = ℚ} 5 else Ok y) ≡ Ok x → x ≢ int (pos 0)
    by y true z h = absurd (cc)
    by y false z h = let same : y ≡ x = cc in subst (λ v. v ≢ int (pos 0)) same (not_zero y z)

-- what the rule of the numbers says of each
record AreStated (N : ℚ → Type 0) (n : Counts) (es : List (Var × ℚ)) : Type 0 where
  changes : AreWritableChanges n es
  numbers : All (λ (e : Var × ℚ). N e.1) es

module _ (numbers : Data → Result ℚ Fault) (N : ℚ → Type 0) (says : (d : Data) (x : ℚ) → numbers d ≡ Ok x → N x) (n : Counts) where
  multiplier-next : (before : List (Var × ℚ)) (d : Data) (m : Var × ℚ) → AreStated N n before → multiplier_by numbers n before d ≡ Ok m → AreStated N n (before ++ m ∷ [])
  unfolding multiplier_by
  multiplier-next before d m p said =
      let three = next-ok _ _ m said in
      let k = next-ok (at_item 0 (dual_kind_of three.0.0)) _ m three.1.1 in
      let place = next-ok (at_item 1 (place_below (count_of_kind n k.0) three.0.1)) _ m k.1.1 in
      let past = test-ok (is_past (λ (e : Var × ℚ). variable_rank e.0) before (variable_rank (var_of k.0 place.0))) (multiplier_at numbers (var_of k.0 place.0) three.0.2) 8 m place.1.1 in
      let number = next-ok (at_item 2 (numbers three.0.2)) _ m past.1 in
      let same : (var_of k.0 place.0, number.0) ≡ m = let h = number.1.1 in cc in
      let below = placed (count_of_kind n k.0) three.0.1 place.0 (key-ok _ (place_below (count_of_kind n k.0) three.0.1) place.0 place.1.0) in
      let made : Var × ℚ = (var_of k.0 place.0, number.0) in
      subst (λ (w : Var × ℚ). AreStated N n (before ++ w ∷ [])) same (record {
        changes = record {
          there = All-push (λ (e : Var × ℚ). IsVariableThere n e.0) before made p.changes.there (there-of n k.0 place.0 below);
          dual = All-push (λ (e : Var × ℚ). IsActivity e.0) before made p.changes.dual (dual-of three.0.0 k.0 place.0 (key-ok _ (dual_kind_of three.0.0) k.0 k.1.0));
          rising = rising-push (λ (e : Var × ℚ). variable_rank e.0) before made p.changes.rising past.0;
        };
        numbers = All-push (λ (e : Var × ℚ). N e.1) before made p.numbers (says three.0.2 number.0 (key-ok _ (numbers three.0.2) number.0 number.1.0));
      })

  by-stated : (d : Data) (es : List (Var × ℚ)) → list_of (multiplier_by numbers n) d ≡ Ok es → AreStated N n es
  by-stated d es e =
      list-keeps (multiplier_by numbers n) (AreStated N n) (λ before w m p said. multiplier-next before w m p said) d es
      (record {
        changes = record { there = All-nil (λ (x : Var × ℚ). IsVariableThere n x.0); dual = All-nil (λ (x : Var × ℚ). IsActivity x.0); rising = λ i j x lt within. absurd (omega arith) };
        numbers = All-nil (λ (x : Var × ℚ). N x.1);
      }) e

abbrev IsNonzero : ℚ → Type 0
IsNonzero x = x ≢ int (pos 0)

pub multipliers-stated : (n : Counts) (d : Data) (es : List (Var × ℚ)) → multipliers_of n d ≡ Ok es → AreWritableMultipliers n es
multipliers-stated n d es e =
    let h = by-stated nonzero_of IsNonzero nonzero n d es e in
    record { each = λ k x lt. record { there = h.changes.there k x lt; dual = h.changes.dual k x lt; nonzero = h.numbers k x lt }; rising = h.changes.rising }

-- those of a node, whole or told
pub mult-stated : (told : Bool) (n : Counts) (d : Data) (es : List (Var × ℚ)) → node_multipliers_of told n d ≡ Ok es → IsRawMult told n es
mult-stated true n d es e = (by-stated number_of (λ x. Unit {0}) (λ v x said. tt) n d es e).changes
mult-stated false n d es e = multipliers-stated n d es e
