-- What is written of numbers, sides, rows and lists is read back.
use Rattle.std.specs.Option.{ForSome}
use Rattle.std.specs.Prelude.{◌≡◌, ℕ, true, false, not, ◌&&◌, if◌then◌else◌, List, [], ◌∷◌, ◌++◌, map, length, codes, Option, Some, None, Result, Ok}
use Rattle.std.proofs.Common.{refl, sym, ap, ◌∙◌, append_assoc, append-nil}
use Rattle.frac128.specs.Rational.{ℚ}
use Rattle.frac128.specs.Range.{Fits}
use Rattle.frac_text.specs.Parsing.{parsed}
use Rattle.frac_text.proofs.PrintedReads.{reading_of-printed}
use Rattle.lp_model.specs.Edits.{is_zero}
use Rattle.lp_model.specs.declared.types.Row.{Row}
use Rattle.serde_json.specs.Data.{Data}
use Rattle.serde_json.specs.View.{items_of}
use Rattle.warm_writer.proofs.NameLemmas.{name-is-text}
use Rattle.warm_file.specs.Faults.{Fault, fault, or_fault, behind, at_key, at_item}
use Rattle.warm_file.specs.Values.{each, list_of}
use Rattle.warm_file.specs.Numbers.{numbered, number_of, nonzero_of, side_of}
use Rattle.warm_file.specs.Ranges.{are_sides}
use Rattle.lp_model.specs.Names.{is_lawful_name}
use Rattle.warm_file.specs.Models.{is_among, name_of, row_of}
use Rattle.warm_writer.specs.Written.{number_json, name_json, side_json, list_json, row_json}

-- ---- numbers and sides

pub number-back : (x : ℚ) → Fits x → number_of (number_json x) ≡ Ok x
unfolding number_of behind or_fault
number-back x f = ap (λ r. numbered (parsed r)) (reading_of-printed x f)

pub nonzero-back : (x : ℚ) → Fits x → is_zero x ≡ false → nonzero_of (number_json x) ≡ Ok x
unfolding nonzero_of behind
nonzero-back x f z =
    ap (λ r. behind r (λ y. if is_zero y then fault 5 else Ok y)) (number-back x f)
    ∙ ap (λ b. if b then fault {A = ℚ} 5 else Ok x) z

pub side-back : (b : Option ℚ) → ForSome b Fits → side_of (side_json b) ≡ Ok b
unfolding side_of behind
side-back None f = refl
side-back (Some x) f = ap (λ r. behind r (λ y. Ok (Some y))) (number-back x (f x refl))

-- ---- names and rows

pub name-back : (taken : List (List ℕ)) (name : List ℕ) → is_lawful_name name ≡ true → is_among name taken ≡ false → name_of taken (name_json name) ≡ Ok name
unfolding name_of behind or_fault
name-back taken name lawful free =
    ap (λ d. name_of taken d) (name-is-text name lawful) ∙ ap (λ b. if b && not (is_among name taken) then Ok name else fault 9) lawful ∙ ap (λ b. if true && not b then Ok name else fault 9) free

pub row-back : (obj obj2 : List ℕ) (before : List Row) (r : Row) → is_lawful_name r.name ≡ true → is_among r.name (obj ∷ obj2 ∷ map (λ s. s.name) before) ≡ false
    → ForSome r.lo Fits → ForSome r.hi Fits → are_sides r.lo r.hi ≡ true → row_of obj obj2 before (row_json r) ≡ Ok r
unfolding row_of behind or_fault at_key
row-back obj obj2 before r lawful free low high sides =
    let taken = obj ∷ obj2 ∷ map (λ s. s.name) before in
    ap (λ n. behind (at_key (codes "name") n) (λ name. behind (at_key (codes "lo") (side_of (side_json r.lo))) (λ lo. behind (at_key (codes "hi") (side_of (side_json r.hi))) (λ hi.
    if are_sides lo hi then Ok (record { name = name; lo = lo; hi = hi }) else fault 11)))) (name-back taken r.name lawful free)
    ∙ ap (λ l. behind (at_key (codes "lo") l) (λ lo. behind (at_key (codes "hi") (side_of (side_json r.hi))) (λ hi.
    if are_sides lo hi then Ok (record { name = r.name; lo = lo; hi = hi }) else fault 11))) (side-back r.lo low)
    ∙ ap (λ h. behind (at_key (codes "hi") h) (λ hi. if are_sides r.lo hi then Ok (record { name = r.name; lo = r.lo; hi = hi }) else fault 11)) (side-back r.hi high)
    ∙ ap (λ b. if b then Ok (record { name = r.name; lo = r.lo; hi = r.hi }) else fault 11) sides

-- ---- lists

-- each item is read back behind those before it
pub AreRead : {A : Type 0} → (List A → Data → Result A Fault) → (A → Data) → List A → List A → Type 0
AreRead states write before [] = Unit {0}
AreRead states write before (x ∷ xs) = (states before (write x) ≡ Ok x) × AreRead states write (before ++ x ∷ []) xs

module _ {A : Type 0} (states : List A → Data → Result A Fault) (write : A → Data) where
  each-back : (before xs : List A) → AreRead states write before xs → each states before (items_of (map write xs)) ≡ Ok (before ++ xs)
  unfolding each behind at_key AreRead
  each-back before [] h = let e : before ≡ before ++ [] = sym (append-nil before) in ap (λ l. Ok l) e
  each-back before (x ∷ xs) h =
      ap (λ r. behind (at_item (length before) r) (λ a. each states (before ++ a ∷ []) (items_of (map write xs)))) h.0
      ∙ each-back (before ++ x ∷ []) xs h.1 ∙ ap (λ l. Ok l) (append_assoc before (x ∷ []) xs)

  pub list-back : (xs : List A) → AreRead states write [] xs → list_of states (list_json write xs) ≡ Ok xs
  unfolding list_of behind or_fault
  list-back xs h = each-back [] xs h

  pub read-none : (before : List A) → AreRead states write before []
  unfolding AreRead
  read-none before = tt

  pub read-here : (before : List A) (x : A) (xs : List A) → states before (write x) ≡ Ok x → AreRead states write (before ++ x ∷ []) xs → AreRead states write before (x ∷ xs)
  unfolding AreRead
  read-here before x xs h rest = (h, rest)
