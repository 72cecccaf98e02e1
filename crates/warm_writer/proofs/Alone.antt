-- What is stated can be nothing but this.
use Rattle.std.specs.Prelude.{◌≡◌, ℕ, Bool, true, false, if◌then◌else◌, nat_lt, List, [], ◌∷◌, ◌++◌, map, length, decimal, Some, Result, Ok, Err}
use Rattle.std.proofs.Common.{refl, sym, subst, ◌∙◌, append_assoc, append-nil}
use Rattle.serde_json.specs.Data.{Data}
use Rattle.serde_json.specs.Find.{get}
use Rattle.serde_json.specs.View.{items_of}
use Rattle.warm_file.specs.Faults.{Fault, or_fault, behind, at_key, at_item}
use Rattle.warm_file.specs.Values.{member, each, list_of, at_most_items}
use Rattle.warm_file.proofs.Inversions.{next-ok, key-ok, there-ok}
use Rattle.warm_writer.specs.Written.{list_json}

-- where it is stated without fault, it is x
abbrev pub IsAlone : {A : Type 0} → Result A Fault → A → Type 0
IsAlone {A} said x = (y : A) → said ≡ Ok y → y ≡ x

pub alone-ok : {A : Type 0} (x : A) → IsAlone {A = A} (Ok x) x
alone-ok x y e = cc

pub alone-is : {A : Type 0} (said : Result A Fault) (x : A) → said ≡ Ok x → IsAlone said x
alone-is said x h y e = cc

pub alone-err : {A : Type 0} (f : Fault) (x : A) → IsAlone {A = A} (Err f) x
alone-err f x y e = absurd (cc)

pub alone-next : {A B : Type 0} (said : Result A Fault) (next : A → Result B Fault) (a : A) (x : B) → IsAlone said a → IsAlone (next a) x → IsAlone (behind said next) x
alone-next {A} {B} said next a x first rest y e =
    let n = next-ok said next y e in
    rest y (subst (λ b. next b ≡ Ok y) (first n.0 n.1.0) n.1.1)

pub alone-known : {A B : Type 0} (said : Result A Fault) (next : A → Result B Fault) (x : B) → ((a : A) → said ≡ Ok a → IsAlone (next a) x) → IsAlone (behind said next) x
alone-known said next x h y e = let n = next-ok said next y e in h n.0 n.1.0 y n.1.1

pub alone-then : {A : Type 0} (b : Bool) (said : Result A Fault) (f : Fault) (x : A) → IsAlone said x → IsAlone (if b then said else Err f) x
alone-then true said f x h y e = h y e
alone-then false said f x h y e = absurd (cc)

pub alone-else : {A : Type 0} (b : Bool) (said : Result A Fault) (f : Fault) (x : A) → IsAlone said x → IsAlone (if b then Err f else said) x
alone-else true said f x h y e = absurd (cc)
alone-else false said f x h y e = h y e

pub alone-key : {A : Type 0} (key : List ℕ) (said : Result A Fault) (x : A) → IsAlone said x → IsAlone (at_key key said) x
alone-key key said x h y e = h y (key-ok key said y e)

pub alone-member : {A : Type 0} (key : List ℕ) (states : Data → Result A Fault) (d v : Data) (x : A) → Some v ≡ get key d → IsAlone (states v) x → IsAlone (member key states d) x
alone-member key states d v x there h y e =
    let n = next-ok (or_fault 2 (get key d)) (λ w. at_key key (states w)) y e in
    let found : get key d ≡ Some n.0 = there-ok 2 (get key d) n.0 n.1.0 in
    let same : n.0 ≡ v = cc in
    h y (subst (λ w. states w ≡ Ok y) same (key-ok key (states n.0) y n.1.1))

pub alone-few : {A : Type 0} (n : ℕ) (states : List A → Data → Result A Fault) (before : List A) (d : Data) (x : A) → IsAlone (states before d) x → IsAlone (at_most_items n states before d) x
alone-few n states before d x h = alone-then (nat_lt (length before) n) (states before d) _ x h

module _ {A : Type 0} (states : List A → Data → Result A Fault) (write : A → Data) (whole : List A)
    (reads : (before after : List A) (x : A) → before ++ x ∷ after ≡ whole → IsAlone (states before (write x)) x) where
  each-alone : (before xs : List A) → before ++ xs ≡ whole → IsAlone (each states before (items_of (map write xs))) whole
  unfolding each
  each-alone before [] e ys h = let f : before ≡ ys = cc in sym f ∙ sym (append-nil before) ∙ e
  each-alone before (x ∷ xs) e ys h =
      let n = next-ok (at_item (length before) (states before (write x))) (λ a. each states (before ++ a ∷ []) (items_of (map write xs))) ys h in
      let same : n.0 ≡ x = reads before xs x e n.0 (key-ok (decimal (length before)) (states before (write x)) n.0 n.1.0) in
      each-alone (before ++ x ∷ []) xs (append_assoc before (x ∷ []) xs ∙ e) ys (subst (λ a. each states (before ++ a ∷ []) (items_of (map write xs)) ≡ Ok ys) same n.1.1)

  pub list-alone : IsAlone (list_of states (list_json write whole)) whole
  unfolding list_of behind or_fault
  list-alone ys h = each-alone [] whole refl ys h
