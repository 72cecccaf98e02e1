-- An item of a list, with those before it and behind it.
use Rattle.std.specs.Prelude.{◌≡◌, ℕ, suc, ◌+◌, ◌<◌, true, nat_lt, List, [], ◌∷◌, ◌++◌, length, get_or, All, AllPairs, Some, Result, Ok}
use Rattle.std.proofs.Common.{refl, sym, ap, subst, ◌∙◌, append_assoc, arith}
use Rattle.std.proofs.lemmas.Bool.Decides.{nat_tests}
use Rattle.std.proofs.lemmas.List.{length-append, get_or_append_left}
use Rattle.std.proofs.Math.Seq.{get_or-append_seam}
use Rattle.serde_json.specs.Data.{Data}
use Rattle.serde_json.specs.Find.{get}
use Rattle.warm_file.specs.Faults.{Fault, at_key}
use Rattle.warm_file.specs.Values.{list_of, member, at_most_items}
use Rattle.warm_file.specs.Rising.{is_past}
use Rattle.warm_file.proofs.Saying.{ok-there, ok-then, under-ok}
use Rattle.warm_writer.specs.Written.{list_json}
use Rattle.warm_writer.proofs.PartsBack.{AreRead, read-here, read-none, list-back}

module _ {A : Type 0} (xs before after : List A) (x : A) (whole : before ++ x ∷ after ≡ xs) where
  pub long : length before < length xs
  long = let e : length (before ++ x ∷ after) ≡ length before + suc (length after) = length-append before (x ∷ after) in let f : length (before ++ x ∷ after) ≡ length xs = ap length whole in omega arith

  pub all-here : (P : A → Type 0) → All P xs → P x
  all-here P h =
      let at : P (get_or xs (length before) x) = h (length before) x long in
      subst P (ap (λ l. get_or l (length before) x) (sym whole) ∙ get_or-append_seam before x after x) at

  pub pair-here : (R : A → A → Type 0) → AllPairs R xs → (k : ℕ) (d : A) → k < length before → R (get_or before k d) x
  pair-here R h k d below =
      let at : R (get_or xs k d) (get_or xs (length before) d) = h k (length before) d below long in
      let first : get_or xs k d ≡ get_or before k d = ap (λ l. get_or l k d) (sym whole) ∙ get_or_append_left before (x ∷ after) d k below in
      let second : get_or xs (length before) d ≡ x = ap (λ l. get_or l (length before) d) (sym whole) ∙ get_or-append_seam before x after d in
      subst (λ y. R (get_or before k d) y) second (subst (λ y. R y (get_or xs (length before) d)) first at)

-- ---- rising lists

less-true : (a b : ℕ) → a < b → nat_lt a b ≡ true
less-true a b h = grind (arith, nat_tests)

pub past-all : {A : Type 0} (place : A → ℕ) (before : List A) (k : ℕ) → ((i : ℕ) (d : A) → i < length before → place (get_or before i d) < k) → is_past place before k ≡ true
past-all place [] k h = refl
past-all place (a ∷ []) k h = less-true (place a) k (h 0 a (omega arith))
past-all place (a ∷ b ∷ as_) k h = past-all place (b ∷ as_) k (λ i d below. h (suc i) d (omega arith))

pub past-push : {A : Type 0} (place : A → ℕ) (before : List A) (a : A) (k : ℕ) → place a < k → is_past place (before ++ a ∷ []) k ≡ true
past-push place [] a k h = less-true (place a) k h
past-push place (b ∷ []) a k h = less-true (place a) k h
past-push place (b ∷ c ∷ before) a k h = past-push place (c ∷ before) a k h

-- ---- members and lists

pub member-back : {A : Type 0} (key : List ℕ) (states : Data → Result A Fault) (d v : Data) (a : A) → Some v ≡ get key d → states v ≡ Ok a → member key states d ≡ Ok a
member-back key states d v a there said = ok-there 2 (get key d) (λ w. at_key key (states w)) v a there (under-ok key (states v) a said)

pub few-back : {A : Type 0} (n : ℕ) (states : List A → Data → Result A Fault) (before : List A) (d : Data) (a : A) → length before < n → states before d ≡ Ok a → at_most_items n states before d ≡ Ok a
few-back n states before d a few said = ok-then (nat_lt (length before) n) _ _ a (less-true (length before) n few) said

module _ {A : Type 0} (states : List A → Data → Result A Fault) (write : A → Data) (whole : List A)
    (reads : (before after : List A) (x : A) → before ++ x ∷ after ≡ whole → states before (write x) ≡ Ok x) where
  splits-read : (before xs : List A) → before ++ xs ≡ whole → AreRead states write before xs
  splits-read before [] e = read-none states write before
  splits-read before (x ∷ xs) e = read-here states write before x xs (reads before xs x e) (splits-read (before ++ x ∷ []) xs (append_assoc before (x ∷ []) xs ∙ e))

  pub list-splits : list_of states (list_json write whole) ≡ Ok whole
  list-splits = list-back states write whole (splits-read [] whole refl)
