-- A map from names to places: what a look-up finds after one more name, and the index of names that grow by one.
use Rattle.std.proofs.Common.{◌≡◌, ℕ, Bool, true, false, not, ◌||◌, List, [], ◌∷◌, ◌++◌, length, get_or, refl, sym, ◌∙◌, ap, subst, arith, length-append}
use Rattle.std.specs.Prelude.{Option, None, Some, if◌then◌else◌, bytes_eq, cond, nat_lt}
use Rattle.std.specs.declared.cmp.Ordering.{Ordering}
use Rattle.std.specs.declared.cmp.Ordering.TheVariants.{Less, Equal, Greater}
use Rattle.std.specs.Ordering.{match_ordering, is_eq, nat_cmp}
use Rattle.std.specs.Cmp.Lexicographic.{slice_cmp}
use Rattle.std.proofs.lemmas.Map.Text.{is_eq-slice_cmp}
use Rattle.std.specs.Map.{lookup}
use Rattle.std.specs.BTreeMap.{insert_entry}
use Rattle.std.proofs.lemmas.Bool.{or_from, and_from, and_parts, ltb-true, lt-ltb}
use Rattle.std.proofs.lemmas.List.{get_or_append_left}
use Rattle.std.proofs.lemmas.List.Folds.{list_any-append}
use Rattle.std.proofs.lemmas.Slice.Eq.{bytes_eq-Decides}
use Rattle.std.proofs.Math.Seq.{get_or-append_seam}
use Rattle.mps_fields.specs.Words.{among}
use Rattle.mps_model.specs.Places.{is_found}
use Rattle.mps_model.specs.private.Places.{IsFoundAt}

-- tests that agree find the same
pub lookup_same : {K X : Type 0} (p q : K → Bool) → ((k : K) → p k ≡ q k) → (es : List (K × X)) → lookup p es ≡ lookup q es
lookup_same p q h [] = refl
lookup_same p q h (e ∷ es) = ap (λ b. cond b (Some e.1) (lookup p es)) (h e.0) ∙ ap (λ r. cond (q e.0) (Some e.1) r) (lookup_same p q h es)

differ : Greater ≡ Equal → ⊥
differ e = cc

module _ {K X : Type 0} (cmp : K → K → Ordering) (p : K → Bool) (same : (k x : K) → cmp k x ≡ Equal → p x ≡ p k) (one : (k x : K) → p k ≡ true → p x ≡ true → cmp k x ≡ Equal) where
  replaced : (b c : Bool) (v w : X) (rest : Option X) → c ≡ b → cond c (Some v) rest ≡ (if b then Some v else cond c (Some w) rest)
  replaced true true v w rest e = refl
  replaced true false v w rest e = absurd (cc)
  replaced false true v w rest e = absurd (cc)
  replaced false false v w rest e = refl

  later : (b c : Bool) (v w : X) (rest : Option X) → (b ≡ true → c ≡ true → ⊥) → cond c (Some w) (if b then Some v else rest) ≡ (if b then Some v else cond c (Some w) rest)
  later true true v w rest h = absurd (h refl refl)
  later true false v w rest h = refl
  later false c v w rest h = refl

  first : (b : Bool) (v : X) (rest : Option X) → cond b (Some v) rest ≡ (if b then Some v else rest)
  first true v rest = refl
  first false v rest = refl

  -- what is found after one more entry
  pub insert_lookup : (es : List (K × X)) (k : K) (v : X) → lookup p (insert_entry cmp es k v) ≡ (if p k then Some v else lookup p es)
  insert_lookup [] k v = first (p k) v None
  insert_lookup (e ∷ es) k v = at (cmp k e.0) refl (insert_lookup es k v)
    where
      at : (o : Ordering) → cmp k e.0 ≡ o → lookup p (insert_entry cmp es k v) ≡ (if p k then Some v else lookup p es)
          → lookup p (match_ordering o ((k, v) ∷ e ∷ es) ((e.0, v) ∷ es) (e ∷ insert_entry cmp es k v)) ≡ (if p k then Some v else cond (p e.0) (Some e.1) (lookup p es))
      at Less is rest = first (p k) v (lookup p (e ∷ es))
      at Equal is rest = replaced (p k) (p e.0) v e.1 (lookup p es) (same k e.0 is)
      at Greater is rest = ap (λ r. cond (p e.0) (Some e.1) r) rest ∙ later (p k) (p e.0) v e.1 (lookup p es) (λ a b. differ (sym is ∙ one k e.0 a b))

-- ---- keys by their bytes

equal_if : (o : Ordering) → is_eq o ≡ true → o ≡ Equal
equal_if Less e = absurd (cc)
equal_if Equal e = refl
equal_if Greater e = absurd (cc)

pub same_key : (q a b : List ℕ) → slice_cmp nat_cmp a b ≡ Equal → bytes_eq q b ≡ bytes_eq q a
same_key q a b e = ap (bytes_eq q) (sym ((bytes_eq-Decides a b).0 (sym (is_eq-slice_cmp a b) ∙ ap is_eq e)))

pub one_key : (q a b : List ℕ) → bytes_eq q a ≡ true → bytes_eq q b ≡ true → slice_cmp nat_cmp a b ≡ Equal
one_key q a b e h = equal_if (slice_cmp nat_cmp a b) (is_eq-slice_cmp a b ∙ (bytes_eq-Decides a b).1 (sym ((bytes_eq-Decides q a).0 e) ∙ (bytes_eq-Decides q b).0 h))

-- ---- one more name

found_before : (names : List (List ℕ)) (name q : List ℕ) (found : Option ℕ) → bytes_eq name q ≡ false → IsFoundAt names q found → IsFoundAt (names ++ name ∷ []) q found
found_before names name q None e h = list_any-append (λ (other : List ℕ). bytes_eq other q) names (name ∷ []) ∙ or_from (among names q) (bytes_eq name q || false) h (or_from (bytes_eq name q) false e refl)
found_before names name q (Some k) e h = (let within = h.0 in omega (arith, length-append names (name ∷ [])), get_or_append_left names (name ∷ []) [] k h.0 ∙ h.1)

found_last : (names : List (List ℕ)) (name q : List ℕ) → name ≡ q → IsFoundAt (names ++ name ∷ []) q (Some (length names))
found_last names name q e = (omega (arith, length-append names (name ∷ [])), get_or-append_seam names name [] [] ∙ e)

found_more : (names : List (List ℕ)) (name q : List ℕ) (found : Option ℕ) → IsFoundAt names q found → IsFoundAt (names ++ name ∷ []) q (if bytes_eq name q then Some (length names) else found)
found_more names name q found h = by (bytes_eq name q) refl
  where
    by : (b : Bool) → bytes_eq name q ≡ b → IsFoundAt (names ++ name ∷ []) q (if b then Some (length names) else found)
    by true e = found_last names name q ((bytes_eq-Decides name q).0 e)
    by false e = found_before names name q found e h

not_there : (b : Bool) → not b ≡ true → b ≡ false
not_there true e = absurd (cc)
not_there false e = refl

pub found_from : (names : List (List ℕ)) (q : List ℕ) (found : Option ℕ) → is_found names q found ≡ true → IsFoundAt names q found
found_from names q None e = not_there (among names q) e
found_from names q (Some k) e =
    let parts = and_parts (nat_lt k (length names)) (bytes_eq (get_or names k []) q) e in
    (ltb-true k (length names) parts.0, (bytes_eq-Decides (get_or names k []) q).0 parts.1)

found_by : (names : List (List ℕ)) (q : List ℕ) (found : Option ℕ) → IsFoundAt names q found → is_found names q found ≡ true
found_by names q None h = ap not h
found_by names q (Some k) h = and_from (nat_lt k (length names)) (bytes_eq (get_or names k []) q) (lt-ltb k (length names) h.0) ((bytes_eq-Decides (get_or names k []) q).1 h.1)

-- the index of names that grow by one
pub index_more : (names more : List (List ℕ)) (name q : List ℕ) (k : ℕ) (found new : Option ℕ) → more ≡ names ++ name ∷ [] → k ≡ length names → is_found names q found ≡ true → new ≡ (if bytes_eq name q then Some k else found) → is_found more q new ≡ true
index_more names more name q k found new m n h e =
    ap (λ (all : List (List ℕ)). is_found all q new) m
    ∙ ap (is_found (names ++ name ∷ []) q) (e ∙ ap (λ i. if bytes_eq name q then Some i else found) n)
    ∙ found_by (names ++ name ∷ []) q (if bytes_eq name q then Some (length names) else found) (found_more names name q found (found_from names q found h))

pub index_none : (q : List ℕ) (found : Option ℕ) → found ≡ None → is_found [] q found ≡ true
index_none q found e = ap (is_found [] q) e

pub found_as : (names : List (List ℕ)) (q r : List ℕ) (a b : Option ℕ) → IsFoundAt names q a → q ≡ r → a ≡ b → IsFoundAt names r b
found_as names q r a b h e is = subst (IsFoundAt names r) is (subst (λ (name : List ℕ). IsFoundAt names name a) e h)
