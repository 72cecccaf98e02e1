-- Where a text is cut: at its first byte that passes a test.
use Rattle.std.specs.Prelude.{◌≡◌, ℕ, ◌<◌, ◌+◌, ◌++◌, Bool, true, false, ◌&&◌, ◌||◌, List, [], ◌∷◌, suc, zero, length, not, cond}
use Rattle.std.specs.List.{list_all, list_any, before_first, after_first, position_or_len}
use Rattle.std.proofs.Common.{refl, sym, ap, ap₂, ◌∙◌, arith, true≢false, get_or, take, drop}
use Rattle.std.proofs.lemmas.List.{drop_all}
use Rattle.std.proofs.lemmas.List.Folds.{list_all-append}
use Rattle.std.proofs.lemmas.List.Sums.{position_or_len_is}

pub neither : (a b : Bool) → (a || b) ≡ false → (a ≡ false) × (b ≡ false)
neither true b e = absurd (true≢false e)
neither false b e = (refl, e)

pub both : (a b : Bool) → (a && b) ≡ true → (a ≡ true) × (b ≡ true)
both true b e = (refl, e)
both false b e = absurd (true≢false (sym e))

module _ (p : ℕ → Bool) where
  pub none_any : (bytes : List ℕ) → ((k : ℕ) → k < length bytes → p (get_or bytes k 0) ≡ false) → false ≡ list_any p bytes
  none_any [] clean = refl
  none_any (byte ∷ bytes) clean = none_any bytes (λ k h. clean (suc k) (omega arith)) ∙ ap (λ b. b || list_any p bytes) (sym (clean 0 (omega arith)))

  pub some_any : (bytes : List ℕ) (k : ℕ) → k < length bytes → p (get_or bytes k 0) ≡ true → true ≡ list_any p bytes
  some_any [] k within hit = absurd (omega arith)
  some_any (byte ∷ bytes) zero within hit = ap (λ b. b || list_any p bytes) (sym hit)
  some_any (byte ∷ bytes) (suc k) within hit = by (p byte) (some_any bytes k (omega arith) hit)
    where
      by : (b : Bool) → true ≡ list_any p bytes → true ≡ b || list_any p bytes
      by true some = refl
      by false some = some

  pub place_of_none : (bytes : List ℕ) → ((k : ℕ) → k < length bytes → p (get_or bytes k 0) ≡ false) → position_or_len p bytes ≡ length bytes
  place_of_none bytes clean = position_or_len_is p bytes (length bytes) 0 (omega arith) clean (λ h. absurd (omega arith))

  pub place_of_first : (bytes : List ℕ) (n : ℕ) → n < length bytes → ((k : ℕ) → k < n → p (get_or bytes k 0) ≡ false) → p (get_or bytes n 0) ≡ true → position_or_len p bytes ≡ n
  place_of_first bytes n within clean hit = position_or_len_is p bytes n 0 (omega arith) clean (λ h. hit)

  clean_of_none : (bytes : List ℕ) → list_any p bytes ≡ false → (k : ℕ) → k < length bytes → p (get_or bytes k 0) ≡ false
  clean_of_none [] none k h = absurd (omega arith)
  clean_of_none (byte ∷ bytes) none zero h = (neither (p byte) (list_any p bytes) none).0
  clean_of_none (byte ∷ bytes) none (suc k) h = clean_of_none bytes ((neither (p byte) (list_any p bytes) none).1) k (omega arith)

  -- nothing stands behind what is not there
  pub after_none : (bytes : List ℕ) → list_any p bytes ≡ false → after_first p bytes ≡ []
  after_none bytes none = let place = place_of_none bytes (clean_of_none bytes none) in drop_all (position_or_len p bytes + 1) bytes (omega arith)

  pub all_parts : (front back : List ℕ) → list_all p (front ++ back) ≡ true → (list_all p front ≡ true) × (list_all p back ≡ true)
  all_parts front back h = both (list_all p front) (list_all p back) (sym (list_all-append p front back) ∙ h)

  pub all_joined : (front back : List ℕ) → list_all p front ≡ true → list_all p back ≡ true → list_all p (front ++ back) ≡ true
  all_joined front back h k = list_all-append p front back ∙ ap₂ (λ a b. a && b) h k

  -- what stands around the first byte that passes
  place_behind : (front back : List ℕ) (byte : ℕ) → list_any p front ≡ false → p byte ≡ true → position_or_len p (front ++ byte ∷ back) ≡ length front
  place_behind [] back byte clean hit = ap (λ b. cond (not b) (1 + position_or_len p back) 0) hit
  place_behind (x ∷ front) back byte clean hit =
      let parts = neither (p x) (list_any p front) clean in
      ap (λ b. cond (not b) (1 + position_or_len p (front ++ byte ∷ back)) 0) parts.0 ∙ (let rest = place_behind front back byte parts.1 hit in omega arith)

  pub cut_found : (front back : List ℕ) (byte : ℕ) → p byte ≡ true → list_any p (front ++ byte ∷ back) ≡ true
  cut_found [] back byte hit = ap (λ b. b || list_any p back) hit
  cut_found (x ∷ front) back byte hit = ap (λ b. p x || b) (cut_found front back byte hit) ∙ or_true (p x)
    where
      or_true : (b : Bool) → (b || true) ≡ true
      or_true true = refl
      or_true false = refl

  pub cut_front : (front back : List ℕ) (byte : ℕ) → list_any p front ≡ false → p byte ≡ true → before_first p (front ++ byte ∷ back) ≡ front
  cut_front front back byte clean hit = ap (λ n. take n (front ++ byte ∷ back)) (place_behind front back byte clean hit) ∙ taken front
    where
      taken : (front : List ℕ) → take (length front) (front ++ byte ∷ back) ≡ front
      taken [] = refl
      taken (x ∷ front) = ap (λ t. x ∷ t) (taken front)

  pub cut_back : (front back : List ℕ) (byte : ℕ) → list_any p front ≡ false → p byte ≡ true → after_first p (front ++ byte ∷ back) ≡ back
  cut_back front back byte clean hit = ap (λ n. drop (n + 1) (front ++ byte ∷ back)) (place_behind front back byte clean hit) ∙ dropped front
    where
      dropped : (front : List ℕ) → drop (length front + 1) (front ++ byte ∷ back) ≡ back
      dropped [] = refl
      dropped (x ∷ front) = ap (λ n. drop n (x ∷ (front ++ byte ∷ back))) (let e : suc (length front) + 1 ≡ suc (length front + 1) = omega arith in e) ∙ dropped front

  pub before_none : (bytes : List ℕ) → list_any p bytes ≡ false → before_first p bytes ≡ bytes
  before_none bytes none = ap (λ n. take n bytes) (place_of_none bytes (clean_of_none bytes none)) ∙ all_taken bytes
    where
      all_taken : (xs : List ℕ) → take (length xs) xs ≡ xs
      all_taken [] = refl
      all_taken (x ∷ xs) = ap (λ t. x ∷ t) (all_taken xs)
