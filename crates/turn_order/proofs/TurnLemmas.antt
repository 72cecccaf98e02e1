-- The workers that can act, from one place on.
use Rattle.std.specs.Prelude.{◌≡◌, ◌≢◌, ℕ, zero, suc, ◌+◌, ◌-◌, ◌<◌, ◌≤◌, Bool, true, false, if◌then◌else◌, List, [], ◌∷◌, length, get_or, drop, Option, None}
use Rattle.std.proofs.Common.{refl, sym, subst, ap, ◌∙◌, arith}
use Rattle.std.proofs.lemmas.List.{drop_more, drop_all}
use Rattle.turn_order.specs.Turns.{can_act, able_from, able, SomeCanAct}

-- from a place on
abbrev pub able_at : Bool → List (Option ℕ) → ℕ → List ℕ
able_at free held i = able_from i free (drop i held)

-- the first of them and the others
split-at : (free : Bool) (held : List (Option ℕ)) (i : ℕ) (d : Option ℕ) → i < length held → able_at free held i ≡ (if can_act free (get_or held i d) then i ∷ able_at free held (i + 1) else able_at free held (i + 1))
split-at free held i d below =
    let next : suc i ≡ i + 1 = omega arith in
    ap (able_from i free) (drop_more held i d below)
    ∙ ap (λ n. if can_act free (get_or held i d) then i ∷ able_from n free (drop (i + 1) held) else able_from n free (drop (i + 1) held)) next

pub able-there : (free : Bool) (held : List (Option ℕ)) (i : ℕ) (d : Option ℕ) → i < length held → can_act free (get_or held i d) ≡ true → able_at free held i ≡ i ∷ able_at free held (i + 1)
able-there free held i d below acts = split-at free held i d below ∙ ap (λ (b : Bool). if b then i ∷ able_at free held (i + 1) else able_at free held (i + 1)) acts

pub able-past : (free : Bool) (held : List (Option ℕ)) (i : ℕ) (d : Option ℕ) → i < length held → can_act free (get_or held i d) ≡ false → able_at free held i ≡ able_at free held (i + 1)
able-past free held i d below idle = split-at free held i d below ∙ ap (λ (b : Bool). if b then i ∷ able_at free held (i + 1) else able_at free held (i + 1)) idle

pub able-end : (free : Bool) (held : List (Option ℕ)) (i : ℕ) → length held ≤ i → able_at free held i ≡ []
able-end free held i past = ap (able_from i free) (drop_all i held past)

-- ---- counting

pub count-there : (free : Bool) (held : List (Option ℕ)) (i : ℕ) (d : Option ℕ) (n : ℕ) → i < length held → can_act free (get_or held i d) ≡ true → n + length (able_at free held i) ≡ length (able free held) → n + 1 + length (able_at free held (i + 1)) ≡ length (able free held)
count-there free held i d n below acts h = let same : length (able_at free held i) ≡ length (i ∷ able_at free held (i + 1)) = ap length (able-there free held i d below acts) in omega (arith, same, h)

pub count-past : (free : Bool) (held : List (Option ℕ)) (i : ℕ) (d : Option ℕ) (n : ℕ) → i < length held → can_act free (get_or held i d) ≡ false → n + length (able_at free held i) ≡ length (able free held) → n + length (able_at free held (i + 1)) ≡ length (able free held)
count-past free held i d n below idle h = let same : length (able_at free held i) ≡ length (able_at free held (i + 1)) = ap length (able-past free held i d below idle) in omega (arith, same, h)

pub count-end : (free : Bool) (held : List (Option ℕ)) (i n : ℕ) → length held ≤ i → n + length (able_at free held i) ≡ length (able free held) → n ≡ length (able free held)
count-end free held i n past h = let same : length (able_at free held i) ≡ 0 = ap length (able-end free held i past) in omega (arith, same, h)

-- ---- the one at a place

-- it is the one at `left` among those from i on
pub record IsLeftAt (free : Bool) (held : List (Option ℕ)) (place i left : ℕ) : Type 0 where
  pub within : left < length (able_at free held i)
  pub same : get_or (able_at free held i) left 0 ≡ get_or (able free held) place 0

module _ (free : Bool) (held : List (Option ℕ)) (place : ℕ) where
  pub left-begins : place < length (able free held) → IsLeftAt free held place 0 place
  left-begins within = record { within = within; same = refl }

  module _ (i left : ℕ) (d : Option ℕ) (below : i < length held) (h : IsLeftAt free held place i left) where
    pub left-past : can_act free (get_or held i d) ≡ false → IsLeftAt free held place (i + 1) left
    left-past idle =
        let e = able-past free held i d below idle in
        record { within = subst (λ l. left < length l) e h.within; same = ap (λ l. get_or l left 0) (sym e) ∙ h.same }

    pub left-next : can_act free (get_or held i d) ≡ true → left ≢ 0 → IsLeftAt free held place (i + 1) (left - 1)
    left-next acts some =
        let e = able-there free held i d below acts in
        let inside : left < length (i ∷ able_at free held (i + 1)) = subst (λ l. left < length l) e h.within in
        let shift : suc (left - 1) ≡ left = omega (arith, some) in
        record {
          within = omega (arith, inside, some);
          same = ap (λ k. get_or (i ∷ able_at free held (i + 1)) k 0) shift ∙ ap (λ l. get_or l left 0) (sym e) ∙ h.same;
        }

    pub left-found : can_act free (get_or held i d) ≡ true → left ≡ 0 → i ≡ get_or (able free held) place 0
    left-found acts none =
        let e = able-there free held i d below acts in
        ap (λ k. get_or (i ∷ able_at free held (i + 1)) k 0) (sym none) ∙ ap (λ l. get_or l left 0) (sym e) ∙ h.same

  pub left-end : (i left : ℕ) → length held ≤ i → ¬ IsLeftAt free held place i left
  left-end i left past h = let none : length (able_at free held i) ≡ 0 = ap length (able-end free held i past) in let within : left < length (able_at free held i) = h.within in omega (arith, none, within)

-- ---- some worker can act

some-from : (n : ℕ) (free : Bool) (held : List (Option ℕ)) (w : ℕ) → w < length held → can_act free (get_or held w None) ≡ true → 0 < length (able_from n free held)
some-from n free [] w below acts = absurd (omega arith)
some-from n free (h ∷ held) zero below acts = subst (λ (b : Bool). 0 < length (if b then n ∷ able_from (suc n) free held else able_from (suc n) free held)) (sym acts) (omega arith)
some-from n free (h ∷ held) (suc w) below acts = by (can_act free h) (some-from (suc n) free held w (omega arith) acts)
  where
    by : (b : Bool) → 0 < length (able_from (suc n) free held) → 0 < length (if b then n ∷ able_from (suc n) free held else able_from (suc n) free held)
    by true rest = omega arith
    by false rest = rest

pub some-acts : (free : Bool) (held : List (Option ℕ)) (w : ℕ) → w < length held → can_act free (get_or held w None) ≡ true → SomeCanAct free held
some-acts free held w below acts = some-from 0 free held w below acts

-- ---- they are no more than the workers

few-from : (n : ℕ) (free : Bool) (held : List (Option ℕ)) → length (able_from n free held) ≤ length held
few-from n free [] = omega arith
few-from n free (h ∷ held) = by (can_act free h) (few-from (suc n) free held)
  where
    by : (b : Bool) → length (able_from (suc n) free held) ≤ length held → length (if b then n ∷ able_from (suc n) free held else able_from (suc n) free held) ≤ suc (length held)
    by true few = omega (arith, few)
    by false few = omega (arith, few)

pub able-few : (free : Bool) (held : List (Option ℕ)) → length (able free held) ≤ length held
able-few free held = few-from 0 free held
