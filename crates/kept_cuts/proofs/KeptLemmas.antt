-- A pool after an edit, and the places of the cuts that go, made cut by cut.
use Rattle.std.specs.Prelude.{◌≡◌, ℕ, suc, ◌+◌, ◌<◌, ◌≤◌, Bool, true, false, if◌then◌else◌, not, List, [], ◌∷◌, ◌++◌, length, get_or, take, map, filter}
use Rattle.std.proofs.Common.{refl, sym, ap, subst, ◌∙◌, arith, inl, inr}
use Rattle.std.proofs.lemmas.List.{append-nil, length-map, length-take-le, map-append, map_push, take_more}
use Rattle.std.proofs.lemmas.List.Elements.{All-push, filter-append}
use Rattle.lp_model.specs.Program.{Program}
use Rattle.lp_model.specs.declared.types.CutRow.{CutRow}
use Rattle.lp_model.specs.declared.types.Derivation.{Derivation}
use Rattle.lp_model.specs.declared.types.Edit.{Edit}
use Rattle.cover_cuts.specs.Cuts.{IsCutOf}
use Rattle.kept_cuts.specs.Kept.{goes_with, derivation_after, derivations_of, derivations_after, cut_at, gone_from, gone_with, IsPoolAfter}
use Rattle.kept_cuts.specs.private.Kept.{one_if, KeepsCut}

-- ---- derivations

filter-few : {A : Type 0} (p : A → Bool) (xs : List A) → length (filter p xs) ≤ length xs
filter-few p [] = omega arith
filter-few p (x ∷ xs) = by (p x) (filter-few p xs)
  where
    by : (b : Bool) → length (filter p xs) ≤ length xs → length (if b then x ∷ filter p xs else filter p xs) ≤ suc (length xs)
    by true h = omega arith
    by false h = omega arith

-- an element of a list that is read, behind those before it
pub take-next : {A : Type 0} (xs : List A) (i : ℕ) (x : A) → i < length xs → x ≡ get_or xs i x → take (i + 1) xs ≡ take i xs ++ x ∷ []
take-next xs i x below is = take_more xs i x below ∙ ap (λ y. take i xs ++ y ∷ []) (sym is)

module _ (M : Program) (e : Edit) where
  after-push : (ds : List Derivation) (d : Derivation) → derivations_after M e (ds ++ d ∷ []) ≡ derivations_after M e ds ++ map (derivation_after M e) (if not (goes_with M e d) then d ∷ [] else [])
  after-push ds d =
      ap (map (derivation_after M e)) (filter-append (λ x. not (goes_with M e x)) ds (d ∷ []))
      ∙ map-append (derivation_after M e) (filter (λ x. not (goes_with M e x)) ds) (filter (λ x. not (goes_with M e x)) (d ∷ []))

  after-gone : (ds : List Derivation) (d : Derivation) → goes_with M e d ≡ true → derivations_after M e (ds ++ d ∷ []) ≡ derivations_after M e ds
  after-gone ds d goes =
      after-push ds d
      ∙ ap (λ b. derivations_after M e ds ++ map (derivation_after M e) (if not b then d ∷ [] else [])) goes
      ∙ append-nil (derivations_after M e ds)

  after-stays : (ds : List Derivation) (d : Derivation) → goes_with M e d ≡ false → derivations_after M e (ds ++ d ∷ []) ≡ derivations_after M e ds ++ derivation_after M e d ∷ []
  after-stays ds d stays = after-push ds d ∙ ap (λ b. derivations_after M e ds ++ map (derivation_after M e) (if not b then d ∷ [] else [])) stays

  of-push : (cuts : List CutRow) (c : CutRow) → derivations_of (cuts ++ c ∷ []) ≡ derivations_of cuts ++ c.from ∷ []
  of-push cuts c = map_push (λ (k : CutRow). k.from) cuts c

  -- ---- pools

  module _ (N : Program) where
    pub few-stay : (xs ys : List CutRow) → IsPoolAfter M e xs N ys → length ys ≤ length xs
    few-stay xs ys h =
        let own = length-map ys (λ (c : CutRow). c.from) in
        let same : length (derivations_of ys) ≡ length (derivations_after M e (derivations_of xs)) = ap length h.derivations in
        let moved = length-map (filter (λ d. not (goes_with M e d)) (derivations_of xs)) (derivation_after M e) in
        let few = filter-few (λ d. not (goes_with M e d)) (derivations_of xs) in
        let all = length-map xs (λ (c : CutRow). c.from) in
        omega (arith, own, same, moved, few, all)

    pub pool-none : (ys : List CutRow) → ys ≡ [] → IsPoolAfter M e [] N ys
    pool-none ys none = subst (IsPoolAfter M e [] N) (sym none) (record { derivations = refl; pool = λ i d below. absurd (omega arith) })

    pub pool-more : (xs ys zs : List CutRow) (c : CutRow) → IsPoolAfter M e xs N ys → KeepsCut M e N c.from ys zs → IsPoolAfter M e (xs ++ c ∷ []) N zs
    pool-more xs ys zs c h (inl k) =
        subst (IsPoolAfter M e (xs ++ c ∷ []) N) (sym k.1)
        (record {
          derivations = h.derivations ∙ sym (after-gone (derivations_of xs) c.from k.0) ∙ ap (derivations_after M e) (sym (of-push xs c));
          pool = h.pool;
        })
    pool-more xs ys zs c h (inr (stays, (new, (is, from, cut)))) =
        subst (IsPoolAfter M e (xs ++ c ∷ []) N) (sym is)
        (record {
          derivations =
              of-push ys new
              ∙ (λ i. h.derivations i ++ from i ∷ [])
              ∙ sym (after-stays (derivations_of xs) c.from stays)
              ∙ ap (derivations_after M e) (sym (of-push xs c));
          pool = All-push (IsCutOf N) ys new h.pool cut;
        })

  -- ---- places

  gone_from-push : (k : ℕ) (xs : List CutRow) (c : CutRow) → gone_from M e k (xs ++ c ∷ []) ≡ gone_from M e k xs ++ one_if (goes_with M e c.from) (k + length xs)
  gone_from-push k [] c = let at : k ≡ k + 0 = omega arith in by (goes_with M e c.from) (k + 0) at
    where
      by : (b : Bool) (p : ℕ) → k ≡ p → one_if b k ≡ one_if b p
      by true p at = ap (λ n. one_if true n) at
      by false p at = refl
  gone_from-push k (x ∷ xs) c =
      let at : suc k + length xs ≡ k + suc (length xs) = omega arith in
      by (goes_with M e x.from) (gone_from-push (suc k) xs c ∙ ap (λ p. gone_from M e (suc k) xs ++ one_if (goes_with M e c.from) p) at)
    where
      by : (b : Bool) → gone_from M e (suc k) (xs ++ c ∷ []) ≡ gone_from M e (suc k) xs ++ one_if (goes_with M e c.from) (k + suc (length xs))
          → (if b then cut_at k ∷ gone_from M e (suc k) (xs ++ c ∷ []) else gone_from M e (suc k) (xs ++ c ∷ []))
          ≡ (if b then cut_at k ∷ gone_from M e (suc k) xs else gone_from M e (suc k) xs) ++ one_if (goes_with M e c.from) (k + suc (length xs))
      by true h = ap (λ l. cut_at k ∷ l) h
      by false h = h

  pub gone-more : (cuts : List CutRow) (i : ℕ) (c : CutRow) → i < length cuts → c ≡ get_or cuts i c → gone_with M e (take (i + 1) cuts) ≡ gone_with M e (take i cuts) ++ one_if (goes_with M e c.from) i
  gone-more cuts i c below is =
      let long : 0 + length (take i cuts) ≡ i = let n = length-take-le i cuts (omega arith) in omega (arith, n) in
      ap (gone_with M e) (take-next cuts i c below is)
      ∙ gone_from-push 0 (take i cuts) c
      ∙ ap (λ p. gone_with M e (take i cuts) ++ one_if (goes_with M e c.from) p) long
