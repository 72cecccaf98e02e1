-- Who holds what, after each change.
use Rattle.std.specs.Prelude.{◌≡◌, ◌⊎◌, ℕ, zero, suc, ◌<◌, ◌≤◌, Bool, true, false, ◌||◌, if◌then◌else◌, List, [], ◌∷◌, length, get_or, set, replicate, nat_eq, is_some, Option, Some, None}
use Rattle.std.specs.Option.{option_eq}
use Rattle.std.proofs.Common.{refl, sym, ap, ◌∙◌, inl, inr, arith}
use Rattle.std.proofs.lemmas.Bool.{cases_eq, cases_lt, eq-eqb}
use Rattle.std.proofs.lemmas.List.{get_or-set_same, get_or-set_other, get_or-map, get_or_past, get_or-replicate, length-set, length-map, length-replicate, get_or_default}
use Rattle.leaf_judging.specs.Free.{is_held}
use Rattle.sound_searches.specs.Sound.{PlainSearch}
use Rattle.tree_manager.specs.Managers.{HoldsLeaf, has_open, AreHeld, kept_holding, held_on}

abbrev nothing : Option ℕ
nothing = None

no_holding : (id : ℕ) → ¬ (None ≡ Some id)
no_holding id e = cc

some_is : (a b : ℕ) → Some a ≡ Some b → a ≡ b
some_is a b e = cc

-- ---- no leaf is held

none-held : (n w id : ℕ) → ¬ HoldsLeaf (replicate n None) w id
none-held n w id h = elim (cases_lt w n) [
  | inl below ↦ no_holding id (sym (get_or-replicate n w None None below) ∙ h)
  | inr past ↦ no_holding id (sym (get_or_past (replicate n None) w None (let same : length (replicate n nothing) ≡ n = length-replicate n None in omega (arith, same, past))) ∙ h)
]

pub idle-held : (S : PlainSearch) (n : ℕ) → 1 ≤ n → AreHeld S (replicate n None)
idle-held S n some = record {
  some = let same : length (replicate n nothing) ≡ n = length-replicate n None in omega (arith, same, some);
  are_open = λ w id h. absurd (none-held n w id h);
  one = λ v w id h k. absurd (none-held n v id h);
}

-- ---- what a worker holds, as it is read

pub some-holds : (held : List (Option ℕ)) (w : ℕ) → w < length held → (o : Option ℕ) → o ≡ get_or held w o → is_some o ≡ true → (id : ℕ) × HoldsLeaf held w id
some-holds held w within None e some = let f : false ≡ true = some in absurd cc
some-holds held w within (Some id) e some = (id, get_or_default held w None (Some id) within ∙ sym e)

-- ---- one worker lets go

module _ (held : List (Option ℕ)) (w : ℕ) (within : w < length held) where
  pub without : (v id : ℕ) → HoldsLeaf (set held w None) v id → HoldsLeaf held v id
  without v id h = elim (cases_eq v w) [
    | inl same ↦ absurd (no_holding id (sym (get_or-set_same held w None None within) ∙ ap (λ k. get_or (set held w None) k None) (sym same) ∙ h))
    | inr other ↦ sym (get_or-set_other held w v None None other) ∙ h
  ]

  pub lost-held : (S : PlainSearch) → AreHeld S held → AreHeld S (set held w None)
  lost-held S h = record {
    some = let same = length-set held w None in let some = h.some in omega (arith, same, some);
    are_open = λ v id k. h.are_open v id (without v id k);
    one = λ u v id k l. h.one u v id (without u id k) (without v id l);
  }

-- ---- one worker gets a leaf that nobody holds

nobody-holds : (held : List (Option ℕ)) (id : ℕ) → is_held held id ≡ false → (v : ℕ) → ¬ HoldsLeaf held v id
nobody-holds [] id free v h = no_holding id h
nobody-holds (h ∷ held) id free zero e =
    let found : option_eq nat_eq h (Some id) ≡ true = ap (λ o. option_eq nat_eq o (Some id)) e ∙ eq-eqb id id refl in
    let all : true ≡ false = sym (ap (λ (b : Bool). b || is_held held id) found) ∙ free in cc
nobody-holds (h ∷ held) id free (suc v) e = nobody-holds held id (by (option_eq nat_eq h (Some id)) free) v e
  where
    by : (b : Bool) → (b || is_held held id) ≡ false → is_held held id ≡ false
    by true f = cc
    by false f = f

module _ (held : List (Option ℕ)) (w id : ℕ) (within : w < length held) where
  -- what is held then is that leaf, or what was held before
  given : (v other : ℕ) → HoldsLeaf (set held w (Some id)) v other → ((v ≡ w) × (other ≡ id)) ⊎ HoldsLeaf held v other
  given v other h = elim (cases_eq v w) [
    | inl same ↦ inl (same, some_is other id (sym h ∙ ap (λ k. get_or (set held w (Some id)) k None) same ∙ get_or-set_same held w (Some id) None within))
    | inr apart ↦ inr (sym (get_or-set_other held w v (Some id) None apart) ∙ h)
  ]

  pub given-held : (S : PlainSearch) → AreHeld S held → has_open S id ≡ true → is_held held id ≡ false → AreHeld S (set held w (Some id))
  given-held S h is_open free = record {
    some = let same = length-set held w (Some id) in let some = h.some in omega (arith, same, some);
    are_open = λ v other k. elim (given v other k) [
      | inl new ↦ ap (has_open S) new.1 ∙ is_open
      | inr old ↦ h.are_open v other old
    ];
    one = λ u v other k l. elim (given u other k) [
      | inl new ↦ elim (given v other l) [
        | inl too ↦ new.0 ∙ sym too.0
        | inr old ↦ absurd (nobody-holds held id free v (old ∙ ap Some new.1))
      ]
      | inr was ↦ elim (given v other l) [
        | inl too ↦ absurd (nobody-holds held id free u (was ∙ ap Some too.1))
        | inr old ↦ h.one u v other was old
      ]
    ];
  }

-- ---- leaves that are not open are let go

module _ (S : PlainSearch) where
  still-open : (h : Option ℕ) (id : ℕ) → kept_holding S h ≡ Some id → (h ≡ Some id) × (has_open S id ≡ true)
  still-open None id e = absurd (no_holding id e)
  still-open (Some i) id e = by (has_open S i) refl e
    where
      by : (b : Bool) → has_open S i ≡ b → (if b then Some i else None) ≡ Some id → (Some i ≡ Some id) × (has_open S id ≡ true)
      by true o f = (f, ap (has_open S) (sym (some_is i id f)) ∙ o)
      by false o f = absurd (no_holding id f)

  pub still-held : (held : List (Option ℕ)) (v id : ℕ) → HoldsLeaf (held_on S held) v id → HoldsLeaf held v id × (has_open S id ≡ true)
  still-held held v id h = elim (cases_lt v (length held)) [
    | inl below ↦ still-open (get_or held v None) id (sym (get_or-map (kept_holding S) held v None None below) ∙ h)
    | inr past ↦ absurd (no_holding id (sym (get_or_past (held_on S held) v None (let same = length-map held (kept_holding S) in omega (arith, same, past))) ∙ h))
  ]

  pub on-held : (held : List (Option ℕ)) → 0 < length held → ((v w id : ℕ) → HoldsLeaf held v id → HoldsLeaf held w id → v ≡ w) → AreHeld S (held_on S held)
  on-held held some one = record {
    some = let same = length-map held (kept_holding S) in omega (arith, same, some);
    are_open = λ v id h. (still-held held v id h).1;
    one = λ v w id h k. one v w id (still-held held v id h).0 (still-held held w id k).0;
  }

  -- after a result of a worker
  pub taken-held : (T : PlainSearch) (held : List (Option ℕ)) (w : ℕ) → w < length held → AreHeld T held → AreHeld S (held_on S (set held w None))
  taken-held T held w within h = let k = lost-held held w within T h in on-held (set held w None) k.some k.one

  pub kept-held : (T : PlainSearch) (held : List (Option ℕ)) → AreHeld T held → AreHeld S (held_on S held)
  kept-held T held h = on-held held h.some h.one
