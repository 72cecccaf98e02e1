-- A list each element of which is made another, one after the other.
use Rattle.std.specs.Prelude.{◌≡◌, ℕ, ◌+◌, ◌<◌, ◌≤◌, List, [], ◌∷◌, ◌++◌, length, get_or, map, set, take, drop}
use Rattle.std.proofs.Common.{sym, ap, ◌∙◌, arith, append_assoc}
use Rattle.std.proofs.lemmas.List.{append-nil, length-map, length-take-le, drop_more, drop_all, take_all, map_more, get_or_at, set_at}

module _ {A : Type 0} (f : A → A) (old : List A) where
  -- those before the place are made others
  abbrev pub mapped_to : ℕ → List A
  mapped_to w = map f (take w old) ++ drop w old

  module _ (w : ℕ) (d : A) (below : w < length old) where
    before : length (map f (take w old)) ≡ w
    before = length-map (take w old) f ∙ length-take-le w old (omega (arith, below))

    split : mapped_to w ≡ map f (take w old) ++ get_or old w d ∷ drop (w + 1) old
    split = ap (λ l. map f (take w old) ++ l) (drop_more old w d below)

    -- the element at the place is that of the old list
    pub mapped-at : get_or (mapped_to w) w d ≡ get_or old w d
    mapped-at = ap (λ l. get_or l w d) split ∙ get_or_at (map f (take w old)) (get_or old w d) (drop (w + 1) old) d w before

    pub mapped-next : set (mapped_to w) w (f (get_or old w d)) ≡ mapped_to (w + 1)
    mapped-next =
        ap (λ l. set l w (f (get_or old w d))) split
        ∙ set_at (map f (take w old)) (get_or old w d) (drop (w + 1) old) (f (get_or old w d)) w before
        ∙ sym (append_assoc (map f (take w old)) (f (get_or old w d) ∷ []) (drop (w + 1) old))
        ∙ ap (λ l. l ++ drop (w + 1) old) (sym (map_more f old w d below))

    -- the same of a list that is so far
    pub mapped-step : (xs : List A) (y : A) → xs ≡ mapped_to w → y ≡ f (get_or xs w d) → set xs w y ≡ mapped_to (w + 1)
    mapped-step xs y e s = (λ i. set (e i) w (s i)) ∙ ap (λ z. set (mapped_to w) w (f z)) (ap (λ l. get_or l w d) e ∙ mapped-at) ∙ mapped-next

  pub mapped-all : (w : ℕ) → length old ≤ w → mapped_to w ≡ map f old
  mapped-all w past = (λ i. map f (take_all w old past i) ++ drop_all w old past i) ∙ append-nil (map f old)
