-- A loop that takes over the members that pass a test, one member at a time.
use Rattle.std.specs.Prelude.{ℕ, Bool, true, false, List, [], ◌∷◌, ◌++◌, filter}
use Rattle.std.proofs.Common.{◌≡◌, ◌+◌, ◌<◌, take, length, get_or, cond, sym, ap, ◌∙◌, append_assoc, append-nil}
use Rattle.std.proofs.lemmas.List.Elements.{filter_more}

module _ {X : Type 0} (p : X → Bool) (xs init list new : List X) (k : ℕ) (d : X) (b : Bool) where
  -- what the test says of the next member
  next : (t : Bool) → k < length xs → b ≡ p (get_or xs k d) → b ≡ t → filter p (take k xs) ++ cond t (get_or xs k d ∷ []) [] ≡ filter p (take (k + 1) xs)
  next t lt is at = ap (λ b. filter p (take k xs) ++ cond b (get_or xs k d ∷ []) []) (sym at ∙ is) ∙ sym (filter_more p xs k d lt)

  pub kept_more : k < length xs → list ≡ init ++ filter p (take k xs) → b ≡ p (get_or xs k d) → b ≡ true → new ≡ list ++ get_or xs k d ∷ [] → new ≡ init ++ filter p (take (k + 1) xs)
  kept_more lt inv is at e = e ∙ (ap (λ l. l ++ get_or xs k d ∷ []) inv ∙ (append_assoc init (filter p (take k xs)) (get_or xs k d ∷ []) ∙ ap (λ l. init ++ l) (next true lt is at)))

  pub kept_same : k < length xs → list ≡ init ++ filter p (take k xs) → b ≡ p (get_or xs k d) → b ≡ false → new ≡ list → new ≡ init ++ filter p (take (k + 1) xs)
  kept_same lt inv is at e = e ∙ (inv ∙ ap (λ l. init ++ l) (sym (append-nil (filter p (take k xs))) ∙ next false lt is at))
