-- A text among the names of items, as far as they were looked at.
use Rattle.std.specs.Prelude.{◌≡◌, ℕ, ◌+◌, ◌<◌, ◌≤◌, true, false, ◌||◌, List, ◌∷◌, length, get_or, map, bytes_eq}
use Rattle.std.proofs.Common.{drop, sym, ap, ◌∙◌}
use Rattle.std.proofs.lemmas.List.{drop_more, drop_all}
use Rattle.warm_file.specs.Models.{is_among}

module _ {T : Type 0} (name : T → List ℕ) (items : List T) (text : List ℕ) (i : ℕ) where
  module _ (x : T) (below : i < length items) (is : x ≡ get_or items i x) where
    here : is_among text (map name (drop i items)) ≡ (bytes_eq (name x) text || is_among text (map name (drop (i + 1) items)))
    here = ap (λ xs. is_among text (map name xs)) (drop_more items i x below ∙ ap (λ y. y ∷ drop (i + 1) items) (sym is))

    pub among-here : bytes_eq (name x) text ≡ true → is_among text (map name (drop i items)) ≡ true
    among-here e = here ∙ ap (λ b. b || is_among text (map name (drop (i + 1) items))) e

    pub among-next : bytes_eq (name x) text ≡ false → is_among text (map name (drop (i + 1) items)) ≡ is_among text (map name (drop i items))
    among-next e = sym (here ∙ ap (λ b. b || is_among text (map name (drop (i + 1) items))) e)

  pub among-none : length items ≤ i → is_among text (map name (drop i items)) ≡ false
  among-none past = ap (λ xs. is_among text (map name xs)) (drop_all i items past)
