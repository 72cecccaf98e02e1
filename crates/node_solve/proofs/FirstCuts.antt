-- Where each of the first cuts of a pool counts, these are the cuts of the relaxation.
use Rattle.std.specs.Prelude.{◌≡◌, ℕ, zero, suc, ◌<◌, ◌≤◌, true, if◌then◌else◌, IsTrue, List, [], ◌∷◌, length, get_or, take}
use Rattle.std.proofs.Common.{refl, sym, ap, ◌∙◌, arith}
use Rattle.std.proofs.lemmas.List.Elements.{All-tail}
use Rattle.lp_model.specs.declared.types.CutRow.{CutRow}
use Rattle.kept_cuts.specs.Places.{index_among}
use Rattle.node_solve.specs.Laws.{AreAllLive}
use Rattle.node_solve.specs.Places.{live_cuts, live_places}
use Rattle.node_solve.specs.private.Places.{places_from, IsFirstCount, AreOwnPlaces}
use Rattle.node_solve.proofs.PoolLemmas.{index-at, index-past}

first-live : (m n k : ℕ) (cuts : List CutRow) → n ≤ m → n ≤ length cuts → (n < m → n ≡ length cuts) → AreAllLive (take n cuts) → (live_cuts m cuts ≡ take n cuts) × (live_places m k cuts ≡ places_from k n)
first-live zero zero k cuts few within all live = (refl, refl)
first-live (suc m) zero k [] few within all live = (refl, refl)
first-live (suc m) zero k (c ∷ cuts) few within all live = let none = all (omega arith) in absurd (omega (arith, none))
first-live zero (suc n) k cuts few within all live = absurd (omega (arith, few))
first-live (suc m) (suc n) k [] few within all live = absurd (omega (arith, within))
first-live (suc m) (suc n) k (c ∷ cuts) few within all live =
    let on : c.live ≡ true = live 0 c (omega arith) in
    let rest = first-live m n (suc k) cuts (omega (arith, few)) (omega (arith, within)) (λ less. let e = all (omega (arith, less)) in omega (arith, e)) (All-tail (λ (d : CutRow). IsTrue d.live) c (take n cuts) live) in (
      ap (λ t. if t then c ∷ live_cuts m cuts else live_cuts (suc m) cuts) on ∙ ap (λ l. c ∷ l) rest.0,
      ap (λ t. if t then k ∷ live_places m (suc k) cuts else live_places (suc m) (suc k) cuts) on ∙ ap (λ l. k ∷ l) rest.1,
    )

pub first-count : (cuts : List CutRow) (n : ℕ) → n ≤ 200 → n ≤ length cuts → (n < 200 → n ≡ length cuts) → AreAllLive (take n cuts) → IsFirstCount cuts n
first-count cuts n few within all live =
    let are = first-live 200 n 0 cuts few within all live in
    record { within = within; cuts = are.0; places = are.1 }

-- the index of a place among those that are their own indices
pub own-index : (places : List ℕ) → AreOwnPlaces places → (k : ℕ) → k < length places → k ≡ index_among k places
own-index places own k below =
    let here : get_or places k 0 ≡ k = own k below in
    sym (index-at places k below (λ j less e. let there : get_or places j 0 ≡ j = own j (omega (arith, less, below)) in omega (arith, e, here, there, less))) ∙ ap (λ p. index_among p places) here

pub own-past : (places : List ℕ) → AreOwnPlaces places → (k : ℕ) → length places ≤ k → length places ≡ index_among k places
own-past places own k past = index-past places k (λ j below e. let there : get_or places j 0 ≡ j = own j below in omega (arith, e, there, below, past))
