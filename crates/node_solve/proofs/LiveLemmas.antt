-- The cuts of a pool that count, and their places.
use Rattle.std.specs.Prelude.{◌≡◌, ℕ, zero, suc, ◌+◌, ◌-◌, ◌<◌, ◌≤◌, Bool, true, false, if◌then◌else◌, IsTrue, List, [], ◌∷◌, ◌++◌, length, get_or, take, All}
use Rattle.std.proofs.Common.{refl, sym, ap, ◌∙◌, arith}
use Rattle.std.proofs.lemmas.List.{append-nil, length-take-le}
use Rattle.std.proofs.lemmas.List.Elements.{All-nil, All-cons, All-tail}
use Rattle.lp_model.specs.declared.types.CutRow.{CutRow}
use Rattle.lp_model.specs.declared.types.Var.TheVariants.{Cut}
use Rattle.kept_cuts.proofs.KeptLemmas.{take-next}
use Rattle.node_solve.specs.Laws.{AreAllLive, AreAt}
use Rattle.node_solve.specs.Places.{live_cuts, live_places, cut_variables}
use Rattle.node_solve.specs.private.Places.{places_from}

-- ---- how many there are

pub live-few : (n : ℕ) (cuts : List CutRow) → length (live_cuts n cuts) ≤ n
live-few zero cuts = omega arith
live-few (suc n) [] = omega arith
live-few (suc n) (c ∷ cuts) = by c.live (live-few n cuts) (live-few (suc n) cuts)
  where
    by : (t : Bool) → length (live_cuts n cuts) ≤ n → length (live_cuts (suc n) cuts) ≤ suc n → length (if t then c ∷ live_cuts n cuts else live_cuts (suc n) cuts) ≤ suc n
    by true h k = omega (arith, h)
    by false h k = k

pub places-length : (n k : ℕ) (cuts : List CutRow) → length (live_places n k cuts) ≡ length (live_cuts n cuts)
places-length zero k cuts = refl
places-length (suc n) k [] = refl
places-length (suc n) k (c ∷ cuts) = by c.live (places-length n (suc k) cuts) (places-length (suc n) (suc k) cuts)
  where
    by : (t : Bool) → length (live_places n (suc k) cuts) ≡ length (live_cuts n cuts) → length (live_places (suc n) (suc k) cuts) ≡ length (live_cuts (suc n) cuts)
        → length (if t then k ∷ live_places n (suc k) cuts else live_places (suc n) (suc k) cuts) ≡ length (if t then c ∷ live_cuts n cuts else live_cuts (suc n) cuts)
    by true h e = ap suc h
    by false h e = e

pub live-all : (n : ℕ) (cuts : List CutRow) → AreAllLive (live_cuts n cuts)
live-all zero cuts = All-nil (λ (c : CutRow). IsTrue c.live)
live-all (suc n) [] = All-nil (λ (c : CutRow). IsTrue c.live)
live-all (suc n) (c ∷ cuts) = by c.live refl (live-all n cuts) (live-all (suc n) cuts)
  where
    by : (t : Bool) → c.live ≡ t → AreAllLive (live_cuts n cuts) → AreAllLive (live_cuts (suc n) cuts) → AreAllLive (if t then c ∷ live_cuts n cuts else live_cuts (suc n) cuts)
    by true e h k = All-cons (λ (d : CutRow). IsTrue d.live) c (live_cuts n cuts) e h
    by false e h k = k

pub live-are : (P : CutRow → Type 0) (n : ℕ) (cuts : List CutRow) → All P cuts → All P (live_cuts n cuts)
live-are P zero cuts all = All-nil P
live-are P (suc n) [] all = All-nil P
live-are P (suc n) (c ∷ cuts) all = by c.live (live-are P n cuts (All-tail P c cuts all)) (live-are P (suc n) cuts (All-tail P c cuts all))
  where
    by : (t : Bool) → All P (live_cuts n cuts) → All P (live_cuts (suc n) cuts) → All P (if t then c ∷ live_cuts n cuts else live_cuts (suc n) cuts)
    by true h k = All-cons P c (live_cuts n cuts) (all 0 c (omega arith)) h
    by false h k = k

-- ---- where they stand

-- the place p, counted from k, has the cut that stands at i of the other list
pub record IsPlaced (k : ℕ) (cuts : List CutRow) (p : ℕ) (of : List CutRow) (i : ℕ) : Type 0 where
  pub low : k ≤ p
  pub high : p < k + length cuts
  pub is : (d : CutRow) → get_or cuts (p - k) d ≡ get_or of i d

later : (k : ℕ) (c : CutRow) (cuts : List CutRow) (p : ℕ) (of : List CutRow) (i : ℕ) → IsPlaced (suc k) cuts p of i → IsPlaced k (c ∷ cuts) p of i
later k c cuts p of i h =
    let low : suc k ≤ p = h.low in
    let high : p < suc k + length cuts = h.high in
    let back : p - k ≡ suc (p - suc k) = omega (arith, low) in
    record { low = omega (arith, low); high = omega (arith, high); is = λ d. ap (λ q. get_or (c ∷ cuts) q d) back ∙ h.is d }

beside : (k : ℕ) (cuts : List CutRow) (p : ℕ) (c : CutRow) (of : List CutRow) (i : ℕ) → IsPlaced k cuts p of i → IsPlaced k cuts p (c ∷ of) (suc i)
beside k cuts p c of i h = record { low = h.low; high = h.high; is = h.is }

first-placed : (k : ℕ) (c : CutRow) (cuts of : List CutRow) → IsPlaced k (c ∷ cuts) k (c ∷ of) 0
first-placed k c cuts of = let none : k - k ≡ 0 = omega arith in record { low = omega arith; high = omega arith; is = λ d. ap (λ q. get_or (c ∷ cuts) q d) none }

pub placed : (n k : ℕ) (cuts : List CutRow) (i d : ℕ) → i < length (live_cuts n cuts) → IsPlaced k cuts (get_or (live_places n k cuts) i d) (live_cuts n cuts) i
placed zero k cuts i d below = absurd (omega arith)
placed (suc n) k [] i d below = absurd (omega arith)
placed (suc n) k (c ∷ cuts) i d below = by c.live i (λ j b. placed n (suc k) cuts j d b) (λ j b. placed (suc n) (suc k) cuts j d b) below
  where
    by : (t : Bool) (i : ℕ) → ((j : ℕ) → j < length (live_cuts n cuts) → IsPlaced (suc k) cuts (get_or (live_places n (suc k) cuts) j d) (live_cuts n cuts) j)
        → ((j : ℕ) → j < length (live_cuts (suc n) cuts) → IsPlaced (suc k) cuts (get_or (live_places (suc n) (suc k) cuts) j d) (live_cuts (suc n) cuts) j)
        → i < length (if t then c ∷ live_cuts n cuts else live_cuts (suc n) cuts)
        → IsPlaced k (c ∷ cuts) (get_or (if t then k ∷ live_places n (suc k) cuts else live_places (suc n) (suc k) cuts) i d) (if t then c ∷ live_cuts n cuts else live_cuts (suc n) cuts) i
    by true zero r q within = first-placed k c cuts (live_cuts n cuts)
    by true (suc i) r q within =
        beside k (c ∷ cuts) (get_or (live_places n (suc k) cuts) i d) c (live_cuts n cuts) i (later k c cuts (get_or (live_places n (suc k) cuts) i d) (live_cuts n cuts) i (r i (omega arith)))
    by false i r q within = later k c cuts (get_or (live_places (suc n) (suc k) cuts) i d) (live_cuts (suc n) cuts) i (q i within)

pub places-rise : (n k : ℕ) (cuts : List CutRow) (i j d : ℕ) → i < j → j < length (live_places n k cuts) → get_or (live_places n k cuts) i d < get_or (live_places n k cuts) j d
places-rise zero k cuts i j d less below = absurd (omega arith)
places-rise (suc n) k [] i j d less below = absurd (omega arith)
places-rise (suc n) k (c ∷ cuts) i j d less below = by c.live i j (λ a b l w. places-rise n (suc k) cuts a b d l w) (λ a b l w. places-rise (suc n) (suc k) cuts a b d l w) less below
  where
    by : (t : Bool) (i j : ℕ) → ((a b : ℕ) → a < b → b < length (live_places n (suc k) cuts) → get_or (live_places n (suc k) cuts) a d < get_or (live_places n (suc k) cuts) b d)
        → ((a b : ℕ) → a < b → b < length (live_places (suc n) (suc k) cuts) → get_or (live_places (suc n) (suc k) cuts) a d < get_or (live_places (suc n) (suc k) cuts) b d)
        → i < j → j < length (if t then k ∷ live_places n (suc k) cuts else live_places (suc n) (suc k) cuts)
        → get_or (if t then k ∷ live_places n (suc k) cuts else live_places (suc n) (suc k) cuts) i d < get_or (if t then k ∷ live_places n (suc k) cuts else live_places (suc n) (suc k) cuts) j d
    by true i zero r q less within = absurd (omega arith)
    by true zero (suc j) r q less within =
        let size = places-length n (suc k) cuts in
        let low : suc k ≤ get_or (live_places n (suc k) cuts) j d = (placed n (suc k) cuts j d (omega (arith, size))).low in
        omega (arith, low)
    by true (suc i) (suc j) r q less within = r i j (omega arith) (omega arith)
    by false i j r q less within = q i j less within

-- the cuts of a relaxation are those of the pool at their places
pub live-at : (n : ℕ) (pool : List CutRow) → AreAt pool (live_cuts n pool) (live_places n 0 pool)
live-at n pool = record {
  each = places-length n 0 pool;
  are = λ k c below. let h = placed n 0 pool k 0 below in ap (λ p. get_or pool p c) (from_zero (get_or (live_places n 0 pool) k 0)) ∙ h.is c;
  rising = λ i j d less below. places-rise n 0 pool i j d less below;
  there = λ i d below. let size = places-length n 0 pool in let high : get_or (live_places n 0 pool) i d < 0 + length pool = (placed n 0 pool i d (omega (arith, size))).high in omega (arith, high);
}
  where
    from_zero : (p : ℕ) → p ≡ p - 0
    from_zero p = omega arith

-- ---- more cuts that count

pub live-append : (n : ℕ) (a b : List CutRow) → live_cuts n (a ++ b) ≡ live_cuts n a ++ live_cuts (n - length (live_cuts n a)) b
live-append zero a b = let e : zero - 0 ≡ zero = omega arith in ap (λ m. live_cuts m b) (sym e)
live-append (suc n) [] b = let e : suc n - 0 ≡ suc n = omega arith in ap (λ m. live_cuts m b) (sym e)
live-append (suc n) (c ∷ a) b = by c.live (live-append n a b) (live-append (suc n) a b)
  where
    by : (t : Bool) → live_cuts n (a ++ b) ≡ live_cuts n a ++ live_cuts (n - length (live_cuts n a)) b → live_cuts (suc n) (a ++ b) ≡ live_cuts (suc n) a ++ live_cuts (suc n - length (live_cuts (suc n) a)) b
        → (if t then c ∷ live_cuts n (a ++ b) else live_cuts (suc n) (a ++ b)) ≡ (if t then c ∷ live_cuts n a else live_cuts (suc n) a) ++ live_cuts (suc n - length (if t then c ∷ live_cuts n a else live_cuts (suc n) a)) b
    by true h k =
        let e : suc n - suc (length (live_cuts n a)) ≡ n - length (live_cuts n a) = omega arith in
        ap (λ l. c ∷ l) h ∙ ap (λ m. c ∷ (live_cuts n a ++ live_cuts m b)) (sym e)
    by false h k = k

pub places-append : (n k : ℕ) (a b : List CutRow) → live_places n k (a ++ b) ≡ live_places n k a ++ live_places (n - length (live_cuts n a)) (k + length a) b
places-append zero k a b = let e : zero - 0 ≡ zero = omega arith in ap (λ m. live_places m (k + length a) b) (sym e)
places-append (suc n) k [] b =
    let e : suc n - 0 ≡ suc n = omega arith in
    let f : k + 0 ≡ k = omega arith in
    (λ i. live_places (sym e i) (sym f i) b)
places-append (suc n) k (c ∷ a) b = by c.live (places-append n (suc k) a b) (places-append (suc n) (suc k) a b)
  where
    f : k + suc (length a) ≡ suc k + length a
    f = omega arith

    by : (t : Bool) → live_places n (suc k) (a ++ b) ≡ live_places n (suc k) a ++ live_places (n - length (live_cuts n a)) (suc k + length a) b
        → live_places (suc n) (suc k) (a ++ b) ≡ live_places (suc n) (suc k) a ++ live_places (suc n - length (live_cuts (suc n) a)) (suc k + length a) b
        → (if t then k ∷ live_places n (suc k) (a ++ b) else live_places (suc n) (suc k) (a ++ b))
        ≡ (if t then k ∷ live_places n (suc k) a else live_places (suc n) (suc k) a) ++ live_places (suc n - length (if t then c ∷ live_cuts n a else live_cuts (suc n) a)) (k + suc (length a)) b
    by true h r =
        let e : suc n - suc (length (live_cuts n a)) ≡ n - length (live_cuts n a) = omega arith in
        ap (λ l. k ∷ l) h ∙ (λ i. k ∷ (live_places n (suc k) a ++ live_places (sym e i) (sym f i) b))
    by false h r = r ∙ ap (λ p. live_places (suc n) (suc k) a ++ live_places (suc n - length (live_cuts (suc n) a)) p b) (sym f)

pub live-same : (n : ℕ) (b : List CutRow) → AreAllLive b → length b ≤ n → live_cuts n b ≡ b
live-same zero [] live few = refl
live-same zero (c ∷ b) live few = absurd (omega arith)
live-same (suc n) [] live few = refl
live-same (suc n) (c ∷ b) live few =
    let on : c.live ≡ true = live 0 c (omega arith) in
    ap (λ t. if t then c ∷ live_cuts n b else live_cuts (suc n) b) on ∙ ap (λ l. c ∷ l) (live-same n b (All-tail (λ (d : CutRow). IsTrue d.live) c b live) (omega arith))

pub places-same : (n k : ℕ) (b : List CutRow) → AreAllLive b → length b ≤ n → live_places n k b ≡ places_from k (length b)
places-same zero k [] live few = refl
places-same zero k (c ∷ b) live few = absurd (omega arith)
places-same (suc n) k [] live few = refl
places-same (suc n) k (c ∷ b) live few =
    let on : c.live ≡ true = live 0 c (omega arith) in
    ap (λ t. if t then k ∷ live_places n (suc k) b else live_places (suc n) (suc k) b) on ∙ ap (λ l. k ∷ l) (places-same n (suc k) b (All-tail (λ (d : CutRow). IsTrue d.live) c b live) (omega arith))

-- all cuts of a longer list that count, where the further ones do and have room
module _ (n : ℕ) (a b : List CutRow) (live : AreAllLive b) (few : length (live_cuts n a) + length b ≤ n) where
  room : length b ≤ n - length (live_cuts n a)
  room = omega arith

  pub live-more : live_cuts n (a ++ b) ≡ live_cuts n a ++ b
  live-more = live-append n a b ∙ ap (λ l. live_cuts n a ++ l) (live-same (n - length (live_cuts n a)) b live room)

  pub places-more : live_places n 0 (a ++ b) ≡ live_places n 0 a ++ places_from (length a) (length b)
  places-more =
      let e : 0 + length a ≡ length a = omega arith in
      places-append n 0 a b ∙ ap (λ p. live_places n 0 a ++ live_places (n - length (live_cuts n a)) p b) e
      ∙ ap (λ l. live_places n 0 a ++ l) (places-same (n - length (live_cuts n a)) (length a) b live room)

-- one place more
pub places-push : (k n : ℕ) → places_from k n ++ (k + n) ∷ [] ≡ places_from k (suc n)
places-push k zero = let e : k + 0 ≡ k = omega arith in ap (λ p. p ∷ []) e
places-push k (suc n) = let e : k + suc n ≡ suc k + n = omega arith in ap (λ p. k ∷ (places_from (suc k) n ++ p ∷ [])) e ∙ ap (λ l. k ∷ l) (places-push (suc k) n)

-- the activity of one cut more
pub variables-push : (k n : ℕ) → cut_variables k n ++ Cut (record { 0 = k + n }) ∷ [] ≡ cut_variables k (suc n)
variables-push k zero = let e : k + 0 ≡ k = omega arith in ap (λ p. Cut (record { 0 = p }) ∷ []) e
variables-push k (suc n) =
    let e : k + suc n ≡ suc k + n = omega arith in
    ap (λ p. Cut (record { 0 = k }) ∷ (cut_variables (suc k) n ++ Cut (record { 0 = p }) ∷ [])) e ∙ ap (λ l. Cut (record { 0 = k }) ∷ l) (variables-push (suc k) n)

-- ---- the cuts of a pool one after the other

live-none : (m : ℕ) → live_cuts m [] ≡ []
live-none zero = refl
live-none (suc m) = refl

places-none : (m k : ℕ) → live_places m k [] ≡ []
places-none zero k = refl
places-none (suc m) k = refl

-- a cut that counts, where there is room
live-one : (m : ℕ) (c : CutRow) → 0 < m → c.live ≡ true → live_cuts m (c ∷ []) ≡ c ∷ []
live-one zero c some on = absurd (omega (arith, some))
live-one (suc m) c some on = ap (λ t. if t then c ∷ live_cuts m [] else live_cuts (suc m) []) on ∙ ap (λ l. c ∷ l) (live-none m)

places-one : (m k : ℕ) (c : CutRow) → 0 < m → c.live ≡ true → live_places m k (c ∷ []) ≡ k ∷ []
places-one zero k c some on = absurd (omega (arith, some))
places-one (suc m) k c some on = ap (λ t. if t then k ∷ live_places m (suc k) [] else live_places (suc m) (suc k) []) on ∙ ap (λ l. k ∷ l) (places-none m (suc k))

-- one that does not count
live-not : (m : ℕ) (c : CutRow) → c.live ≡ false → live_cuts m (c ∷ []) ≡ []
live-not zero c off = refl
live-not (suc m) c off = ap (λ t. if t then c ∷ live_cuts m [] else live_cuts (suc m) []) off

places-not : (m k : ℕ) (c : CutRow) → c.live ≡ false → live_places m k (c ∷ []) ≡ []
places-not zero k c off = refl
places-not (suc m) k c off = ap (λ t. if t then k ∷ live_places m (suc k) [] else live_places (suc m) (suc k) []) off

module _ (cuts : List CutRow) (places : List ℕ) (place : ℕ) (c : CutRow) where
  pub full-kept : 200 ≤ length cuts → cuts ≡ cuts ++ live_cuts (200 - length cuts) (c ∷ [])
  full-kept full = let none : 200 - length cuts ≡ 0 = omega (arith, full) in sym (ap (λ m. cuts ++ live_cuts m (c ∷ [])) none ∙ append-nil cuts)

  pub full-places : 200 ≤ length cuts → places ≡ places ++ live_places (200 - length cuts) place (c ∷ [])
  full-places full = let none : 200 - length cuts ≡ 0 = omega (arith, full) in sym (ap (λ m. places ++ live_places m place (c ∷ [])) none ∙ append-nil places)

  pub dead-kept : c.live ≡ false → cuts ≡ cuts ++ live_cuts (200 - length cuts) (c ∷ [])
  dead-kept off = sym (ap (λ l. cuts ++ l) (live-not (200 - length cuts) c off) ∙ append-nil cuts)

  pub dead-places : c.live ≡ false → places ≡ places ++ live_places (200 - length cuts) place (c ∷ [])
  dead-places off = sym (ap (λ l. places ++ l) (places-not (200 - length cuts) place c off) ∙ append-nil places)

  pub live-kept : length cuts < 200 → c.live ≡ true → cuts ++ c ∷ [] ≡ cuts ++ live_cuts (200 - length cuts) (c ∷ [])
  live-kept room on = ap (λ l. cuts ++ l) (sym (live-one (200 - length cuts) c (omega (arith, room)) on))

  pub live-placed : length cuts < 200 → c.live ≡ true → places ++ place ∷ [] ≡ places ++ live_places (200 - length cuts) place (c ∷ [])
  live-placed room on = ap (λ l. places ++ l) (sym (places-one (200 - length cuts) place c (omega (arith, room)) on))

-- the first k cuts of a pool, and the next
module _ (pool : List CutRow) (k : ℕ) (c : CutRow) (below : k < length pool) (is : c ≡ get_or pool k c) where
  pub live-next : (cuts after : List CutRow) → cuts ≡ live_cuts 200 (take k pool) → after ≡ cuts ++ live_cuts (200 - length cuts) (c ∷ []) → after ≡ live_cuts 200 (take (k + 1) pool)
  live-next cuts after so_far e =
      e ∙ ap (λ l. l ++ live_cuts (200 - length l) (c ∷ [])) so_far
      ∙ sym (live-append 200 (take k pool) (c ∷ []))
      ∙ ap (λ l. live_cuts 200 l) (sym (take-next pool k c below is))

  pub places-next : (cuts : List CutRow) (places after : List ℕ) → cuts ≡ live_cuts 200 (take k pool) → places ≡ live_places 200 0 (take k pool) → after ≡ places ++ live_places (200 - length cuts) k (c ∷ []) → after ≡ live_places 200 0 (take (k + 1) pool)
  places-next cuts places after so_far placed e =
      let count : length (take k pool) ≡ k = length-take-le k pool (omega (arith, below)) in
      let from : k ≡ 0 + length (take k pool) = omega (arith, count) in
      e ∙ (λ i. placed i ++ live_places (200 - length (so_far i)) (from i) (c ∷ []))
      ∙ sym (places-append 200 0 (take k pool) (c ∷ []))
      ∙ ap (λ l. live_places 200 0 l) (sym (take-next pool k c below is))
