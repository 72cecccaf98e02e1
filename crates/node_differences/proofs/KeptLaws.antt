-- What is had from lists that rise rises, and has only what they have.
use Rattle.std.specs.Prelude.{◌≡◌, ◌⊎◌, ℕ, suc, Bool, true, false, ◌&&◌, not, if◌then◌else◌, List, [], ◌∷◌, get_or, All, Contains, Ok, Err}
use Rattle.std.specs.List.{list_all}
use Rattle.std.proofs.Common.{refl, ap₂, subst, inl, inr}
use Rattle.std.proofs.lemmas.List.Elements.{All-nil, All-cons, All-head, All-tail, All-contains, All-contains_itself}
use Rattle.lp_model.specs.Edits.{is_zero}
use Rattle.lp_model.specs.declared.types.Var.{Var}
use Rattle.node_differences.specs.Order.{stands_before, are_rising}
use Rattle.node_differences.specs.Differences.{same_number, gone, differing, difference, put_before, entered, changed_there, all_entered, changed}
use Rattle.node_differences.specs.Told.{are_told_multipliers}
use Rattle.node_differences.proofs.OrderLemmas.{same_variable, HeadBehind, Rising, rising, are-rising, further}
use Rattle.node_differences.proofs.VariableLaws.{differing-behind}
use Rattle.node_differences.proofs.MultiplierLaws.{Entry, names, NoZeros, Made, either, Can, can, difference-behind}

-- ---- variables

module _ (u : Var) (us : List Var) (own : (vs : List Var) → Rising us → Rising vs → Rising (differing us vs)) where
  rising-two : (v : Var) (vs : List Var) (b c : Bool) → stands_before u v ≡ b → stands_before v u ≡ c → Rising (u ∷ us) → Rising (v ∷ vs) → Rising (differing (u ∷ us) vs)
      → Rising (either b c (u ∷ differing us (v ∷ vs)) (v ∷ differing (u ∷ us) vs) (differing us vs))
  rising-two v vs true c h k r s again = (differing-behind u us (v ∷ vs) r.0 h r.1 s, own (v ∷ vs) r.1 s)
  rising-two v vs false true h k r s again = (differing-behind v (u ∷ us) vs k s.0 r s.1, again)
  rising-two v vs false false h k r s again = own vs r.1 s.1

  rising-behind : (vs : List Var) → Rising (u ∷ us) → Rising vs → Rising (differing (u ∷ us) vs)
  rising-behind [] r s = (differing-behind u us [] r.0 tt r.1 tt, own [] r.1 tt)
  rising-behind (v ∷ vs) r s = rising-two v vs (stands_before u v) (stands_before v u) refl refl r s (rising-behind vs r s.1)

rising-differing : (us vs : List Var) → Rising us → Rising vs → Rising (differing us vs)
rising-differing [] vs r s = s
rising-differing (u ∷ us) vs r s = rising-behind u us (rising-differing us) vs r s

pub variables-rise : (us vs : List Var) → are_rising us ≡ true → are_rising vs ≡ true → are_rising (differing us vs) ≡ true
variables-rise us vs r s = are-rising (differing us vs) (rising-differing us vs (rising us r) (rising vs s))

module _ (P : Var → Type 0) where
  module _ (u : Var) (us : List Var) (own : (vs : List Var) → All P us → All P vs → All P (differing us vs)) where
    each-two : (v : Var) (vs : List Var) (b c : Bool) → All P (u ∷ us) → All P (v ∷ vs) → All P (differing (u ∷ us) vs)
        → All P (either b c (u ∷ differing us (v ∷ vs)) (v ∷ differing (u ∷ us) vs) (differing us vs))
    each-two v vs true c h k again = All-cons P u (differing us (v ∷ vs)) (All-head P u us h) (own (v ∷ vs) (All-tail P u us h) k)
    each-two v vs false true h k again = All-cons P v (differing (u ∷ us) vs) (All-head P v vs k) again
    each-two v vs false false h k again = own vs (All-tail P u us h) (All-tail P v vs k)

    each-behind : (vs : List Var) → All P (u ∷ us) → All P vs → All P (differing (u ∷ us) vs)
    each-behind [] h k = All-cons P u (differing us []) (All-head P u us h) (own [] (All-tail P u us h) (All-nil P))
    each-behind (v ∷ vs) h k = each-two v vs (stands_before u v) (stands_before v u) h k (each-behind vs h (All-tail P v vs k))

  pub each-variable : (us vs : List Var) → All P us → All P vs → All P (differing us vs)
  each-variable [] vs h k = k
  each-variable (u ∷ us) vs h k = each-behind u us (each-variable us) vs h k

-- ---- differences of multipliers

module _ (m : Entry) (ms : List Entry) (own : (ns : List Entry) → Rising (names ms) → Rising (names ns) → Rising (names (difference ms ns))) where
  told-two : (n : Entry) (ns : List Entry) (b c d : Bool) → stands_before m.0 n.0 ≡ b → stands_before n.0 m.0 ≡ c → Rising (names (m ∷ ms)) → Rising (names (n ∷ ns)) → Rising (names (difference (m ∷ ms) ns))
      → Rising (names (either b c (gone m ∷ difference ms (n ∷ ns)) (n ∷ difference (m ∷ ms) ns) (if d then difference ms ns else n ∷ difference ms ns)))
  told-two n ns true c d h k r s again = (difference-behind m.0 ms (n ∷ ns) r.0 h r.1 s, own (n ∷ ns) r.1 s)
  told-two n ns false true d h k r s again = (difference-behind n.0 (m ∷ ms) ns k s.0 r s.1, again)
  told-two n ns false false true h k r s again = own ns r.1 s.1
  told-two n ns false false false h k r s again =
      let same : m.0 ≡ n.0 = same_variable m.0 n.0 h k in
      (difference-behind n.0 ms ns (subst (λ v. HeadBehind v (names ms)) same r.0) s.0 r.1 s.1, own ns r.1 s.1)

  told-behind : (ns : List Entry) → Rising (names (m ∷ ms)) → Rising (names ns) → Rising (names (difference (m ∷ ms) ns))
  told-behind [] r s = (difference-behind m.0 ms [] r.0 tt r.1 tt, own [] r.1 tt)
  told-behind (n ∷ ns) r s = told-two n ns (stands_before m.0 n.0) (stands_before n.0 m.0) (same_number m.1 n.1) refl refl r s (told-behind ns r s.1)

rising-difference : (ms ns : List Entry) → Rising (names ms) → Rising (names ns) → Rising (names (difference ms ns))
rising-difference [] ns r s = s
rising-difference (m ∷ ms) ns r s = told-behind m ms (rising-difference ms) ns r s

pub differences-rise : (ms ns : List Entry) → are_told_multipliers ms ≡ true → are_told_multipliers ns ≡ true → are_rising (names (difference ms ns)) ≡ true
differences-rise ms ns r s = are-rising (names (difference ms ns)) (rising-difference ms ns (can ms r).rises (can ns s).rises)

module _ (P : Entry → Type 0) where
  abbrev Gone : Entry → Type 0
  Gone m = P (gone m)

  module _ (m : Entry) (ms : List Entry) (own : (ns : List Entry) → All Gone ms → All P ns → All P (difference ms ns)) where
    each-told-two : (n : Entry) (ns : List Entry) (b c d : Bool) → All Gone (m ∷ ms) → All P (n ∷ ns) → All P (difference (m ∷ ms) ns)
        → All P (either b c (gone m ∷ difference ms (n ∷ ns)) (n ∷ difference (m ∷ ms) ns) (if d then difference ms ns else n ∷ difference ms ns))
    each-told-two n ns true c d h k again = All-cons P (gone m) (difference ms (n ∷ ns)) (All-head Gone m ms h) (own (n ∷ ns) (All-tail Gone m ms h) k)
    each-told-two n ns false true d h k again = All-cons P n (difference (m ∷ ms) ns) (All-head P n ns k) again
    each-told-two n ns false false true h k again = own ns (All-tail Gone m ms h) (All-tail P n ns k)
    each-told-two n ns false false false h k again = All-cons P n (difference ms ns) (All-head P n ns k) (own ns (All-tail Gone m ms h) (All-tail P n ns k))

    each-told-behind : (ns : List Entry) → All Gone (m ∷ ms) → All P ns → All P (difference (m ∷ ms) ns)
    each-told-behind [] h k = All-cons P (gone m) (difference ms []) (All-head Gone m ms h) (own [] (All-tail Gone m ms h) (All-nil P))
    each-told-behind (n ∷ ns) h k = each-told-two n ns (stands_before m.0 n.0) (stands_before n.0 m.0) (same_number m.1 n.1) h k (each-told-behind ns h (All-tail P n ns k))

  pub each-difference : (ms ns : List Entry) → All Gone ms → All P ns → All P (difference ms ns)
  each-difference [] ns h k = k
  each-difference (m ∷ ms) ns h k = each-told-behind m ms (each-difference ms) ns h k

-- ---- changed multipliers: the first name is behind what both lists are behind, the names rise, and no number is 0

abbrev Fine : List Entry → List Entry → Made → Type 0
Fine ms ds (Ok ns) = ((w : Var) → HeadBehind w (names ms) → HeadBehind w (names ds) → HeadBehind w (names ns)) × (Rising (names ns) × NoZeros ns)
Fine ms ds (Err i) = Unit {0}

-- an entry stands before what is fine behind it
fine-put : (e : Entry) (ms ds ms2 ds2 : List Entry) (rest : Made) → is_zero e.1 ≡ false → HeadBehind e.0 (names ms2) → HeadBehind e.0 (names ds2)
    → ((w : Var) → HeadBehind w (names ms) → HeadBehind w (names ds) → stands_before w e.0 ≡ true) → Fine ms2 ds2 rest → Fine ms ds (put_before e rest)
fine-put e ms ds ms2 ds2 (Ok ns) some h k before fine = (before, ((fine.0 e.0 h k, fine.1.0), (some, fine.1.1)))
fine-put e ms ds ms2 ds2 (Err i) some h k before fine = tt

fine-entered : (ms ms2 : List Entry) (d : Entry) (ds : List Entry) (k : ℕ) (z : Bool) (rest : Made) → is_zero d.1 ≡ z → HeadBehind d.0 (names ms2) → HeadBehind d.0 (names ds)
    → Fine ms2 ds rest → Fine ms (d ∷ ds) (if z then Err k else put_before d rest)
fine-entered ms ms2 d ds k true rest is h g fine = tt
fine-entered ms ms2 d ds k false rest is h g fine = fine-put d ms (d ∷ ds) ms2 ds rest is h g (λ w a b. b) fine

fine-all : (k : ℕ) (ds : List Entry) → Rising (names ds) → Fine [] ds (all_entered k ds)
fine-all k [] s = ((λ w h g. tt), (tt, tt))
fine-all k (d ∷ ds) s = fine-entered [] [] d ds k (is_zero d.1) (all_entered (suc k) ds) refl tt s.0 (fine-all (suc k) ds s.1)

module _ (m : Entry) (ms : List Entry) (own : (k : ℕ) (ds : List Entry) → Can ms → Rising (names ds) → Fine ms ds (changed ms k ds)) where
  fine-there : (d : Entry) (ds : List Entry) (k : ℕ) (s z : Bool) (rest : Made) → m.0 ≡ d.0 → is_zero d.1 ≡ z → HeadBehind m.0 (names ms) → HeadBehind d.0 (names ds) → Fine ms ds rest
      → Fine (m ∷ ms) (d ∷ ds) (if s then Err k else if z then rest else put_before d rest)
  fine-there d ds k true z rest same is h g fine = tt
  fine-there d ds k false true (Ok ns) same is h g fine = ((λ w a b. fine.0 w (further w m.0 (names ms) a h) (further w d.0 (names ds) b g)), fine.1)
  fine-there d ds k false true (Err i) same is h g fine = tt
  fine-there d ds k false false rest same is h g fine = fine-put d (m ∷ ms) (d ∷ ds) ms ds rest is (subst (λ v. HeadBehind v (names ms)) same h) g (λ w a b. b) fine

  fine-two : (d : Entry) (ds : List Entry) (k : ℕ) (b c : Bool) → stands_before m.0 d.0 ≡ b → stands_before d.0 m.0 ≡ c → Can (m ∷ ms) → Rising (names (d ∷ ds)) → ((j : ℕ) → Fine (m ∷ ms) ds (changed (m ∷ ms) j ds))
      → Fine (m ∷ ms) (d ∷ ds) (either b c (put_before m (changed ms k (d ∷ ds))) (entered k d (changed (m ∷ ms) (suc k) ds)) (changed_there k m d (changed ms (suc k) ds)))
  fine-two d ds k true c h g p s again =
      let rest : Can ms = record { rises = p.rises.1; some = p.some.1 } in
      fine-put m (m ∷ ms) (d ∷ ds) ms (d ∷ ds) (changed ms k (d ∷ ds)) p.some.0 p.rises.0 h (λ w a b. a) (own k (d ∷ ds) rest s)
  fine-two d ds k false true h g p s again = fine-entered (m ∷ ms) (m ∷ ms) d ds k (is_zero d.1) (changed (m ∷ ms) (suc k) ds) refl g s.0 (again (suc k))
  fine-two d ds k false false h g p s again =
      let rest : Can ms = record { rises = p.rises.1; some = p.some.1 } in
      fine-there d ds k (same_number m.1 d.1) (is_zero d.1) (changed ms (suc k) ds) (same_variable m.0 d.0 h g) refl p.rises.0 s.0 (own (suc k) ds rest s.1)

  fine-behind : (ds : List Entry) → Can (m ∷ ms) → Rising (names ds) → (k : ℕ) → Fine (m ∷ ms) ds (changed (m ∷ ms) k ds)
  fine-behind [] p s = λ k.
      let rest : Can ms = record { rises = p.rises.1; some = p.some.1 } in
      fine-put m (m ∷ ms) [] ms [] (changed ms k []) p.some.0 p.rises.0 tt (λ w a b. a) (own k [] rest tt)
  fine-behind (d ∷ ds) p s = λ k. fine-two d ds k (stands_before m.0 d.0) (stands_before d.0 m.0) refl refl p s (fine-behind ds p s.1)

fine : (ms : List Entry) (k : ℕ) (ds : List Entry) → Can ms → Rising (names ds) → Fine ms ds (changed ms k ds)
fine [] k ds p s = fine-all k ds s
fine (m ∷ ms) k ds p s = fine-behind m ms (fine ms) ds p s k

told-by : (ns : List Entry) → Rising (names ns) → NoZeros ns → are_told_multipliers ns ≡ true
told-by ns r z = ap₂ (λ b c. b && c) (are-rising (names ns) r) (none ns z)
  where
    none : (es : List Entry) → NoZeros es → list_all (λ (e : Entry). not (is_zero e.1)) es ≡ true
    none [] h = refl
    none (e ∷ es) h = ap₂ (λ b c. not b && c) h.0 (none es h.1)

pub multipliers-rise : (ms ds ns : List Entry) (k : ℕ) → are_told_multipliers ms ≡ true → are_rising (names ds) ≡ true → changed ms k ds ≡ Ok ns → are_told_multipliers ns ≡ true
multipliers-rise ms ds ns k p s e =
    let f : Fine ms ds (Ok ns) = subst (Fine ms ds) e (fine ms k ds (can ms p) (rising (names ds) s)) in
    told-by ns f.1.0 f.1.1

-- ---- each of the changed multipliers

module _ (P : Entry → Type 0) where
  abbrev Some : Entry → Type 0
  Some d = is_zero d.1 ≡ false → P d

  abbrev Each : Made → Type 0
  Each (Ok ns) = All P ns
  Each (Err i) = Unit {0}

  each-put : (e : Entry) (rest : Made) → P e → Each rest → Each (put_before e rest)
  each-put e (Ok ns) p h = All-cons P e ns p h
  each-put e (Err i) p h = tt

  each-entered : (d : Entry) (k : ℕ) (z : Bool) (rest : Made) → is_zero d.1 ≡ z → Some d → Each rest → Each (if z then Err k else put_before d rest)
  each-entered d k true rest is p h = tt
  each-entered d k false rest is p h = each-put d rest (p is) h

  each-there : (d : Entry) (k : ℕ) (s z : Bool) (rest : Made) → is_zero d.1 ≡ z → Some d → Each rest → Each (if s then Err k else if z then rest else put_before d rest)
  each-there d k true z rest is p h = tt
  each-there d k false true rest is p h = h
  each-there d k false false rest is p h = each-put d rest (p is) h

  each-all : (k : ℕ) (ds : List Entry) → All Some ds → Each (all_entered k ds)
  each-all k [] h = All-nil P
  each-all k (d ∷ ds) h = each-entered d k (is_zero d.1) (all_entered (suc k) ds) refl (All-head Some d ds h) (each-all (suc k) ds (All-tail Some d ds h))

  module _ (m : Entry) (ms : List Entry) (own : (k : ℕ) (ds : List Entry) → All P ms → All Some ds → Each (changed ms k ds)) where
    each-made-two : (d : Entry) (ds : List Entry) (k : ℕ) (b c : Bool) → All P (m ∷ ms) → All Some (d ∷ ds) → ((j : ℕ) → Each (changed (m ∷ ms) j ds))
        → Each (either b c (put_before m (changed ms k (d ∷ ds))) (entered k d (changed (m ∷ ms) (suc k) ds)) (changed_there k m d (changed ms (suc k) ds)))
    each-made-two d ds k true c h g again = each-put m (changed ms k (d ∷ ds)) (All-head P m ms h) (own k (d ∷ ds) (All-tail P m ms h) g)
    each-made-two d ds k false true h g again = each-entered d k (is_zero d.1) (changed (m ∷ ms) (suc k) ds) refl (All-head Some d ds g) (again (suc k))
    each-made-two d ds k false false h g again =
        each-there d k (same_number m.1 d.1) (is_zero d.1) (changed ms (suc k) ds) refl (All-head Some d ds g) (own (suc k) ds (All-tail P m ms h) (All-tail Some d ds g))

    each-made-behind : (ds : List Entry) → All P (m ∷ ms) → All Some ds → (k : ℕ) → Each (changed (m ∷ ms) k ds)
    each-made-behind [] h g = λ k. each-put m (changed ms k []) (All-head P m ms h) (own k [] (All-tail P m ms h) (All-nil Some))
    each-made-behind (d ∷ ds) h g = λ k. each-made-two d ds k (stands_before m.0 d.0) (stands_before d.0 m.0) h g (each-made-behind ds h (All-tail Some d ds g))

  each-made : (ms : List Entry) (k : ℕ) (ds : List Entry) → All P ms → All Some ds → Each (changed ms k ds)
  each-made [] k ds h g = each-all k ds g
  each-made (m ∷ ms) k ds h g = each-made-behind m ms (each-made ms) ds h g k

  pub each-multiplier : (ms ds ns : List Entry) (k : ℕ) → All P ms → All Some ds → changed ms k ds ≡ Ok ns → All P ns
  each-multiplier ms ds ns k h g e = subst Each e (each-made ms k ds h g)

-- ---- what lists have

pub variables-from : (us vs : List Var) (v : Var) → Contains (differing us vs) v → Contains us v ⊎ Contains vs v
variables-from us vs v h =
    let From : Var → Type 0 = λ w. Contains us w ⊎ Contains vs w in
    All-contains From (differing us vs) v (each-variable From us vs (λ k d lt. inl (All-contains_itself us k d lt)) (λ k d lt. inr (All-contains_itself vs k d lt))) h

pub differences-from : (ms ns : List Entry) (d : Entry) → Contains (difference ms ns) d → ((m : Entry) × (Contains ms m × (gone m ≡ d))) ⊎ Contains ns d
differences-from ms ns d h =
    let From : Entry → Type 0 = λ e. ((m : Entry) × (Contains ms m × (gone m ≡ e))) ⊎ Contains ns e in
    All-contains From (difference ms ns) d (each-difference From ms ns (λ k x lt. inl (get_or ms k x, (All-contains_itself ms k x lt, refl))) (λ k x lt. inr (All-contains_itself ns k x lt))) h

pub multipliers-from : (ms ds ns : List Entry) (k : ℕ) (n : Entry) → changed ms k ds ≡ Ok ns → Contains ns n → Contains ms n ⊎ (Contains ds n × (is_zero n.1 ≡ false))
multipliers-from ms ds ns k n e h =
    let From : Entry → Type 0 = λ x. Contains ms x ⊎ (Contains ds x × (is_zero x.1 ≡ false)) in
    All-contains From ns n (each-multiplier From ms ds ns k (λ i d lt. inl (All-contains_itself ms i d lt)) (λ i d lt some. inr (All-contains_itself ds i d lt, some)) e) h
