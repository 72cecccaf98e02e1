-- The next variable of two lists, and what stays of merges behind it.
use Rattle.std.specs.Prelude.{◌≡◌, ℕ, suc, ◌+◌, ◌<◌, Bool, true, false, if◌then◌else◌, List, [], ◌∷◌, ◌++◌, length, Option, Some, None, Result, Ok, Err}
use Rattle.std.proofs.Common.{refl, sym, ap, ap₂, subst, ◌∙◌, append_assoc, append-nil, arith}
use Rattle.frac128.specs.Rational.{ℚ}
use Rattle.lp_model.specs.Edits.{is_zero}
use Rattle.lp_model.specs.declared.types.Var.{Var}
use Rattle.node_differences.specs.Order.{stands_before}
use Rattle.node_differences.specs.Differences.{same_number, gone, differing, difference, put_before, entered, changed_there, all_entered, changed}
use Rattle.node_differences.specs.private.Next.{next_in, first_behind, second_behind, passed_in}
use Rattle.node_differences.specs.private.Steps.{as_list, alone_in, told_in, made_in}
use Rattle.node_differences.specs.declared.order.Next.{Next}
use Rattle.node_differences.specs.declared.order.Next.TheVariants.{First, Second, Both}

abbrev pub Entry : Type 0
Entry = Var × ℚ

abbrev pub Made : Type 0
Made = Result (List Entry) ℕ

-- which list is next, where each has one
abbrev turn : Bool → Bool → Next
turn b c = if b then First else if c then Second else Both

-- ---- both lists become shorter

module _ {A : Type 0} (variable : A → Var) where
  abbrev Shorter : Next → List A → List A → Type 0
  Shorter next as_ bs = length (first_behind next as_) + length (second_behind next bs) < length as_ + length bs

  shorter-two : (a b : A) (as_ bs : List A) (c d : Bool) → Shorter (turn c d) (a ∷ as_) (b ∷ bs)
  shorter-two a b as_ bs true d = omega arith
  shorter-two a b as_ bs false true = omega arith
  shorter-two a b as_ bs false false = omega arith

  pub shorter : (as_ bs : List A) (next : Next) → Some next ≡ next_in variable as_ bs → Shorter next as_ bs
  shorter [] [] next e = absurd (cc)
  shorter [] (b ∷ bs) next e = let same : Second ≡ next = cc in subst (λ n. Shorter n [] (b ∷ bs)) same (omega arith)
  shorter (a ∷ as_) [] next e = let same : First ≡ next = cc in subst (λ n. Shorter n (a ∷ as_) []) same (omega arith)
  shorter (a ∷ as_) (b ∷ bs) next e =
      let same : turn (stands_before (variable a) (variable b)) (stands_before (variable b) (variable a)) ≡ next = cc in
      subst (λ n. Shorter n (a ∷ as_) (b ∷ bs)) same (shorter-two a b as_ bs (stands_before (variable a) (variable b)) (stands_before (variable b) (variable a)))

  -- what is passed of the second list
  abbrev Passed : Next → List A → Type 0
  Passed next bs = passed_in next + length (second_behind next bs) ≡ length bs

  passed-two : (b : A) (bs : List A) (c d : Bool) → Passed (turn c d) (b ∷ bs)
  passed-two b bs true d = omega arith
  passed-two b bs false true = omega arith
  passed-two b bs false false = omega arith

  pub passed : (as_ bs : List A) (next : Next) → Some next ≡ next_in variable as_ bs → Passed next bs
  passed [] [] next e = absurd (cc)
  passed [] (b ∷ bs) next e = let same : Second ≡ next = cc in subst (λ n. Passed n (b ∷ bs)) same (omega arith)
  passed (a ∷ as_) [] next e = let same : First ≡ next = cc in subst (λ n. Passed n []) same (omega arith)
  passed (a ∷ as_) (b ∷ bs) next e =
      let same : turn (stands_before (variable a) (variable b)) (stands_before (variable b) (variable a)) ≡ next = cc in
      subst (λ n. Passed n (b ∷ bs)) same (passed-two b bs (stands_before (variable a) (variable b)) (stands_before (variable b) (variable a)))

  -- none is left where none is next
  pub both_done : (as_ bs : List A) → None ≡ next_in variable as_ bs → (as_ ≡ []) × (bs ≡ [])
  both_done [] [] e = (refl, refl)
  both_done [] (b ∷ bs) e = absurd (cc)
  both_done (a ∷ as_) [] e = absurd (cc)
  both_done (a ∷ as_) (b ∷ bs) e = absurd (cc)

-- ---- variables in one list alone

abbrev own : Var → Var
own v = v

abbrev AloneStep : List Var → List Var → Next → Type 0
AloneStep us vs next = differing us vs ≡ as_list (alone_in next us vs) ++ differing (first_behind next us) (second_behind next vs)

alone-two : (u v : Var) (us vs : List Var) (b c : Bool) →
    (if b then u ∷ differing us (v ∷ vs) else if c then v ∷ differing (u ∷ us) vs else differing us vs)
    ≡ as_list (alone_in (turn b c) (u ∷ us) (v ∷ vs)) ++ differing (first_behind (turn b c) (u ∷ us)) (second_behind (turn b c) (v ∷ vs))
alone-two u v us vs true c = refl
alone-two u v us vs false true = refl
alone-two u v us vs false false = refl

alone-step : (us vs : List Var) (next : Next) → Some next ≡ next_in own us vs → AloneStep us vs next
alone-step [] [] next e = absurd (cc)
alone-step [] (v ∷ vs) next e = let same : Second ≡ next = cc in subst (λ n. AloneStep [] (v ∷ vs) n) same refl
alone-step (u ∷ us) [] next e = let same : First ≡ next = cc in subst (λ n. AloneStep (u ∷ us) [] n) same refl
alone-step (u ∷ us) (v ∷ vs) next e =
    let same : turn (stands_before u v) (stands_before v u) ≡ next = cc in
    subst (λ n. AloneStep (u ∷ us) (v ∷ vs) n) same (alone-two u v us vs (stands_before u v) (stands_before v u))

-- what was found, and what is still to be found, are the whole
joined-next : {A : Type 0} (found longer step rest was all : List A) → longer ≡ found ++ step → was ≡ step ++ rest → found ++ was ≡ all → longer ++ rest ≡ all
joined-next found longer step rest was all more is whole = ap (λ l. l ++ rest) more ∙ append_assoc found step rest ∙ ap (λ l. found ++ l) (sym is) ∙ whole

pub alone-kept : (found longer us vs us2 vs2 all : List Var) (next : Next) (item : Option Var) → Some next ≡ next_in own us vs → item ≡ alone_in next us vs → longer ≡ found ++ as_list item
    → us2 ≡ first_behind next us → vs2 ≡ second_behind next vs → found ++ differing us vs ≡ all → longer ++ differing us2 vs2 ≡ all
alone-kept found longer us vs us2 vs2 all next item e is more first second whole =
    let step : differing us vs ≡ as_list item ++ differing us2 vs2 =
    alone-step us vs next e ∙ ap₂ (λ l r. l ++ r) (ap as_list (sym is)) (ap₂ differing (sym first) (sym second)) in
    joined-next found longer (as_list item) (differing us2 vs2) (differing us vs) all more step whole

pub alone-done : (found us vs all : List Var) → None ≡ next_in own us vs → found ++ differing us vs ≡ all → found ≡ all
alone-done found us vs all e whole =
    let done = both_done own us vs e in
    let none : differing us vs ≡ [] = ap₂ differing done.0 done.1 in
    sym (append-nil found) ∙ ap (λ l. found ++ l) (sym none) ∙ whole

-- ---- differences of multipliers

abbrev pub named : Entry → Var
named m = m.0

abbrev ToldStep : List Entry → List Entry → Next → Type 0
ToldStep ms ns next = difference ms ns ≡ as_list (told_in next ms ns) ++ difference (first_behind next ms) (second_behind next ns)

told-two : (m n : Entry) (ms ns : List Entry) (b c d : Bool) →
    (if b then gone m ∷ difference ms (n ∷ ns) else if c then n ∷ difference (m ∷ ms) ns else if d then difference ms ns else n ∷ difference ms ns)
    ≡ as_list (if b then Some (gone m) else if c then Some n else if d then None else Some n) ++ difference (first_behind (turn b c) (m ∷ ms)) (second_behind (turn b c) (n ∷ ns))
told-two m n ms ns true c d = refl
told-two m n ms ns false true d = refl
told-two m n ms ns false false true = refl
told-two m n ms ns false false false = refl

told-here : (m n : Entry) (ms ns : List Entry) (b c : Bool) →
    (if b then Some (gone m) else if c then Some n else if same_number m.1 n.1 then None else Some n) ≡ told_in (turn b c) (m ∷ ms) (n ∷ ns)
told-here m n ms ns true c = refl
told-here m n ms ns false true = refl
told-here m n ms ns false false = refl

told-step : (ms ns : List Entry) (next : Next) → Some next ≡ next_in named ms ns → ToldStep ms ns next
told-step [] [] next e = absurd (cc)
told-step [] (n ∷ ns) next e = let same : Second ≡ next = cc in subst (λ t. ToldStep [] (n ∷ ns) t) same refl
told-step (m ∷ ms) [] next e = let same : First ≡ next = cc in subst (λ t. ToldStep (m ∷ ms) [] t) same refl
told-step (m ∷ ms) (n ∷ ns) next e =
    let b = stands_before m.0 n.0 in
    let c = stands_before n.0 m.0 in
    let same : turn b c ≡ next = cc in
    subst (λ t. ToldStep (m ∷ ms) (n ∷ ns) t) same
    (told-two m n ms ns b c (same_number m.1 n.1)
    ∙ ap (λ o. as_list o ++ difference (first_behind (turn b c) (m ∷ ms)) (second_behind (turn b c) (n ∷ ns))) (told-here m n ms ns b c))

pub told-kept : (found longer ms ns ms2 ns2 all : List Entry) (next : Next) (item : Option Entry) → Some next ≡ next_in named ms ns → item ≡ told_in next ms ns → longer ≡ found ++ as_list item
    → ms2 ≡ first_behind next ms → ns2 ≡ second_behind next ns → found ++ difference ms ns ≡ all → longer ++ difference ms2 ns2 ≡ all
told-kept found longer ms ns ms2 ns2 all next item e is more first second whole =
    let step : difference ms ns ≡ as_list item ++ difference ms2 ns2 =
    told-step ms ns next e ∙ ap₂ (λ l r. l ++ r) (ap as_list (sym is)) (ap₂ difference (sym first) (sym second)) in
    joined-next found longer (as_list item) (difference ms2 ns2) (difference ms ns) all more step whole

pub told-done : (found ms ns all : List Entry) → None ≡ next_in named ms ns → found ++ difference ms ns ≡ all → found ≡ all
told-done found ms ns all e whole =
    let done = both_done named ms ns e in
    let none : difference ms ns ≡ [] = ap₂ difference done.0 done.1 in
    sym (append-nil found) ∙ ap (λ l. found ++ l) (sym none) ∙ whole

-- ---- changed multipliers

-- entries, and those behind them where there is no fault
abbrev pub joined : List Entry → Made → Made
joined found (Ok ms) = Ok (found ++ ms)
joined found (Err i) = Err i

put-joined : (m : Entry) (r : Made) → put_before m r ≡ joined (m ∷ []) r
put-joined m (Ok ms) = refl
put-joined m (Err i) = refl

none-joined : (r : Made) → r ≡ joined [] r
none-joined (Ok ms) = refl
none-joined (Err i) = refl

joined-twice : (found step : List Entry) (r : Made) → joined (found ++ step) r ≡ joined found (joined step r)
joined-twice found step (Ok ms) = ap (λ l. Ok l) (append_assoc found step ms)
joined-twice found step (Err i) = refl

-- what the next one comes to, where its change says something
abbrev MadeStep : List Entry → List Entry → ℕ → Next → Made → Type 0
MadeStep ms ds k next r =
    (entry : Option Entry) (k2 : ℕ) → Some entry ≡ made_in next ms ds → k2 ≡ k + passed_in next → r ≡ joined (as_list entry) (changed (first_behind next ms) k2 (second_behind next ds))

abbrev next_place : (k k2 : ℕ) → k2 ≡ k + 1 → k2 ≡ suc k
next_place k k2 e = omega (arith, e)

abbrev same_place : (k k2 : ℕ) → k2 ≡ k + 0 → k2 ≡ k
same_place k k2 e = omega (arith, e)

made-new : (d : Entry) (z : Bool) (k k2 : ℕ) (entry : Option Entry) (rest : ℕ → Made) → k2 ≡ suc k → Some entry ≡ (if z then None else Some (Some d))
    → (if z then Err k else put_before d (rest (suc k))) ≡ joined (as_list entry) (rest k2)
made-new d true k k2 entry rest at e = absurd (cc)
made-new d false k k2 entry rest at e =
    let is : Some d ≡ entry = cc in
    put-joined d (rest (suc k)) ∙ ap₂ (λ o j. joined (as_list o) (rest j)) is (sym at)

made-there : (d : Entry) (s z : Bool) (k k2 : ℕ) (entry : Option Entry) (rest : ℕ → Made) → k2 ≡ suc k → Some entry ≡ (if s then None else if z then Some None else Some (Some d))
    → (if s then Err k else if z then rest (suc k) else put_before d (rest (suc k))) ≡ joined (as_list entry) (rest k2)
made-there d true z k k2 entry rest at e = absurd (cc)
made-there d false true k k2 entry rest at e =
    let is : None ≡ entry = cc in
    none-joined (rest (suc k)) ∙ ap₂ (λ o j. joined (as_list o) (rest j)) is (sym at)
made-there d false false k k2 entry rest at e =
    let is : Some d ≡ entry = cc in
    put-joined d (rest (suc k)) ∙ ap₂ (λ o j. joined (as_list o) (rest j)) is (sym at)

made-first : (m : Entry) (k k2 : ℕ) (entry : Option Entry) (rest : ℕ → Made) → k2 ≡ k → Some entry ≡ Some (Some m) → put_before m (rest k) ≡ joined (as_list entry) (rest k2)
made-first m k k2 entry rest at e =
    let is : Some m ≡ entry = cc in
    put-joined m (rest k) ∙ ap₂ (λ o j. joined (as_list o) (rest j)) is (sym at)

made-two : (m d : Entry) (ms ds : List Entry) (k : ℕ) (b c : Bool) →
    MadeStep (m ∷ ms) (d ∷ ds) k (turn b c)
    (if b then put_before m (changed ms k (d ∷ ds)) else if c then entered k d (changed (m ∷ ms) (suc k) ds) else changed_there k m d (changed ms (suc k) ds))
made-two m d ms ds k true c = λ entry k2 e at. made-first m k k2 entry (λ j. changed ms j (d ∷ ds)) (same_place k k2 at) e
made-two m d ms ds k false true = λ entry k2 e at. made-new d (is_zero d.1) k k2 entry (λ j. changed (m ∷ ms) j ds) (next_place k k2 at) e
made-two m d ms ds k false false = λ entry k2 e at. made-there d (same_number m.1 d.1) (is_zero d.1) k k2 entry (λ j. changed ms j ds) (next_place k k2 at) e

made-step : (ms ds : List Entry) (k : ℕ) (next : Next) → Some next ≡ next_in named ms ds → MadeStep ms ds k next (changed ms k ds)
made-step [] [] k next e = absurd (cc)
made-step [] (d ∷ ds) k next e =
    let same : Second ≡ next = cc in
    subst (λ t. MadeStep [] (d ∷ ds) k t (changed [] k (d ∷ ds))) same (λ entry k2 is at. made-new d (is_zero d.1) k k2 entry (λ j. all_entered j ds) (next_place k k2 at) is)
made-step (m ∷ ms) [] k next e =
    let same : First ≡ next = cc in
    subst (λ t. MadeStep (m ∷ ms) [] k t (changed (m ∷ ms) k [])) same (λ entry k2 is at. made-first m k k2 entry (λ j. changed ms j []) (same_place k k2 at) is)
made-step (m ∷ ms) (d ∷ ds) k next e =
    let same : turn (stands_before m.0 d.0) (stands_before d.0 m.0) ≡ next = cc in
    subst (λ t. MadeStep (m ∷ ms) (d ∷ ds) k t (changed (m ∷ ms) k (d ∷ ds))) same (made-two m d ms ds k (stands_before m.0 d.0) (stands_before d.0 m.0))

pub made-kept : (found longer ms ds ms2 ds2 : List Entry) (k k2 : ℕ) (all : Made) (next : Next) (entry : Option Entry) → Some next ≡ next_in named ms ds → Some entry ≡ made_in next ms ds
    → longer ≡ found ++ as_list entry → k2 ≡ k + passed_in next → ms2 ≡ first_behind next ms → ds2 ≡ second_behind next ds → joined found (changed ms k ds) ≡ all → joined longer (changed ms2 k2 ds2) ≡ all
made-kept found longer ms ds ms2 ds2 k k2 all next entry e is more at first second whole =
    ap₂ (λ l r. joined l r) more (ap₂ (λ a b. changed a k2 b) first second)
    ∙ joined-twice found (as_list entry) (changed (first_behind next ms) k2 (second_behind next ds))
    ∙ ap (joined found) (sym (made-step ms ds k next e entry k2 is at)) ∙ whole

pub made-done : (found ms ds : List Entry) (k : ℕ) (all : Made) → None ≡ next_in named ms ds → joined found (changed ms k ds) ≡ all → all ≡ Ok found
made-done found ms ds k all e whole =
    let done = both_done named ms ds e in
    let none : changed ms k ds ≡ Ok [] = ap₂ (λ a b. changed a k b) done.0 done.1 in
    sym whole ∙ ap (joined found) none ∙ ap (λ l. Ok l) (append-nil found)

-- ---- a change that says nothing

idle-new : (d : Entry) (z : Bool) (k : ℕ) (rest : Made) → None ≡ (if z then None else Some (Some d)) → (if z then Err k else put_before d rest) ≡ Err k
idle-new d true k rest e = refl
idle-new d false k rest e = absurd (cc)

idle-there : (d : Entry) (s z : Bool) (k : ℕ) (rest : Made) → None ≡ (if s then None else if z then Some None else Some (Some d)) → (if s then Err k else if z then rest else put_before d rest) ≡ Err k
idle-there d true z k rest e = refl
idle-there d false true k rest e = absurd (cc)
idle-there d false false k rest e = absurd (cc)

idle-two : (m d : Entry) (ms ds : List Entry) (k : ℕ) (b c : Bool) → None ≡ made_in (turn b c) (m ∷ ms) (d ∷ ds)
    → (if b then put_before m (changed ms k (d ∷ ds)) else if c then entered k d (changed (m ∷ ms) (suc k) ds) else changed_there k m d (changed ms (suc k) ds)) ≡ Err k
idle-two m d ms ds k true c e = absurd (cc)
idle-two m d ms ds k false true e = idle-new d (is_zero d.1) k (changed (m ∷ ms) (suc k) ds) e
idle-two m d ms ds k false false e = idle-there d (same_number m.1 d.1) (is_zero d.1) k (changed ms (suc k) ds) e

idle-step : (ms ds : List Entry) (k : ℕ) (next : Next) → Some next ≡ next_in named ms ds → None ≡ made_in next ms ds → changed ms k ds ≡ Err k
idle-step [] [] k next e is = absurd (cc)
idle-step [] (d ∷ ds) k next e is =
    let same : next ≡ Second = cc in
    idle-new d (is_zero d.1) k (all_entered (suc k) ds) (is ∙ ap (λ t. made_in t [] (d ∷ ds)) same)
idle-step (m ∷ ms) [] k next e is =
    let same : next ≡ First = cc in
    let none : None ≡ made_in First (m ∷ ms) [] = is ∙ ap (λ t. made_in t (m ∷ ms) []) same in
    absurd (cc)
idle-step (m ∷ ms) (d ∷ ds) k next e is =
    let same : next ≡ turn (stands_before m.0 d.0) (stands_before d.0 m.0) = cc in
    idle-two m d ms ds k (stands_before m.0 d.0) (stands_before d.0 m.0) (is ∙ ap (λ t. made_in t (m ∷ ms) (d ∷ ds)) same)

pub made-idle : (found ms ds : List Entry) (k : ℕ) (all : Made) (next : Next) → Some next ≡ next_in named ms ds → None ≡ made_in next ms ds → joined found (changed ms k ds) ≡ all → all ≡ Err k
made-idle found ms ds k all next e is whole = sym whole ∙ ap (joined found) (idle-step ms ds k next e is)
