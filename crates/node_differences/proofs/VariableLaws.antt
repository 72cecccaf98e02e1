-- The variables of one list alone: the other list is had again.
use Rattle.std.specs.Prelude.{◌≡◌, Bool, true, false, if◌then◌else◌, List, [], ◌∷◌}
use Rattle.std.proofs.Common.{refl, sym, ap, subst, ◌∙◌}
use Rattle.lp_model.specs.declared.types.Var.{Var}
use Rattle.node_differences.specs.Order.{stands_before, are_rising}
use Rattle.node_differences.specs.Differences.{differing}
use Rattle.node_differences.proofs.OrderLemmas.{not_before, same_variable, HeadBehind, Rising, rising, further}

-- which of the two is had, by two tests
abbrev either : Bool → Bool → List Var → List Var → List Var → List Var
either b c first second both = if b then first else if c then second else both

-- ---- what is had rises

module _ (w u : Var) (us : List Var) (own : (vs : List Var) → HeadBehind w us → HeadBehind w vs → Rising us → Rising vs → HeadBehind w (differing us vs)) where
  behind-two : (v : Var) (vs : List Var) (b c : Bool) → stands_before w u ≡ true → stands_before w v ≡ true → HeadBehind u us → HeadBehind v vs → Rising us → Rising vs
      → HeadBehind w (either b c (u ∷ differing us (v ∷ vs)) (v ∷ differing (u ∷ us) vs) (differing us vs))
  behind-two v vs true c h k hu hv r s = h
  behind-two v vs false true h k hu hv r s = k
  behind-two v vs false false h k hu hv r s = own vs (further w u us h hu) (further w v vs k hv) r s

pub differing-behind : (w : Var) (us vs : List Var) → HeadBehind w us → HeadBehind w vs → Rising us → Rising vs → HeadBehind w (differing us vs)
differing-behind w [] vs h k r s = k
differing-behind w (u ∷ us) [] h k r s = h
differing-behind w (u ∷ us) (v ∷ vs) h k r s =
    behind-two w u us (differing-behind w us) v vs (stands_before u v) (stands_before v u) h k r.0 s.0 r.1 s.1

-- ---- undone

-- a list whose first stands before the others
first-stays : (u : Var) (us ds : List Var) → HeadBehind u ds → differing (u ∷ us) ds ≡ u ∷ differing us ds
first-stays u us [] h = refl
first-stays u us (d ∷ ds) h = ap (λ b. either b (stands_before d u) (u ∷ differing us (d ∷ ds)) (d ∷ differing (u ∷ us) ds) (differing us ds)) h

-- the first of both lists goes
first-goes : (u : Var) (us ds : List Var) → differing (u ∷ us) (u ∷ ds) ≡ differing us ds
first-goes u us ds =
    ap (λ b. either b (stands_before u u) (u ∷ differing us (u ∷ ds)) (u ∷ differing (u ∷ us) ds) (differing us ds)) (not_before u)
    ∙ ap (λ b. either false b (u ∷ differing us (u ∷ ds)) (u ∷ differing (u ∷ us) ds) (differing us ds)) (not_before u)

-- the first of the second list stays
second-stays : (u d : Var) (us ds : List Var) → stands_before u d ≡ false → stands_before d u ≡ true → differing (u ∷ us) (d ∷ ds) ≡ d ∷ differing (u ∷ us) ds
second-stays u d us ds h k =
    ap (λ b. either b (stands_before d u) (u ∷ differing us (d ∷ ds)) (d ∷ differing (u ∷ us) ds) (differing us ds)) h
    ∙ ap (λ b. either false b (u ∷ differing us (d ∷ ds)) (d ∷ differing (u ∷ us) ds) (differing us ds)) k

module _ (u : Var) (us : List Var) (back : (vs : List Var) → Rising us → Rising vs → differing us (differing us vs) ≡ vs) where
  undone-two : (v : Var) (vs : List Var) (b c : Bool) → stands_before u v ≡ b → stands_before v u ≡ c → Rising (u ∷ us) → Rising (v ∷ vs) → differing (u ∷ us) (differing (u ∷ us) vs) ≡ vs
      → differing (u ∷ us) (either b c (u ∷ differing us (v ∷ vs)) (v ∷ differing (u ∷ us) vs) (differing us vs)) ≡ v ∷ vs
  undone-two v vs true c h k r s again = first-goes u us (differing us (v ∷ vs)) ∙ back (v ∷ vs) r.1 s
  undone-two v vs false true h k r s again = second-stays u v us (differing (u ∷ us) vs) h k ∙ ap (λ l. v ∷ l) again
  undone-two v vs false false h k r s again =
      let same : u ≡ v = same_variable u v h k in
      let behind : HeadBehind u vs = subst (λ x. HeadBehind x vs) (sym same) s.0 in
      first-stays u us (differing us vs) (differing-behind u us vs r.0 behind r.1 s.1)
      ∙ ap (λ l. u ∷ l) (back vs r.1 s.1) ∙ ap (λ x. x ∷ vs) same

  undone-behind : (vs : List Var) → Rising (u ∷ us) → Rising vs → differing (u ∷ us) (differing (u ∷ us) vs) ≡ vs
  undone-behind [] r s = first-goes u us (differing us []) ∙ back [] r.1 tt
  undone-behind (v ∷ vs) r s = undone-two v vs (stands_before u v) (stands_before v u) refl refl r s (undone-behind vs r s.1)

undone : (us vs : List Var) → Rising us → Rising vs → differing us (differing us vs) ≡ vs
undone [] vs r s = refl
undone (u ∷ us) vs r s = undone-behind u us (undone us) vs r s

pub variables-undone : (us vs : List Var) → are_rising us ≡ true → are_rising vs ≡ true → differing us (differing us vs) ≡ vs
variables-undone us vs r s = undone us vs (rising us r) (rising vs s)
