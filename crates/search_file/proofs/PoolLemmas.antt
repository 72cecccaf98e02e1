-- A pool made of derivations, cut by cut, and that the cuts of a pool are told by their derivations.
use Rattle.std.specs.Prelude.{◌≡◌, ◌↔◌, ℕ, ◌+◌, ◌<◌, ◌≤◌, Bool, true, false, IsTrue, List, [], ◌∷◌, ◌++◌, length, get_or, take}
use Rattle.std.proofs.Common.{refl, sym, ap, subst, ◌∙◌, arith}
use Rattle.std.proofs.lemmas.Bool.{false≢true}
use Rattle.std.proofs.lemmas.List.{length-map, length-take-le, map_push, take_more}
use Rattle.std.proofs.lemmas.List.Elements.{All-push, All-nil, All-head, All-tail}
use Rattle.lp_model.specs.Program.{Program}
use Rattle.lp_model.specs.declared.types.CutRow.{CutRow}
use Rattle.lp_model.specs.declared.types.Derivation.{Derivation}
use Rattle.cover_cuts.specs.Answers.{DerivesWithRoom}
use Rattle.cover_cuts.specs.Cuts.{cover_terms, cover_high, IsCutOf, IsPoolOf}
use Rattle.kept_cuts.specs.Kept.{derivations_of}
use Rattle.search_file.specs.private.Saved.{IsPoolFrom}

module _ (M : Program) where
  pub pool-none : (ys : List CutRow) → ys ≡ [] → IsPoolFrom M [] ys
  pool-none ys none = subst (IsPoolFrom M []) (sym none) (record { derivations = refl; pool = All-nil (IsCutOf M) })

  -- one more cut
  pub pool-next : (ds : List Derivation) (i : ℕ) (d from : Derivation) (ys zs : List CutRow) → i < length ds → d ≡ get_or ds i d → from ≡ d → IsPoolFrom M (take i ds) ys
      → (c : CutRow) × ((zs ≡ ys ++ c ∷ []) × (c.from ≡ from) × IsCutOf M c) → IsPoolFrom M (take (i + 1) ds) zs
  pool-next ds i d from ys zs below is same h (c, (new, from_is, cut)) =
      let more : take i ds ++ c.from ∷ [] ≡ take (i + 1) ds = ap (λ e. take i ds ++ e ∷ []) (from_is ∙ same ∙ is) ∙ sym (take_more ds i d below) in
      subst (IsPoolFrom M (take (i + 1) ds)) (sym new) (record {
        derivations = map_push (λ (k : CutRow). k.from) ys c ∙ ap (λ l. l ++ c.from ∷ []) h.derivations ∙ more;
        pool = All-push (IsCutOf M) ys c h.pool cut;
      })

  pub pool-few : (ds : List Derivation) (i : ℕ) (ys : List CutRow) → i ≤ length ds → IsPoolFrom M (take i ds) ys → length ys ≡ i
  pool-few ds i ys within h = sym (length-map ys (λ (k : CutRow). k.from)) ∙ ap length h.derivations ∙ length-take-le i ds within

  -- ---- cuts are told by their derivations

  bool-same : (P : Type 0) (a b : Bool) → IsTrue a ↔ P → IsTrue b ↔ P → a ≡ b
  bool-same P true true h k = refl
  bool-same P true false h k = absurd (false≢true (k.1 (h.0 refl)))
  bool-same P false true h k = absurd (false≢true (h.1 (k.0 refl)))
  bool-same P false false h k = refl

  cut-same : (a b : CutRow) → IsCutOf M a → IsCutOf M b → a.from ≡ b.from → a ≡ b
  cut-same a b own other e =
      let terms : a.terms ≡ b.terms = own.row.terms ∙ ap (λ (d : Derivation). cover_terms d.literals) e ∙ sym other.row.terms in
      let high : a.hi ≡ b.hi = own.row.high ∙ ap (λ (d : Derivation). cover_high d.literals) e ∙ sym other.row.high in
      let live : a.live ≡ b.live = bool-same (DerivesWithRoom M b.from) a.live b.live (subst (λ d. IsTrue a.live ↔ DerivesWithRoom M d) e own.live) other.live in
      (λ i. record { terms = terms i; hi = high i; from = e i; live = live i })

  head-same : {A : Type 0} (x y : A) (xs ys : List A) → x ∷ xs ≡ y ∷ ys → x ≡ y
  head-same x y xs ys e = cc

  tail-same : {A : Type 0} (x y : A) (xs ys : List A) → x ∷ xs ≡ y ∷ ys → xs ≡ ys
  tail-same x y xs ys e = cc

  pub cuts-same : (xs ys : List CutRow) → IsPoolOf M xs → IsPoolOf M ys → derivations_of xs ≡ derivations_of ys → xs ≡ ys
  cuts-same [] [] own other e = refl
  cuts-same [] (y ∷ ys) own other e = let n = ap length e in absurd (omega (arith, n))
  cuts-same (x ∷ xs) [] own other e = let n = ap length e in absurd (omega (arith, n))
  cuts-same (x ∷ xs) (y ∷ ys) own other e =
      let first : x ≡ y = cut-same x y (All-head (IsCutOf M) x xs own) (All-head (IsCutOf M) y ys other) (head-same x.from y.from (derivations_of xs) (derivations_of ys) e) in
      let rest : xs ≡ ys = cuts-same xs ys (All-tail (IsCutOf M) x xs own) (All-tail (IsCutOf M) y ys other) (tail-same x.from y.from (derivations_of xs) (derivations_of ys) e) in
      (λ i. first i ∷ rest i)
