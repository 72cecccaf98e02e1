-- The cuts of a pool derived again at a model: one after the other; no feasible point breaks those that count; and a model has one such
-- list, since a cut is told by its derivation.
use Rattle.std.specs.Prelude.{◌≡◌, ◌↔◌, Bool, true, false, IsTrue, List, [], ◌∷◌, ◌++◌, length}
use Rattle.std.proofs.Common.{refl, sym, ap, subst, ◌∙◌, arith}
use Rattle.std.proofs.lemmas.Bool.{false≢true}
use Rattle.std.proofs.lemmas.List.{length-map, map_push}
use Rattle.std.proofs.lemmas.List.Elements.{All-push, All-tail}
use Rattle.lp_model.specs.Program.{Program}
use Rattle.lp_model.specs.Formulations.{formulation, IsValid}
use Rattle.lp_model.specs.declared.types.CutRow.{CutRow}
use Rattle.lp_model.specs.declared.types.Derivation.{Derivation}
use Rattle.cover_cuts.specs.Answers.{DerivesWithRoom}
use Rattle.cover_cuts.specs.Cuts.{cover_terms, cover_high, IsCutOf, IsPoolOf}
use Rattle.cover_cuts.proofs.CutLaws.{pool-met, pool-terms}
use Rattle.kept_cuts.specs.Kept.{derivations_of}
use Rattle.dual_bounds.specs.TreeBounds.{AreDerivedAgain}
use Rattle.dual_bounds.specs.private.Spared.{AddsAgain}

-- ---- one after the other

pub derived-none : (M : Program) (again : List CutRow) → again ≡ [] → AreDerivedAgain M [] again
derived-none M again none = subst (AreDerivedAgain M []) (sym none) (record { derivations = refl; pool = λ i d below. absurd (omega arith) })

pub derived-more : (M : Program) (cuts again longer : List CutRow) (cut : CutRow) → AreDerivedAgain M cuts again → AddsAgain M cut again longer → AreDerivedAgain M (cuts ++ cut ∷ []) longer
derived-more M cuts again longer cut h (c, (is, from, cut_is)) =
    subst (AreDerivedAgain M (cuts ++ cut ∷ [])) (sym is)
    (record {
      derivations =
          map_push (λ (k : CutRow). k.from) again c
          ∙ (λ i. h.derivations i ++ from i ∷ [])
          ∙ sym (map_push (λ (k : CutRow). k.from) cuts cut);
      pool = All-push (IsCutOf M) again c h.pool cut_is;
    })

pub derived-many : (M : Program) (cuts again : List CutRow) → AreDerivedAgain M cuts again → length again ≡ length cuts
derived-many M cuts again h =
    let same : length (derivations_of again) ≡ length (derivations_of cuts) = ap length h.derivations in
    sym (length-map again (λ (c : CutRow). c.from)) ∙ same ∙ length-map cuts (λ (c : CutRow). c.from)

-- ---- no feasible point breaks one that counts

pub pool-valid : (M : Program) (cuts : List CutRow) → IsPoolOf M cuts → IsValid (formulation M cuts)
pool-valid M cuts pool = record { terms = pool-terms M cuts pool; met = λ x feasible. pool-met M x feasible cuts pool }

-- ---- a cut is told by its derivation

bool-same : (P : Type 0) (a b : Bool) → IsTrue a ↔ P → IsTrue b ↔ P → a ≡ b
bool-same P true true h k = refl
bool-same P true false h k = absurd (false≢true (k.1 (h.0 refl)))
bool-same P false true h k = absurd (false≢true (h.1 (k.0 refl)))
bool-same P false false h k = refl

cut-same : (M : Program) (a b : CutRow) → IsCutOf M a → IsCutOf M b → a.from ≡ b.from → a ≡ b
cut-same M a b own other e =
    let terms : a.terms ≡ b.terms = own.row.terms ∙ ap (λ (d : Derivation). cover_terms d.literals) e ∙ sym other.row.terms in
    let high : a.hi ≡ b.hi = own.row.high ∙ ap (λ (d : Derivation). cover_high d.literals) e ∙ sym other.row.high in
    let live : a.live ≡ b.live = bool-same (DerivesWithRoom M b.from) a.live b.live (subst (λ d. IsTrue a.live ↔ DerivesWithRoom M d) e own.live) other.live in
    (λ i. record { from = e i; terms = terms i; hi = high i; live = live i })

head-same : {A : Type 0} (x y : A) (xs ys : List A) → x ∷ xs ≡ y ∷ ys → x ≡ y
head-same x y xs ys e = cc

tail-same : {A : Type 0} (x y : A) (xs ys : List A) → x ∷ xs ≡ y ∷ ys → xs ≡ ys
tail-same x y xs ys e = cc

cuts-same : (M : Program) (us vs : List CutRow) → IsPoolOf M us → IsPoolOf M vs → derivations_of us ≡ derivations_of vs → us ≡ vs
cuts-same M [] [] own other e = refl
cuts-same M [] (b ∷ vs) own other e = let n = ap length e in absurd (omega (arith, n))
cuts-same M (a ∷ us) [] own other e = let n = ap length e in absurd (omega (arith, n))
cuts-same M (a ∷ us) (b ∷ vs) own other e =
    let first : a ≡ b = cut-same M a b (own 0 a (omega arith)) (other 0 b (omega arith)) (head-same a.from b.from (derivations_of us) (derivations_of vs) e) in
    let rest : us ≡ vs = cuts-same M us vs (All-tail (IsCutOf M) a us own) (All-tail (IsCutOf M) b vs other) (tail-same a.from b.from (derivations_of us) (derivations_of vs) e) in
    (λ i. first i ∷ rest i)

-- there is one list of the cuts derived again
pub derived-one : (M : Program) (cuts again also : List CutRow) → AreDerivedAgain M cuts again → AreDerivedAgain M cuts also → again ≡ also
derived-one M cuts again also h k = cuts-same M again also h.pool k.pool (h.derivations ∙ sym k.derivations)

-- at the model that they are cuts of they are themselves
pub derived-same : (M : Program) (cuts again : List CutRow) → IsPoolOf M cuts → AreDerivedAgain M cuts again → again ≡ cuts
derived-same M cuts again pool h = cuts-same M again cuts h.pool pool h.derivations
