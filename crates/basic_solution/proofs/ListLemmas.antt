-- Lists of variables that rise.
use Rattle.std.specs.Prelude.{◌≡◌, ◌↔◌, ℕ, ◌+◌, ◌<◌, ◌≤◌, pos, true, false, IsTrue, All, List, [], ◌∷◌, ◌++◌, length, get_or}
use Rattle.std.proofs.Common.{refl, sym, ap, subst, ◌∙◌, arith, below_more}
use Rattle.std.proofs.lemmas.Bool.{false≢true}
use Rattle.std.proofs.lemmas.List.{get_or_push, get_or_append_left, length-append, map-append}
use Rattle.std.proofs.lemmas.List.Elements.{All-nil, All-push}
use Rattle.frac128.specs.Rational.{ℚ, int}
use Rattle.lp_model.specs.declared.types.Var.{Var}
use Rattle.table_entries.specs.declared.stand.Stand.TheVariants.{High, Free}
use Rattle.table_entries.specs.Bases.{listed, Lists}
use Rattle.row_tableau.specs.Dense.{Dense}
use Rattle.row_tableau.specs.Variables.{variable_number, numbers}
use Rattle.basic_solution.specs.Held.{Held, IsSided, table, variables}
use Rattle.basic_solution.specs.Lists.{AreRising, StandsHigh, HasMultiplier, AreListedMultipliers, names}
use Rattle.basic_solution.specs.private.Lists.{AreMultipliersBelow}

pub rising_none : (P : ℕ → Type 0) (n : ℕ) → ((v : ℕ) → v < n → ¬ (P v)) → AreRising P n []
rising_none P n none = record {
  rises = λ j k less within. absurd (omega (arith, within));
  within = λ t within. absurd (omega (arith, within));
  holds = λ t within. absurd (omega (arith, within));
  all = λ v within holds. absurd (none v within holds);
}

module _ (P : ℕ → Type 0) (n : ℕ) (list : List ℕ) (before : AreRising P n list) where
  pub rising_skip : ¬ (P n) → AreRising P (n + 1) list
  rising_skip not = record {
    rises = before.rises;
    within = λ t q. let w = before.within t q in omega (arith, w);
    holds = before.holds;
    all = below_more (λ v. P v → Lists list v) n before.all (λ holds. absurd (not holds));
  }

  abbrev more : List ℕ
  more = list ++ n ∷ []

  size : length more ≡ length list + 1
  size = length-append list (n ∷ [])

  left : (t : ℕ) → t < length list → listed more t ≡ listed list t
  left t q = get_or_append_left list (n ∷ []) 0 t q

  last : listed more (length list) ≡ n
  last = get_or_push list n 0 (length list) refl

  -- what holds at the turns of the list, and at the one behind it
  turns : (Q : ℕ → Type 0) → ((t : ℕ) → t < length list → Q t) → Q (length list) → (t : ℕ) → t < length more → Q t
  turns Q old new t q = below_more Q (length list) old new t (subst (λ m. t < m) size q)

  pub rising_push : P n → AreRising P (n + 1) more
  rising_push holds = record {
    rises = λ j k less q. turns (λ t. (j : ℕ) → j < t → listed more j < listed more t)
        (λ t w j l. subst (λ a. a < listed more t) (sym (left j (omega (arith, l, w)))) (subst (λ a. listed list j < a) (sym (left t w)) (before.rises j t l w)))
        (λ j l. subst (λ a. a < listed more (length list)) (sym (left j l)) (subst (λ a. listed list j < a) (sym last) (before.within j l)))
        k q j less;
    within = turns (λ t. listed more t < n + 1)
        (λ t w. subst (λ a. a < n + 1) (sym (left t w)) (let b = before.within t w in omega (arith, b)))
        (subst (λ a. a < n + 1) (sym last) (omega arith));
    holds = turns (λ t. P (listed more t)) (λ t w. subst P (sym (left t w)) (before.holds t w)) (subst P (sym last) holds);
    all = below_more (λ v. P v → Lists more v) n
        (λ v w h. let f = before.all v w h in (f.0, subst (λ m. f.0 < m) (sym size) (let b = f.1 in omega (arith, b)), f.2 ∙ sym (left f.0 f.1)))
        (λ h. (length list, subst (λ m. length list < m) (sym size) (omega arith), sym last));
  }

-- the same of a list of variables by their numbers
pub rising_named : (t : Dense) (P : ℕ → Type 0) (n : ℕ) (list after : List Var) (var : Var) → after ≡ list ++ var ∷ [] → variable_number t var ≡ n → AreRising P n (numbers t list) → P n → AreRising P (n + 1) (numbers t after)
rising_named t P n list after var pushed is before holds =
    subst (λ ns. AreRising P (n + 1) ns)
    (sym (ap (numbers t) pushed ∙ map-append (variable_number t) list (var ∷ []) ∙ ap (λ m. numbers t list ++ m ∷ []) is))
    (rising_push P n (numbers t list) before holds)

-- ---- who stands high

module _ (s : Held) (sided : IsSided s) (v : ℕ) where
  pub basic_not_high : (row : ℕ) → row < s.tableau.activities → (table s).basic row ≡ v → IsTrue false ↔ StandsHigh s v
  basic_not_high row within is = ((λ t. absurd (false≢true t)), (λ h. absurd (sided.table.arranged.apart row h.0 within h.1.0 (is ∙ sym h.1.1.0))))

  module _ (place : ℕ) (within : place < s.tableau.columns) (is : (table s).nonbasic place ≡ v) where
    pub place_high : get_or s.stands place Free ≡ High → IsTrue true ↔ StandsHigh s v
    place_high stand = ((λ _. (place, (within, (is, stand)))), (λ _. refl))

    pub place_not_high : ¬ (get_or s.stands place Free ≡ High) → IsTrue false ↔ StandsHigh s v
    place_not_high other = (
      (λ t. absurd (false≢true t)),
      (λ h. absurd (other (ap (λ k. get_or s.stands k Free) (sided.table.arranged.nonbasic_once place h.0 within h.1.0 (is ∙ sym h.1.1.0)) ∙ h.1.1.1))),
    )

-- ---- multipliers

module _ (s : Held) (y : ℕ → ℚ) where
  -- columns have none
  pub multipliers_none : (n : ℕ) → n ≡ s.tableau.columns → AreMultipliersBelow s y n []
  multipliers_none n is = record { named = rising_none (HasMultiplier s y) n (λ v below h. let from = h.0 in omega (arith, is, below, from)); values = All-nil (λ m. m.1 ≡ y (variable_number s.tableau m.0)) }

  pub multipliers_all : (n : ℕ) → n ≡ variables s → (list : List (Var × ℚ)) → AreMultipliersBelow s y n list → AreListedMultipliers s y list
  multipliers_all n is list all = record { named = subst (λ m. AreRising (HasMultiplier s y) m (numbers s.tableau (names list))) is all.named; values = all.values }

  module _ (n : ℕ) (list : List (Var × ℚ)) (before : AreMultipliersBelow s y n list) where
    pub multipliers_skip : y n ≡ int (pos 0) → AreMultipliersBelow s y (n + 1) list
    multipliers_skip none = record { named = rising_skip (HasMultiplier s y) n (numbers s.tableau (names list)) before.named (λ h. h.1 none); values = before.values }

    pub multipliers_more : (after : List (Var × ℚ)) (var : Var) (x : ℚ) → after ≡ list ++ (var, x) ∷ [] → variable_number s.tableau var ≡ n → x ≡ y n → s.tableau.columns ≤ n → ¬ (x ≡ int (pos 0)) → AreMultipliersBelow s y (n + 1) after
    multipliers_more after var x pushed is number_is activity some = record {
      named = rising_named s.tableau (HasMultiplier s y) n (names list) (names after) var (ap names pushed ∙ map-append (λ m. m.0) list ((var, x) ∷ [])) is before.named (activity, λ none. some (number_is ∙ none));
      values = subst (All (λ m. m.1 ≡ y (variable_number s.tableau m.0))) (sym pushed) (All-push (λ m. m.1 ≡ y (variable_number s.tableau m.0)) list (var, x) before.values (number_is ∙ ap y (sym is)));
    }
