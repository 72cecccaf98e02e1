-- Where places are asked to stand, and states that differ in where they stand.
use Rattle.std.specs.Prelude.{◌≡◌, ℕ, suc, ◌<◌, ◌≤◌, [], ◌∷◌, pos, get_or, length}
use Rattle.std.proofs.Common.{sym, ap, ap₂, subst, ◌∙◌, arith, ⊎_elim}
use Rattle.std.proofs.lemmas.Bool.{cases_lt}
use Rattle.std.proofs.lemmas.List.{get_or_default}
use Rattle.frac128.specs.Rational.{ℚ, int, ◌+ℚ◌, ◌*ℚ◌}
use Rattle.frac128.specs.RationalRing.{ring, reads_ℚ}
use Rattle.table_entries.specs.declared.stand.Stand.{Stand}
use Rattle.table_entries.specs.Relaxation.{Relaxation, Table, reduced_cost}
use Rattle.table_entries.specs.States.{reduced_parts}
use Rattle.table_entries.proofs.SumBelowLaws.{sum_below-zero}
use Rattle.basic_solution.specs.Held.{Held, relaxation, parts, table, own_cost}
use Rattle.basic_solution.specs.Slack.{IsPlaced}
use Rattle.basic_solution.specs.private.Slack.{IsMisplaced, IsRestood}
use Rattle.basic_solution.proofs.SignLemmas.{NoneBelow}
use Rattle.basic_solution.proofs.PartLemmas.{turn_part, parts_end}

-- where there are no costs there is no reduced cost
reduced_none : (p : Relaxation) (d : Table) (c : ℕ → ℚ) (k : ℕ) → ((v : ℕ) → c v ≡ int (pos 0)) → reduced_cost p d c k ≡ int (pos 0)
reduced_none p d c k none =
    ap₂ ◌+ℚ◌ (none (d.nonbasic k)) (sum_below-zero p.activities _ (λ i w. ap (λ t. t *ℚ d.entry i k) (none (d.basic i)) ∙ ring (d.entry i k ∷ []) (search reads_ℚ) tt))
    ∙ ring [] (search reads_ℚ) tt

module _ (s : Held) (place : ℕ) where
  abbrev later : ℕ → ℚ
  later q = reduced_parts (relaxation s) (parts s) (table s) place (suc q)

  pub turn_read : (turn x : ℕ) (v : ℚ) → turn < length s.order → x ≡ get_or s.order turn x → v ≡ reduced_cost (relaxation s) (table s) (own_cost s x) place → v ≡ later turn
  turn_read turn x v within is e = e ∙ turn_part s turn x place within (is ∙ get_or_default s.order turn x 0 within)

  pub none_at_all : (n : ℕ) → length s.order ≤ n → NoneBelow n later → (q : ℕ) → later q ≡ int (pos 0)
  none_at_all n past none q = ⊎_elim (λ less. none q less)
      (λ more. reduced_none (relaxation s) (table s) (parts s (suc q)) place (λ v. parts_end s (suc q) v (omega (arith, past, more))))
      (cases_lt q n)

-- ---- states that differ in where they stand

pub restood_trans : (s t u : Held) → IsRestood s t → IsRestood t u → IsRestood s u
restood_trans s t u e f = let again : Held → Held = λ x. record x { stands = u.stands } in f ∙ ap again e

pub restood_back : (s t : Held) (k : ℕ) (stand : Stand) → IsRestood s t → IsPlaced t k stand → IsPlaced s k stand
restood_back s t k stand e h = let n = subst (λ u. IsPlaced u k stand) e h in record { asked = n.asked; can = n.can }

pub restood_placed : (s t : Held) (k : ℕ) (stand : Stand) → IsRestood s t → IsPlaced s k stand → IsPlaced t k stand
restood_placed s t k stand e h = subst (λ u. IsPlaced u k stand) (sym e) (record { asked = h.asked; can = h.can })

pub restood_misplaced : (s t : Held) (k : ℕ) → IsRestood s t → IsMisplaced t k → IsMisplaced s k
restood_misplaced s t k e h = let n = subst (λ u. IsMisplaced u k) e h in record { stand = n.stand; asked = n.asked; cannot = n.cannot }
