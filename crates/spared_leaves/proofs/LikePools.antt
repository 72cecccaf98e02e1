-- Cuts of the same derivations are alike where they count in both lists: a cut's row is that of its derivation, whatever model
-- it counts at.
use Rattle.std.specs.Prelude.{◌≡◌, ℕ, ◌<◌, true, false, List, length, get_or, map, Some}
use Rattle.std.proofs.Common.{sym, ap, subst, ◌∙◌, inl, inr, arith, true≢false}
use Rattle.std.proofs.lemmas.Bool.{cases_order}
use Rattle.std.proofs.lemmas.List.{length-map}
use Rattle.lp_model.specs.Cuts.{is_live}
use Rattle.lp_model.specs.CutTerms.{term_of}
use Rattle.lp_model.specs.Program.{Program}
use Rattle.lp_model.specs.declared.types.CutRow.{CutRow}
use Rattle.lp_model.specs.declared.types.Derivation.{Derivation}
use Rattle.lp_model.proofs.ElementLemmas.{element, of_element-past}
use Rattle.lp_model.proofs.NameLemmas.{get_or-map}
use Rattle.cover_cuts.specs.Cuts.{cover_terms, cover_high, IsPoolOf}
use Rattle.leaf_dual.proofs.CutLemmas.{coefficient-is, high-is}
use Rattle.spared_leaves.specs.Alike.{IsSameCut, AreAlikeCuts}
use Rattle.spared_leaves.specs.Laws.{LikePoolsLaw}

-- what counts is there
live-there : (cuts : List CutRow) (k : ℕ) → is_live cuts k ≡ true → k < length cuts
live-there cuts k live = elim (cases_order k (length cuts)) [
  | inl e ↦ absurd (true≢false (sym live ∙ of_element-past false (λ c. c.live) cuts k (omega arith)))
  | inr o ↦ elim o [ inl below ↦ below | inr above ↦ absurd (true≢false (sym live ∙ of_element-past false (λ c. c.live) cuts k (omega arith))) ]
]

module _ (M N : Program) (cuts others : List CutRow) (pool : IsPoolOf M cuts) (pool_after : IsPoolOf N others) (same : map (λ (c : CutRow). c.from) cuts ≡ map (λ (c : CutRow). c.from) others) where
  counts-same : length cuts ≡ length others
  counts-same = sym (length-map cuts (λ (c : CutRow). c.from)) ∙ ap length same ∙ length-map others (λ (c : CutRow). c.from)

  -- the two cuts of a place have one derivation
  module _ (k : ℕ) (c d : CutRow) (below : k < length cuts) (below_after : k < length others) (is : c ≡ get_or cuts k c) (is_after : d ≡ get_or others k d) where
    from-same : c.from ≡ d.from
    from-same = sym (get_or-map (λ (x : CutRow). x.from) cuts k c c.from below is) ∙ ap (λ ds. get_or ds k c.from) same ∙ get_or-map (λ (x : CutRow). x.from) others k d c.from below_after is_after

    terms-same : c.terms ≡ d.terms
    terms-same = row-terms ∙ ap (λ (x : Derivation). cover_terms x.literals) from-same ∙ sym row-terms_after
      where
        row-terms : c.terms ≡ cover_terms c.from.literals
        row-terms = subst (λ (x : CutRow). x.terms ≡ cover_terms x.from.literals) (sym is) (pool k c below).row.terms

        row-terms_after : d.terms ≡ cover_terms d.from.literals
        row-terms_after = subst (λ (x : CutRow). x.terms ≡ cover_terms x.from.literals) (sym is_after) (pool_after k d below_after).row.terms

    high-same : c.hi ≡ d.hi
    high-same = row-high ∙ ap (λ (x : Derivation). cover_high x.literals) from-same ∙ sym row-high_after
      where
        row-high : c.hi ≡ cover_high c.from.literals
        row-high = subst (λ (x : CutRow). x.hi ≡ cover_high x.from.literals) (sym is) (pool k c below).row.high

        row-high_after : d.hi ≡ cover_high d.from.literals
        row-high_after = subst (λ (x : CutRow). x.hi ≡ cover_high x.from.literals) (sym is_after) (pool_after k d below_after).row.high

    cut-same : IsSameCut cuts others k
    cut-same = record {
      there = ((λ h. below_after), (λ h. below));
      high = high-is cuts k c below is ∙ ap Some high-same ∙ sym (high-is others k d below_after is_after);
      entry = λ j. coefficient-is cuts k c below is j ∙ ap (term_of j) terms-same ∙ sym (coefficient-is others k d below_after is_after j);
    }

  cuts-same : AreAlikeCuts cuts others
  cuts-same k live live_after =
      let below = live-there cuts k live in
      let below_after = live-there others k live_after in
      let own = element cuts k below in
      let own_after = element others k below_after in
      cut-same k own.0 own_after.0 below below_after own.1 own_after.1

pub like_pools : LikePoolsLaw
like_pools M N cuts others pool pool_after same = cuts-same M N cuts others pool pool_after same
