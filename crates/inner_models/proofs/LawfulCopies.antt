-- A model whose columns are another's but for their costs is lawful.
use Rattle.std.specs.Prelude.{◌≡◌, ◌≢◌, ◌+◌, List, [], ◌∷◌, length, map, sum_by, AllPairs}
use Rattle.std.proofs.Common.{refl, sym, subst, ◌∙◌}
use Rattle.std.proofs.lemmas.List.{length-map}
use Rattle.std.proofs.lemmas.List.Elements.{All-map}
use Rattle.std.proofs.lemmas.List.Sums.{sum_by-cons}
use Rattle.frac128.specs.Rational.{ℚ}
use Rattle.lp_model.specs.Program.{Program}
use Rattle.lp_model.specs.Lawful.{entry_count, AreWithinLimits, IsLawfulColumn, IsLawful}
use Rattle.lp_model.specs.declared.types.Col.{Col}
use Rattle.inner_models.specs.Inner.{least_col, bare_model, with_objective}
use Rattle.inner_models.proofs.BareModels.{bare-lawful}

module _ (g : Col → Col) (name_kept : (c : Col) → (g c).name ≡ c.name) (entries_kept : (c : Col) → (g c).rows ≡ c.rows) where
  names_is : (cols : List Col) → map (λ c. c.name) (map g cols) ≡ map (λ c. c.name) cols
  names_is [] = refl
  names_is (c ∷ cols) = (λ i. name_kept c i ∷ names_is cols i)

  pub counts_is : (cols : List Col) → sum_by (λ c. length c.rows) (map g cols) ≡ sum_by (λ c. length c.rows) cols
  counts_is [] = refl
  counts_is (c ∷ cols) =
      sum_by-cons (λ e. length e.rows) (g c) (map g cols)
      ∙ (λ i. length (entries_kept c i) + counts_is cols i)
      ∙ sym (sum_by-cons (λ e. length e.rows) c cols)

module _ (f : Col → ℚ) (N : Program) (lawful : IsLawful N) where
  abbrev g : Col → Col
  g c = record c { cost = f c }

  pub objective-lawful : IsLawful (with_objective f N)
  objective-lawful = record {
    constants = lawful.constants;
    ranges = lawful.ranges;
    columns = All-map (IsLawfulColumn (length N.rows)) g N.cols
        (λ i c within. let held = lawful.columns i c within in record { bounded = held.bounded; entries = held.entries });
    rows_distinct = lawful.rows_distinct;
    columns_distinct = subst (AllPairs (λ a b. a ≢ b)) (sym (names_is g (λ c. refl) (λ c. refl) N.cols)) lawful.columns_distinct;
    limits =
        subst (λ n. AreWithinLimits N.wide (length N.rows) n (entry_count (with_objective f N))) (sym (length-map N.cols g))
        (subst (λ n. AreWithinLimits N.wide (length N.rows) (length N.cols) n) (sym (counts_is g (λ c. refl) (λ c. refl) N.cols)) lawful.limits);
  }

-- the model in least form before it is widened
module _ (M : Program) (lawful : IsLawful M) where
  abbrev least : Col → Col
  least c = least_col M.sense c

  pub narrow-lawful : IsLawful (record (bare_model M) { wide = M.wide })
  narrow-lawful =
      let wide = bare-lawful M lawful in
      record {
        constants = wide.constants;
        ranges = wide.ranges;
        columns = wide.columns;
        rows_distinct = wide.rows_distinct;
        columns_distinct = wide.columns_distinct;
        limits =
            subst (λ n. AreWithinLimits M.wide (length M.rows) n (entry_count (bare_model M))) (sym (length-map M.cols least))
            (subst (λ n. AreWithinLimits M.wide (length M.rows) (length M.cols) n) (sym (counts_is least (λ c. refl) (λ c. refl) M.cols)) lawful.limits);
      }
