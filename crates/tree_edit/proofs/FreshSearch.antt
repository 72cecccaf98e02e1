-- A search with one leaf, which is judged, no cut and no point.
use Rattle.std.specs.Prelude.{◌≡◌, ℕ, [], List, None}
use Rattle.std.proofs.Common.{refl, sym, subst, arith}
use Rattle.std.proofs.lemmas.List.Elements.{All-nil}
use Rattle.frac128.specs.Rational.{ℚ}
use Rattle.lp_model.specs.Program.{Program, Point}
use Rattle.lp_model.specs.Formulations.{Formulation, without_cuts}
use Rattle.lp_model.specs.declared.types.Var.{Var}
use Rattle.lp_model.specs.declared.types.CutRow.{CutRow}
use Rattle.cover_cuts.specs.Cuts.{IsCutOf}
use Rattle.branch_tree.specs.Numbered.{NumberedTree}
use Rattle.branch_tree.specs.Changes.{first_tree}
use Rattle.leaf_judging.specs.declared.numbers.LeafNumbers.{LeafNumbers}
use Rattle.leaf_judging.specs.declared.queue.LeafQueue.{LeafQueue}
use Rattle.leaf_judging.specs.Judged.{JudgesAll}
use Rattle.leaf_judging.specs.Numbers.{AreNumbersOf}
use Rattle.leaf_judging.specs.Queued.{IsQueueOf}
use Rattle.search_parts.specs.Points.{IsKeepable}
use Rattle.search_parts.specs.Lists.{NamesOnce}
use Rattle.sound_searches.specs.Sound.{IsSoundTree}
use Rattle.tree_edit.specs.Indexed.{IsIndexed}
use Rattle.sound_searches.proofs.SoundLemmas.{tree-states}

names-nothing : (P : Var → Type 0) → NamesOnce P []
names-nothing P = record { each = All-nil P; once = λ i m d below within. absurd (omega arith) }

first-sound : (F : Formulation) (limit : ℕ) → IsSoundTree F (first_tree limit).root
first-sound F limit = record {
  lawful = tt;
  narrow = tt;
  lists = record { mult = names-nothing _; farkas = names-nothing _; basis = record { basic = names-nothing _; high = names-nothing _ } };
}

module _ (M : Program) (limit : ℕ) (T : NumberedTree) (numbers : LeafNumbers) (queue : LeafQueue) (judges : JudgesAll (without_cuts M) None (first_tree limit) T) (numbered : AreNumbersOf (without_cuts M) T.root numbers) (queued : IsQueueOf (without_cuts M) T.root queue) where
  fresh : IsIndexed (record { model = M; cuts = []; tree = T; points = [] }) [] numbers queue
  fresh = record {
    sound = record {
      tree = subst (λ (N : NumberedTree). IsSoundTree (without_cuts M) N.root) (sym judges.tree) (tree-states (without_cuts M) judges.states (first_tree limit).root (first-sound (without_cuts M) limit));
      judged = judges.judged;
      points = All-nil (IsKeepable M);
      few = omega arith;
      pool = All-nil (IsCutOf M);
      few_cuts = omega arith;
    };
    values_are = refl;
    numbers_are = numbered;
    queue_is = queued;
  }

  pub fresh-indexed : (pool : List CutRow) (points : List Point) (values : List ℚ) → pool ≡ [] → points ≡ [] → values ≡ [] → IsIndexed (record { model = M; cuts = pool; tree = T; points = points }) values numbers queue
  fresh-indexed pool points values no_pool no_points no_values = subst (λ P. P) (λ k. IsIndexed (record { model = M; cuts = sym no_pool k; tree = T; points = sym no_points k }) (sym no_values k) numbers queue) fresh
