-- Jobs that are held: the target may have fallen since they were handed out, and what closed against it closes still.
use Rattle.std.specs.Prelude.{List, [], ◌∷◌, All, Option, Some, None}
use Rattle.std.proofs.Common.{sym, subst}
use Rattle.frac128.specs.Rational.{ℚ}
use Rattle.frac128.specs.RationalOrder.{≤ℚ_refl}
use Rattle.lp_model.specs.Program.{Point}
use Rattle.branch_tree.specs.declared.node.Job.{Job}
use Rattle.leaf_judging.specs.declared.closing.LeafNumber.{LeafNumber}
use Rattle.leaf_judging.specs.Closing.{NumberCloses}
use Rattle.search_parts.specs.Points.{target, IsKeepable}
use Rattle.sound_searches.specs.Calls.{IsOpenLeaf}
use Rattle.sound_searches.specs.Jobs.{IsJobOf}
use Rattle.sound_searches.specs.Free.{IsFallen, IsHeldJob}
use Rattle.sound_searches.specs.Sound.{PlainSearch}
use Rattle.sound_searches.proofs.TakenLemmas.{least_is, closer_to, no_target}

-- the leaf of a job that is held is open, and has the job's region
pub held-open : (S : PlainSearch) (job : Job) → IsHeldJob S job → IsOpenLeaf S job.id job.region
held-open S job h = record { kept = h.kept; leaf = h.leaf; state = h.state }

pub fallen-same : (t : Option ℚ) → IsFallen t t
fallen-same None = tt
fallen-same (Some t) = ≤ℚ_refl t

-- a job is held as it is handed out
pub held-first : (S : PlainSearch) (job : Job) → IsJobOf S job.id job → IsHeldJob S job
held-first S job h = record {
  kept = h.kept;
  leaf = h.leaf;
  state = h.state;
  mult_is = h.mult_is;
  basis_is = h.basis_is;
  target_is = subst (λ t. IsFallen t (target S.model S.points)) (sym h.target_is) (fallen-same (target S.model S.points));
}

-- what closes against a target closes against one that has fallen since
pub closes-fallen : (S : PlainSearch) → All (IsKeepable S.model) S.points → (t : Option ℚ) → IsFallen t (target S.model S.points) → (n : LeafNumber) → NumberCloses S.model t n → NumberCloses S.model (target S.model S.points) n
closes-fallen S points t fallen n closes = by S.points points t fallen closes
  where
    by : (ps : List Point) → All (IsKeepable S.model) ps → (t : Option ℚ) → IsFallen t (target S.model ps) → NumberCloses S.model t n → NumberCloses S.model (target S.model ps) n
    by [] all None h k = k
    by [] all (Some t) h k = absurd h
    by (p ∷ ps) all None h k = no_target S.model (target S.model (p ∷ ps)) n k
    by (p ∷ ps) all (Some t) h k =
        let (y, (keepable, (is, _))) = least_is S.model (IsKeepable S.model) p ps all in
        subst (λ o. NumberCloses S.model o n) (sym is) (closer_to S.model t y keepable.feasible.0 (subst (IsFallen (Some t)) is h) n k)
