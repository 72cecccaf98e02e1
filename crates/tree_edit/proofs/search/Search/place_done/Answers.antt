use Rattle.std.specs.Prelude.{ℕ}
use Rattle.std.proofs.Common.{refl, sym, subst}
use Rattle.lp_model.specs.Regions.{Path}
use Rattle.branch_tree.specs.Numbered.{IsNumbered}
use Rattle.search_parts.specs.Points.{target}
use Rattle.sound_searches.specs.Calls.{IsOpenLeaf}
use Rattle.sound_searches.specs.Sound.{PlainSearch, IsSound}
use Rattle.sound_searches.specs.Placing.{IsOpenPlace}
use Rattle.sound_searches.proofs.PlaceLemmas.{job-place}
use Rattle.tree_edit.proofs.search.Search.place_done.Goals as goal

-- an open leaf is that of the job that would be handed out of it
open-place : (S : PlainSearch) → IsSound S → IsNumbered S.tree → (id : ℕ) (path : Path) → IsOpenLeaf S id path → IsOpenPlace S id path
open-place S sound numbered id path h =
    job-place S sound numbered id (record { id = id; region = path; mult = h.kept.mult; basis = h.kept.basis; target = target S.model S.points })
    (record { id_is = refl; kept = h.kept; leaf = h.leaf; state = h.state; mult_is = refl; basis_is = refl; target_is = refl })

pub place_open-requires : goal.place_open-requires
place_open-requires c =
    let i = c.self.inside in
    let S : PlainSearch = record { model = i.model; cuts = i.pool; tree = i.tree; points = i.points.items } in
    let job = c.args.job.now in
    record {
      «open» = subst (λ (R : PlainSearch). IsOpenPlace R job.id job.region) c.self.view_is
          (open-place S c.self.invariant.sound c.nodes-numbered.ensures.numbered job.id job.region (subst (λ (R : PlainSearch). IsOpenLeaf R job.id job.region) (sym c.self.view_is) c.requires));
    }
