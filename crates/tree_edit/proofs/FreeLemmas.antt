-- The leaf that goes first of those that nobody holds is the first in the queue that nobody holds.
use Rattle.std.specs.Prelude.{◌≡◌, ◌⊎◌, ℕ, Bool, true, false, List, [], Option, Some, None}
use Rattle.std.proofs.Common.{refl, sym, ap, ◌∙◌, inl, inr}
use Rattle.lp_model.specs.Regions.{Path}
use Rattle.branch_tree.specs.Plain.{LeafKept}
use Rattle.branch_tree.specs.Leaves.{region_leaf}
use Rattle.leaf_judging.specs.declared.choosing.Candidate.{Candidate}
use Rattle.leaf_judging.specs.declared.queue.LeafQueue.{LeafQueue}
use Rattle.leaf_judging.specs.Choosing.{GoesFirst, IsCandidate}
use Rattle.leaf_judging.specs.Queued.{Has, IsQueued, IsQueueOf}
use Rattle.leaf_judging.specs.Free.{is_held, HasNoneFree, IsFirstFree}
use Rattle.sound_searches.specs.Sound.{PlainSearch, formulation_of}
use Rattle.sound_searches.specs.Free.{IsNotFree, IsNextFree}
use Rattle.sound_searches.proofs.SoundLemmas.{each-weaker}

module _ (S : PlainSearch) (queue : LeafQueue) (held : List (Option ℕ)) (is : IsQueueOf (formulation_of S) S.tree.root queue) where
  abbrev IsLater : Candidate → Path → LeafKept → Type 0
  IsLater c p l = IsNotFree held l ⊎ ((d : Candidate) × (IsCandidate (formulation_of S) (region_leaf (p, l)) d × GoesFirst c.leaf_number c.id d.leaf_number d.id))

  held-leaf : (p : Path) (l : LeafKept) (d : Candidate) → IsCandidate (formulation_of S) (region_leaf (p, l)) d → is_held held d.id ≡ true → IsNotFree held l
  held-leaf p l d candidate taken = inr (sym (ap (is_held held) candidate.id) ∙ taken)

  pub free-none : HasNoneFree queue held → IsNextFree S held None
  free-none none =
      each-weaker (IsQueued (formulation_of S) queue) (λ p l. IsNotFree held l)
      (λ p l h. elim h [ inl closed ↦ inl closed | inr k ↦ held-leaf p l k.0 k.1.0 (none k.0 k.1.1) ])
      [] S.tree.root is.each

  later : (c : Candidate) → IsFirstFree queue held c → (p : Path) (l : LeafKept) (d : Candidate) → IsCandidate (formulation_of S) (region_leaf (p, l)) d → Has queue d → IsLater c p l
  later c first p l d candidate has = by (is_held held d.id) refl
    where
      by : (b : Bool) → is_held held d.id ≡ b → IsLater c p l
      by true e = inl (held-leaf p l d candidate e)
      by false e = inr (d, (candidate, first.1 d (has, e)))

  pub free-some : (c : Candidate) → IsFirstFree queue held c → IsNextFree S held (Some c.id)
  free-some c first = (
    c,
    (
      record {
        is_open = is.only c first.0.0;
        free = first.0.1;
        first = each-weaker (IsQueued (formulation_of S) queue) (IsLater c) (λ p l h. elim h [ inl closed ↦ inl (inl closed) | inr k ↦ later c first p l k.0 k.1.0 k.1.1 ]) [] S.tree.root is.each;
      },
      refl,
    ),
  )
