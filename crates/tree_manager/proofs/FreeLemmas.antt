-- The leaf that goes first of those that nobody holds is there and open.
use Rattle.std.specs.Prelude.{◌≡◌, ℕ, true, false, List, [], Option, Some, None}
use Rattle.std.specs.Option.{option_map}
use Rattle.std.proofs.Common.{refl, sym, ap, ◌∙◌, inl, inr}
use Rattle.lp_model.specs.Regions.{Path}
use Rattle.branch_tree.specs.Tree.{Leaf, Split, left_path, right_path, EachLeaf}
use Rattle.branch_tree.specs.Plain.{Plain, LeafKept, leaf_below, data_of}
use Rattle.branch_tree.specs.Numbered.{IsNumbered}
use Rattle.leaf_judging.specs.Queued.{SomeLeaf}
use Rattle.leaf_judging.specs.Free.{is_held}
use Rattle.sound_searches.specs.Sound.{PlainSearch}
use Rattle.sound_searches.specs.Placing.{IsStale}
use Rattle.sound_searches.specs.Free.{IsNextFree}
use Rattle.search_counting.proofs.LeafLemmas.{once, found_each}
use Rattle.tree_manager.specs.Managers.{is_open_state, is_open_data, has_open}

some-both : (P Q : Path → LeafKept → Type 0) (path : Path) (t : Plain) → SomeLeaf P path t → EachLeaf Q path t → (p : Path) × ((l : LeafKept) × (P p l × Q p l))
some-both P Q path (Leaf l) h k = (path, (l, (h, k)))
some-both P Q path (Split kept j v left right) (inl h) k = some-both P Q (left_path path j v) left h k.0
some-both P Q path (Split kept j v left right) (inr h) k = some-both P Q (right_path path j v) right h k.1

pub free-open : (S : PlainSearch) (held : List (Option ℕ)) (id : ℕ) → IsNumbered S.tree → IsNextFree S held (Some id) → has_open S id ≡ true
free-open S held id numbered (c, (first, same)) =
    let (p, (l, (candidate, found))) = some-both _ (λ p l. leaf_below l.id [] S.tree.root ≡ Some (p, l)) [] S.tree.root first.is_open (found_each [] S.tree.root (once S.tree numbered)) in
    ap (has_open S) (same ∙ candidate.id) ∙ ap (λ (o : Option (Path × LeafKept)). is_open_data (option_map (λ (q : Path × LeafKept). q.1.kept) o)) found ∙ ap is_open_state candidate.state

pub free-not_held : (S : PlainSearch) (held : List (Option ℕ)) (id : ℕ) → IsNextFree S held (Some id) → is_held held id ≡ false
free-not_held S held id (c, (first, same)) = ap (is_held held) same ∙ first.free

open-not_stale : (S : PlainSearch) (id : ℕ) → has_open S id ≡ true → ¬ IsStale S id
open-not_stale S id is_open stale = by (data_of id S.tree.root) refl is_open
  where
    by : (o : _) → data_of id S.tree.root ≡ o → is_open_data o ≡ true → ⊥
    by None e h = cc
    by (Some kept) e h = let closed : false ≡ true = sym (ap is_open_state (stale kept e)) ∙ h in cc

pub free-not_stale : (S : PlainSearch) (held : List (Option ℕ)) (id : ℕ) → IsNumbered S.tree → IsNextFree S held (Some id) → ¬ IsStale S id
free-not_stale S held id numbered next = open-not_stale S id (free-open S held id numbered next)
