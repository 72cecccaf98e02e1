use Rattle.std.proofs.Common.{◌≡◌, ◌≢◌, ℕ, ◌<◌, get_or, length}
use Rattle.lp_model.specs.declared.types.Var.{Var}
use Rattle.search_parts.specs.private.Marks.{mark_index}
use Rattle.search_parts.proofs.MarkLemmas.{AreMarked}
use Rattle.search_parts.proofs.lists.is_once.Given as goal

abbrev pub invariant-loop-place : goal.invariant-loop-place
invariant-loop-place l = record {
  size : length l.marks ≡ 4096;
  marked : AreMarked mark_index l.vars l.marks l.place;
  apart : (j : ℕ) → j < l.place → (i : ℕ) (d : Var) → i < j → get_or l.vars i d ≢ get_or l.vars j d;
}
