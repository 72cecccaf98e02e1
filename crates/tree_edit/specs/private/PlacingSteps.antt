-- What the steps make by which a result is placed: what the points come to with one more, whether a leaf closes, and the children of a split.
use Rattle.std.specs.Prelude.{◌≡◌, ℕ, Option, [], ◌∷◌, ◌++◌, map}
use Rattle.lp_model.specs.Program.{Point, least_value}
use Rattle.lp_model.specs.Regions.{Path}
use Rattle.lp_model.specs.Formulations.{Formulation}
use Rattle.lp_model.specs.declared.types.Basis.{Basis}
use Rattle.leaf_dual.specs.Dual.{Multipliers}
use Rattle.search_parts.specs.declared.points.Joined.{Joined}
use Rattle.tree_edit.specs.declared.splitting.Child.{Child}
use Rattle.leaf_judging.specs.declared.choosing.Candidate.{Candidate}
use Rattle.frac128.specs.Rational.{ℚ}
use Rattle.branch_tree.specs.declared.node.LeafData.{LeafData}
use Rattle.leaf_judging.specs.declared.entry.LeafEntry.{LeafEntry}
use Rattle.leaf_judging.specs.Closing.{ClosesBy}
use Rattle.leaf_judging.specs.Totals.{IsEntryOf}
use Rattle.leaf_judging.specs.Choosing.{finite_number}
use Rattle.leaf_judging.specs.Queued.{candidate_of}
use Rattle.search_parts.specs.Points.{IsKeepable, target}
use Rattle.sound_searches.specs.Sound.{PlainSearch, formulation_of}
use Rattle.search_parts.specs.Joining.{IsWorst, list_without}
use Rattle.search_parts.specs.Lists.{HasLists}
use Rattle.sound_searches.specs.declared.taken.Taken.{Taken}
use Rattle.sound_searches.specs.declared.taken.Taken.TheVariants.{Stale, Refused, Reopened, Full, Closed, Split, Kept}
use Rattle.sound_searches.specs.Placing.{IsChild}

-- x may be kept, and this is what the points' values come to with it
pub record JoinsPoint (S : PlainSearch) (x : Point) (joined : Joined) : Type 0 where
  pub keepable : IsKeepable S.model x
  pub worst : IsWorst (map (least_value S.model 1) (S.points ++ x ∷ [])) joined.worst
  pub values_are : joined.values.items ≡ map (least_value S.model 1) (list_without (S.points ++ x ∷ []) joined.worst)
  pub target_is : joined.target ≡ target S.model (list_without (S.points ++ x ∷ []) joined.worst)

-- the data fit the model and the cuts, and the leaf closes by them with this entry
pub record ClosesByEntry (F : Formulation) (t : Option ℚ) (path : Path) (kept : LeafData) (entry : LeafEntry) : Type 0 where
  pub lists : HasLists F kept
  pub entry_is : IsEntryOf F path kept.mult kept.farkas entry
  pub closes : ClosesBy F t path kept

-- what is answered where they do not fit, or the leaf does not close by them
abbrev pub StaysOpen : Formulation → Option ℚ → Path → LeafData → Taken → Type 0
StaysOpen F t path kept Stale = ⊥
StaysOpen F t path kept Refused = ¬ HasLists F kept
StaysOpen F t path kept Reopened = HasLists F kept × (¬ ClosesBy F t path kept)
StaysOpen F t path kept Full = ⊥
StaysOpen F t path kept Closed = ⊥
StaysOpen F t path kept Split = ⊥
StaysOpen F t path kept Kept = ⊥

-- the child is that of this region, and its entry is its own
pub record IsEnteredChild (S : PlainSearch) (path : Path) (mult : Multipliers) (basis : Basis) (child : Child) : Type 0 where
  pub kept : IsChild S path mult basis child.kept
  pub entry : IsEntryOf (formulation_of S) path child.kept.mult child.kept.farkas child.entry

-- the child under its id as a candidate, if it is open
abbrev pub child_candidate : Child → ℕ → Option Candidate
child_candidate child id = candidate_of child.kept.state (finite_number child.entry.number) id
