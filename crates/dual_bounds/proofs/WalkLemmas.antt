-- A walk over the leaves of a tree lists their numbers, and what these say is said of the leaves.
use Rattle.std.specs.Prelude.{◌≡◌, List, [], ◌∷◌, ◌++◌, All, Option}
use Rattle.std.specs.List.{AllByRecursion}
use Rattle.std.proofs.Common.{sym, subst, ◌∙◌, append_assoc, inl, inr}
use Rattle.std.proofs.lemmas.List.{append-nil}
use Rattle.std.proofs.lemmas.List.Elements.{All-head, All-tail}
use Rattle.frac128.specs.Rational.{ℚ}
use Rattle.lp_model.specs.Program.{Program}
use Rattle.lp_model.specs.Regions.{Path}
use Rattle.lp_model.specs.Formulations.{Formulation, formulation}
use Rattle.lp_model.specs.declared.types.CutRow.{CutRow}
use Rattle.branch_tree.specs.Tree.{Leaf, Split, left_path, right_path, EachLeaf}
use Rattle.branch_tree.specs.Plain.{Plain}
use Rattle.branch_tree.specs.Leaves.{region_leaf, region_leaves}
use Rattle.branch_tree.specs.Visits.{Visits}
use Rattle.branch_tree.specs.declared.node.RegionLeaf.{RegionLeaf}
use Rattle.branch_tree.proofs.VisitLemmas.{region_leaves-split}
use Rattle.leaf_judging.specs.declared.closing.LeafNumber.{LeafNumber}
use Rattle.leaf_judging.specs.Closing.{IsNumber, ClosesBy}
use Rattle.leaf_judging.proofs.JudgeLemmas.{closes_same, zipped-push}
use Rattle.sound_searches.specs.Sound.{PlainSearch}
use Rattle.dual_bounds.specs.declared.walk.Listing.{Listing}
use Rattle.dual_bounds.specs.declared.new_numbers.OtherNumbers.{OtherNumbers}
use Rattle.dual_bounds.specs.private.Spared.{IsKeptNumber, IsListedNumber}
use Rattle.dual_bounds.specs.private.Walk.{ListsLeaf}
use Rattle.dual_bounds.specs.TreeBounds.{AreLeafNumbers}
use Rattle.dual_bounds.proofs.NumberLists.{AllClose}

-- ---- the walk

module _ (S : PlainSearch) (M : Program) (cuts : List CutRow) (given : OtherNumbers) where
  abbrev HasNumber : RegionLeaf → LeafNumber → Type 0
  HasNumber l n = IsNumber (formulation M cuts) l.region l.kept.mult l.kept.farkas n

  -- what the search keeps of a leaf that is spared is its number
  abbrev IsSafe : RegionLeaf → Type 0
  IsSafe l = (n : LeafNumber) → IsKeptNumber S M cuts given l n → HasNumber l n

  abbrev IsListing : Listing → Type 0
  IsListing listing = (listing.model.now ≡ M) × (listing.pool.now ≡ cuts) × (listing.search.now ≡ S) × (listing.given.now ≡ given)

  abbrev AreListed : List RegionLeaf → Listing → Type 0
  AreListed done listing = IsListing listing × AreLeafNumbers (formulation M cuts) done listing.numbers.items

  listed-number : (l : RegionLeaf) (n : LeafNumber) → IsSafe l → IsListedNumber S M cuts given l n → HasNumber l n
  listed-number l n safe (inl computed) = computed
  listed-number l n safe (inr kept) = safe n kept

  -- one leaf more
  listed-one : (done : List RegionLeaf) (l : RegionLeaf) (old new : Listing) → IsSafe l → AreListed done old → ListsLeaf old l new → AreListed (done ++ l ∷ []) new
  listed-one done l old new safe listed step =
      let of = listed.0 in
      let is : HasNumber l step.number = listed-number l step.number safe (subst (λ P. P) (λ i. IsListedNumber (of.2 i) (of.0 i) (of.1 i) (of.3 i) l step.number) step.number_is) in (
        (step.same ∙ of.0, step.same_cuts ∙ of.1, step.same_search ∙ of.2, step.same_given ∙ of.3),
        subst (λ (numbers : List LeafNumber). AreLeafNumbers (formulation M cuts) (done ++ l ∷ []) numbers) (sym step.numbers_are) (zipped-push HasNumber done old.numbers.items l step.number listed.1 is),
      )

  listed-all : (done more : List RegionLeaf) (old new : Listing) → All IsSafe more → AreListed done old → Visits ListsLeaf more old new → AreListed (done ++ more) new
  listed-all done [] old new safe listed walk = subst (λ ls. AreListed ls new) (sym (append-nil done)) (subst (AreListed done) (sym walk) listed)
  listed-all done (l ∷ more) old new safe listed walk =
      subst (λ ls. AreListed ls new) (append_assoc done (l ∷ []) more)
      (listed-all (done ++ l ∷ []) more walk.0 new (All-tail IsSafe l more safe) (listed-one done l old walk.0 (All-head IsSafe l more safe) listed walk.1.0) walk.1.1)

  pub listed-leaves : (leaves : List RegionLeaf) (old new : Listing) → All IsSafe leaves → IsListing old → old.numbers.items ≡ [] → Visits ListsLeaf leaves old new → AreLeafNumbers (formulation M cuts) leaves new.numbers.items
  listed-leaves leaves old new safe is none walk =
      (listed-all [] leaves old new safe (is, subst (λ (numbers : List LeafNumber). AreLeafNumbers (formulation M cuts) [] numbers) (sym none) tt) walk).1

-- ---- leaves and lists

module _ (P : RegionLeaf → Type 0) where
  apart : (xs ys : List RegionLeaf) → AllByRecursion P (xs ++ ys) → AllByRecursion P xs × AllByRecursion P ys
  apart [] ys h = (tt, h)
  apart (x ∷ xs) ys h = let rest = apart xs ys h.1 in ((h.0, rest.0), rest.1)

  joined : (xs ys : List RegionLeaf) → AllByRecursion P xs → AllByRecursion P ys → AllByRecursion P (xs ++ ys)
  joined [] ys h k = k
  joined (x ∷ xs) ys h k = (h.0, joined xs ys h.1 k)

  -- what holds of each of the list of leaves holds of each leaf
  pub leaf-listed : (path : Path) (t : Plain) → AllByRecursion P (region_leaves path t) → EachLeaf (λ p l. P (region_leaf (p, l))) path t
  leaf-listed path (Leaf l) h = h.0
  leaf-listed path (Split kept j v left right) h =
      let both = apart (region_leaves (left_path path j v) left) (region_leaves (right_path path j v) right) (subst (AllByRecursion P) (region_leaves-split path kept j v left right) h) in
      (leaf-listed (left_path path j v) left both.0, leaf-listed (right_path path j v) right both.1)

  pub list-leaved : (path : Path) (t : Plain) → EachLeaf (λ p l. P (region_leaf (p, l))) path t → AllByRecursion P (region_leaves path t)
  list-leaved path (Leaf l) h = (h, tt)
  list-leaved path (Split kept j v left right) h =
      subst (AllByRecursion P) (sym (region_leaves-split path kept j v left right))
      (joined (region_leaves (left_path path j v) left) (region_leaves (right_path path j v) right) (list-leaved (left_path path j v) left h.0) (list-leaved (right_path path j v) right h.1))

-- ---- numbers and leaves

module _ (F : Formulation) (t : Option ℚ) where
  abbrev pub LeafCloses : RegionLeaf → Type 0
  LeafCloses l = ClosesBy F t l.region l.kept

  -- the leaves close where their numbers do
  pub leaves-close : (ls : List RegionLeaf) (numbers : List LeafNumber) → AreLeafNumbers F ls numbers → AllClose F.model t numbers → AllByRecursion LeafCloses ls
  leaves-close [] [] h c = tt
  leaves-close [] (n ∷ numbers) h c = absurd h
  leaves-close (l ∷ ls) [] h c = absurd h
  leaves-close (l ∷ ls) (n ∷ numbers) h c = ((n, (h.0, c.0)), leaves-close ls numbers h.1 c.1)

  -- and the numbers where the leaves do, since a leaf has one number
  pub numbers-close : (ls : List RegionLeaf) (numbers : List LeafNumber) → AreLeafNumbers F ls numbers → AllByRecursion LeafCloses ls → AllClose F.model t numbers
  numbers-close [] [] h c = tt
  numbers-close [] (n ∷ numbers) h c = absurd h
  numbers-close (l ∷ ls) [] h c = absurd h
  numbers-close (l ∷ ls) (n ∷ numbers) h c = (closes_same F l.region l.kept.mult l.kept.farkas t n c.0.0 h.0 c.0.1.0 c.0.1.1, numbers-close ls numbers h.1 c.1)
