use Rattle.std.proofs.Common.{◌∙◌, refl, sym}
use Rattle.std.proofs.lemmas.Bool.{false≢true}
use Rattle.leaf_dual.proofs.SameRegion.{other_way}
use Rattle.sound_searches.specs.Sound.{formulation_of}
use Rattle.tree_edit.proofs.SameSplit.{sound-same}
use Rattle.tree_edit.proofs.search.Search.place_split.Goals as goal

pub place_fitting-requires-clause-leaf : goal.place_fitting-requires-clause-leaf
place_fitting-requires-clause-leaf c = c.requires.leaf

pub split_fits-requires : goal.split_fits-requires
split_fits-requires c = c.in-Ok.ensures.narrow c.requires.narrow

pub place_fitting-requires-clause-tight : goal.place_fitting-requires-clause-tight
place_fitting-requires-clause-tight c = c.in-Ok.ensures.narrow c.requires.narrow

pub place_fitting-requires-clause-bounds : goal.place_fitting-requires-clause-bounds
place_fitting-requires-clause-bounds c = c.in-Ok.ensures.bounds

pub place_fitting-requires-clause-narrow : goal.place_fitting-requires-clause-narrow
place_fitting-requires-clause-narrow c = c.requires.narrow

pub place_fitting-requires-clause-sound : goal.place_fitting-requires-clause-sound
place_fitting-requires-clause-sound c =
    let split = c.args.split in
    sound-same c.in-Ok.tight c.args.region.now c.in-Ok.ensures.bounds (formulation_of c.args.self.now) split.col.0 split.v split.mult split.basis (c.in-Ok-true.ensures.sound.0 c.in-Ok-true.field-0-test)

pub place_fitting-requires-clause-room : goal.place_fitting-requires-clause-room
place_fitting-requires-clause-room c = c.in-Ok-true.ensures.room c.in-Ok-true.field-0-test

pub returns-in-Ok-true-clause-taken : goal.returns-in-Ok-true-clause-taken
returns-in-Ok-true-clause-taken c = c.place_fitting.ensures.taken

pub returns-in-Ok-true-clause-kept : goal.returns-in-Ok-true-clause-kept
returns-in-Ok-true-clause-kept c = c.place_fitting.ensures.kept

pub returns-in-Ok-false-clause-taken : goal.returns-in-Ok-false-clause-taken
returns-in-Ok-false-clause-taken c =
    let tight = c.in-Ok.tight in
    let path = c.args.region.now in
    let split = c.args.split in
    let back = sound-same path tight (other_way tight path c.in-Ok.ensures.bounds) (formulation_of c.args.self.now) split.col.0 split.v split.mult split.basis in
    ((λ h. false≢true (sym c.in-Ok-false.field-0-test ∙ c.in-Ok-false.ensures.sound.1 (back h))), refl)
