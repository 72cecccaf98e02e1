use Rattle.std.proofs.Common.{◌∙◌, subst, sym}
use Rattle.std.proofs.lemmas.Bool.{false≢true}
use Rattle.search_parts.specs.Lists.{IsBasis}
use Rattle.sound_searches.specs.Sound.{PlainSearch, formulation_of}
use Rattle.tree_edit.proofs.CloseLemmas.{basis-refused}
use Rattle.tree_edit.proofs.search.Search.place_basis.Goals as goal

pub returns-then-not-is_basis-clause-taken : goal.returns-then-not-is_basis-clause-taken
returns-then-not-is_basis-clause-taken c =
    let S : PlainSearch = c.args.self.now in
    let kept = c.args.kept in
    let no : ¬ IsBasis (formulation_of S) kept.basis =
    subst (λ (R : PlainSearch). ¬ IsBasis (formulation_of R) kept.basis) c.self.view_is (λ h. false≢true (sym c.if-not-is_basis.true ∙ c.is_basis.ensures.1 h)) in
    basis-refused S c.args.id c.args.region.now kept c.args.point no

pub put_judged-requires-clause-leaf : goal.put_judged-requires-clause-leaf
put_judged-requires-clause-leaf c = c.requires.leaf

pub put_judged-requires-clause-own : goal.put_judged-requires-clause-own
put_judged-requires-clause-own c = c.requires.own

pub put_judged-requires-clause-lists : goal.put_judged-requires-clause-lists
put_judged-requires-clause-lists c = record {
  mult = c.requires.mult;
  farkas = c.requires.farkas;
  basis = subst (λ (R : PlainSearch). IsBasis (formulation_of R) c.args.kept.basis) c.self.view_is (c.is_basis.ensures.0 c.if-not-is_basis.false);
}

pub place_point_keep-requires-clause-leaf : goal.place_point_keep-requires-clause-leaf
place_point_keep-requires-clause-leaf c = c.requires.leaf

pub place_point_keep-requires-clause-own : goal.place_point_keep-requires-clause-own
place_point_keep-requires-clause-own c = c.requires.own

pub place_point_keep-requires-clause-lists : goal.place_point_keep-requires-clause-lists
place_point_keep-requires-clause-lists c = record {
  mult = c.requires.mult;
  farkas = c.requires.farkas;
  basis = subst (λ (R : PlainSearch). IsBasis (formulation_of R) c.args.kept.basis) c.self.view_is (c.is_basis.ensures.0 c.if-not-is_basis.false);
}

pub returns-in-None-clause-taken : goal.returns-in-None-clause-taken
returns-in-None-clause-taken c =
    rw c.in-None.is ((subst (λ (R : PlainSearch). IsBasis (formulation_of R) c.args.kept.basis) c.self.view_is (c.is_basis.ensures.0 c.if-not-is_basis.false), c.put_judged.ensures))

pub returns-in-Some-clause-taken : goal.returns-in-Some-clause-taken
returns-in-Some-clause-taken c = rw c.in-Some.is (c.place_point_keep.ensures.taken)

pub returns-in-Some-clause-kept : goal.returns-in-Some-clause-kept
returns-in-Some-clause-kept c = c.place_point_keep.ensures.kept
