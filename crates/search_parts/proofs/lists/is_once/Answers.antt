use Rattle.std.proofs.Common.{◌<◌, IsTrue, ap, ◌∙◌, true, false, get_or, length, length-set, arith}
use Rattle.lp_model.specs.declared.types.Var.TheVariants.{Col}
use Rattle.lp_model.specs.declared.types.Var.{Var}
use Rattle.search_parts.specs.private.Marks.{mark_index}
use Rattle.search_parts.proofs.ListLemmas.{once-more}
use Rattle.search_parts.proofs.MarkLemmas.{marked-before, marked-more}
use Rattle.search_parts.proofs.lists.is_once.Goals as goal

abbrev zero : Var
zero = Col (record { 0 = 0 })

pub is_repeated-requires : goal.is_repeated-requires
is_repeated-requires c = λ has.
    let marks = c.loop-place.marks in
    ap (λ k. get_or marks k false) c.mark_index-mark.ensures.mark ∙ marked-before mark_index c.args.vars.now marks c.loop-place.place zero c.loop-place.invariant.marked has

pub loop-place-preserved : goal.loop-place-preserved
loop-place-preserved c =
    let vars = c.args.vars.now in
    let marks = c.loop-place.marks in
    let n = c.loop-place.place in
    let mark = c.mark_index-mark.result in
    let below = c.loop-place-test.true in
    let size = c.loop-place.invariant.size in
    let within : mark < length marks = let w = c.mark_index-mark.ensures.within in omega (arith, size, w) in
    record {
      size = length-set marks mark true ∙ size;
      marked = marked-more mark_index vars marks n zero below mark c.mark_index-mark.ensures.mark within c.loop-place.invariant.marked;
      apart = once-more (λ v. Unit {0}) vars n zero below (λ has. let t : IsTrue c.is_repeated.result = c.is_repeated.ensures.1 has in let f = c.if-is_repeated.false in cc) c.loop-place.invariant.apart;
    }
