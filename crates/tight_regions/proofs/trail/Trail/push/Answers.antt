use Rattle.std.proofs.Common.{◌≡◌, ◌∙◌, ◌+◌, length, take, sym, ap, subst, arith}
use Rattle.std.specs.Prelude.{set}
use Rattle.std.proofs.lemmas.List.{length-set, take_more_set, with_items_is}
use Rattle.std.specs.Vec.{with_items}
use Rattle.tight_regions.specs.Tight.{tightened, IsLed}
use Rattle.tight_regions.proofs.TrailLemmas.{trail-few, trail-push}
use Rattle.tight_regions.proofs.trail.Trail.push.Goals as goal

pub tighten-replaced-requires : goal.tighten-replaced-requires
tighten-replaced-requires c =
    let few = trail-few c.args.self.now c.requires.trail in
    let room = c.requires.room in
    let even = c.requires.trail.region in
    let same = ap length c.deref_mut.ensures.value in
    omega (arith, few, room, even, same)

pub overflow_add-replaced : goal.overflow_add-replaced
overflow_add-replaced c =
    let few = trail-few c.args.self.now c.requires.trail in
    let room = c.requires.room in
    let within = c.tighten-replaced.ensures.within in
    let long = c.args.self.now.path.ok in
    let small = c.args.self.now.path.small in
    omega (arith, few, room, within, long, small)

pub returns-clause-trail : goal.returns-clause-trail
returns-clause-trail c =
    let t = c.args.self.now in
    let r = c.tighten-replaced.result in
    let places = c.tighten-replaced.new.places in
    let value = c.deref_mut.ensures.value in
    let e = c.tighten-replaced.ensures in
    let same : length places ≡ t.region.len = c.tighten-replaced.auto.places ∙ ap length value ∙ sym t.region.ok.0 in
    let written : (with_items t.region places).items ≡ places = with_items_is t.region places same in
    let long : length places ≡ length t.region.items = c.tighten-replaced.auto.places ∙ ap length value in
    let top = c.max-self.ensures in
    let tight = ap (λ k. take k places) top ∙ e.region ∙ ap (λ l. tightened (take t.count l) c.args.change) value in
    record {
      region = ap length written ∙ long ∙ c.requires.trail.region ∙ sym (length-set t.path.items t.depth c.args.change);
      replaced = length-set t.replaced.items t.depth r ∙ c.requires.trail.replaced ∙ sym (length-set t.path.items t.depth c.args.change);
      within = let kept = length-set t.path.items t.depth c.args.change in let room = c.requires.room in omega (arith, kept, room);
      led =
          subst (λ l. IsLed (set t.path.items t.depth c.args.change) (set t.replaced.items t.depth r) (t.depth + 1) l c.max-self.result) (sym written)
          (trail-push t c.args.change r places c.max-self.result c.requires.trail c.requires.room long (e.back ∙ value) e.count e.within top tight);
    }

pub returns-clause-path : goal.returns-clause-path
returns-clause-path c = take_more_set c.args.self.now.path.items c.args.self.now.depth c.args.change c.requires.room
