use Rattle.std.proofs.Common.{◌∙◌, ℕ, length, sym, subst, ap}
use Rattle.search_parts.specs.Joining.{IsPlaceWithin}
use Rattle.tree_edit.proofs.placing.push_without.Goals as goal

pub take_out-requires : goal.take_out-requires
take_out-requires c = subst (λ (n : ℕ). IsPlaceWithin n c.args.place) (sym (c.push.new.self.ok.0 ∙ ap length c.in-Ok.ensures.items)) c.requires
