use Rattle.std.proofs.Common.{◌≡◌, List, ◌++◌, subst}
use Rattle.std.specs.Prelude.{IfOk}
use Rattle.lp_model.specs.declared.types.Derivation.{Derivation}
use Rattle.reply_texts.specs.Places.{block_text}
use Rattle.reply_texts.proofs.stops.write_pivot_place.Goals as goal

pub returns : goal.returns
returns c =
    subst (λ (cuts : List Derivation). IfOk c.write_block.result (λ _. c.write_block.new.reply.items ≡ c.args.reply.now.items ++ block_text c.args.model.now c.args.place.now.path cuts c.args.place.now.basis)) c.as_slice.ensures c.write_block.ensures
