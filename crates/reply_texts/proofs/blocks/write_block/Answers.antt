use Rattle.std.proofs.Common.{◌++◌}
use Rattle.reply_texts.specs.Places.{cut_lines, region_line, basis_lines}
use Rattle.reply_texts.proofs.TextLemmas.{join, join_last}
use Rattle.reply_texts.proofs.blocks.write_block.Goals as goal

pub returns : goal.returns
returns c =
    let cuts = cut_lines c.args.model.now 1 c.args.cuts.now in
    let region = region_line c.args.model.now c.args.region.now in
    join_last c.write_basis.result c.args.reply.now.items (cuts ++ region) (basis_lines c.args.model.now c.args.basis.now) c.write_region.new.reply.items c.write_basis.new.reply.items
    (join c.args.reply.now.items cuts region c.write_cuts.new.reply.items c.write_region.new.reply.items c.in-Ok.ensures c.in-Ok-write_region.ensures)
    c.write_basis.ensures
