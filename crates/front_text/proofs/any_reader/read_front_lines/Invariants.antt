use Rattle.std.proofs.Common.{◌≡◌, map, take}
use Rattle.front_text.specs.Text.{stated_front, AreFrontClean}
use Rattle.front_text.specs.Reading.{held_front, IsFrontReadable}
use Rattle.front_text.proofs.any_reader.read_front_lines.Given as goal

abbrev pub invariant-loop-index : goal.invariant-loop-index
invariant-loop-index l = record {
  clean : AreFrontClean (map (λ line. line.now) l.lines) l.index;
  kept : IsFrontReadable l.reading;
  holds : held_front l.reading ≡ stated_front (take l.index (map (λ line. line.now) l.lines));
}
