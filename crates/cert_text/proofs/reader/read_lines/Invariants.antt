use Rattle.std.proofs.Common.{◌≡◌, map, take}
use Rattle.cert_text.specs.Text.{stated, AreClean}
use Rattle.cert_text.specs.Reading.{held, IsReadable}
use Rattle.cert_text.proofs.reader.read_lines.Given as goal

abbrev pub invariant-loop-index : goal.invariant-loop-index
invariant-loop-index l = record {
  clean : AreClean (map (λ line. line.now) l.lines) l.index;
  kept : IsReadable l.reading;
  holds : held l.reading ≡ stated (take l.index (map (λ line. line.now) l.lines));
}
