use Rattle.std.proofs.Common.{◌≡◌, length, map}
use Rattle.edit_words.specs.EditWords.{entries_of}
use Rattle.edit_words.proofs.EntryLemmas.{behind}
use Rattle.edit_words.proofs.entries.entries_in.Given as goal

abbrev pub invariant-loop-rest : goal.invariant-loop-rest
invariant-loop-rest l = entries_of (map (λ word. word.now) l.words) ≡ behind l.entries (entries_of (map (λ word. word.now) l.rest))

abbrev pub decreases-loop-rest : goal.decreases-loop-rest
decreases-loop-rest l = length l.rest
