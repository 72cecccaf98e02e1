-- What one read of a source hands out.
use Rattle.std.specs.Prelude.{ℕ, List, [], take, Result, Ok, Err}

-- the bytes that it puts into its buffer, and none where it fails
abbrev pub handed_out : {E : Type 0} → Result ℕ E → List ℕ → List ℕ
handed_out (Ok n) buf = take n buf
handed_out (Err failed) buf = []
