-- The kind and bounds of a column on the way through its bound lines.
use Rattle.std.specs.Prelude.{true, not, ◌&&◌, if◌then◌else◌, None, Some, pos}
use Rattle.frac128.specs.Rational.{int}
use Rattle.mps_fields.specs.Numbers.{finite, is_below_zero}
use Rattle.mps_fields.specs.declared.words.BoundKind.{BoundKind}
use Rattle.mps_fields.specs.declared.words.BoundKind.TheVariants.{Lower, Upper, Fixed, Unbounded, NoLower, NoUpper, Binary, IntegerLower, IntegerUpper}
use Rattle.mps_fields.specs.declared.numbers.Limit.{Limit}
use Rattle.mps_model.specs.declared.spans.Span.{Span}

abbrev pub with_lower : Limit → Span → Span
with_lower l s = record { integer = s.integer; lower = finite l; upper = s.upper; named = true }

-- an upper bound below 0 takes the lower bound away, where no line has named that
abbrev pub with_upper : Limit → Span → Span
with_upper l s = record { integer = s.integer; lower = if is_below_zero l && not s.named then None else s.lower; upper = finite l; named = s.named }

abbrev pub without_lower : Span → Span
without_lower s = record { integer = s.integer; lower = None; upper = s.upper; named = true }

abbrev pub without_upper : Span → Span
without_upper s = record { integer = s.integer; lower = s.lower; upper = None; named = s.named }

abbrev pub as_integer : Span → Span
as_integer s = record { integer = true; lower = s.lower; upper = s.upper; named = s.named }

abbrev pub bounded : Span → BoundKind → Limit → Span
bounded s Lower l = with_lower l s
bounded s Upper l = with_upper l s
bounded s Fixed l = record { integer = s.integer; lower = finite l; upper = finite l; named = true }
bounded s Unbounded l = without_upper (without_lower s)
bounded s NoLower l = without_lower s
bounded s NoUpper l = without_upper s
bounded s Binary l = record { integer = true; lower = Some (int (pos 0)); upper = Some (int (pos 1)); named = true }
bounded s IntegerLower l = as_integer (with_lower l s)
bounded s IntegerUpper l = as_integer (with_upper l s)
