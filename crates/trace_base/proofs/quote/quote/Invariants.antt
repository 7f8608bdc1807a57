use Rattle.std.proofs.Common.{◌≡◌, ◌∷◌, ◌++◌, flat_map, string_bytes}
use Rattle.std.specs.Str.Iter.{chars_rest}
use Rattle.trace_base.specs.words.Quote.{quoted_byte}
use Rattle.trace_base.proofs.quote.quote.Given as goal

abbrev pub invariant-loop-c : goal.invariant-loop-c
invariant-loop-c l = string_bytes l.out ++ flat_map quoted_byte (chars_rest l.c-iterator) ≡ 34 ∷ flat_map quoted_byte l.fn.text
