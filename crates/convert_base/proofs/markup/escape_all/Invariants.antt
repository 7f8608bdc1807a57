use Rattle.std.proofs.Common.{◌≡◌, ◌++◌, flat_map, string_bytes}
use Rattle.std.specs.Str.Iter.{chars_rest}
use Rattle.convert_base.specs.Markup.{escaped_byte}
use Rattle.convert_base.proofs.markup.escape_all.Given as goal

abbrev pub invariant-loop-c : goal.invariant-loop-c
invariant-loop-c l = string_bytes l.page ++ flat_map escaped_byte (chars_rest l.c-iterator) ≡ flat_map escaped_byte l.fn.text
