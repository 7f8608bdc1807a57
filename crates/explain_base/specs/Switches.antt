-- Which reading a line's word asks for.
use Rattle.std.specs.Prelude.{ℕ, List, if◌then◌else◌, codes, bytes_eq}
use Rattle.explain_base.specs.declared.reading.Reading.{Reading}
use Rattle.explain_base.specs.declared.reading.Reading.TheVariants.{Filter, Directive, Fixed, Targets, Levels}

-- the reading that a word names, the first argument where it names none
abbrev pub reading_named : Reading → List ℕ → Reading
reading_named reading word = if bytes_eq word (codes "filter") then Filter else if bytes_eq word (codes "directive") then Directive
    else if bytes_eq word (codes "fixed") then Fixed else if bytes_eq word (codes "targets") then Targets
    else if bytes_eq word (codes "levels") then Levels else reading
