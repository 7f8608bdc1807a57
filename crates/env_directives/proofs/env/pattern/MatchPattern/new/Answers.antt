use Rattle.env_directives.proofs.env.pattern.MatchPattern.new.Goals as goal

pub returns-clause-pattern : goal.returns-clause-pattern
returns-clause-pattern c =
    let alone = c.in_ok-compile.ensures in
    let between = c.in_ok-regex.ensures.ok in (
      record { regex = c.in_ok-compile.field-0; source = alone.source; config = alone.config; read = alone.read },
      record { regex = c.in_ok-regex.regex; source = between.source; config = between.config; read = between.read },
    )
