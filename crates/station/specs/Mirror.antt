-- Time the other way round.
use Rattle.std.specs.Prelude.{◌-◌}
use Rattle.station.specs.declared.task.Task.{Task}
use Rattle.station.specs.Limits.{horizon}

-- the same task as time runs back from the horizon
abbrev pub mirror : Task → Task
mirror t = record { lo = horizon - t.end; span = t.span; end = horizon - t.lo; job = t.job }
