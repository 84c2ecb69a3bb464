-- What the tables of a sheet hold.
use Rattle.sheet.specs.declared.table.Sheet.{Sheet}
use Rattle.sheet.specs.Entries.{Entries}

abbrev pub entries : Sheet → Entries
entries s = record { jobs = s.jobs.items; links = s.links.items }
