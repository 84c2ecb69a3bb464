-- Every sheet is sound.
use Rattle.sheet.specs.declared.table.Sheet.{Sheet}
use Rattle.sheet.specs.Sheets.{entries}
use Rattle.sheet.specs.Sound.{Sound}

pub sheet_sound : (s : Sheet) → Sound (entries s)
sheet_sound s = s.sound
