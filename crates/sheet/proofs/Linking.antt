-- Links among more jobs, and a search through the links.
use Rattle.std.proofs.Common.{◌≡◌, ℕ, suc, ◌+◌, ◌<◌, ◌≤◌, Bool, false, ◌&&◌, ◌||◌, eqb, List, length, drop, ap, ◌∙◌, add-one, arith, drop_of_length-le, drop-cons}
use Rattle.sheet.specs.declared.records.Link.{Link}
use Rattle.sheet.specs.Entries.{link, link_of}
use Rattle.sheet.specs.Sound.{AllLinked}
use Rattle.sheet.specs.Entering.{has_link}

pub linked_among_more : (n : ℕ) (ls : List Link) → AllLinked n ls → AllLinked (n + 1) ls
linked_among_more n ls a k h = let l = a k h in (omega arith, omega arith, l.2, l.3)
