-- The last decision on its first part goes to its second, and those after it are dropped.
use Rattle.std.proofs.Common.{◌≡◌, ℕ, ◌<◌, arith, rules}
use Rattle.std.proofs.iter.runs.Made.{chains}
use Rattle.search.specs.declared.decision.Part.TheVariants.{First, Second}
use Rattle.search.proofs.Placing.{part_at, back_dead, back_open}
use Rattle.search.proofs.path.Path.backtrack.Goals as goal

pub returns-in-Some : goal.returns-in-Some
returns-in-Some c =
    let p = c.args.self.now in
    let i = c.in-Some.last in
    let h : i < p.depth = search rules in
    let e : part_at p.places p.depth i ≡ First = search (rules, chains) in
    let f : (k : ℕ) → i < k → k < p.depth → part_at p.places p.depth k ≡ Second = search (rules, chains) in
    let b = back_open p.places p.depth i c.to_second.result h (omega arith) c.to_second.ensures e f in
    record { answer = b.answer; after = b.after }

pub returns-in-None : goal.returns-in-None
returns-in-None c =
    let p = c.args.self.now in
    let f : (k : ℕ) → k < p.depth → part_at p.places p.depth k ≡ Second = search (rules, chains) in
    let b = back_dead p.places p.depth (omega arith) f in
    record { answer = b.answer; after = b.after }
