-- The standstill of a lawful rule: it stays within the windows, loses nothing, and the rule changes nothing there.
use Rattle.std.proofs.Common.{◌≡◌, ℕ, suc, List, subst}
use Rattle.sheet.specs.declared.records.Window.{Window}
use Rattle.rule.specs.Windows.{Formed, Within, Inside, Single, starts}
use Rattle.rule.specs.Cuts.{Cut, live, width, repeated}
use Rattle.rule.specs.Laws.{Keeps, Lawful, Repeats, ends_dead, ends_still, goes_on}
use Rattle.rule.specs.Forming.{dead_not_live, within_formed}
use Rattle.rule.specs.Repeating.{repeated_within, repeated_keeps, repeats}

live_same : (vs us : List Window) → live vs ≡ live us → vs ≡ us
live_same vs us e = cc

repeats_still : (f : List Window → Cut) (ws : List Window) (c : Cut) (us : List Window) → Repeats f ws c → c ≡ live us → f us ≡ live us
repeats_still f ws c us (ends_dead d) e = absurd (dead_not_live us e)
repeats_still f ws c us (ends_still s) e = subst (λ (x : List Window). f x ≡ live x) (live_same ws us e) s
repeats_still f ws c us (goes_on s n r) e = repeats_still f _ c us r e

module _ {n : ℕ} {admits : List ℕ → Type 0} {cut : List Window → Cut} (laws : Lawful n admits cut) where
  pub standstill_within : (ws us : List Window) → Formed n ws → repeated cut ws ≡ live us → Within us ws
  standstill_within ws us = repeated_within cut n laws.contracting (suc (width ws)) ws us

  pub standstill_formed : (ws us : List Window) → Formed n ws → repeated cut ws ≡ live us → Formed n us
  standstill_formed ws us f e = within_formed us ws f (standstill_within ws us f e)

  pub standstill_keeps : (ws : List Window) (t : List ℕ) → Formed n ws → admits t → Inside t ws → Keeps (repeated cut ws) t
  standstill_keeps ws t f a = repeated_keeps cut n laws.contracting t (λ vs o i. laws.preserving vs t o a i) (suc (width ws)) ws f

  -- what stands still in single windows is admitted
  pub standstill_admits : (ws us : List Window) → Formed n ws → repeated cut ws ≡ live us → Single us → admits (starts us)
  standstill_admits ws us f e s =
      laws.checking us us (standstill_formed ws us f e) s (repeats_still cut ws _ us (repeats cut n laws.contracting ws f) e)
