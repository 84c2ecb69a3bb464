-- What reading a slip answers and leaves, both ways: taken exactly if the bytes are a slip, faulty exactly for the fault that they have.
use Rattle.std.specs.Prelude.{◌≡◌, ℕ, List, Ok, Err, Result}
use Rattle.sheet.specs.Entries.{Entries, no_entries}
use Rattle.slip.specs.declared.fault.Fault.{Fault}
use Rattle.slip.specs.Texts.{SlipOf}
use Rattle.slip.specs.Faulty.{Faulty}

-- of the bytes, the answer and what the sheet holds after the call
pub record ReaderLaw (bytes : List ℕ) (r : Result (Unit {0}) Fault) (after : Entries) : Type 0 where
  pub taken_only_slips : r ≡ Ok tt → SlipOf bytes after
  pub slips_are_taken : (b : Entries) → SlipOf bytes b → (r ≡ Ok tt) × (after ≡ b)
  pub told_only_faults : (f : Fault) → r ≡ Err f → Faulty bytes f × (after ≡ no_entries)
  pub faults_are_told : (f : Fault) → Faulty bytes f → (r ≡ Err f) × (after ≡ no_entries)
