-- One result after another.
use Rattle.std.proofs.Common.{◌≡◌, Ok, Err, Result, refl}
use Rattle.slip.specs.Adding.{then, unless_refused}

pub then_ok : {A B E : Type 0} (r : Result A E) (f : A → Result B E) (x : B) → then r f ≡ Ok x → (a : A) × (r ≡ Ok a) × (f a ≡ Ok x)
then_ok (Ok a) f x q = (a, refl, q)
then_ok (Err e) f x q = cc

pub then_same : {A B E : Type 0} (r : Result A E) (f g : A → Result B E) → ((a : A) → f a ≡ g a) → then r f ≡ then r g
then_same (Ok a) f g h = h a
then_same (Err e) f g h = refl

pub then_then : {A B C E : Type 0} (r : Result A E) (f : A → Result B E) (g : B → Result C E) → then (then r f) g ≡ then r (λ a. then (f a) g)
then_then (Ok a) f g = refl
then_then (Err e) f g = refl

pub then_ok_itself : {A E : Type 0} (r : Result A E) → then r (λ a. Ok a) ≡ r
then_ok_itself (Ok a) = refl
then_ok_itself (Err e) = refl

pub unless_refused_ok : {A X E : Type 0} (r : Result A E) (x y : X) → unless_refused r x ≡ Ok y → (a : A) × (r ≡ Ok a) × (x ≡ y)
unless_refused_ok (Ok a) x y q = (a, refl, cc)
unless_refused_ok (Err e) x y q = cc
