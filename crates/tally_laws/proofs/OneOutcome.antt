-- Law one-outcome: for each public call, two outcomes that meet its promise are the same answer, and leave the same bytes.
-- The promises are the contracts of src/ themselves, as the check reads them (`Reads`), and no copies.
use Prim.Native.Nat.{ℕ, zero, suc}
use mathlib.Core.Path.{◌≡◌, refl, sym, ap, ◌∙◌}
use Rattle.std.specs.Prelude.{Result, Ok, Err}
use Rattle.tally.specs.declared.refusal.Refusal.{Refusal}
use Rattle.tally.specs.declared.refusal.Refusal.TheVariants.{WrongLength, NoSuchCount, CountIsFull}
use Rattle.tally.specs.method.Refusal.{answer_of}
use Rattle.tally.proofs.add.Reads as add
use Rattle.tally.proofs.clear.Reads as clear
use Rattle.tally.proofs.answer_of.Reads as answered

-- what was answered, told back from its number
outcome_of : ℕ → Result (Unit {0}) Refusal
outcome_of zero = Ok tt
outcome_of (suc zero) = Err WrongLength
outcome_of (suc (suc zero)) = Err NoSuchCount
outcome_of (suc (suc (suc _))) = Err CountIsFull

told_back : (r : Result (Unit {0}) Refusal) → outcome_of (answer_of r) ≡ r
unfolding outcome_of
told_back (Ok tt) = refl
told_back (Err WrongLength) = refl
told_back (Err NoSuchCount) = refl
told_back (Err CountIsFull) = refl

same_outcome : (r q : Result (Unit {0}) Refusal) → answer_of r ≡ answer_of q → r ≡ q
same_outcome r q same = sym (told_back r) ∙ ap outcome_of same ∙ told_back q

-- the tally is the first argument
pub one_add : (κs : _) (a : _) (r q : _) (x y : _) → add.Post κs a r x → add.Post κs a q y → (r ≡ q) × (x.0.now ≡ y.0.now)
one_add κs a r q x y m n = (same_outcome r q (m.0 ∙ sym n.0), m.1 ∙ sym n.1)

pub one_clear : (κs : _) (a : _) (r q : _) (x y : _) → clear.Post κs a r x → clear.Post κs a q y → (r ≡ q) × (x.0.now ≡ y.0.now)
one_clear κs a r q x y m n = (same_outcome r q (m.0 ∙ sym n.0), m.1 ∙ sym n.1)

pub one_answer_of : (κs : _) (a : _) (r q : _) (x y : _) → answered.Post κs a r x → answered.Post κs a q y → r ≡ q
one_answer_of κs a r q x y m n = m ∙ sym n
