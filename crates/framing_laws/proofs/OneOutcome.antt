-- Law one-outcome: for each public call of the message alone, two outcomes that meet its promise are equal.
-- The promises are the contracts of src/ themselves, as the check reads them (`Reads`), and no copies.
use Prim.Native.Nat.{ℕ}
use mathlib.Core.Path.{◌≡◌, refl, sym, ap, ◌∙◌}
use mathlib.Core.Bool.{cond}
use lib.Dec.{eqb}
use Rattle.std.specs.Prelude.{Result, Ok, Err}
use Rattle.framing.specs.method.Refusals.{told}
use Rattle.framing.specs.declared.refusal.Refusal.{Refusal}
use Rattle.framing.specs.declared.refusal.Refusal.TheVariants.{Size, BadByte, TooManySegments, NoRoom, Misplaced, WrongCount, WrongReference}
use Rattle.framing.specs.declared.verdict.Verdict.{Verdict}
use Rattle.reading_laws.proofs.OneOutcome.{One}
use Rattle.framing.proofs.verdict.Verdict.answer.Reads as answer
use Rattle.framing.proofs.refusal.VerdictFromRefusal.from.Reads as verdict_from_refusal
use Rattle.framing.proofs.refusal.VerdictFromResultU32Refusal.from.Reads as verdict_from_answer
use Rattle.framing.proofs.verdict.ArrayU326FromVerdict.from.Reads as numbers_from_verdict
use Rattle.framing.proofs.put_verdict.Reads as put_verdict
use Rattle.framing.proofs.message_stage.Reads as message_stage

pub one_answer : One answer.Post
one_answer κs a r q x y m n = m ∙ sym n

pub one_verdict_from_refusal : One verdict_from_refusal.Post
one_verdict_from_refusal κs a r q x y m n = m ∙ sym n

pub one_verdict_from_answer : One verdict_from_answer.Post
one_verdict_from_answer κs a r q x y m n = m ∙ sym n

pub one_numbers_from_verdict : One numbers_from_verdict.Post
one_numbers_from_verdict κs a r q x y m n = m ∙ sym n

-- a refusal can be read off its verdict, and a count too
abbrev untold : Verdict → Result ℕ Refusal
untold v =
    cond (eqb v.number 0) (Ok v.place.at)
    (cond (eqb v.number 3) (Err Size)
    (cond (eqb v.number 4) (Err (BadByte v.place.at))
    (cond (eqb v.number 5) (Err TooManySegments)
    (cond (eqb v.number 6) (Err (NoRoom v.place.at))
    (cond (eqb v.number 7) (Err (Misplaced v.place.at))
    (cond (eqb v.number 8) (Err (WrongCount v.place.at)) (Err (WrongReference v.place.at))))))))

untold-told : (x : Result ℕ Refusal) → untold (told x) ≡ x
untold-told (Ok n) = refl
untold-told (Err Size) = refl
untold-told (Err (BadByte k)) = refl
untold-told (Err TooManySegments) = refl
untold-told (Err (NoRoom n)) = refl
untold-told (Err (Misplaced k)) = refl
untold-told (Err (WrongCount n)) = refl
untold-told (Err (WrongReference n)) = refl

pub one_message_stage : One message_stage.Post
one_message_stage κs a r q x y m n = sym (untold-told r) ∙ ap untold (m ∙ sym n) ∙ untold-told q

-- of the arguments at exit, the lent table is the first
pub one_put_verdict : (κs : _) (a : _) (r q : _) (x y : _) → put_verdict.Post κs a r x → put_verdict.Post κs a q y → x.0.now ≡ y.0.now
one_put_verdict κs a r q x y m n = m ∙ sym n
